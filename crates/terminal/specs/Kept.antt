-- What every terminal keeps to.
use Rattle.std.specs.Prelude.{ℕ, ◌*◌, ◌<◌, ◌≤◌, List, pos, negsuc, ◌≤ℤ◌, slice_index_or}
use Rattle.std.specs.List.{AllByRecursion}
use Rattle.cells.specs.declared.cell.Cell.{Cell}
use Rattle.cells.specs.declared.wants.CellWants.{CellWants}
use Rattle.cells.specs.WantRanges.{WantsInRange}
use Rattle.settling.specs.declared.outcome.Power.{Power}
use Rattle.sharing.specs.declared.groups.PerGroup.{PerGroup}
use Rattle.settling.specs.AddUp.{AloneInRank}
use Rattle.states.specs.declared.state.Subframe.{Subframe}
use Rattle.states.specs.declared.state.Subframe.TheVariants.{Idle, Open, Settled}
use Rattle.states.specs.States.{no_cell}

-- every loop value lies between -300 and 200 dB
abbrev pub LoopLimits : List Cell → Type 0
LoopLimits ks = (k : ℕ) → k < 8 →
    (negsuc 299 ≤ℤ (slice_index_or ks k no_cell).data_loop) × ((slice_index_or ks k no_cell).data_loop ≤ℤ pos 200) ×
    (negsuc 299 ≤ℤ (slice_index_or ks k no_cell).control_loop) × ((slice_index_or ks k no_cell).control_loop ≤ℤ pos 200)

-- wants that no call refuses
pub record WantsKept (ws : List CellWants) : Type 0 where
  pub in_range : AllByRecursion WantsInRange ws
  pub alone : AloneInRank ws

-- sums over n subframes, in each of which a group wants at most 18,000,000,000 nW
abbrev pub PowerWithin : ℕ → Power → Type 0
PowerWithin n p = (p.wanted ≤ n * 18000000000) × (p.granted ≤ n * 18000000000)

abbrev pub SumsWithin : ℕ → PerGroup Power → Type 0
SumsWithin n g = PowerWithin n g.master × PowerWithin n g.secondary

-- an open subframe is still to count
abbrev pub pending : Subframe → ℕ
pending Idle = 0
pending (Open ws) = 1
pending (Settled ws o) = 0
