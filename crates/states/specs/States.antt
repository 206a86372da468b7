-- What a terminal keeps.
use Rattle.std.specs.Prelude.{ℕ, ◌+◌, Bool, true, false, not, ◌&&◌, List, [], replicate, pos, is_some, None, ◌==◌, slice_index_or, slice_set}
use Rattle.levels.specs.Levels.{level_of, power}
use Rattle.sharing.specs.declared.groups.Shares.{Shares}
use Rattle.sharing.specs.Guarantees.{shares_of}
use Rattle.cells.specs.declared.cell.Cell.{Cell}
use Rattle.cells.specs.declared.wants.CellWants.{CellWants}
use Rattle.cells.specs.Cells.{unset_cell}
use Rattle.sharing.specs.declared.groups.PerGroup.{PerGroup}
use Rattle.settling.specs.declared.outcome.Power.{Power}
use Rattle.settling.specs.Classes.{no_wants}
use Rattle.states.specs.declared.shares.PowerShares.{PowerShares}
use Rattle.states.specs.declared.state.State.{State}
use Rattle.states.specs.declared.state.Subframe.{Subframe}
use Rattle.states.specs.declared.state.Subframe.TheVariants.{Idle, Open, Settled}

abbrev pub no_sums : PerGroup Power
no_sums = record { master = record { wanted = 0; granted = 0 }; secondary = record { wanted = 0; granted = 0 } }

-- a new terminal: a total of 23 dBm, half of it guaranteed to each group, no cell set
abbrev pub fresh : State
fresh = record {
  cells = replicate 8 unset_cell;
  shares = record { total = level_of (pos 0) (pos 230); master = 50; secondary = 50 };
  settled = 0;
  sums = no_sums;
  subframe = Idle;
}

-- busy means between OPEN and DONE or DROP
abbrev pub is_busy : Subframe → Bool
is_busy Idle = false
is_busy (Open ws) = true
is_busy (Settled ws o) = true

abbrev pub is_open : Subframe → Bool
is_open Idle = false
is_open (Open ws) = true
is_open (Settled ws o) = false

abbrev pub is_settled : Subframe → Bool
is_settled Idle = false
is_settled (Open ws) = false
is_settled (Settled ws o) = true

-- An open subframe bears the number of subframes settled before it, and keeps it once it is settled.
abbrev pub open_as : State → ℕ → Bool
open_as s n = is_open s.subframe && n == s.settled

abbrev pub settled_as : State → ℕ → Bool
settled_as s n = is_settled s.subframe && n + 1 == s.settled

-- the wants of the subframe, and what both groups wanted and were granted in it
abbrev pub nothing_wanted : List CellWants
nothing_wanted = replicate 8 no_wants

abbrev pub wants_in : Subframe → List CellWants
wants_in Idle = nothing_wanted
wants_in (Open ws) = ws
wants_in (Settled ws o) = ws

abbrev pub groups_in : Subframe → PerGroup Power
groups_in Idle = no_sums
groups_in (Open ws) = no_sums
groups_in (Settled ws o) = o.groups

-- the cell of a number; past the last there is one that is not set
abbrev pub no_cell : Cell
no_cell = record { settings = None; loss = 0; data_loop = pos 0; control_loop = pos 0; data_commands = []; control_commands = [] }

abbrev pub cell_at : State → ℕ → Cell
cell_at s k = slice_index_or s.cells k no_cell

abbrev pub not_set : State → ℕ → Bool
not_set s k = not (is_some (cell_at s k).settings)

-- the total of a subframe that is settled now, and what each group is guaranteed of it
abbrev pub subframe_total : State → ℕ
subframe_total s = power s.shares.total

abbrev pub shares_in_force : State → Shares
shares_in_force s = shares_of (subframe_total s) s.shares.master s.shares.secondary

-- the state with one part replaced
abbrev pub with_cell : State → ℕ → Cell → State
with_cell s k c = record { cells = slice_set s.cells k c; shares = s.shares; settled = s.settled; sums = s.sums; subframe = s.subframe }

abbrev pub with_shares : State → PowerShares → State
with_shares s h = record { cells = s.cells; shares = h; settled = s.settled; sums = s.sums; subframe = s.subframe }

abbrev pub with_subframe : State → Subframe → State
with_subframe s f = record { cells = s.cells; shares = s.shares; settled = s.settled; sums = s.sums; subframe = f }
