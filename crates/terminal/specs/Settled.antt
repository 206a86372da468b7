-- A subframe settled: its cells moved, its wants shared out, the sums and the count raised.
use Rattle.std.specs.Prelude.{ℕ, ◌+◌, List}
use Rattle.cells.specs.declared.cell.Cell.{Cell}
use Rattle.cells.specs.Every.{all_moved}
use Rattle.settling.specs.declared.outcome.Power.{Power}
use Rattle.sharing.specs.declared.groups.PerGroup.{PerGroup}
use Rattle.settling.specs.declared.outcome.Outcome.{Outcome}
use Rattle.settling.specs.AddUp.{CellsAddUp}
use Rattle.settling.specs.Outcomes.{outcome_of}
use Rattle.states.specs.declared.state.State.{State}
use Rattle.states.specs.declared.state.Subframe.{Subframe}
use Rattle.states.specs.declared.state.Subframe.TheVariants.{Idle, Open, Settled}
use Rattle.states.specs.States.{wants_in, shares_in_force}

abbrev pub more_power : Power → Power → Power
more_power p q = record { wanted = p.wanted + q.wanted; granted = p.granted + q.granted }

abbrev pub more_powers : PerGroup Power → PerGroup Power → PerGroup Power
more_powers p q = record { master = more_power p.master q.master; secondary = more_power p.secondary q.secondary }

-- the cells once the commands for the subframe have acted
abbrev pub moved_cells : State → List Cell
moved_cells s = all_moved s.cells (wants_in s.subframe) s.settled

-- what every cell and each group wants and is granted, the loops moved
abbrev pub settlement : (rule : ℕ → ℕ → ℕ) → State → Outcome
settlement rule s = outcome_of rule (shares_in_force s) (moved_cells s) (wants_in s.subframe)

abbrev pub settled_state : (rule : ℕ → ℕ → ℕ) → State → State
settled_state rule s = record {
  cells = moved_cells s;
  shares = s.shares;
  settled = s.settled + 1;
  sums = more_powers s.sums (settlement rule s).groups;
  subframe = Settled (wants_in s.subframe) (settlement rule s);
}

-- what an accepted SETTLE leaves of the holding rule
abbrev pub rule_settled : {V : Type 0} → V → V
rule_settled v = v

-- in a settled subframe the powers of a group's cells add up to the group's
abbrev pub SubframeAddsUp : Subframe → Type 0
SubframeAddsUp Idle = Unit {0}
SubframeAddsUp (Open ws) = Unit {0}
SubframeAddsUp (Settled ws o) = CellsAddUp o
