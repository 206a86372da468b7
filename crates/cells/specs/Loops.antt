-- How the loops of a cell move when a subframe settles.
use Rattle.std.specs.Prelude.{ℕ, Bool, cond, ◌&&◌, ◌||◌, ℤ, pos, ◌+ℤ◌, Some, None, Option, int_lt, nat_le}
use Rattle.std.specs.Int.{saturate_to_bits}
use Rattle.levels.specs.Levels.{power}
use Rattle.cells.specs.declared.settings.LoopKind.{LoopKind}
use Rattle.cells.specs.declared.settings.LoopKind.TheVariants.{Accumulating, Absolute}
use Rattle.cells.specs.declared.settings.Settings.{Settings}
use Rattle.cells.specs.declared.commands.TpcCommand.{TpcCommand}
use Rattle.cells.specs.declared.wants.ControlWant.{ControlWant}
use Rattle.cells.specs.declared.wants.DataWant.{DataWant}
use Rattle.cells.specs.declared.wants.CellWants.{CellWants}
use Rattle.cells.specs.declared.cell.Cell.{Cell}
use Rattle.cells.specs.Commands.{step_of, due, taken}
use Rattle.cells.specs.Powers.{data_values, control_values, raw_data, raw_control}

-- a step up is ignored where the power is at the maximum or above, a step down where it is 100 nW or less
abbrev pub ignored : ℤ → (raw most : ℕ) → Bool
ignored by raw most = (int_lt (pos 0) by && nat_le most raw) || (int_lt by (pos 0) && nat_le raw 100)

-- a loop with its step added; the sum stops at the ends of 16 bits
abbrev pub with_step : ℤ → ℤ → (raw most : ℕ) → ℤ
with_step before by raw most = cond (ignored by raw most) before (saturate_to_bits 15 (before +ℤ by))

-- a loop after a command: where steps are absolute the step itself, else the loop with the step
abbrev pub commanded : LoopKind → ℤ → TpcCommand → (raw most : ℕ) → ℤ
commanded Absolute before code raw most = step_of Absolute code
commanded Accumulating before code raw most = with_step before (step_of Accumulating code) raw most

-- with no command due a loop stands
abbrev pub moved_loop : LoopKind → ℤ → Option TpcCommand → (raw most : ℕ) → ℤ
moved_loop kind before None raw most = before
moved_loop kind before (Some code) raw most = commanded kind before code raw most

-- the data loop by the kind of the cell, judged by the power at its old value; the control loop always adds its steps
abbrev pub moved_data : Settings → Cell → Option TpcCommand → Option DataWant → ℤ
moved_data s k command w = moved_loop s.loop_kind k.data_loop command (raw_data (data_values s k) w) (power s.maximum)

abbrev pub moved_control : Settings → Cell → Option TpcCommand → Option ControlWant → ℤ
moved_control s k command w = moved_loop Accumulating k.control_loop command (raw_control (control_values s k) w) (power s.maximum)

-- the cell with these loops, and the commands for the subframe n taken
abbrev pub with_loops : Cell → ℕ → ℤ → ℤ → Cell
with_loops k n f g = record {
  settings = k.settings;
  loss = k.loss;
  data_loop = f;
  control_loop = g;
  data_commands = taken k.data_commands n;
  control_commands = taken k.control_commands n;
}

abbrev pub moved_with : Option Settings → Cell → CellWants → ℕ → Cell
moved_with None k w n = k
moved_with (Some s) k w n =
    with_loops k n
    (moved_data s k (due k.data_commands n) w.«data»)
    (moved_control s k (due k.control_commands n) w.control)

-- a cell after the subframe n: its loops moved by the commands for n, and these taken
abbrev pub moved : Cell → CellWants → ℕ → Cell
moved k w n = moved_with k.settings k w n
