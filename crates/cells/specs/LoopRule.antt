-- The rule of the loops, told by the loops before and after a subframe.
use Rattle.std.specs.Prelude.{◌≡◌, ℕ, ◌<◌, ◌≤◌, ℤ, pos, ◌+ℤ◌, ◌<ℤ◌, Some, None}
use Rattle.levels.specs.Levels.{power}
use Rattle.cells.specs.declared.settings.LoopKind.TheVariants.{Accumulating, Absolute}
use Rattle.cells.specs.declared.settings.Settings.{Settings}
use Rattle.cells.specs.declared.commands.TpcCommand.{TpcCommand}
use Rattle.cells.specs.declared.wants.CellWants.{CellWants}
use Rattle.cells.specs.declared.cell.Cell.{Cell}
use Rattle.cells.specs.Cells.{InLimits}
use Rattle.cells.specs.Commands.{step_of, due}
use Rattle.cells.specs.Powers.{data_values, control_values, raw_data, raw_control}

-- A loop takes a step, where `raw` is the power at its old value and `most` that of the cell's maximum: the plain sum, with two exceptions.
pub record TakesStep (raw most : ℕ) (by before after : ℤ) : Type 0 where
  pub raised : pos 0 <ℤ by → raw < most → after ≡ before +ℤ by
  pub held_at_maximum : pos 0 <ℤ by → most ≤ raw → after ≡ before
  pub lowered : by <ℤ pos 0 → 100 < raw → after ≡ before +ℤ by
  pub held_at_least : by <ℤ pos 0 → raw ≤ 100 → after ≡ before
  pub kept : by ≡ pos 0 → after ≡ before

-- How a cell with the settings s goes through the subframe n. Loops within their limits take plain sums.
pub record MovesByCommands (s : Settings) (k : Cell) (w : CellWants) (n : ℕ) (after : Cell) : Type 0 where
  pub data_stands : due k.data_commands n ≡ None → after.data_loop ≡ k.data_loop
  pub data_replaced : (code : TpcCommand) → due k.data_commands n ≡ Some code → s.loop_kind ≡ Absolute → after.data_loop ≡ step_of Absolute code
  pub data_steps : (code : TpcCommand) → due k.data_commands n ≡ Some code → s.loop_kind ≡ Accumulating → InLimits k.data_loop →
      TakesStep (raw_data (data_values s k) w.«data») (power s.maximum) (step_of Accumulating code) k.data_loop after.data_loop
  pub control_stands : due k.control_commands n ≡ None → after.control_loop ≡ k.control_loop
  pub control_steps : (code : TpcCommand) → due k.control_commands n ≡ Some code → InLimits k.control_loop →
      TakesStep (raw_control (control_values s k) w.control) (power s.maximum) (step_of Accumulating code) k.control_loop after.control_loop
