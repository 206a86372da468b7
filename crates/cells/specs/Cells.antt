-- What a terminal keeps of a cell.
use Rattle.std.specs.Prelude.{IfSome, ℕ, [], ◌∷◌, ℤ, pos, negsuc, ◌≤ℤ◌, Some, None}
use Rattle.refusals.specs.First.{NoneHolds}
use Rattle.cells.specs.declared.settings.Settings.{Settings}
use Rattle.cells.specs.declared.cell.Cell.{Cell}
use Rattle.cells.specs.Ranges.{SettingsInRange, loss_conditions}

abbrev pub unset_cell : Cell
unset_cell = record {
  settings = None;
  loss = 0;
  data_loop = pos 0;
  control_loop = pos 0;
  data_commands = None ∷ None ∷ None ∷ None ∷ None ∷ [];
  control_commands = None ∷ None ∷ None ∷ None ∷ None ∷ [];
}

-- a cell that was just set: no loss, both loops at 0, no command waits
abbrev pub fresh_cell : Settings → Cell
fresh_cell s = record {
  settings = Some s;
  loss = 0;
  data_loop = pos 0;
  control_loop = pos 0;
  data_commands = None ∷ None ∷ None ∷ None ∷ None ∷ [];
  control_commands = None ∷ None ∷ None ∷ None ∷ None ∷ [];
}

abbrev pub with_loss : Cell → ℕ → Cell
with_loss k n = record {
  settings = k.settings;
  loss = n;
  data_loop = k.data_loop;
  control_loop = k.control_loop;
  data_commands = k.data_commands;
  control_commands = k.control_commands;
}

-- the limits of every loop, in dB
pub record InLimits (v : ℤ) : Type 0 where
  pub low : negsuc 299 ≤ℤ v
  pub high : v ≤ℤ pos 200

-- settings and loss that no call is refused for, and loops within the limits
pub record CellInRange (k : Cell) : Type 0 where
  pub of_settings : IfSome k.settings SettingsInRange
  pub of_loss : NoneHolds (loss_conditions k.loss)
  pub of_data_loop : InLimits k.data_loop
  pub of_control_loop : InLimits k.control_loop
