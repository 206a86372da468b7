-- No cell wants more than the power of its maximum.
use Rattle.std.proofs.Common.{IfSome, ◌≡◌, ℕ, ◌+◌, ◌-◌, ◌≤◌, pos, Some, None, Option, sym, refl, subst, arith}
use Rattle.levels.specs.Levels.{W, scaled, mantissas, power}
use Rattle.levels.proofs.Rule.{monotone}
use Rattle.cells.specs.declared.settings.Settings.{Settings}
use Rattle.cells.specs.declared.cell.Cell.{Cell}
use Rattle.cells.specs.declared.powers.DataValues.{DataValues}
use Rattle.cells.specs.declared.powers.ControlValues.{ControlValues}
use Rattle.cells.specs.declared.powers.Powers.{Powers}
use Rattle.cells.specs.declared.wants.ControlWant.{ControlWant}
use Rattle.cells.specs.declared.wants.DataWant.{DataWant}
use Rattle.cells.specs.declared.wants.SoundingWant.{SoundingWant}
use Rattle.cells.specs.declared.wants.CellWants.{CellWants}
use Rattle.cells.specs.Ranges.{SettingsInRange, raw_settings_of}
use Rattle.cells.specs.Powers.{data_values, control_values, control_power, data_power, sounding_power, wanted_with, wanted_powers}
use Rattle.cells.specs.Promises.{maximum_power, WithinMaximum}
use Rattle.cells.proofs.Bounds.{settings_bounds}

at_330 : W (pos 330) ≡ 1995262314
unfolding W scaled mantissas
at_330 = refl

pub largest : (o : Option Settings) → IfSome o SettingsInRange → maximum_power o ≤ 1995262314
largest None h = omega arith
largest (Some s) h = omega (arith, monotone s.maximum.tenths (pos 330) (settings_bounds (raw_settings_of s) h).most, at_330)

control_most : (v : ControlValues) (top : ℕ) (w : Option ControlWant) → control_power v top w ≤ top
control_most v top None = omega arith
control_most v top (Some w) = omega arith

data_most : (v : DataValues) (top : ℕ) (w : Option DataWant) → data_power v top w ≤ top
data_most v top None = omega arith
data_most v top (Some w) = omega arith

sounding_most : (v : DataValues) (top : ℕ) (w : Option SoundingWant) → sounding_power v top w ≤ top
sounding_most v top None = omega arith
sounding_most v top (Some w) = omega arith

together_of : (o : Option Settings) (k : Cell) (w : CellWants) → (wanted_with o k w).control + (wanted_with o k w).«data» ≤ maximum_power o
together_of None k w = omega arith
together_of (Some s) k w =
    let first = control_power (control_values s k) (power s.maximum) w.control in
    omega (arith, control_most (control_values s k) (power s.maximum) w.control, data_most (data_values s k) (power s.maximum - first) w.«data»)

alone_of : (o : Option Settings) (k : Cell) (w : CellWants) → (wanted_with o k w).sounding ≤ maximum_power o
alone_of None k w = omega arith
alone_of (Some s) k w = sounding_most (data_values s k) (power s.maximum) w.sounding

pub within_maximum : (k : Cell) (w : CellWants) → WithinMaximum k (wanted_powers k w)
within_maximum k w = record { together = together_of k.settings k w; alone = alone_of k.settings k w; largest = largest k.settings }

pub powers_within : (k : Cell) (w : CellWants) (p : Powers) → p ≡ wanted_powers k w → WithinMaximum k p
powers_within k w p is = subst (λ (x : Powers). WithinMaximum k x) (sym is) (within_maximum k w)
