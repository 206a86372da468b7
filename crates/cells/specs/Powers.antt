-- The levels of a cell, and the powers that it wants in nanowatts.
-- The sums are those of TS 36.213: 5.1.1.1 for data, 5.1.2.1 for control, 5.1.3.1 for sounding.
use Rattle.std.specs.Prelude.{ℕ, ◌-◌, ◌*◌, ◌/◌, min, max, ℤ, pos, negsuc, ◌+ℤ◌, Some, None, Option}
use Rattle.levels.specs.declared.Level.{Level}
use Rattle.levels.specs.Levels.{level_of, power}
use Rattle.cells.specs.declared.settings.Settings.{Settings}
use Rattle.cells.specs.declared.powers.DataValues.{DataValues}
use Rattle.cells.specs.declared.powers.ControlValues.{ControlValues}
use Rattle.cells.specs.declared.powers.Powers.{Powers}
use Rattle.cells.specs.declared.wants.ControlFormat.{ControlFormat}
use Rattle.cells.specs.declared.wants.ControlFormat.TheVariants.{Format1, Format2, Format3}
use Rattle.cells.specs.declared.wants.ControlWant.{ControlWant}
use Rattle.cells.specs.declared.wants.DataWant.{DataWant}
use Rattle.cells.specs.declared.wants.SoundingWant.{SoundingWant}
use Rattle.cells.specs.declared.wants.CellWants.{CellWants}
use Rattle.cells.specs.declared.cell.Cell.{Cell}

-- what the levels of a cell are made from: its settings, its loss and its loops as they stand
abbrev pub data_values : Settings → Cell → DataValues
data_values s k = record { base = s.data_base; factor = s.path_factor; loss = k.loss; adjustment = k.data_loop }

abbrev pub control_values : Settings → Cell → ControlValues
control_values s k = record { base = s.control_base; loss = k.loss; adjustment = k.control_loop }

-- data: base and loop in decibels, and the path factor times the loss in tenths
abbrev pub data_level : DataValues → Level
data_level v = level_of (v.base +ℤ v.adjustment) (pos (v.factor * v.loss))

-- sounding: the data level and an offset, which is -10.5 dB at index 0 and rises by 1.5 dB with each
abbrev pub sounding_offset : ℕ → ℤ
sounding_offset index = negsuc 104 +ℤ pos (15 * index)

abbrev pub sounding_level : DataValues → ℕ → Level
sounding_level v index = level_of (pos 0) ((data_level v).tenths +ℤ sounding_offset index)

-- control: base, loss and loop, with the want's offset, and what its format adds
abbrev pub open_loop_decibels : ControlValues → ℤ
open_loop_decibels v = v.base +ℤ pos v.loss +ℤ v.adjustment

abbrev pub offset_or_none : Option ControlWant → ℤ
offset_or_none None = pos 0
offset_or_none (Some w) = w.offset

-- format 3 adds half a decibel for each bit after the first
abbrev pub tenths_of : ControlFormat → ℕ → ℕ
tenths_of Format1 n = 0
tenths_of Format2 n = 0
tenths_of Format3 n = 5 * (n - 1)

abbrev pub format_tenths : Option ControlWant → ℕ
format_tenths None = 0
format_tenths (Some w) = tenths_of w.format w.size

abbrev pub control_level : ControlValues → Option ControlWant → Level
control_level v w = level_of (open_loop_decibels v +ℤ offset_or_none w) (pos (format_tenths w))

-- format 2 multiplies the power by a quarter of its size, and by one at least
abbrev pub power_of : ControlFormat → ℕ → ℕ → ℕ
power_of Format1 n p = p
power_of Format2 n p = p * max n 4 / 4
power_of Format3 n p = p

abbrev pub format_power : Option ControlWant → ℕ → ℕ
format_power None p = p
format_power (Some w) p = power_of w.format w.size p

abbrev pub blocks_or_one : Option DataWant → ℕ
blocks_or_one None = 1
blocks_or_one (Some w) = w.blocks

-- Powers before the cap. A channel with no want is taken at one block, or with no offset and no format.
abbrev pub raw_data : DataValues → Option DataWant → ℕ
raw_data v w = power (data_level v) * blocks_or_one w

abbrev pub raw_control : ControlValues → Option ControlWant → ℕ
raw_control v w = format_power w (power (control_level v w))

abbrev pub raw_sounding : DataValues → SoundingWant → ℕ
raw_sounding v w = power (sounding_level v w.offset) * w.blocks

-- what is wanted: nothing without a want, and no more than the cap
abbrev pub control_power : ControlValues → ℕ → Option ControlWant → ℕ
control_power v top None = 0
control_power v top (Some w) = min (raw_control v (Some w)) top

abbrev pub data_power : DataValues → ℕ → Option DataWant → ℕ
data_power v top None = 0
data_power v top (Some w) = min (raw_data v (Some w)) top

abbrev pub sounding_power : DataValues → ℕ → Option SoundingWant → ℕ
sounding_power v top None = 0
sounding_power v top (Some w) = min (raw_sounding v w) top

-- The cap is the power of the cell's maximum. Data beside control has what control leaves of it.
abbrev pub wanted_with : Option Settings → Cell → CellWants → Powers
wanted_with None k w = record { control = 0; «data» = 0; sounding = 0 }
wanted_with (Some s) k w =
    let most : ℕ = power s.maximum in
    let v : DataValues = data_values s k in
    let first : ℕ = control_power (control_values s k) most w.control in
    record {
      control = first;
      «data» = data_power v (most - first) w.«data»;
      sounding = sounding_power v most w.sounding;
    }

-- what a cell wants, its loops as they stand; a cell that is not set wants nothing
abbrev pub wanted_powers : Cell → CellWants → Powers
wanted_powers k w = wanted_with k.settings k w
