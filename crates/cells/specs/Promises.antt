-- What is promised of the powers that a cell wants.
use Rattle.std.specs.Prelude.{IfSome, ◌≡◌, ℕ, ◌+◌, ◌-◌, ◌*◌, ◌^◌, ◌<◌, ◌≤◌, pos, negsuc, ◌≤ℤ◌, ◌<ℤ◌, Some, None, Option}
use Rattle.levels.specs.declared.Level.{Level}
use Rattle.levels.specs.Levels.{steps, power}
use Rattle.cells.specs.declared.settings.Settings.{Settings}
use Rattle.cells.specs.declared.powers.Powers.{Powers}
use Rattle.cells.specs.declared.powers.DataValues.{DataValues}
use Rattle.cells.specs.declared.wants.DataWant.{DataWant}
use Rattle.cells.specs.declared.wants.Want.TheVariants.{Data}
use Rattle.cells.specs.declared.cell.Cell.{Cell}
use Rattle.cells.specs.Ranges.{SettingsInRange}
use Rattle.cells.specs.WantRanges.{WantInRange}
use Rattle.cells.specs.Powers.{data_values, data_level, raw_data}

-- The exact power of n blocks at a level of d tenths is n × 10^((600 + d) / 100) nanowatts, so its power 100 is n^100 × 10^(600 + d).
-- From -600 on, steps d is 600 + d. A want is close below it where the want is at most that, and with one nanowatt more for each block above it.
pub record Close (l : Level) (n want : ℕ) : Type 0 where
  pub at_most_exact : want ^ 100 ≤ n ^ 100 * 10 ^ steps l.tenths
  pub less_than_one_a_block : n ^ 100 * 10 ^ steps l.tenths < (want + n) ^ 100

-- Where the cap does not bind, the want is close below the exact power from -600 on. Below -600 steps d is -600 - d: the power 100 of the exact
-- power is n^100 ÷ 10^(-600 - d), which is less than n^100, so it is under one nanowatt a block, and the want is 0. Above 399 the cap binds.
pub record CloseBelowExact (l : Level) (n raw top want : ℕ) : Type 0 where
  pub close : raw ≤ top → negsuc 599 ≤ℤ l.tenths → Close l n want
  pub nothing_below : l.tenths <ℤ negsuc 599 → want ≡ 0
  pub under_one_a_block : l.tenths <ℤ negsuc 599 → n ^ 100 < n ^ 100 * 10 ^ steps l.tenths
  pub capped_above : pos 399 <ℤ l.tenths → top < raw

-- the same of a cell's data want, where the cell is set and has one: its cap is what control leaves of the maximum
abbrev pub DataCloseBelowExact : Option Settings → Option DataWant → Cell → Powers → Type 0
DataCloseBelowExact None o k p = Unit {0}
DataCloseBelowExact (Some s) None k p = Unit {0}
DataCloseBelowExact (Some s) (Some w) k p =
    let v : DataValues = data_values s k in
    SettingsInRange s → WantInRange (Data w) →
    CloseBelowExact (data_level v) w.blocks (raw_data v (Some w)) (power s.maximum - p.control) p.«data»

-- the power of a cell's maximum; a cell that is not set has none
abbrev pub maximum_power : Option Settings → ℕ
maximum_power None = 0
maximum_power (Some s) = power s.maximum

-- Control and data together, and sounding alone, are at most the power of the cell's maximum; so at most that of 33 dBm, the largest maximum.
pub record WithinMaximum (k : Cell) (p : Powers) : Type 0 where
  pub together : p.control + p.«data» ≤ maximum_power k.settings
  pub alone : p.sounding ≤ maximum_power k.settings
  pub largest : IfSome k.settings SettingsInRange → maximum_power k.settings ≤ 1995262314
