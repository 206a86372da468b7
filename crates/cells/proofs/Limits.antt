-- No loop leaves its limits.
use Rattle.std.proofs.Common.{IfSome, ◌≡◌, ℕ, ◌*◌, ◌<◌, ◌≤◌, max, cond, not, ℤ, pos, negsuc, ◌+ℤ◌, ◌≤ℤ◌, ◌<ℤ◌, Some, None, Option, sym, ap, subst, inl, inr, mul-le-mul, zero-mul, mul-one, arith}
use Rattle.std.specs.Int.{saturate_to_bits}
use Rattle.std.proofs.lemmas.Int.{ints, by_lt_z}
use Rattle.std.proofs.lemmas.Bool.Decides.{nat_tests, leb_tells}
use Rattle.refusals.specs.declared.Refusal.TheVariants.{OutOfRange}
use Rattle.refusals.specs.First.{when}
use Rattle.levels.specs.declared.Level.{Level}
use Rattle.levels.specs.Levels.{power}
use Rattle.levels.proofs.Rule.{W_below, monotone}
use Rattle.cells.specs.declared.settings.LoopKind.{LoopKind}
use Rattle.cells.specs.declared.settings.LoopKind.TheVariants.{Accumulating, Absolute}
use Rattle.cells.specs.declared.settings.Settings.{Settings}
use Rattle.cells.specs.declared.commands.TpcCommand.{TpcCommand}
use Rattle.cells.specs.declared.commands.TpcCommand.TheVariants.{Zero, One, Two, Three}
use Rattle.cells.specs.declared.wants.ControlFormat.{ControlFormat}
use Rattle.cells.specs.declared.wants.ControlFormat.TheVariants.{Format1, Format2, Format3}
use Rattle.cells.specs.declared.wants.ControlWant.{ControlWant}
use Rattle.cells.specs.declared.wants.DataWant.{DataWant}
use Rattle.cells.specs.declared.wants.CellWants.{CellWants}
use Rattle.cells.specs.declared.wants.Want.TheVariants.{Control, Data}
use Rattle.cells.specs.declared.cell.Cell.{Cell}
use Rattle.cells.specs.Numbers.{format_number}
use Rattle.cells.specs.Ranges.{SettingsInRange, raw_settings_of}
use Rattle.cells.specs.WantRanges.{WantInRange, WantsInRange, control_size_fits}
use Rattle.cells.specs.Cells.{InLimits, CellInRange}
use Rattle.cells.specs.Commands.{step_of, due}
use Rattle.cells.specs.Powers.{tenths_of, power_of, data_values, control_values, data_level, control_level, blocks_or_one, raw_data, raw_control, format_power, offset_or_none, format_tenths}
use Rattle.cells.specs.Loops.{ignored, with_step, moved_loop, moved_data, moved_control, moved_with, moved}
use Rattle.refusals.proofs.Answered.{not_held}
use Rattle.cells.proofs.Bounds.{SettingsBounds, settings_bounds, at_most, low_end, high_end}
use Rattle.cells.proofs.Exact.{some_block}

small : (z : ℤ) → negsuc 303 ≤ℤ z → z ≤ℤ pos 204 → saturate_to_bits 15 z ≡ z
small (pos n) h k = let is : n ≤ 204 = omega (arith, ints) in ap pos (omega arith)
small (negsuc n) h k = let is : n ≤ 303 = omega (arith, ints) in ap negsuc (omega arith)

-- from within the limits a step gives the plain sum
pub plain_sum : (v by : ℤ) → InLimits v → negsuc 3 ≤ℤ by → by ≤ℤ pos 4 → saturate_to_bits 15 (v +ℤ by) ≡ v +ℤ by
plain_sum v by h low high = small (v +ℤ by) (omega (arith, ints, h.low)) (omega (arith, ints, h.high))

-- a step up is taken only below the maximum, a step down only above 100 nW
high_of_sum : (v by sum : ℤ) (raw most : ℕ) → sum ≡ v +ℤ by → by ≤ℤ pos 3 → v ≤ℤ pos 200 → (raw < most → v ≤ℤ pos 197) → cond (ignored by raw most) v sum ≤ℤ pos 200
high_of_sum v by sum raw most is hb hv h = grind (arith, ints, nat_tests)

low_of_sum : (v by sum : ℤ) (raw most : ℕ) → sum ≡ v +ℤ by → negsuc 0 ≤ℤ by → negsuc 299 ≤ℤ v → (100 < raw → negsuc 298 ≤ℤ v) → negsuc 299 ≤ℤ cond (ignored by raw most) v sum
low_of_sum v by sum raw most is hb hv h = grind (arith, ints, nat_tests)

-- the accumulated steps lie between -1 and 3 dB, the absolute ones between -4 and 4 dB
pub step_low : (code : TpcCommand) → negsuc 0 ≤ℤ step_of Accumulating code
step_low Zero = omega (arith, ints)
step_low One = omega (arith, ints)
step_low Two = omega (arith, ints)
step_low Three = omega (arith, ints)

pub step_high : (code : TpcCommand) → step_of Accumulating code ≤ℤ pos 3
step_high Zero = omega (arith, ints)
step_high One = omega (arith, ints)
step_high Two = omega (arith, ints)
step_high Three = omega (arith, ints)

absolute_limits : (code : TpcCommand) → InLimits (step_of Absolute code)
absolute_limits Zero = record { low = omega (arith, ints); high = omega (arith, ints) }
absolute_limits One = record { low = omega (arith, ints); high = omega (arith, ints) }
absolute_limits Two = record { low = omega (arith, ints); high = omega (arith, ints) }
absolute_limits Three = record { low = omega (arith, ints); high = omega (arith, ints) }

-- a loop keeps its limits where a power below the maximum leaves three decibels above it, and one above 100 nW one decibel below
step_limits : (v : ℤ) (code : TpcCommand) (raw most : ℕ) → InLimits v → (raw < most → v ≤ℤ pos 197) → (100 < raw → negsuc 298 ≤ℤ v) → InLimits (with_step v (step_of Accumulating code) raw most)
step_limits v code raw most h up down =
    let by = step_of Accumulating code in
    let lowest = step_low code in
    let highest = step_high code in
    let sum = plain_sum v by h (omega (arith, ints)) (omega (arith, ints)) in
    record {
      low = low_of_sum v by (saturate_to_bits 15 (v +ℤ by)) raw most sum lowest h.low down;
      high = high_of_sum v by (saturate_to_bits 15 (v +ℤ by)) raw most sum highest h.high up;
    }

-- whatever the kind, and with no command
loop_limits : (kind : LoopKind) (v : ℤ) (command : Option TpcCommand) (raw most : ℕ) → InLimits v → (raw < most → v ≤ℤ pos 197) → (100 < raw → negsuc 298 ≤ℤ v) → InLimits (moved_loop kind v command raw most)
loop_limits kind v None raw most h up down = h
loop_limits Absolute v (Some code) raw most h up down = absolute_limits code
loop_limits Accumulating v (Some code) raw most h up down = step_limits v code raw most h up down

-- a power above 0 stands at -60 dBm or above, and the lower power at the lower level
audible : (l : Level) → 0 < power l → negsuc 599 ≤ℤ l.tenths
audible l h = by_lt_z l.tenths (negsuc 599) (λ k. absurd (omega (arith, W_below l.tenths k))) (λ k. k)

lower_level : (l m : Level) → power l < power m → l.tenths <ℤ m.tenths
lower_level l m h = by_lt_z l.tenths m.tenths (λ k. k) (λ k. absurd (omega (arith, monotone m.tenths l.tenths k)))

-- a power taken so many times
taken_once : (p n : ℕ) → 1 ≤ n → p ≤ p * n
taken_once p n h = omega (arith, mul-le-mul {n₁ = p} {m₁ = 1} {n₂ = p} {m₂ = n} (omega arith) h, mul-one p)

none_taken : (p n : ℕ) → p ≡ 0 → 100 < p * n → ⊥
none_taken p n e h = omega (arith, ap (λ (x : ℕ). x * n) e, zero-mul n)

some_taken : (p n : ℕ) → 100 < p * n → 0 < p
some_taken p n h = elim (leb_tells 1 p) [ inl t ↦ omega (arith, t.1) | inr t ↦ absurd (none_taken p n (omega (arith, t.1)) h) ]

blocks_some : (w : Option DataWant) → IfSome w (λ x. WantInRange (Data x)) → 1 ≤ blocks_or_one w
blocks_some None h = omega arith
blocks_some (Some w) h = some_block w.blocks h.1.0

data_limits : (s : Settings) (k : Cell) (command : Option TpcCommand) (w : Option DataWant) → SettingsBounds (raw_settings_of s) → k.loss ≤ 200 → InLimits k.data_loop → 1 ≤ blocks_or_one w → InLimits (moved_data s k command w)
data_limits s k command w hs hl hf some =
    let l = data_level (data_values s k) in
    let product : s.path_factor * k.loss ≤ 2000 = mul-le-mul hs.factor hl in
    loop_limits s.loop_kind k.data_loop command (raw_data (data_values s k) w) (power s.maximum) hf
    (λ below.
    let under : (data_level (data_values s k)).tenths <ℤ s.maximum.tenths = lower_level l s.maximum (omega (arith, taken_once (power l) (blocks_or_one w) some)) in
    omega (arith, ints, hs.data_low, hs.most))
    (λ above.
    let from : negsuc 599 ≤ℤ (data_level (data_values s k)).tenths = audible l (some_taken (power l) (blocks_or_one w) above) in
    omega (arith, ints, hs.data_high))

-- format 2 makes no power less, and none of nothing
format_least_of : (f : ControlFormat) (n p : ℕ) → p ≤ power_of f n p
format_least_of Format1 n p = omega arith
format_least_of Format2 n p = omega (arith, mul-le-mul {n₁ = p} {m₁ = 4} {n₂ = p} {m₂ = max n 4} (omega arith) (omega arith))
format_least_of Format3 n p = omega arith

format_some_of : (f : ControlFormat) (n p : ℕ) → 100 < power_of f n p → 0 < p
format_some_of Format1 n p h = omega arith
format_some_of Format2 n p h = some_taken p (max n 4) (omega arith)
format_some_of Format3 n p h = omega arith

format_least : (w : Option ControlWant) (p : ℕ) → p ≤ format_power w p
format_least None p = omega arith
format_least (Some w) p = format_least_of w.format w.size p

format_some : (w : Option ControlWant) (p : ℕ) → 100 < format_power w p → 0 < p
format_some None p h = omega arith
format_some (Some w) p h = format_some_of w.format w.size p h

three_most : (n : ℕ) → when (not (control_size_fits 3 n)) OutOfRange ≡ None → n ≤ 11
three_most n h = let e = not_held (not (control_size_fits 3 n)) OutOfRange h in grind (arith, nat_tests)

tenths_most : (f : ControlFormat) (n : ℕ) → when (not (control_size_fits (format_number f) n)) OutOfRange ≡ None → tenths_of f n ≤ 50
tenths_most Format1 n h = omega arith
tenths_most Format2 n h = omega arith
tenths_most Format3 n h = omega (arith, three_most n h)

-- the bounds of what a control want adds to the level
record WantBounds (w : Option ControlWant) : Type 0 where
  low : negsuc 1 ≤ℤ offset_or_none w
  high : offset_or_none w ≤ℤ pos 6
  most : format_tenths w ≤ 50

want_bounds : (w : Option ControlWant) → IfSome w (λ x. WantInRange (Control x)) → WantBounds w
want_bounds None h = record { low = omega (arith, ints); high = omega (arith, ints); most = omega arith }
want_bounds (Some w) h =
    record {
      low = low_end (negsuc 1) (pos 6) w.offset h.1.1.0;
      high = high_end (negsuc 1) (pos 6) w.offset h.1.1.0;
      most = tenths_most w.format w.size h.1.0;
    }

control_limits : (s : Settings) (k : Cell) (command : Option TpcCommand) (w : Option ControlWant) → SettingsBounds (raw_settings_of s) → k.loss ≤ 200 → InLimits k.control_loop → WantBounds w → InLimits (moved_control s k command w)
control_limits s k command w hs hl hg hw =
    let l = control_level (control_values s k) w in
    loop_limits Accumulating k.control_loop command (raw_control (control_values s k) w) (power s.maximum) hg
    (λ below.
    let under : (control_level (control_values s k) w).tenths <ℤ s.maximum.tenths = lower_level l s.maximum (omega (arith, format_least w (power l))) in
    omega (arith, ints, hs.control_low, hs.most, hw.low))
    (λ above.
    let from : negsuc 599 ≤ℤ (control_level (control_values s k) w).tenths = audible l (format_some w (power l) above) in
    omega (arith, ints, hs.control_high, hw.high, hw.most))

limits_of : (o : Option Settings) (k : Cell) (w : CellWants) (n : ℕ) → IfSome o SettingsInRange → CellInRange k → WantsInRange w → CellInRange (moved_with o k w n)
limits_of None k w n ho hk hw = hk
limits_of (Some s) k w n ho hk hw =
    let bounds = settings_bounds (raw_settings_of s) ho in
    let loss = at_most k.loss 200 hk.of_loss.0 in
    record {
      of_settings = hk.of_settings;
      of_loss = hk.of_loss;
      of_data_loop = data_limits s k (due k.data_commands n) w.«data» bounds loss hk.of_data_loop (blocks_some w.«data» hw.of_data);
      of_control_loop = control_limits s k (due k.control_commands n) w.control bounds loss hk.of_control_loop (want_bounds w.control hw.of_control);
    }

pub moved_in_range : (k : Cell) (w : CellWants) (n : ℕ) (after : Cell) → after ≡ moved k w n → CellInRange k → WantsInRange w → CellInRange after
moved_in_range k w n after is hk hw = subst CellInRange (sym is) (limits_of k.settings k w n hk.of_settings hk hw)
