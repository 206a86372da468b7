-- What a field in its range is bounded by.
use Rattle.std.proofs.Common.{◌≡◌, ℕ, ◌≤◌, not, ltb, List, ℤ, pos, negsuc, ◌≤ℤ◌, None, Option, arith}
use Rattle.std.proofs.lemmas.Int.{ints}
use Rattle.std.proofs.lemmas.Bool.Decides.{nat_tests}
use Rattle.refusals.specs.declared.Refusal.{Refusal}
use Rattle.refusals.specs.declared.Refusal.TheVariants.{OutOfRange}
use Rattle.refusals.specs.First.{when, first_that_holds, NoneHolds}
use Rattle.refusals.proofs.Firsts.{first_stands}
use Rattle.refusals.proofs.Answered.{not_held}
use Rattle.cells.specs.declared.settings.RawSettings.{RawSettings}
use Rattle.cells.specs.Ranges.{outside, is_path_factor, settings_conditions}

-- where nothing is refused, no condition holds
pub none_holds : (cs : List (Option Refusal)) → first_that_holds cs ≡ None → NoneHolds cs
none_holds cs e = (first_stands cs).nothing e

pub low_end : (low high v : ℤ) → when (outside low high v) OutOfRange ≡ None → low ≤ℤ v
low_end low high v h = let e = not_held (outside low high v) OutOfRange h in grind (arith, ints)

pub high_end : (low high v : ℤ) → when (outside low high v) OutOfRange ≡ None → v ≤ℤ high
high_end low high v h = let e = not_held (outside low high v) OutOfRange h in grind (arith, ints)

pub at_most : (n top : ℕ) → when (ltb top n) OutOfRange ≡ None → n ≤ top
at_most n top h = let e = not_held (ltb top n) OutOfRange h in grind (arith, nat_tests)

pub factor_most : (a : ℕ) → when (not (is_path_factor a)) OutOfRange ≡ None → a ≤ 10
factor_most a h = let e = not_held (not (is_path_factor a)) OutOfRange h in grind (arith, nat_tests)

-- the bounds of settings in range
pub record SettingsBounds (r : RawSettings) : Type 0 where
  pub kind : r.loop_kind ≤ 1
  pub least : negsuc 399 ≤ℤ r.maximum
  pub most : r.maximum ≤ℤ pos 330
  pub data_low : negsuc 133 ≤ℤ r.data_base
  pub data_high : r.data_base ≤ℤ pos 31
  pub factor : r.path_factor ≤ 10
  pub control_low : negsuc 134 ≤ℤ r.control_base
  pub control_high : r.control_base ≤ℤ negsuc 88

pub settings_bounds : (r : RawSettings) → NoneHolds (settings_conditions r) → SettingsBounds r
settings_bounds r h =
    let maximum = h.1.0 in
    let of_data = h.1.1.0 in
    let of_control = h.1.1.1.1.0 in
    record {
      kind = at_most r.loop_kind 1 h.0;
      least = low_end (negsuc 399) (pos 330) r.maximum maximum;
      most = high_end (negsuc 399) (pos 330) r.maximum maximum;
      data_low = low_end (negsuc 133) (pos 31) r.data_base of_data;
      data_high = high_end (negsuc 133) (pos 31) r.data_base of_data;
      factor = factor_most r.path_factor h.1.1.1.0;
      control_low = low_end (negsuc 134) (negsuc 88) r.control_base of_control;
      control_high = high_end (negsuc 134) (negsuc 88) r.control_base of_control;
    }
