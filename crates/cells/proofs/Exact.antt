-- A data want is close below the exact power, on its own and among the wants of a cell.
use Rattle.std.proofs.Common.{◌≡◌, ℕ, ◌+◌, ◌-◌, ◌*◌, ◌^◌, ◌<◌, ◌≤◌, min, ◌||◌, ltb, pos, negsuc, ◌≤ℤ◌, ◌<ℤ◌, Some, None, Option, sym, refl, ap, ◌∙◌, subst, mul_comm, add-mul, mul-le-mul_left, one-mul, zero-mul, mul-one, arith, lit<}
use native.Mathlib.Nat.{mul-lt-mul_of_pos_left, pow-le-pow_right}
use Rattle.std.proofs.lemmas.Int.{ints, by_lt_z}
use Rattle.std.proofs.lemmas.Bool.Decides.{nat_tests}
use Rattle.refusals.specs.declared.Refusal.TheVariants.{OutOfRange}
use Rattle.refusals.specs.First.{when}
use Rattle.levels.specs.declared.Level.{Level}
use Rattle.levels.specs.Levels.{W, steps, power, Root}
use Rattle.levels.proofs.Rule.{W_below, W_at_399, in_range_largest, monotone}
use Rattle.levels.proofs.Roots.{mul_pow, pow_above}
use Rattle.cells.specs.declared.settings.Settings.{Settings}
use Rattle.cells.specs.declared.wants.DataWant.{DataWant}
use Rattle.cells.specs.declared.wants.CellWants.{CellWants}
use Rattle.cells.specs.declared.powers.Powers.{Powers}
use Rattle.cells.specs.declared.cell.Cell.{Cell}
use Rattle.cells.specs.Powers.{data_values, data_level, data_power, wanted_with, wanted_powers}
use Rattle.cells.specs.Promises.{Close, CloseBelowExact, DataCloseBelowExact}
use Rattle.refusals.proofs.Answered.{not_held}
use Rattle.cells.proofs.Largest.{largest}

pub some_block : (n : ℕ) → when (ltb n 1 || ltb 110 n) OutOfRange ≡ None → 1 ≤ n
some_block n h = let e = not_held (ltb n 1 || ltb 110 n) OutOfRange h in grind (arith, nat_tests)

-- a root of x, taken n times, is close below the exact value
times : (x m n : ℕ) → 0 < n → Root 100 x m → ((m * n) ^ 100 ≤ n ^ 100 * x) × (n ^ 100 * x < (m * n + n) ^ 100)
times x m n h r =
    let size : 0 < n ^ 100 = pow_above n 100 h in
    let low : n ^ 100 * m ^ 100 ≤ n ^ 100 * x = mul-le-mul_left (n ^ 100) r.within in
    let high : n ^ 100 * x < n ^ 100 * (m + 1) ^ 100 = mul-lt-mul_of_pos_left r.past size in
    let sum : m * n + n ≡ (m + 1) * n = omega (arith, add-mul m 1 n, one-mul n) in (
      omega (arith, mul_pow m n 100, mul_comm (m ^ 100) (n ^ 100), low),
      omega (arith, ap (λ (y : ℕ). y ^ 100) sum, mul_pow (m + 1) n 100, mul_comm ((m + 1) ^ 100) (n ^ 100), high),
    )

module _ (l : Level) (n top : ℕ) (some : 1 ≤ n) (cap : top ≤ 1995262314) where
  capped_above : pos 399 <ℤ l.tenths → top < power l * n
  capped_above h =
      let up : W (pos 399) ≤ power l = monotone (pos 399) l.tenths (omega (arith, ints)) in
      let least : power l * 1 ≤ power l * n = mul-le-mul_left (power l) some in
      omega (arith, W_at_399, mul-one (power l))

  close : power l * n ≤ top → negsuc 599 ≤ℤ l.tenths → Close l n (power l * n)
  close h from =
      by_lt_z (pos 399) l.tenths
      (λ above. absurd (omega (arith, capped_above above)))
      (λ to.
      let both = times (10 ^ steps l.tenths) (power l) n some (in_range_largest l (record { from = from; to = to })) in
      record { at_most_exact = both.0; less_than_one_a_block = both.1 })

  nothing_below : l.tenths <ℤ negsuc 599 → power l * n ≡ 0
  nothing_below h = ap (λ (p : ℕ). p * n) (W_below l.tenths h) ∙ zero-mul n

  under_one_a_block : l.tenths <ℤ negsuc 599 → n ^ 100 < n ^ 100 * 10 ^ steps l.tenths
  under_one_a_block h =
      let step : 1 ≤ steps l.tenths = omega (arith, ints) in
      let ten : 10 ^ 1 ≤ 10 ^ steps l.tenths = pow-le-pow_right (lit< tt) step in
      let more : 1 < 10 ^ steps l.tenths = omega arith in
      let least : n ^ 100 * 1 < n ^ 100 * 10 ^ steps l.tenths = mul-lt-mul_of_pos_left more (pow_above n 100 some) in
      omega (arith, mul-one (n ^ 100), least)

  pub close_below_exact : (want : ℕ) → want ≡ min (power l * n) top → CloseBelowExact l n (power l * n) top want
  close_below_exact want is =
      record {
        close = λ h from.
            let raw : want ≡ power l * n = omega arith in
            subst (λ (x : ℕ). Close l n x) (sym raw) (close h from);
        nothing_below = λ h. omega (arith, nothing_below h);
        under_one_a_block = under_one_a_block;
        capped_above = capped_above;
      }

close_of : (o : Option Settings) (d : Option DataWant) (k : Cell) (w : CellWants) → w.«data» ≡ d → DataCloseBelowExact o d k (wanted_with o k w)
close_of None d k w e = tt
close_of (Some s) None k w e = tt
close_of (Some s) (Some x) k w e = λ settings want.
    let v = data_values s k in
    let top = power s.maximum - (wanted_with (Some s) k w).control in
    close_below_exact (data_level v) x.blocks top (some_block x.blocks want.1.0) (omega (arith, largest (Some s) settings))
    (wanted_with (Some s) k w).«data» (ap (data_power v top) e)

pub data_close : (k : Cell) (w : CellWants) (p : Powers) → p ≡ wanted_powers k w → DataCloseBelowExact k.settings w.«data» k p
data_close k w p is = subst (λ (x : Powers). DataCloseBelowExact k.settings w.«data» k x) (sym is) (close_of k.settings w.«data» k w refl)
