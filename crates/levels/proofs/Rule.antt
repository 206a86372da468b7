-- The table of 100 mantissas, and the power of every level.
use Rattle.std.proofs.Common.{◌≡◌, ℕ, ◌+◌, ◌-◌, ◌*◌, ◌/◌, ◌%◌, ◌^◌, ◌<◌, ◌≤◌, min, Bool, true, false, cond, get_or, ℤ, pos, negsuc, ◌+ℤ◌, nat_abs, ◌≤ℤ◌, ◌<ℤ◌, sym, refl, ap, ◌∙◌, subst, arith, lit<, pow-add}
use native.Mathlib.Nat.{mul-div-mul_right}
use lib.Signed.{lt_z}
use Rattle.std.proofs.lemmas.Int.{ints, by_lt_z}
use Rattle.levels.specs.declared.Level.{Level}
use Rattle.levels.specs.Levels.{Root, LargestMantissas, mantissas, scaled, steps, W, power, InRange, LargestWholeNanowatts, MantissaTimesPowerOfTen, RisesWithLevel}
use Rattle.levels.proofs.Roots.{root_unique, pow_above}
use Rattle.levels.proofs.Tables.{tested, scaled_root, scaled_rises}

-- the one test over the whole table
pub largest_mantissas : LargestMantissas 100 mantissas
unfolding mantissas
largest_mantissas = tested 100 mantissas refl refl

pub W_below : (d : ℤ) → d <ℤ negsuc 599 → W d ≡ 0
unfolding W
W_below d h =
    let low : lt_z d (negsuc 599) ≡ true = grind (arith, ints) in
    ap (λ (b : Bool). cond b 0 (scaled 100 mantissas (min (steps d) 999))) low

pub W_from : (d : ℤ) → negsuc 599 ≤ℤ d → W d ≡ scaled 100 mantissas (min (steps d) 999)
unfolding W
W_from d h =
    let high : lt_z d (negsuc 599) ≡ false = grind (arith, ints) in
    ap (λ (b : Bool). cond b 0 (scaled 100 mantissas (min (steps d) 999))) high

pub W_within : (d : ℤ) → negsuc 599 ≤ℤ d → d ≤ℤ pos 399 → W d ≡ scaled 100 mantissas (steps d)
W_within d h k = let same : min (steps d) 999 ≡ steps d = omega (arith, ints) in W_from d h ∙ ap (scaled 100 mantissas) same

pub W_above : (d : ℤ) → pos 399 ≤ℤ d → W d ≡ W (pos 399)
W_above d h =
    let from : negsuc 599 ≤ℤ d = omega (arith, ints) in
    let same : min (steps d) 999 ≡ 999 = omega (arith, ints) in
    W_from d from ∙ ap (scaled 100 mantissas) same ∙ sym (W_from (pos 399) (omega (arith, ints)))

pub W_at_399 : W (pos 399) ≡ 9772372209
unfolding W scaled mantissas
W_at_399 = refl

pub monotone : (d e : ℤ) → d ≤ℤ e → W d ≤ W e
monotone d e h =
    by_lt_z d (negsuc 599)
    (λ k. omega (arith, W_below d k))
    (λ k.
    let from : negsuc 599 ≤ℤ e = omega (arith, ints) in
    let up : min (steps d) 999 ≤ min (steps e) 999 = omega (arith, ints) in
    let rises = scaled_rises 100 mantissas largest_mantissas (min (steps d) 999) (min (steps e) 999) up (omega arith) in
    omega (arith, W_from d k, W_from e from))

-- no level stands for more than 39.9 dBm
pub most : (d : ℤ) → W d ≤ 9772372209
most d =
    by_lt_z d (pos 399)
    (λ k. let up : W d ≤ W (pos 399) = monotone d (pos 399) (omega (arith, ints)) in omega (arith, W_at_399))
    (λ k. omega (arith, W_above d k, W_at_399))

pub in_range_largest : (l : Level) → InRange l → Root 100 (10 ^ steps l.tenths) (power l)
in_range_largest l in_range =
    let far : steps l.tenths < 1000 = omega (arith, ints, in_range.from, in_range.to) in
    subst (λ (n : ℕ). Root 100 (10 ^ steps l.tenths) n) (sym (W_within l.tenths in_range.from in_range.to)) (scaled_root 100 mantissas largest_mantissas (steps l.tenths) far)

pub largest_whole_nanowatts : (l : Level) → LargestWholeNanowatts l (power l)
largest_whole_nanowatts l =
    record {
      largest = in_range_largest l;
      no_other = λ in_range m root. root_unique 100 (10 ^ steps l.tenths) m (power l) root (in_range_largest l in_range);
      none_below = W_below l.tenths;
      top_above = λ k. W_above l.tenths (omega (arith, ints));
    }

-- k decades up from the lowest of ten are 9 - k down from the highest
decades : (m k : ℕ) → k ≤ 9 → m * 10 ^ k / 10 ^ 9 ≡ m / 10 ^ (9 - k)
decades m k h =
    let all : 9 ≡ (9 - k) + k = omega arith in
    ap (λ (x : ℕ). m * 10 ^ k / x) (ap (λ (x : ℕ). 10 ^ x) all ∙ pow-add 10 (9 - k) k) ∙ mul-div-mul_right m (10 ^ (9 - k)) (pow_above 10 k (lit< tt))

pub mantissa_times_power_of_ten : (l : Level) → MantissaTimesPowerOfTen l (power l)
unfolding scaled
mantissa_times_power_of_ten l in_range q r h is =
    let from = in_range.from in
    let to = in_range.to in
    let step : steps l.tenths ≡ 100 * nat_abs (q +ℤ pos 6) + r = omega (arith, ints) in
    let decade : steps l.tenths / 100 ≡ nat_abs (q +ℤ pos 6) = omega arith in
    let place : steps l.tenths % 100 ≡ r = omega arith in
    let nine : nat_abs (q +ℤ pos 6) ≤ 9 = omega (arith, ints) in
    W_within l.tenths from to ∙ ap (λ (x : ℕ). get_or mantissas x 0 / 10 ^ (9 - steps l.tenths / 100)) place
    ∙ ap (λ (x : ℕ). get_or mantissas r 0 / 10 ^ (9 - x)) decade ∙ sym (decades (get_or mantissas r 0) (nat_abs (q +ℤ pos 6)) nine)

pub rises_with_level : (l : Level) → RisesWithLevel l (power l)
rises_with_level l = record { higher = λ other. monotone l.tenths other.tenths; lower = λ other. monotone other.tenths l.tenths }

-- what holds of each level's power holds of a number that is a level's power
pub of_the_power : (P : Level → ℕ → Type 0) → ((l : Level) → P l (power l)) → (l : Level) (n : ℕ) → n ≡ power l → P l n
of_the_power P each l n is = subst (P l) (sym is) (each l)
