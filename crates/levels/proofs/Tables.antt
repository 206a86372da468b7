-- A table of p mantissas, for any p: its rule by one computed test, and the power that it gives at each step of ten decades.
use Rattle.std.proofs.Common.{◌≡◌, ℕ, zero, suc, ◌+◌, ◌-◌, ◌*◌, ◌/◌, ◌%◌, ◌^◌, ◌<◌, ◌≤◌, Bool, true, ◌&&◌, ltb, leb, List, [], ◌∷◌, length, get_or, ap, ◌∙◌, subst, add-zero, mod-lt, mul_comm, div-lt_iff_lt-mul, add-mul, arith, lit<, pow-add}
use native.Mathlib.Nat.{mod-add-div, pow-le-pow_right}
use Rattle.std.proofs.lemmas.Bool.{and_parts, leb-true, ltb-true}
use Rattle.levels.specs.Levels.{Root, LargestMantissas, scaled}
use Rattle.levels.proofs.Roots.{root_divided, root_rises, pow_pow, pow_above}

-- m is the entry that belongs at r
abbrev pub belongs : ℕ → ℕ → ℕ → Bool
belongs p r m = leb (m ^ p) (10 ^ (9 * p + r)) && ltb (10 ^ (9 * p + r)) ((m + 1) ^ p)

-- each entry belongs where it stands, the first at r
abbrev pub all_belong : ℕ → ℕ → List ℕ → Bool
all_belong p r [] = true
all_belong p r (m ∷ ms) = belongs p r m && all_belong p (suc r) ms

entry_root : (p r m : ℕ) → belongs p r m ≡ true → Root p (10 ^ (9 * p + r)) m
entry_root p r m h =
    let both = and_parts (leb (m ^ p) (10 ^ (9 * p + r))) (ltb (10 ^ (9 * p + r)) ((m + 1) ^ p)) h in
    record { within = leb-true (m ^ p) (10 ^ (9 * p + r)) both.0; past = ltb-true (10 ^ (9 * p + r)) ((m + 1) ^ p) both.1 }

entry_at : (p r : ℕ) (ms : List ℕ) → all_belong p r ms ≡ true → (k : ℕ) → k < length ms → Root p (10 ^ (9 * p + (r + k))) (get_or ms k 0)
entry_at p r [] h k lt = absurd (omega arith)
entry_at p r (m ∷ ms) h zero lt = rw (add-zero r) (entry_root p r m (and_parts (belongs p r m) (all_belong p (suc r) ms) h).0)
entry_at p r (m ∷ ms) h (suc k) lt =
    let rest : Root p (10 ^ (9 * p + (suc r + k))) (get_or ms k 0) = entry_at p (suc r) ms (and_parts (belongs p r m) (all_belong p (suc r) ms) h).1 k (omega arith) in
    let place : suc r + k ≡ r + suc k = omega arith in
    subst (λ (j : ℕ). Root p (10 ^ (9 * p + j)) (get_or ms k 0)) place rest

-- what the test says of a table of p entries
pub tested : (p : ℕ) (table : List ℕ) → length table ≡ p → all_belong p 0 table ≡ true → LargestMantissas p table
tested p table full h r lt =
    let place : 0 + r ≡ r = omega arith in
    subst (λ (j : ℕ). Root p (10 ^ (9 * p + j)) (get_or table r 0)) place (entry_at p 0 table h r (omega arith))

module _ (p : ℕ) (table : List ℕ) (rule : LargestMantissas p table) where
  -- a step below ten decades is the mantissa's, so many decades down
  exponent : (i : ℕ) → 0 < p → i < 10 * p → 9 * p + i % p ≡ i + (9 - i / p) * p
  exponent i some h =
      let decade : i / p < 10 = (div-lt_iff_lt-mul {k = p} {x = i} {y = 10} some).1 h in
      let nine : 9 ≡ i / p + (9 - i / p) = omega arith in
      let whole : 9 * p ≡ i / p * p + (9 - i / p) * p = ap (λ (x : ℕ). x * p) nine ∙ add-mul (i / p) (9 - i / p) p in
      omega (arith, mod-add-div i p, mul_comm p (i / p))

  pub scaled_root : (i : ℕ) → i < 10 * p → Root p (10 ^ i) (scaled p table i)
  unfolding scaled
  scaled_root i h =
      let some : 0 < p = omega arith in
      let down : 10 ^ (9 * p + i % p) ≡ 10 ^ i * (10 ^ (9 - i / p)) ^ p =
      ap (λ (x : ℕ). 10 ^ x) (exponent i some h) ∙ pow-add 10 i ((9 - i / p) * p) ∙ ap (λ (x : ℕ). 10 ^ i * x) (pow_pow 10 (9 - i / p) p)
      in
      root_divided p (10 ^ (9 * p + i % p)) (10 ^ i) (10 ^ (9 - i / p)) (get_or table (i % p) 0) (pow_above 10 (9 - i / p) (lit< tt)) down (rule (i % p) (mod-lt i some))

  pub scaled_rises : (i j : ℕ) → i ≤ j → j < 10 * p → scaled p table i ≤ scaled p table j
  scaled_rises i j h lt =
      root_rises p (10 ^ i) (10 ^ j) (scaled p table i) (scaled p table j) (pow-le-pow_right (lit< tt) h) (scaled_root i (omega arith)) (scaled_root j lt)
