-- One group of a number, at the front of the bytes.
use Rattle.std.proofs.Common.{◌≡◌, ℕ, ◌+◌, ◌*◌, ◌<◌, ◌≤◌, List, Err, ap, ◌∙◌, arith}
use Rattle.std.proofs.lemmas.Bool.{le-leb, eq-eqb, ne_eqb, cond-true, cond-false}
use Rattle.std.proofs.lemmas.Bool.Decides.{nat_tests}
use Rattle.faults.specs.Faults.{malformed_number}
use Rattle.recording.specs.Numbers.{got, fails, with_rest, joined_number, join}

module _ (place : ℕ) where
  pub none_above : (low high : ℕ) (rest : List ℕ) → high ≡ 0 → join place low (got high rest) ≡ fails (malformed_number place)
  none_above low high rest e = ap (with_rest rest) (cond-true _ _ _ (eq-eqb high 0 e))

  pub over : (low high : ℕ) (rest : List ℕ) → 4294967295 < high * 128 + low → join place low (got high rest) ≡ fails (malformed_number place)
  over low high rest h = let e : joined_number place low high ≡ Err (malformed_number place) = grind (arith, nat_tests) in ap (with_rest rest) e

  pub joins : (low high : ℕ) (rest : List ℕ) → (high ≡ 0 → ⊥) → high * 128 + low ≤ 4294967295 → join place low (got high rest) ≡ got (high * 128 + low) rest
  joins low high rest n h = ap (with_rest rest) (cond-false _ _ _ (ne_eqb high 0 n) ∙ cond-true _ _ _ (le-leb (high * 128 + low) 4294967295 h))
