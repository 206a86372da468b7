-- Guarantees that come to at most the total.
use Rattle.std.proofs.Common.{ℕ, ◌+◌, ◌≤◌, mul-le-mul_left, mul-add, arith}
use Rattle.sharing.specs.Guarantees.{guarantee_of}

pub sum_kept : (P m s : ℕ) → m + s ≤ 100 → guarantee_of P m + guarantee_of P s ≤ P
sum_kept P m s h = omega (arith, mul-add P m s, mul-le-mul_left P h)
