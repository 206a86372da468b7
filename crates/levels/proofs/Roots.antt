-- The largest number whose power p is at most x: it rises with x, there is only one, and divided by D and rounded down it is that of x / D^p.
use Rattle.std.proofs.Common.{◌≡◌, ℕ, zero, suc, ◌+◌, ◌*◌, ◌/◌, ◌^◌, ◌<◌, ◌≤◌, sym, ap, ◌∙◌, le_trans, lt_of_lt_of_le, lt_of_le_of_lt, lt_irrefl, suc-mul, add-mul, le_antisymm, lt_of_mul-lt-mul_right, mul-pos, one-mul, pow-suc, lt_of_not-le, zero-mul, mul-one, div-mul-le_self, le_of_mul-le-mul_right, arith, pow-add}
use native.Mathlib.Nat.{mul-mul-mul_comm, pow-zero, pow-le-pow_left, lt-div-mul-add}
use Rattle.levels.specs.Levels.{Root}

pub one_pow : (p : ℕ) → 1 ^ p ≡ 1
one_pow zero = pow-zero 1
one_pow (suc p) = pow-suc 1 p ∙ mul-one (1 ^ p) ∙ one_pow p

pub mul_pow : (a b p : ℕ) → (a * b) ^ p ≡ a ^ p * b ^ p
mul_pow a b zero = rw (pow-zero (a * b), pow-zero a, pow-zero b)
mul_pow a b (suc p) = rw (pow-suc (a * b) p, pow-suc a p, pow-suc b p, mul_pow a b p) (mul-mul-mul_comm (a ^ p) (b ^ p) a b)

-- by induction on m: a^((1 + m) n) = a^(m n) a^n = (a^m)^n a^n = (a^m a)^n
pub pow_pow : (a m n : ℕ) → a ^ (m * n) ≡ (a ^ m) ^ n
pow_pow a zero n = rw (zero-mul n, pow-zero a) (sym (one_pow n))
pow_pow a (suc m) n = rw (suc-mul m n, pow-suc a m) (pow-add a (m * n) n ∙ ap (λ (x : ℕ). x * a ^ n) (pow_pow a m n) ∙ sym (mul_pow (a ^ m) a n))

pub pow_above : (a p : ℕ) → 0 < a → 0 < a ^ p
pow_above a zero h = rw (pow-zero a) (omega arith)
pow_above a (suc p) h = rw (pow-suc a p) (mul-pos (pow_above a p h) h)

-- a larger number has no smaller root
pub root_rises : (p x y m n : ℕ) → x ≤ y → Root p x m → Root p y n → m ≤ n
root_rises p x y m n h r s =
    let not_past : m < n + 1 = lt_of_not-le (λ k. lt_irrefl x (lt_of_lt_of_le (lt_of_le_of_lt h s.past) (le_trans (pow-le-pow_left k p) r.within))) in
    omega arith

pub root_unique : (p x m n : ℕ) → Root p x m → Root p x n → m ≡ n
root_unique p x m n r s =
    let up : m ≤ n = root_rises p x x m n (omega arith) r s in
    let down : n ≤ m = root_rises p x x n m (omega arith) s r in
    le_antisymm up down

-- a root of y D^p, divided by D and rounded down, is a root of y
pub root_divided : (p x y D m : ℕ) → 0 < D → x ≡ y * D ^ p → Root p x m → Root p y (m / D)
root_divided p x y D m h e r =
    let low : (m / D * D) ^ p ≤ m ^ p = pow-le-pow_left (div-mul-le_self m D) p in
    let next : (m / D + 1) * D ≡ m / D * D + D = add-mul (m / D) 1 D ∙ ap (λ (k : ℕ). m / D * D + k) (one-mul D) in
    let under : m + 1 ≤ (m / D + 1) * D = omega (arith, lt-div-mul-add {a = m} {b = D} h) in
    let high : (m + 1) ^ p ≤ ((m / D + 1) * D) ^ p = pow-le-pow_left under p in
    let lows = mul_pow (m / D) D p in
    let highs = mul_pow (m / D + 1) D p in
    let within = r.within in
    let past = r.past in
    record {
      within = le_of_mul-le-mul_right {k = D ^ p} (omega arith) (pow_above D p h);
      past = lt_of_mul-lt-mul_right (D ^ p) (omega arith);
    }
