-- The shortest form of a number is the shortest of its forms.
use Rattle.std.proofs.Common.{◌≡◌, ℕ, zero, suc, ◌+◌, ◌/◌, ◌%◌, ◌^◌, ◌<◌, ◌≤◌, List, [], ◌∷◌, length, sym, ap, ◌∙◌, subst, ⊎_elim, pow-suc, arith}
use Rattle.std.proofs.lemmas.Nat.{div_below}
use Rattle.std.proofs.lemmas.Bool.{le-ltb, cases_lt, cond-false}
use Rattle.recording.specs.Numbers.{shortest_in, Form, worth, ShortestNumber}
use Rattle.recording.proofs.NumberLaws.{one_group}

longer : (b : ℕ) (form : List ℕ) → 128 ≤ b → b < 256 → Form form → Form (b ∷ form)
longer b [] low high f = absurd f
longer b (c ∷ form) low high f = (low, high, f)

-- the groups above the lowest
above : (k n : ℕ) → 128 ≤ n → shortest_in (suc k) n ≡ (n % 128 + 128) ∷ shortest_in k (n / 128)
above k n h = cond-false _ _ _ (le-ltb n 128 h)

down : (k n : ℕ) → n < 128 ^ suc (suc k) → n / 128 < 128 ^ suc k
down k n fits = div_below n 128 (128 ^ suc k) (omega arith) (omega (arith, pow-suc 128 (suc k)))

is_form : (k n : ℕ) → n < 128 ^ suc k → Form (shortest_in (suc k) n)
is_form zero n fits = subst Form (sym (one_group 0 n fits)) fits
is_form (suc k) n fits =
    ⊎_elim
    (λ one. subst Form (sym (one_group (suc k) n one)) one)
    (λ more. subst Form (sym (above (suc k) n more)) (longer (n % 128 + 128) _ (omega arith) (omega arith) (is_form k (n / 128) (down k n fits))))
    (cases_lt n 128)

one_worth : (n : ℕ) → n < 128 → worth (n ∷ []) ≡ n
one_worth n h = omega arith

comes_to : (k n : ℕ) → n < 128 ^ suc k → worth (shortest_in (suc k) n) ≡ n
comes_to zero n fits = ap worth (one_group 0 n fits) ∙ one_worth n fits
comes_to (suc k) n fits =
    ⊎_elim
    (λ one. ap worth (one_group (suc k) n one) ∙ one_worth n one)
    (λ more. let rest = comes_to k (n / 128) (down k n fits) in ap worth (above (suc k) n more) ∙ omega arith)
    (cases_lt n 128)

at_most : (k n : ℕ) → length (shortest_in k n) ≤ k
at_most zero n = omega arith
at_most (suc k) n =
    ⊎_elim
    (λ one. let e = ap length (one_group k n one) in omega arith)
    (λ more. let e = ap length (above k n more) in omega (arith, at_most k (n / 128)))
    (cases_lt n 128)

-- the groups above the lowest of another form come to as much
others : (b n : ℕ) (form : List ℕ) → worth (b ∷ form) ≡ n → worth form ≡ n / 128
others b n form e = omega arith

none_shorter : (k n : ℕ) → n < 128 ^ suc k → (other : List ℕ) → Form other → worth other ≡ n → length (shortest_in (suc k) n) ≤ length other
none_shorter k n fits [] f e = absurd f
none_shorter k n fits (b ∷ []) f e = let one : n < 128 = omega arith in omega (arith, ap length (one_group k n one))
none_shorter zero n fits (b ∷ c ∷ form) f e = omega (arith, at_most 1 n)
none_shorter (suc k) n fits (b ∷ c ∷ form) f e =
    ⊎_elim
    (λ one. omega (arith, ap length (one_group (suc k) n one)))
    (λ more. omega (arith, ap length (above (suc k) n more), none_shorter k (n / 128) (down k n fits) (c ∷ form) f.2 (others b n (c ∷ form) e)))
    (cases_lt n 128)

no_other : (k n : ℕ) → n < 128 ^ suc k → (other : List ℕ) → Form other → worth other ≡ n → length other ≡ length (shortest_in (suc k) n) → other ≡ shortest_in (suc k) n
no_other k n fits [] f e same = absurd f
no_other k n fits (b ∷ []) f e same =
    let one : n < 128 = omega arith in
    let is : b ≡ n = omega arith in
    ap (λ x. x ∷ []) is ∙ sym (one_group k n one)
no_other zero n fits (b ∷ c ∷ form) f e same = absurd (omega (arith, at_most 1 n))
no_other (suc k) n fits (b ∷ c ∷ form) f e same =
    ⊎_elim
    (λ one. absurd (omega (arith, ap length (one_group (suc k) n one))))
    (λ more.
    let long = ap length (above (suc k) n more) in
    let rest = no_other k (n / 128) (down k n fits) (c ∷ form) f.2 (others b n (c ∷ form) e) (omega arith) in
    let first : b ≡ n % 128 + 128 = omega (arith, f.0, f.1) in
    ap (λ x. x ∷ c ∷ form) first ∙ ap (λ l. (n % 128 + 128) ∷ l) rest ∙ sym (above (suc k) n more))
    (cases_lt n 128)

pub shortest_number : ShortestNumber
shortest_number n low =
    let fits : n < 128 ^ 5 = omega arith in
    record { is_form = is_form 4 n fits; comes_to = comes_to 4 n fits; five_bytes = at_most 5 n; none_shorter = none_shorter 4 n fits; no_other = no_other 4 n fits }
