-- A number is read exactly where its shortest form stands.
use Rattle.std.proofs.Common.{◌≡◌, ℕ, zero, suc, ◌+◌, ◌-◌, ◌*◌, ◌/◌, ◌%◌, ◌^◌, ◌<◌, ◌≤◌, ◌⊎◌, List, [], ◌∷◌, ◌++◌, length, get_or, sym, refl, ap, ◌∙◌, subst, inl, inr, ⊎_elim, pow-suc, arith}
use Rattle.std.specs.List.{AllByRecursion}
use Rattle.std.proofs.lemmas.Nat.{div-mul-add, mod-mul-add, div_below, div-add-mod'}
use Rattle.std.proofs.lemmas.Bool.{lt-ltb, le-ltb, cases_lt, cases_eq, cond-true, cond-false}
use Rattle.faults.specs.declared.NumberFault.{NumberFault}
use Rattle.faults.specs.Faults.{number_fault_number, truncated_number, malformed_number}
use Rattle.recording.specs.Numbers.{NumberRead, got, fails, join, groups, number_at, shortest_in, BeginsWith, CutNumber, IllFormedNumber, ReadExactly, ReadsBack}
use Rattle.recording.proofs.Groups.{none_above, over, joins}

-- a list of bytes
abbrev pub Bytes : List ℕ → Type 0
Bytes bs = (i : ℕ) → get_or bs i 0 < 256

-- a number and a fault are never one
pub differs : (x : NumberRead) (n : ℕ) (rest : List ℕ) (fault : NumberFault) → x ≡ fails fault → x ≡ got n rest → ⊥
differs x n rest fault p q = cc

pub one_group : (k n : ℕ) → n < 128 → shortest_in (suc k) n ≡ n ∷ []
one_group k n h = cond-true _ _ _ (lt-ltb n 128 h)

more_groups : (k high low : ℕ) → (high ≡ 0 → ⊥) → low < 128 → shortest_in (suc k) (high * 128 + low) ≡ (low + 128) ∷ shortest_in k high
more_groups k high low some h =
    cond-false _ _ _ (le-ltb (high * 128 + low) 128 (omega arith)) ∙
    rw (div-mul-add high 128 low h, mod-mul-add high 128 low h)

module _ (place : ℕ) where
  apart : fails (malformed_number place) ≡ fails (truncated_number place) → ⊥
  apart p = let e : malformed_number place ≡ truncated_number place = cc in omega (arith, ap number_fault_number e)

  -- where a number comes out, the groups above the lowest hold one
  join_got : (low : ℕ) (x : NumberRead) (n : ℕ) (rest : List ℕ) → join place low x ≡ got n rest → (high : ℕ) × (x ≡ got high rest) × (high ≡ 0 → ⊥) × (high * 128 + low ≡ n) × (n < 2 ^ 32)
  join_got low (fails fault) n rest h = absurd (differs _ n rest fault refl h)
  join_got low (got high above) n rest h =
      ⊎_elim
      (λ z. absurd (differs _ n rest (malformed_number place) (none_above place low high above z) h))
      (λ some.
      ⊎_elim
      (λ large. absurd (differs _ n rest (malformed_number place) (over place low high above large) h))
      (λ small. let e = sym (joins place low high above some small) ∙ h in (high, cc, some, cc, let m : high * 128 + low ≡ n = cc in omega arith))
      (cases_lt 4294967295 (high * 128 + low)))
      (cases_eq high 0)

  join_cut : (low : ℕ) (x : NumberRead) → join place low x ≡ fails (truncated_number place) → x ≡ fails (truncated_number place)
  join_cut low (fails fault) h = h
  join_cut low (got high above) h =
      ⊎_elim
      (λ z. absurd (apart (sym (none_above place low high above z) ∙ h)))
      (λ some.
      ⊎_elim
      (λ large. absurd (apart (sym (over place low high above large) ∙ h)))
      (λ small. absurd (differs _ _ _ (truncated_number place) h (joins place low high above some small)))
      (cases_lt 4294967295 (high * 128 + low)))
      (cases_eq high 0)

  got_stands : (k : ℕ) (bs : List ℕ) → Bytes bs → (n : ℕ) (rest : List ℕ) → groups place k bs ≡ got n rest → (n < 2 ^ 32) × (bs ≡ shortest_in k n ++ rest)
  got_stands zero bs byte n rest h = absurd (differs _ n rest (malformed_number place) refl h)
  got_stands (suc k) [] byte n rest h = absurd (differs _ n rest (truncated_number place) refl h)
  got_stands (suc k) (b ∷ bs) byte n rest h =
      ⊎_elim
      (λ low.
      let e = sym (cond-true _ _ _ (lt-ltb b 128 low)) ∙ h in
      let same : b ≡ n = cc in
      let front : b ∷ bs ≡ n ∷ rest = cc in
      (omega arith, front ∙ ap (λ l. l ++ rest) (sym (one_group k n (omega arith)))))
      (λ high.
      let j = join_got (b - 128) (groups place k bs) n rest (sym (cond-false _ _ _ (le-ltb b 128 high)) ∙ h) in
      let tail = (got_stands k bs (λ i. byte (suc i)) j.0 rest j.1).1 in
      let first : b - 128 + 128 ≡ b = omega arith in
      let front : b ∷ bs ≡ (b - 128 + 128) ∷ (shortest_in k j.0 ++ rest) = cc in
      (j.4, front ∙ ap (λ l. l ++ rest) (sym (more_groups k j.0 (b - 128) j.2 (omega (arith, byte 0)))) ∙ ap (λ m. shortest_in (suc k) m ++ rest) j.3))
      (cases_lt b 128)

  stands_got : (k n : ℕ) (rest : List ℕ) → n < 128 ^ suc k → n < 2 ^ 32 → groups place (suc k) (shortest_in (suc k) n ++ rest) ≡ got n rest
  stands_got zero n rest fits low = ap (λ l. groups place 1 (l ++ rest)) (one_group 0 n fits) ∙ cond-true _ _ _ (lt-ltb n 128 fits)
  stands_got (suc k) n rest fits low =
      ⊎_elim
      (λ one. ap (λ l. groups place (suc (suc k)) (l ++ rest)) (one_group (suc k) n one) ∙ cond-true _ _ _ (lt-ltb n 128 one))
      (λ more.
      let parts = div-add-mod' n 128 in
      let some : n / 128 ≡ 0 → ⊥ = λ z. omega arith in
      let down : n / 128 < 128 ^ suc k = div_below n 128 (128 ^ suc k) (omega arith) (omega (arith, pow-suc 128 (suc k))) in
      let r : n % 128 + 128 - 128 ≡ n % 128 = omega arith in
      ap (λ m. groups place (suc (suc k)) (shortest_in (suc (suc k)) m ++ rest)) (sym parts) ∙
      ap (λ l. groups place (suc (suc k)) (l ++ rest)) (more_groups (suc k) (n / 128) (n % 128) some (omega arith)) ∙
      cond-false _ _ _ (le-ltb (n % 128 + 128) 128 (omega arith)) ∙
      ap (λ x. join place x (groups place (suc k) (shortest_in (suc k) (n / 128) ++ rest))) r ∙
      ap (join place (n % 128)) (stands_got k (n / 128) rest down (omega arith)) ∙
      joins place (n % 128) (n / 128) rest some (omega arith) ∙
      ap (λ m. got m rest) parts)
      (cases_lt n 128)

  cut_only : (k : ℕ) (bs : List ℕ) → groups place k bs ≡ fails (truncated_number place) → (length bs < k) × AllByRecursion (λ b. 128 ≤ b) bs
  cut_only zero bs h = absurd (apart h)
  cut_only (suc k) [] h = (omega arith, tt)
  cut_only (suc k) (b ∷ bs) h =
      ⊎_elim
      (λ low. absurd (differs _ b bs (truncated_number place) h (cond-true _ _ _ (lt-ltb b 128 low))))
      (λ high.
      let tail = cut_only k bs (join_cut (b - 128) (groups place k bs) (sym (cond-false _ _ _ (le-ltb b 128 high)) ∙ h)) in
      (omega (arith, tail.0), (high, tail.1)))
      (cases_lt b 128)

  cut_always : (k : ℕ) (bs : List ℕ) → length bs < k → AllByRecursion (λ b. 128 ≤ b) bs → groups place k bs ≡ fails (truncated_number place)
  cut_always zero bs short tops = absurd (omega arith)
  cut_always (suc k) [] short tops = refl
  cut_always (suc k) (b ∷ bs) short tops = cond-false _ _ _ (le-ltb b 128 tops.0) ∙ ap (join place (b - 128)) (cut_always k bs (omega arith) tops.1)

  -- only these two faults come out
  abbrev OneOfTwo : NumberFault → Type 0
  OneOfTwo fault = (fault ≡ truncated_number place) ⊎ (fault ≡ malformed_number place)

  join_fault : (low : ℕ) (x : NumberRead) (fault : NumberFault) → (x ≡ fails fault → OneOfTwo fault) → join place low x ≡ fails fault → OneOfTwo fault
  join_fault low (fails e) fault above h = above h
  join_fault low (got high rest) fault above h =
      ⊎_elim
      (λ z. let e = sym (none_above place low high rest z) ∙ h in inr (cc))
      (λ some.
      ⊎_elim
      (λ large. let e = sym (over place low high rest large) ∙ h in inr (cc))
      (λ small. absurd (differs _ _ _ fault h (joins place low high rest some small)))
      (cases_lt 4294967295 (high * 128 + low)))
      (cases_eq high 0)

  one_of_two : (k : ℕ) (bs : List ℕ) (fault : NumberFault) → groups place k bs ≡ fails fault → OneOfTwo fault
  one_of_two zero bs fault h = inr (cc)
  one_of_two (suc k) [] fault h = inl (cc)
  one_of_two (suc k) (b ∷ bs) fault h =
      ⊎_elim
      (λ low. absurd (differs _ b bs fault h (cond-true _ _ _ (lt-ltb b 128 low))))
      (λ high. join_fault (b - 128) (groups place k bs) fault (one_of_two k bs fault) (sym (cond-false _ _ _ (le-ltb b 128 high)) ∙ h))
      (cases_lt b 128)

  pub reads_back : ReadsBack place
  reads_back n rest low = stands_got 4 n rest (omega arith) low

  pub reads_there : (n : ℕ) (rest bs : List ℕ) → BeginsWith n rest bs → number_at place bs ≡ got n rest
  reads_there n rest bs b = ap (number_at place) b.1 ∙ reads_back n rest b.0

  no_number : (bs : List ℕ) → number_at place bs ≡ fails (malformed_number place) → IllFormedNumber bs
  no_number bs e = (λ c. apart (sym e ∙ cut_always 5 bs c.0 c.1), λ n rest b. differs _ n rest (malformed_number place) e (reads_there n rest bs b))

  -- each answer with its condition
  pub data NumberView (bs : List ℕ) : NumberRead → Type 0 where
    begins : (n : ℕ) (rest : List ℕ) → BeginsWith n rest bs → NumberView bs (got n rest)
    cut : CutNumber bs → NumberView bs (fails (truncated_number place))
    none : IllFormedNumber bs → NumberView bs (fails (malformed_number place))

  view_of : (bs : List ℕ) → Bytes bs → (x : NumberRead) → number_at place bs ≡ x → NumberView bs x
  view_of bs byte (got n rest) e = begins n rest (got_stands 5 bs byte n rest e)
  view_of bs byte (fails fault) e =
      ⊎_elim
      (λ is. subst (λ f. NumberView bs (fails f)) (sym is) (cut (cut_only 5 bs (e ∙ ap fails is))))
      (λ is. subst (λ f. NumberView bs (fails f)) (sym is) (none (no_number bs (e ∙ ap fails is))))
      (one_of_two 5 bs fault e)

  pub number_view : (bs : List ℕ) → Bytes bs → NumberView bs (number_at place bs)
  number_view bs byte = view_of bs byte (number_at place bs) refl

  neither : (bs : List ℕ) → IllFormedNumber bs → {x : NumberRead} → NumberView bs x → x ≡ fails (malformed_number place)
  neither bs not (begins n rest b) = absurd (not.1 n rest b)
  neither bs not (cut c) = absurd (not.0 c)
  neither bs not (none _) = refl

  pub cut_fails : (bs : List ℕ) → CutNumber bs → number_at place bs ≡ fails (truncated_number place)
  cut_fails bs c = cut_always 5 bs c.0 c.1

  pub none_fails : (bs : List ℕ) → Bytes bs → IllFormedNumber bs → number_at place bs ≡ fails (malformed_number place)
  none_fails bs byte not = neither bs not (number_view bs byte)

  pub read_exactly : (bs : List ℕ) → Bytes bs → ReadExactly place bs (number_at place bs)
  read_exactly bs byte = record {
    read_where_shortest = λ n rest. record { only = got_stands 5 bs byte n rest; always = reads_there n rest bs };
    cut_number = record { only = cut_only 5 bs; always = cut_fails bs };
    no_number = record { only = no_number bs; always = none_fails bs byte };
  }

-- what is read there is what the bytes have
pub exactly_read : (place : ℕ) (bs : List ℕ) → Bytes bs → (r : NumberRead) → r ≡ number_at place bs → ReadExactly place bs r
exactly_read place bs byte r e = subst (ReadExactly place bs) (sym e) (read_exactly place bs byte)
