-- What is read of a body, number by number.
use Rattle.std.proofs.Common.{◌≡◌, ℕ, suc, ◌+◌, ◌-◌, ◌<◌, List, [], ◌∷◌, ◌++◌, length, take, set, Ok, Err, Result, sym, refl, ap, ◌∙◌, append_assoc, arith}
use Rattle.std.proofs.lemmas.List.{take_more_set}
use Rattle.faults.specs.declared.NumberFault.{NumberFault}
use Rattle.faults.specs.declared.RecordFault.{RecordFault}
use Rattle.faults.specs.declared.RecordFault.TheVariants.{Number}
use Rattle.recording.specs.Numbers.{got, fails, number_at}
use Rattle.recording.specs.Records.{put_first, numbers_at}

-- the numbers that were read before
abbrev pub after : List ℕ → Result (List ℕ) RecordFault → Result (List ℕ) RecordFault
after ns (Ok ms) = Ok (ns ++ ms)
after ns (Err fault) = Err fault

after_first : (ns : List ℕ) (n : ℕ) (r : Result (List ℕ) RecordFault) → after ns (put_first n r) ≡ after (ns ++ n ∷ []) r
after_first ns n (Ok ms) = ap Ok (sym (append_assoc ns (n ∷ []) ms))
after_first ns n (Err fault) = refl

module _ (place : ℕ) where
  pub one_more : (k n : ℕ) (bs rest : List ℕ) → got n rest ≡ number_at place bs → put_first n (numbers_at place k rest) ≡ numbers_at place (suc k) bs
  one_more k n bs rest e = ap (λ x. elim x as (λ _. Result (List ℕ) RecordFault) [ got m r ↦ put_first m (numbers_at place k r) | fails d ↦ Err (Number d) ]) e

  pub no_more : (k : ℕ) (bs : List ℕ) (fault : NumberFault) → fails fault ≡ number_at place bs → Err (Number fault) ≡ numbers_at place (suc k) bs
  no_more k bs fault h = ap (λ x. elim x as (λ _. Result (List ℕ) RecordFault) [ got m r ↦ put_first m (numbers_at place k r) | fails d ↦ Err (Number d) ]) h

  pub number_on : (k i n : ℕ) (ns bs rest : List ℕ) → i < length ns → length ns ≡ k → got n rest ≡ number_at place bs → after (take i ns) (numbers_at place (k - i) bs) ≡ after (take (i + 1) (set ns i n)) (numbers_at place (k - (i + 1)) rest)
  number_on k i n ns bs rest h same e =
      let down : k - i ≡ suc (k - (i + 1)) = omega arith in
      ap (λ m. after (take i ns) (numbers_at place m bs)) down ∙
      ap (after (take i ns)) (sym (one_more (k - (i + 1)) n bs rest e)) ∙
      after_first (take i ns) n (numbers_at place (k - (i + 1)) rest) ∙
      ap (λ l. after l (numbers_at place (k - (i + 1)) rest)) (sym (take_more_set ns i n h))

  pub number_off : (k i : ℕ) (fault : NumberFault) (ns bs : List ℕ) → i < k → fails fault ≡ number_at place bs → after (take i ns) (numbers_at place (k - i) bs) ≡ Err (Number fault)
  number_off k i fault ns bs h stop =
      let down : k - i ≡ suc (k - (i + 1)) = omega arith in
      ap (λ m. after (take i ns) (numbers_at place m bs)) down ∙ ap (after (take i ns)) (sym (no_more (k - (i + 1)) bs fault stop))
