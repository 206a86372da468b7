-- Each answer on a body, with its condition on the body's bytes.
use Rattle.std.proofs.Common.{◌≡◌, ℕ, zero, suc, ◌<◌, Bool, true, false, ◌&&◌, leb, ◌⊎◌, List, [], ◌∷◌, ◌++◌, length, Some, None, Ok, Err, Option, Result, sym, refl, ap, ◌∙◌, subst, inl, inr, ⊎_elim, append_assoc, append-nil, arith}
use Rattle.std.specs.List.{flat_map, AllByRecursion}
use Rattle.std.proofs.lemmas.Bool.{lt-leb, cases_lt, cond-true, cond-false}
use Rattle.std.proofs.lemmas.Bool.Decides.{nat_tests}
use Rattle.faults.specs.declared.NumberFault.{NumberFault}
use Rattle.faults.specs.declared.RecordFault.{RecordFault}
use Rattle.faults.specs.declared.RecordFault.TheVariants.{Number}
use Rattle.recording.specs.declared.kinds.RecordKind.{RecordKind}
use Rattle.recording.specs.declared.kinds.RecordKind.TheVariants.{Note}
use Rattle.faults.specs.Faults.{truncated, malformed, bad_body}
use Rattle.recording.specs.Numbers.{NumberRead, got, fails, number_at, shortest, BeginsWith, CutNumber, IllFormedNumber}
use Rattle.recording.specs.Kinds.{letter_of, numbers_of, kind_with}
use Rattle.recording.specs.Contents.{Content, numbered, noted, Below32, Printable, InForm, body_bytes}
use Rattle.recording.specs.Conditions.{NumberDue, LeftOver, UnknownLetter, NotText, Unfit}
use Rattle.recording.specs.Records.{put_first, numbers_at, is_printable, text_at, with_numbers, after_letter, of_kind, body_at}
use Rattle.recording.proofs.NumberLaws.{Bytes, NumberView, begins, cut, none, number_view, reads_back}
use Rattle.recording.proofs.KindLaws.{by_letter, letter_is, no_kind, only_note}
use Rattle.recording.proofs.Bodies.{one_more, no_more}

pub bytes_after : (xs bs : List ℕ) → Bytes (xs ++ bs) → Bytes bs
bytes_after [] bs f = f
bytes_after (x ∷ xs) bs f = bytes_after xs bs (λ i. f (suc i))

pub bytes_before : (xs bs : List ℕ) → Bytes (xs ++ bs) → Bytes xs
bytes_before [] bs f i = omega arith
bytes_before (x ∷ xs) bs f zero = f 0
bytes_before (x ∷ xs) bs f (suc i) = bytes_before xs bs (λ j. f (suc j)) i

-- a text is printable, or has a first byte that is not
pub record Blemish (text : List ℕ) : Type 0 where
  pub before : List ℕ
  pub byte : ℕ
  pub after : List ℕ
  pub parts : text ≡ before ++ byte ∷ after
  pub outside : (byte < 0x20) ⊎ (0x7E < byte)

pub data TextView (text : List ℕ) : Bool → Type 0 where
  clean : AllByRecursion Printable text → TextView text true
  spoilt : Blemish text → TextView text false

here : (b : ℕ) (text : List ℕ) → ((b < 0x20) ⊎ (0x7E < b)) → (t : Bool) → (leb 0x20 b && leb b 0x7E) ≡ false → TextView (b ∷ text) ((leb 0x20 b && leb b 0x7E) && t)
here b text out t e = subst (λ x. TextView (b ∷ text) (x && t)) (sym e) (spoilt (record { before = []; byte = b; after = text; parts = refl; outside = out }))

further : (b : ℕ) (text : List ℕ) → Printable b → {t : Bool} → TextView text t → TextView (b ∷ text) t
further b text fine (clean a) = clean (fine, a)
further b text fine (spoilt s) = spoilt (record { before = b ∷ s.before; byte = s.byte; after = s.after; parts = ap (λ l. b ∷ l) s.parts; outside = s.outside })

pub text_view : (text : List ℕ) → TextView text (is_printable text)
text_view [] = clean tt
text_view (b ∷ text) =
    ⊎_elim
    (λ low. here b text (inl low) (is_printable text) (let l = lt-leb 0x20 b low in grind (arith, nat_tests)))
    (λ from.
    ⊎_elim
    (λ high. here b text (inr high) (is_printable text) (let l = lt-leb b 0x7E high in grind (arith, nat_tests)))
    (λ to.
    let e : (leb 0x20 b && leb b 0x7E) ≡ true = grind (arith, nat_tests) in
    subst (λ x. TextView (b ∷ text) (x && is_printable text)) (sym e) (further b text (from, to) (text_view text)))
    (cases_lt 0x7E b))
    (cases_lt b 0x20)

text_clean : (text : List ℕ) → AllByRecursion Printable text → is_printable text ≡ true
text_clean [] a = refl
text_clean (b ∷ text) a = let l = a.0.0 in let h = a.0.1 in let t = text_clean text a.1 in grind (arith, nat_tests)

text_spoilt : (before : List ℕ) (byte : ℕ) (after : List ℕ) → ((byte < 0x20) ⊎ (0x7E < byte)) → is_printable (before ++ byte ∷ after) ≡ false
text_spoilt [] byte after out = ⊎_elim (λ low. grind (arith, nat_tests)) (λ high. grind (arith, nat_tests)) out
text_spoilt (b ∷ before) byte after out = let t = text_spoilt before byte after out in grind (arith, nat_tests)

module _ (place : ℕ) where
  -- some numbers in their shortest forms, and a tail
  pub record Spelt (bs ns tail : List ℕ) : Type 0 where
    pub below : AllByRecursion Below32 ns
    pub parts : bs ≡ flat_map shortest ns ++ tail

  pub data NumbersView (k : ℕ) (bs : List ℕ) : Result (List ℕ) RecordFault → Type 0 where
    all : (ns : List ℕ) → length ns ≡ k → Spelt bs ns [] → NumbersView k bs (Ok ns)
    ends : (ns tail : List ℕ) → length ns < k → Spelt bs ns tail → CutNumber tail → NumbersView k bs (Err (truncated place))
    fails_at : (ns tail : List ℕ) → length ns < k → Spelt bs ns tail → IllFormedNumber tail → NumbersView k bs (Err (malformed place))
    left : (ns tail : List ℕ) → length ns ≡ k → Spelt bs ns tail → 0 < length tail → NumbersView k bs (Err (bad_body place))

  first_spelt : (n : ℕ) (bs rest ns tail : List ℕ) → BeginsWith n rest bs → Spelt rest ns tail → Spelt bs (n ∷ ns) tail
  first_spelt n bs rest ns tail b s = record { below = (b.0, s.below); parts = b.1 ∙ ap (λ l. shortest n ++ l) s.parts ∙ sym (append_assoc (shortest n) (flat_map shortest ns) tail) }

  first_view : (k n : ℕ) (bs rest : List ℕ) → BeginsWith n rest bs → {r : Result (List ℕ) RecordFault} → NumbersView k rest r → NumbersView (suc k) bs (put_first n r)
  first_view k n bs rest b (all ns e s) = all (n ∷ ns) (ap suc e) (first_spelt n bs rest ns [] b s)
  first_view k n bs rest b (ends ns tail e s c) = ends (n ∷ ns) tail (omega arith) (first_spelt n bs rest ns tail b s) c
  first_view k n bs rest b (fails_at ns tail e s c) = fails_at (n ∷ ns) tail (omega arith) (first_spelt n bs rest ns tail b s) c
  first_view k n bs rest b (left ns tail e s c) = left (n ∷ ns) tail (ap suc e) (first_spelt n bs rest ns tail b s) c

  nothing_spelt : (bs : List ℕ) → Spelt bs [] bs
  nothing_spelt bs = record { below = tt; parts = refl }

  -- what is read of k + 1 numbers, by what is read of the first
  abbrev then_numbers : ℕ → NumberRead → Result (List ℕ) RecordFault
  then_numbers k (got n rest) = put_first n (numbers_at place k rest)
  then_numbers k (fails fault) = Err (Number fault)

  one_then : (k : ℕ) (bs : List ℕ) → ((rest : List ℕ) → Bytes rest → NumbersView k rest (numbers_at place k rest)) → Bytes bs → {x : NumberRead} → NumberView place bs x → NumbersView (suc k) bs (then_numbers k x)
  one_then k bs later byte (begins n rest b) = first_view k n bs rest b (later rest (bytes_after (shortest n) rest (subst Bytes b.1 byte)))
  one_then k bs later byte (cut c) = ends [] bs (omega arith) (nothing_spelt bs) c
  one_then k bs later byte (none c) = fails_at [] bs (omega arith) (nothing_spelt bs) c

  same_steps : (k : ℕ) (x : NumberRead) → ◌≡◌ {A = Result (List ℕ) RecordFault} (then_numbers k x) (elim x [ got n rest ↦ put_first n (numbers_at place k rest) | fails fault ↦ Err (Number fault) ])
  same_steps k (got n rest) = refl
  same_steps k (fails fault) = refl

  pub numbers_view : (k : ℕ) (bs : List ℕ) → Bytes bs → NumbersView k bs (numbers_at place k bs)
  numbers_view zero [] byte = all [] refl (nothing_spelt [])
  numbers_view zero (b ∷ bs) byte = left [] (b ∷ bs) refl (nothing_spelt (b ∷ bs)) (omega arith)
  numbers_view (suc k) bs byte = subst (NumbersView (suc k) bs) (same_steps k (number_at place bs)) (one_then k bs (numbers_view k) byte (number_view place bs byte))

  -- the conditions give the answers
  pub numbers_all : (ns : List ℕ) → AllByRecursion Below32 ns → numbers_at place (length ns) (flat_map shortest ns) ≡ Ok ns
  numbers_all [] a = refl
  numbers_all (n ∷ ns) a =
      sym (one_more place (length ns) n (flat_map shortest (n ∷ ns)) (flat_map shortest ns) (sym (reads_back place n (flat_map shortest ns) a.0))) ∙
      ap (put_first n) (numbers_all ns a.1)

  first_one : (k n : ℕ) (ns tail : List ℕ) (fault : RecordFault) → Below32 n → numbers_at place k (flat_map shortest ns ++ tail) ≡ Err fault → numbers_at place (suc k) (flat_map shortest (n ∷ ns) ++ tail) ≡ Err fault
  first_one k n ns tail fault low e =
      let bs = flat_map shortest ns ++ tail in
      ap (numbers_at place (suc k)) (append_assoc (shortest n) (flat_map shortest ns) tail) ∙
      sym (one_more place k n (shortest n ++ bs) bs (sym (reads_back place n bs low))) ∙
      ap (put_first n) e

  pub numbers_stop : (k : ℕ) (ns tail : List ℕ) (fault : NumberFault) → length ns < k → AllByRecursion Below32 ns → number_at place tail ≡ fails fault → numbers_at place k (flat_map shortest ns ++ tail) ≡ Err (Number fault)
  numbers_stop zero ns tail fault few a e = absurd (omega arith)
  numbers_stop (suc k) [] tail fault few a e = sym (no_more place k tail fault (sym e))
  numbers_stop (suc k) (n ∷ ns) tail fault few a e = first_one k n ns tail (Number fault) a.0 (numbers_stop k ns tail fault (omega arith) a.1 e)

  pub numbers_left : (ns tail : List ℕ) → AllByRecursion Below32 ns → 0 < length tail → numbers_at place (length ns) (flat_map shortest ns ++ tail) ≡ Err (bad_body place)
  numbers_left [] [] a some = absurd (omega arith)
  numbers_left [] (t ∷ tail) a some = refl
  numbers_left (n ∷ ns) tail a some = first_one (length ns) n ns tail (bad_body place) a.0 (numbers_left ns tail a.1 some)

  -- a body
  pub data BodyView (body : List ℕ) : Result Content RecordFault → Type 0 where
    says : (c : Content) → InForm c → body ≡ body_bytes c → BodyView body (Ok c)
    ends : NumberDue CutNumber body → BodyView body (Err (truncated place))
    fails_at : NumberDue IllFormedNumber body → BodyView body (Err (malformed place))
    bad : Unfit body → BodyView body (Err (bad_body place))

  numbered_view : (kind : RecordKind) (count : ℕ) (bs : List ℕ) → numbers_of kind ≡ Some count → {r : Result (List ℕ) RecordFault} → NumbersView count bs r → BodyView (letter_of kind ∷ bs) (with_numbers kind r)
  numbered_view kind count bs calls (all ns e s) =
      says (numbered kind ns) (calls ∙ ap Some (sym e), s.below) (ap (λ l. letter_of kind ∷ l) (s.parts ∙ append-nil (flat_map shortest ns)))
  numbered_view kind count bs calls (ends ns tail few s c) =
      ends (record { kind = kind; count = count; ns = ns; tail = tail; cut = record { calls = calls; below = s.below; parts = ap (λ l. letter_of kind ∷ l) s.parts }; fewer = few; there = c })
  numbered_view kind count bs calls (fails_at ns tail few s c) =
      fails_at (record { kind = kind; count = count; ns = ns; tail = tail; cut = record { calls = calls; below = s.below; parts = ap (λ l. letter_of kind ∷ l) s.parts }; fewer = few; there = c })
  numbered_view kind count bs calls (left ns tail e s some) =
      bad (inr (inr (inl (record { kind = kind; ns = ns; tail = tail; cut = record { calls = calls ∙ ap Some (sym e); below = s.below; parts = ap (λ l. letter_of kind ∷ l) s.parts }; left = some }))))

  note_view : (bs : List ℕ) (t : Bool) → is_printable bs ≡ t → TextView bs t → BodyView (letter_of Note ∷ bs) (text_at place bs)
  note_view bs true e (clean a) = subst (BodyView (letter_of Note ∷ bs)) (sym (cond-true _ _ _ e)) (says (noted bs) a refl)
  note_view bs false e (spoilt s) =
      subst (BodyView (letter_of Note ∷ bs)) (sym (cond-false _ _ _ e)) (
      bad (inr (inr (inr (record { before = s.before; byte = s.byte; after = s.after; parts = ap (λ l. letter_of Note ∷ l) s.parts; outside = s.outside })))))

  letter_view : (kind : RecordKind) (bs : List ℕ) → Bytes bs → (calls : Option ℕ) → numbers_of kind ≡ calls → BodyView (letter_of kind ∷ bs) (after_letter place kind calls bs)
  letter_view kind bs byte (Some count) e = numbered_view kind count bs e (numbers_view count bs byte)
  letter_view kind bs byte None e = subst (λ k. BodyView (letter_of k ∷ bs) (text_at place bs)) (sym (only_note kind e)) (note_view bs (is_printable bs) refl (text_view bs))

  kind_view : (letter : ℕ) (bs : List ℕ) → Bytes bs → (found : Option RecordKind) → kind_with letter ≡ found → BodyView (letter ∷ bs) (of_kind place found bs)
  kind_view letter bs byte (Some kind) e = subst (λ l. BodyView (l ∷ bs) (after_letter place kind (numbers_of kind) bs)) (sym (letter_is letter kind e)) (letter_view kind bs byte (numbers_of kind) refl)
  kind_view letter bs byte None e =
      bad (inr (inl (record { letter = letter; tail = bs; parts = refl; unknown = λ kind is. (let k = sym e ∙ ap kind_with is ∙ by_letter kind in cc) })))

  pub body_view : (body : List ℕ) → Bytes body → BodyView body (body_at place body)
  body_view [] byte = bad (inl refl)
  body_view (letter ∷ bs) byte = kind_view letter bs (λ i. byte (suc i)) (kind_with letter) refl

  -- the conditions give the answers
  counted : (kind : RecordKind) (count : ℕ) (bs : List ℕ) → numbers_of kind ≡ Some count → body_at place (letter_of kind ∷ bs) ≡ with_numbers kind (numbers_at place count bs)
  counted kind count bs calls = ap (λ k. of_kind place k bs) (by_letter kind) ∙ ap (λ o. after_letter place kind o bs) calls

  pub body_says : (c : Content) → InForm c → body_at place (body_bytes c) ≡ Ok c
  body_says (noted text) a = cond-true _ _ _ (text_clean text a)
  body_says (numbered kind ns) a = counted kind (length ns) (flat_map shortest ns) a.0 ∙ ap (with_numbers kind) (numbers_all ns a.1)

  pub body_stops : (P : List ℕ → Type 0) (body : List ℕ) (fault : NumberFault) → (w : NumberDue P body) → number_at place w.tail ≡ fails fault → body_at place body ≡ Err (Number fault)
  body_stops P body fault w e =
      ap (body_at place) w.cut.parts ∙
      counted w.kind w.count (flat_map shortest w.ns ++ w.tail) w.cut.calls ∙
      ap (with_numbers w.kind) (numbers_stop w.count w.ns w.tail fault w.fewer w.cut.below e)

  left_over : (body : List ℕ) → LeftOver body → body_at place body ≡ Err (bad_body place)
  left_over body w =
      ap (body_at place) w.cut.parts ∙
      counted w.kind (length w.ns) (flat_map shortest w.ns ++ w.tail) w.cut.calls ∙
      ap (with_numbers w.kind) (numbers_left w.ns w.tail w.cut.below w.left)

  unknown_letter : (body : List ℕ) → UnknownLetter body → body_at place body ≡ Err (bad_body place)
  unknown_letter body w = ap (body_at place) w.parts ∙ ap (λ k. of_kind place k w.tail) (no_kind w.letter w.unknown (kind_with w.letter) refl)

  not_text : (body : List ℕ) → NotText body → body_at place body ≡ Err (bad_body place)
  not_text body w = ap (body_at place) w.parts ∙ cond-false _ _ _ (text_spoilt w.before w.byte w.after w.outside)

  pub body_bad : (body : List ℕ) → Unfit body → body_at place body ≡ Err (bad_body place)
  body_bad body (inl empty) = ap (body_at place) empty
  body_bad body (inr (inl w)) = unknown_letter body w
  body_bad body (inr (inr (inl w))) = left_over body w
  body_bad body (inr (inr (inr w))) = not_text body w
