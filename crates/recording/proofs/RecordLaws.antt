-- Each answer on a record, with its condition on the bytes.
use Rattle.std.proofs.Common.{◌≡◌, ℕ, ◌^◌, ◌<◌, ◌≤◌, List, ◌∷◌, ◌++◌, length, take, drop, Err, Result, sym, refl, ap, ◌∙◌, subst, inl, inr, ⊎_elim, append_assoc, arith, length-append, take-append-drop}
use Rattle.std.specs.List.{flat_map}
use Rattle.std.proofs.lemmas.List.{take_at, drop_at, length-take-le}
use Rattle.std.proofs.lemmas.Bool.{lt-ltb, le-ltb, cases_lt, cond-true, cond-false}
use Rattle.faults.specs.declared.RecordFault.{RecordFault}
use Rattle.faults.specs.Faults.{fault_number, truncated_number, malformed_number, truncated, malformed, bad_body, EndsRun}
use Rattle.recording.specs.Numbers.{NumberRead, shortest, IllFormedNumber}
use Rattle.recording.specs.Kinds.{letter_of}
use Rattle.recording.specs.Contents.{Content, body_bytes}
use Rattle.recording.specs.Conditions.{Stands, HasBody, InBody, NumberDue, EndsEarly, IllFormed, UnfitBody}
use Rattle.recording.specs.Records.{RecordOutcome, whole, refused, RecordExactly, followed, body_at, after_length, record_at}
use Rattle.recording.proofs.NumberLaws.{Bytes, NumberView, begins, cut, none, number_view, reads_there, cut_fails, none_fails}
use Rattle.recording.proofs.BodyLaws.{bytes_after, bytes_before, BodyView, says, ends, fails_at, bad, body_view, body_says, body_stops, body_bad}

module _ (place : ℕ) where
  pub data RecordView (bs : List ℕ) : RecordOutcome → Type 0 where
    reads : (c : Content) (rest : List ℕ) → Stands c rest bs → RecordView bs (whole c rest)
    cut_short : EndsEarly bs → RecordView bs (refused (truncated place))
    no_number : IllFormed bs → RecordView bs (refused (malformed place))
    bad_form : UnfitBody bs → RecordView bs (refused (bad_body place))

  in_body : (bs body rest : List ℕ) → HasBody bs body → (h : bs ≡ shortest (length body) ++ (body ++ rest)) → {r : Result Content RecordFault} → BodyView place body r → length body < 2 ^ 32 → RecordView bs (followed r rest)
  in_body bs body rest has h (says c form is) size =
      let long : length body ≡ length (body_bytes c) = ap length is in
      reads c rest ((form, omega (arith, long)), h ∙ ap (λ b. shortest (length b) ++ (b ++ rest)) is ∙ sym (append_assoc (shortest (length (body_bytes c))) (body_bytes c) rest))
  in_body bs body rest has h (ends w) size = cut_short (inr (inr (record { body = body; has = has; holds = w })))
  in_body bs body rest has h (fails_at w) size = no_number (inr (record { body = body; has = has; holds = w }))
  in_body bs body rest has h (bad w) size = bad_form (record { body = body; has = has; holds = w })

  length_view : (bs : List ℕ) → Bytes bs → {x : NumberRead} → NumberView place bs x → RecordView bs (after_length place x)
  length_view bs byte (cut c) = cut_short (inl c)
  length_view bs byte (none c) = no_number (inl c)
  length_view bs byte (begins n left b) =
      ⊎_elim
      (λ short. subst (RecordView bs) (sym (cond-true _ _ _ (lt-ltb (length left) n short))) (cut_short (inr (inl (record { size = n; rest = left; begins = b; short = short })))))
      (λ fits.
      let body = take n left in
      let rest = drop n left in
      let back = take-append-drop n left in
      let long : length body ≡ n = length-take-le n left fits in
      let size : length body < 2 ^ 32 = omega (arith, b.0) in
      let h : bs ≡ shortest (length body) ++ (body ++ rest) = b.1 ∙ ap (λ m. shortest m ++ left) (sym long) ∙ ap (λ l. shortest (length body) ++ l) (sym back) in
      let within = bytes_before body rest (subst Bytes (sym back) (bytes_after (shortest n) left (subst Bytes b.1 byte))) in
      subst (RecordView bs) (sym (cond-false _ _ _ (le-ltb (length left) n fits)))
      (in_body bs body rest (record { rest = rest; size = size; whole = h }) h (body_view place body within) size))
      (cases_lt (length left) n)

  pub record_view : (bs : List ℕ) → Bytes bs → RecordView bs (record_at place bs)
  record_view bs byte = length_view bs byte (number_view place bs byte)

  -- the conditions give the answers
  pub has_body : (bs body : List ℕ) (has : HasBody bs body) → record_at place bs ≡ followed (body_at place body) has.rest
  has_body bs body has =
      let n = length body in
      let left = body ++ has.rest in
      let long : n ≤ length left = simp length-append (omega arith) in
      ap (after_length place) (reads_there place n left bs (has.size, has.whole)) ∙
      cond-false _ _ _ (le-ltb (length left) n long) ∙
      ap (λ b. followed (body_at place b) (drop n left)) (take_at body has.rest n refl) ∙
      ap (followed (body_at place body)) (drop_at body has.rest n refl)

  pub reads_whole : (c : Content) (rest bs : List ℕ) → Stands c rest bs → record_at place bs ≡ whole c rest
  reads_whole c rest bs s =
      has_body bs (body_bytes c) (record { rest = rest; size = s.0.1; whole = s.1 ∙ append_assoc (shortest (length (body_bytes c))) (body_bytes c) rest }) ∙
      ap (λ r. followed r rest) (body_says place c s.0.0)

  fault_in : (bs : List ℕ) (P : List ℕ → Type 0) (fault : RecordFault) → (w : InBody P bs) → body_at place w.body ≡ Err fault → record_at place bs ≡ refused fault
  fault_in bs P fault w e = has_body bs w.body w.has ∙ ap (λ r. followed r w.has.rest) e

  is_truncated : (bs : List ℕ) → EndsEarly bs → record_at place bs ≡ refused (truncated place)
  is_truncated bs (inl c) = ap (after_length place) (cut_fails place bs c)
  is_truncated bs (inr (inl w)) = ap (after_length place) (reads_there place w.size w.rest bs w.begins) ∙ cond-true _ _ _ (lt-ltb (length w.rest) w.size w.short)
  is_truncated bs (inr (inr w)) = fault_in bs _ (truncated place) w (body_stops place _ w.body (truncated_number place) w.holds (cut_fails place w.holds.tail w.holds.there))

  -- the tail of a body's numbers is bytes
  tail_bytes : (bs : List ℕ) (P : List ℕ → Type 0) → Bytes bs → (w : InBody (NumberDue P) bs) → Bytes w.holds.tail
  tail_bytes bs P byte w =
      let left = bytes_after (shortest (length w.body)) (w.body ++ w.has.rest) (subst Bytes w.has.whole byte) in
      let body = bytes_before w.body w.has.rest left in
      let front = letter_of w.holds.kind ∷ flat_map shortest w.holds.ns in
      bytes_after front w.holds.tail (subst Bytes w.holds.cut.parts body)

  is_malformed : (bs : List ℕ) → Bytes bs → IllFormed bs → record_at place bs ≡ refused (malformed place)
  is_malformed bs byte (inl c) = ap (after_length place) (none_fails place bs byte c)
  is_malformed bs byte (inr w) =
      fault_in bs _ (malformed place) w (
      body_stops place _ w.body (malformed_number place) w.holds (none_fails place w.holds.tail (tail_bytes bs IllFormedNumber byte w) w.holds.there))

  is_bad_body : (bs : List ℕ) → UnfitBody bs → record_at place bs ≡ refused (bad_body place)
  is_bad_body bs w = fault_in bs _ (bad_body place) w (body_bad place w.body w.holds)

  -- the answers come only from their conditions
  only_whole : (bs : List ℕ) (c : Content) (rest : List ℕ) → {r : RecordOutcome} → RecordView bs r → r ≡ whole c rest → Stands c rest bs
  only_whole bs c rest (reads d left s) e =
      let same : d ≡ c = cc in
      let after : left ≡ rest = cc in
      subst (λ x. Stands x rest bs) same (subst (λ x. Stands d x bs) after s)
  only_whole bs c rest (cut_short w) e = cc
  only_whole bs c rest (no_number w) e = cc
  only_whole bs c rest (bad_form w) e = cc

  only_truncated : (bs : List ℕ) → {r : RecordOutcome} → RecordView bs r → r ≡ refused (truncated place) → EndsEarly bs
  only_truncated bs (reads c rest s) e = cc
  only_truncated bs (cut_short w) e = w
  only_truncated bs (no_number w) e = let same : malformed place ≡ truncated place = cc in absurd (omega (arith, ap fault_number same))
  only_truncated bs (bad_form w) e = cc

  only_malformed : (bs : List ℕ) → {r : RecordOutcome} → RecordView bs r → r ≡ refused (malformed place) → IllFormed bs
  only_malformed bs (reads c rest s) e = cc
  only_malformed bs (cut_short w) e = let same : truncated place ≡ malformed place = cc in absurd (omega (arith, ap fault_number same))
  only_malformed bs (no_number w) e = w
  only_malformed bs (bad_form w) e = cc

  only_bad_body : (bs : List ℕ) → {r : RecordOutcome} → RecordView bs r → r ≡ refused (bad_body place) → UnfitBody bs
  only_bad_body bs (reads c rest s) e = cc
  only_bad_body bs (cut_short w) e = cc
  only_bad_body bs (no_number w) e = cc
  only_bad_body bs (bad_form w) e = w

  one_of_three : (bs : List ℕ) (fault : RecordFault) → {r : RecordOutcome} → RecordView bs r → r ≡ refused fault → EndsRun place fault
  one_of_three bs fault (reads c rest s) e = cc
  one_of_three bs fault (cut_short w) e = inl (cc)
  one_of_three bs fault (no_number w) e = inr (inl (cc))
  one_of_three bs fault (bad_form w) e = inr (inr (cc))

  pub record_exactly : (bs : List ℕ) → Bytes bs → RecordExactly place bs (record_at place bs)
  record_exactly bs byte = let view = record_view bs byte in record {
    read_where_it_stands = λ c rest. record { only = only_whole bs c rest view; always = reads_whole c rest bs };
    truncated_exactly = record { only = only_truncated bs view; always = is_truncated bs };
    malformed_exactly = record { only = only_malformed bs view; always = is_malformed bs byte };
    bad_body_exactly = record { only = only_bad_body bs view; always = is_bad_body bs };
    no_other_fault = λ fault. one_of_three bs fault view;
  }

-- what is read there is what the bytes have
pub exactly_there : (place : ℕ) (bs : List ℕ) → Bytes bs → (r : RecordOutcome) → r ≡ record_at place bs → RecordExactly place bs r
exactly_there place bs byte r e = subst (RecordExactly place bs) (sym e) (record_exactly place bs byte)
