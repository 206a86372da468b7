-- What is read at an offset of a recording.
use Rattle.std.proofs.Common.{◌≡◌, ℕ, ◌+◌, ◌-◌, ◌<◌, ◌≤◌, Bool, true, false, List, [], ◌∷◌, ◌++◌, length, take, drop, Some, None, Ok, Err, Result, sym, refl, ap, ◌∙◌, subst, inl, inr, append_assoc, arith, length-append, length-drop}
use Rattle.std.specs.List.{between}
use Rattle.std.proofs.lemmas.List.{take_at, drop_at, drop-drop}
use Rattle.std.proofs.lemmas.Slice.{between_to_end}
use Rattle.std.proofs.lemmas.Bool.{both_ways, lt-ltb, le-ltb, cond-true, cond-false}
use Rattle.faults.specs.declared.RecordFault.{RecordFault}
use Rattle.faults.specs.Faults.{fault_place, fault_number, ends_run, EndsRun, no_open_subframe}
use Rattle.recording.specs.Numbers.{shortest}
use Rattle.recording.specs.Contents.{Content, content, numbered, noted, out_of_place, body_bytes, record_bytes}
use Rattle.recording.specs.Conditions.{Stands}
use Rattle.recording.specs.Records.{RecordOutcome, whole, refused, RecordExactly, body_read, record_at}
use Rattle.recording.specs.declared.parsed.Parsed.{Parsed}
use Rattle.recording.specs.declared.records.Record.{Record}
use Rattle.recording.specs.Whole.{record_read}
use Rattle.recording.specs.Reading.{admitted, next_answer, behind, next_offset, Forward, StandsAt, NextExactly}
use Rattle.recording.proofs.RecordLaws.{reads_whole}

some_body : (c : Content) → 0 < length (body_bytes c)
some_body (numbered kind ns) = omega arith
some_body (noted text) = omega arith

pub some_bytes : (c : Content) → 0 < length (record_bytes c)
some_bytes c = simp length-append (omega (arith, some_body c))

-- the part that is read
pub rest_of : (bs : List ℕ) (at : ℕ) → between at (length bs) bs ≡ drop at bs
rest_of bs at = between_to_end bs at (length bs) (omega arith)

-- where a record stands in a recording
module _ (bs : List ℕ) (at : ℕ) (c : Content) (rest : List ℕ) (front : drop at bs ≡ record_bytes c ++ rest) where
  pub lengths : length bs - at ≡ length (record_bytes c) + length rest
  lengths = sym (length-drop at bs) ∙ ap length front ∙ length-append (record_bytes c) rest

  pub after_is : length bs - length rest ≡ at + length (record_bytes c)
  after_is = omega (arith, lengths, some_bytes c)

  pub rest_is : rest ≡ drop (at + length (record_bytes c)) bs
  rest_is = sym (drop_at (record_bytes c) rest (length (record_bytes c)) refl) ∙ ap (drop (length (record_bytes c))) (sym front) ∙ drop-drop (length (record_bytes c)) at bs

  pub rest_fits : length rest ≤ length bs
  rest_fits = omega (arith, lengths, some_bytes c)

  pub inside : at + length (record_bytes c) ≤ length bs
  inside = omega (arith, lengths, some_bytes c)

-- the text of a note
note_part : (bs : List ℕ) (at : ℕ) (text : List ℕ) → StandsAt bs at (noted text) → let after = at + length (record_bytes (noted text)) in text ≡ between (after - length text) after bs
note_part bs at text s =
    let after = at + length (record_bytes (noted text)) in
    let n = length (body_bytes (noted text)) in
    let head = shortest n ++ 78 ∷ [] in
    let long : length (record_bytes (noted text)) ≡ length head + length text = length-append (shortest n) (body_bytes (noted text)) ∙ simp length-append (omega arith) in
    let from : after - length text ≡ at + length head = omega arith in
    let size : after - (after - length text) ≡ length text = omega arith in
    let front : drop at bs ≡ head ++ (text ++ drop after bs) = s.1 ∙ simp append_assoc in
    let part : drop (after - length text) bs ≡ text ++ drop after bs =
    ap (λ i. drop i bs) from ∙ sym (drop-drop (length head) at bs) ∙ ap (drop (length head)) front ∙ drop_at head (text ++ drop after bs) (length head) refl in
    sym (ap (λ k. take k (drop (after - length text) bs)) size ∙ ap (take (length text)) part ∙ take_at text (drop after bs) (length text) refl)

pub stands_at : (bs : List ℕ) (at : ℕ) (c : Content) (rest : List ℕ) → Stands c rest (drop at bs) → StandsAt bs at c
stands_at bs at c rest s = (s.0, s.1 ∙ ap (λ l. record_bytes c ++ l) (rest_is bs at c rest s.1))

not_past : (bs : List ℕ) (at : ℕ) (c : Content) → StandsAt bs at c → at < length bs
not_past bs at c s = omega (arith, lengths bs at c _ s.1, some_bytes c)

-- only one record stands at a place
pub same_record : (bs : List ℕ) (at : ℕ) (c d : Content) → StandsAt bs at c → StandsAt bs at d → c ≡ d
same_record bs at c d s t =
    let e = sym (reads_whole at c _ (drop at bs) s) ∙ reads_whole at d _ (drop at bs) t in
    cc

pub ending_codes : (at : ℕ) (fault : RecordFault) → EndsRun at fault → (9 < fault_number fault) × (fault_number fault < 13) × (fault_place fault ≡ at) × (ends_run fault ≡ true)
ending_codes at fault (inl e) = rw e (omega arith, omega arith, refl, refl)
ending_codes at fault (inr (inl e)) = rw e (omega arith, omega arith, refl, refl)
ending_codes at fault (inr (inr e)) = rw e (omega arith, omega arith, refl, refl)

-- where the reader stands behind a record
pub record PassedRecord (bs : List ℕ) (at after : ℕ) (c : Content) : Type 0 where
  pub is : after ≡ at + length (record_bytes c)
  pub forth : at < after
  pub within : after ≤ length bs

pub now_behind : (bs : List ℕ) (at : ℕ) (c : Content) (rest : List ℕ) → RecordExactly at (drop at bs) (whole c rest) → PassedRecord bs at (length bs - length rest) c
now_behind bs at c rest f =
    let front = ((f.read_where_it_stands c rest).only refl).1 in
    let is = after_is bs at c rest front in
    record { is = is; forth = omega (arith, is, some_bytes c); within = omega arith }

-- inside the recording
module _ (bs : List ℕ) (at : ℕ) (is_open : Bool) (h : at < length bs) where
  at_fault : (fault : RecordFault) → RecordExactly at (drop at bs) (refused fault) → NextExactly bs at is_open (Some (Err fault)) at
  at_fault fault f = let ending = f.no_other_fault fault refl in let codes = ending_codes at fault ending in record {
    end_exactly = record { only = λ e. cc; always = λ past. absurd (omega arith) };
    read_where_it_stands = λ c. record { only = λ e. cc; always = λ s. let p = (f.read_where_it_stands c _).always s.0 in cc };
    truncated_exactly = record { only = λ e. (h, f.truncated_exactly.only (cc)); always = λ s. let p = f.truncated_exactly.always s.1 in cc };
    malformed_exactly = record { only = λ e. (h, f.malformed_exactly.only (cc)); always = λ s. let p = f.malformed_exactly.always s.1 in cc };
    bad_body_exactly = record { only = λ e. (h, f.bad_body_exactly.only (cc)); always = λ s. let p = f.bad_body_exactly.always s.1 in cc };
    no_open_subframe_exactly = record { only = λ e. let same : fault ≡ no_open_subframe at = cc in absurd (omega (arith, codes.1, ap fault_number same)); always = λ s. let p = (f.read_where_it_stands s.0 _).always s.1 in cc };
    note_is_part = λ text e. cc;
    no_other_fault = λ other e. let same : fault ≡ other = cc in inl (subst (EndsRun at) same ending);
    keeps_place = λ other e. let same : fault ≡ other = cc in ap fault_place (sym same) ∙ codes.2;
    passes_record = λ c s. let p = (f.read_where_it_stands c _).always s in cc;
    stays_else = λ _. refl;
  }

  module _ (c : Content) (rest : List ℕ) (f : RecordExactly at (drop at bs) (whole c rest)) where
    found : StandsAt bs at c
    found = stands_at bs at c rest ((f.read_where_it_stands c rest).only refl)

    in_place : out_of_place is_open c ≡ false → NextExactly bs at is_open (Some (Ok c)) (at + length (record_bytes c))
    in_place fine = record {
      end_exactly = record { only = λ e. cc; always = λ past. absurd (omega arith) };
      read_where_it_stands = λ d. record {
        only = λ e. let same : c ≡ d = cc in subst (λ x. StandsAt bs at x × (out_of_place is_open x ≡ false)) same (found, fine);
        always = λ s. ap (λ x. Some (Ok x)) (same_record bs at c d found s.0);
      };
      truncated_exactly = record { only = λ e. cc; always = λ s. let p = f.truncated_exactly.always s.1 in cc };
      malformed_exactly = record { only = λ e. cc; always = λ s. let p = f.malformed_exactly.always s.1 in cc };
      bad_body_exactly = record { only = λ e. cc; always = λ s. let p = f.bad_body_exactly.always s.1 in cc };
      no_open_subframe_exactly = record {
        only = λ e. cc;
        always = λ s. absurd (both_ways (out_of_place is_open c) fine (ap (out_of_place is_open) (same_record bs at c s.0 found s.1) ∙ s.2));
      };
      note_is_part = λ text e.
          (let same : c ≡ noted text = cc in
          subst (λ after. text ≡ between (after - length text) after bs) (ap (λ x. at + length (record_bytes x)) (sym same)) (note_part bs at text (subst (StandsAt bs at) same found)));
      no_other_fault = λ other e. (cc);
      keeps_place = λ other e. (cc);
      passes_record = λ d s. ap (λ x. at + length (record_bytes x)) (same_record bs at c d found s);
      stays_else = λ never. absurd (never c found);
    }

    misplaced : out_of_place is_open c ≡ true → NextExactly bs at is_open (Some (Err (no_open_subframe at))) (at + length (record_bytes c))
    misplaced out = record {
      end_exactly = record { only = λ e. cc; always = λ past. absurd (omega arith) };
      read_where_it_stands = λ d. record {
        only = λ e. cc;
        always = λ s. absurd (both_ways (out_of_place is_open c) (ap (out_of_place is_open) (same_record bs at c d found s.0) ∙ s.1) out);
      };
      truncated_exactly = record { only = λ e. cc; always = λ s. let p = f.truncated_exactly.always s.1 in cc };
      malformed_exactly = record { only = λ e. cc; always = λ s. let p = f.malformed_exactly.always s.1 in cc };
      bad_body_exactly = record { only = λ e. cc; always = λ s. let p = f.bad_body_exactly.always s.1 in cc };
      no_open_subframe_exactly = record { only = λ _. (c, found, out); always = λ _. refl };
      note_is_part = λ text e. cc;
      no_other_fault = λ other e. inr (cc);
      keeps_place = λ other e. let same : no_open_subframe at ≡ other = cc in ap fault_place (sym same);
      passes_record = λ d s. ap (λ x. at + length (record_bytes x)) (same_record bs at c d found s);
      stays_else = λ never. absurd (never c found);
    }

  by_open : (c : Content) (rest : List ℕ) → RecordExactly at (drop at bs) (whole c rest) → (out : Bool) → out_of_place is_open c ≡ out → NextExactly bs at is_open (Some (admitted at is_open (whole c rest))) (at + length (record_bytes c))
  by_open c rest f true e = subst (λ r. NextExactly bs at is_open (Some r) (at + length (record_bytes c))) (sym (cond-true _ _ _ e)) (misplaced c rest f e)
  by_open c rest f false e = subst (λ r. NextExactly bs at is_open (Some r) (at + length (record_bytes c))) (sym (cond-false _ _ _ e)) (in_place c rest f e)

  -- what is answered, and where the reader then stands, by what is read there
  pub next_exactly : (w : RecordOutcome) → RecordExactly at (drop at bs) w → NextExactly bs at is_open (Some (admitted at is_open w)) (behind at w)
  next_exactly (refused fault) f = at_fault fault f
  next_exactly (whole c rest) f = by_open c rest f (out_of_place is_open c) refl

  only_13 : (c : Content) (rest : List ℕ) (fault : RecordFault) → Err fault ≡ admitted at is_open (whole c rest) → (out : Bool) → out_of_place is_open c ≡ out → fault ≡ no_open_subframe at
  only_13 c rest fault e true out = let f : ◌≡◌ {A = Result Content RecordFault} (Err fault) (Err (no_open_subframe at)) = e ∙ cond-true _ _ _ out in cc
  only_13 c rest fault e false out = let f : ◌≡◌ {A = Result Content RecordFault} (Err fault) (Ok c) = e ∙ cond-false _ _ _ out in cc

  pub forward : (r : Result Record RecordFault) (w : RecordOutcome) → RecordExactly at (drop at bs) w → body_read r ≡ admitted at is_open w → Forward (Some r) at (behind at w) (length bs)
  forward (Ok said) (whole c rest) f e = let b = now_behind bs at c rest f in (omega (arith, b.is, b.forth), omega (arith, b.is, b.within))
  forward (Ok said) (refused fault) f e = cc
  forward (Err fault) (refused other) f e =
      let same : fault ≡ other = cc in
      let codes = ending_codes at other (f.no_other_fault other refl) in
      (λ _. refl, λ goes_on. absurd (both_ways _ goes_on (ap ends_run same ∙ codes.3)), omega (arith, h))
  forward (Err fault) (whole c rest) f e =
      let b = now_behind bs at c rest f in
      let out = only_13 c rest fault e (out_of_place is_open c) refl in
      (λ ends. absurd (both_ways _ (ap ends_run out) ends), λ _. omega (arith, b.is, b.forth), omega (arith, b.is, b.within))

-- what is read at the offset is what the recording has there
pub read_here : (bs : List ℕ) (at : ℕ) (w : RecordOutcome) → w ≡ record_at at (between at (length bs) bs) → w ≡ record_at at (drop at bs)
read_here bs at w e = e ∙ ap (record_at at) (rest_of bs at)

pub exactly_here : (bs : List ℕ) (at : ℕ) (w : RecordOutcome) → RecordExactly at (between at (length bs) bs) w → RecordExactly at (drop at bs) w
exactly_here bs at w f = subst (λ x. RecordExactly at x w) (rest_of bs at) f

pub offset_here : (bs : List ℕ) (at : ℕ) → at < length bs → (w : RecordOutcome) → w ≡ record_at at (drop at bs) → behind at w ≡ next_offset bs at
offset_here bs at h w e = ap (behind at) e ∙ sym (cond-true _ _ _ (lt-ltb at (length bs) h))

pub answer_here : (bs : List ℕ) (at : ℕ) (is_open : Bool) → at < length bs → (w : RecordOutcome) → w ≡ record_at at (drop at bs) → Some (admitted at is_open w) ≡ next_answer bs at is_open
answer_here bs at is_open h w e = ap (λ x. Some (admitted at is_open x)) e ∙ sym (cond-true _ _ _ (lt-ltb at (length bs) h))

pub answer_end : (bs : List ℕ) (at : ℕ) (is_open : Bool) → length bs ≤ at → None ≡ next_answer bs at is_open
answer_end bs at is_open h = sym (cond-false _ _ _ (le-ltb at (length bs) h))

-- behind what was read, the bytes after it are left
pub stands_behind : (bs : List ℕ) (at : ℕ) (r : Result (Parsed Record) RecordFault) (read : Parsed Record) → r ≡ Ok read → RecordExactly at (drop at bs) (record_read r) → (length bs - length read.rest.now ≡ behind at (record_read r)) × (length read.rest.now ≤ length bs)
stands_behind bs at r read is f =
    let g = subst (λ x. RecordExactly at (drop at bs) (record_read x)) is f in
    let front = ((g.read_where_it_stands (content read.value) read.rest.now).only refl).1 in
    (after_is bs at (content read.value) read.rest.now front ∙ ap (λ x. behind at (record_read x)) (sym is), rest_fits bs at (content read.value) read.rest.now front)
