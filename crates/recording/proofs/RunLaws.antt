-- A whole recording, record by record.
use Rattle.std.proofs.Common.{◌≡◌, ℕ, ◌+◌, ◌-◌, ◌<◌, ◌≤◌, Bool, true, false, cond, ◌⊎◌, List, [], ◌∷◌, ◌++◌, length, take, drop, Some, None, Ok, Err, Option, sym, refl, ap, ◌∙◌, subst, inl, inr, append_assoc, append-nil, arith, length-append, length-drop, take-append-drop, take-add}
use Rattle.std.specs.List.{flat_map, AllByRecursion}
use Rattle.std.proofs.ByRecursion.{All-push}
use Rattle.std.proofs.lemmas.List.{take_at, take_all, flat_map_more, length_push}
use Rattle.std.proofs.lemmas.Bool.{false≢true, and_parts, and_right, cond-true, cond-false}
use Rattle.faults.specs.declared.RecordFault.{RecordFault}
use Rattle.recording.specs.declared.kinds.RecordKind.{RecordKind}
use Rattle.recording.specs.declared.kinds.RecordKind.TheVariants.{Set, Shares, Loss, Command, Open, Want, Settle, Drop, Note}
use Rattle.recording.specs.declared.runs.Tally.{Tally}
use Rattle.faults.specs.Faults.{ends_run, EndsRun, no_open_subframe}
use Rattle.recording.specs.Kinds.{needs_open, leaves_open}
use Rattle.recording.specs.Contents.{Content, content_kind, out_of_place, open_after, Recordable, record_bytes}
use Rattle.recording.specs.Records.{refused, record_at}
use Rattle.recording.specs.Reading.{StandsAt, NextExactly}
use Rattle.recording.specs.Runs.{open_after_all, misplaced, CannotRead, RunEnd, one_if_any, tally_of, RunsThrough, OnlyRun}
use Rattle.recording.proofs.NumberLaws.{Bytes}
use Rattle.recording.proofs.BodyLaws.{bytes_after}
use Rattle.recording.proofs.RecordLaws.{record_exactly, reads_whole}
use Rattle.recording.proofs.ReadingLaws.{some_bytes}

-- one record more
open_push : (o : Bool) (cs : List Content) (c : Content) → open_after_all o (cs ++ c ∷ []) ≡ open_after (open_after_all o cs) c
open_push o [] c = refl
open_push o (d ∷ cs) c = open_push (open_after o d) cs c

misplaced_push : (o : Bool) (cs : List Content) (c : Content) → misplaced o (cs ++ c ∷ []) ≡ misplaced o cs + cond (out_of_place (open_after_all o cs) c) 1 0
misplaced_push o [] c = omega arith
misplaced_push o (d ∷ cs) c = let later = misplaced_push (open_after o d) cs c in omega arith

-- a record that is out of place leaves things as they are
kind_unmoved : (kind : RecordKind) → needs_open kind ≡ true → leaves_open kind false ≡ false
kind_unmoved Set e = refl
kind_unmoved Shares e = refl
kind_unmoved Loss e = refl
kind_unmoved Command e = refl
kind_unmoved Open e = absurd (false≢true e)
kind_unmoved Want e = refl
kind_unmoved Settle e = refl
kind_unmoved Drop e = refl
kind_unmoved Note e = refl

unmoved : (o : Bool) (c : Content) → out_of_place o c ≡ true → open_after o c ≡ o
unmoved true c e = absurd (false≢true (sym (and_right (needs_open (content_kind c)) false refl) ∙ e))
unmoved false c e = kind_unmoved (content_kind c) (and_parts (needs_open (content_kind c)) true e).0

-- what was visited up to an offset
pub record SoFar (bs : List ℕ) (at : ℕ) (o : Bool) (records faults : ℕ) : Type 0 where
  pub cs : List Content
  pub recordable : AllByRecursion Recordable cs
  pub front : take at bs ≡ flat_map record_bytes cs
  pub is : at ≡ length (flat_map record_bytes cs)
  pub state : o ≡ open_after_all false cs
  pub in_place : records + misplaced false cs ≡ length cs
  pub missed : faults ≡ misplaced false cs

module _ (bs : List ℕ) (at : ℕ) (o : Bool) (records faults : ℕ) (v : SoFar bs at o records faults) (c : Content) (s : StandsAt bs at c) where
  next_front : take (at + length (record_bytes c)) bs ≡ flat_map record_bytes (v.cs ++ c ∷ [])
  next_front =
      take-add at (length (record_bytes c)) bs ∙
      ap (λ l. take at bs ++ take (length (record_bytes c)) l) s.1 ∙
      ap (λ l. take at bs ++ l) (take_at (record_bytes c) _ (length (record_bytes c)) refl) ∙
      ap (λ l. l ++ record_bytes c) v.front ∙
      flat_map_more record_bytes [] v.cs c

  next_is : at + length (record_bytes c) ≡ length (flat_map record_bytes (v.cs ++ c ∷ []))
  next_is =
      let long = ap length (sym (flat_map_more record_bytes [] v.cs c)) ∙ length-append (flat_map record_bytes v.cs) (record_bytes c) in
      omega (arith, v.is, long)

  pub one_read : out_of_place o c ≡ false → SoFar bs (at + length (record_bytes c)) (open_after o c) (records + 1) faults
  one_read fine =
      let m = misplaced_push false v.cs c ∙ ap (λ n. misplaced false v.cs + n) (ap (λ x. cond (out_of_place x c) 1 0) (sym v.state) ∙ cond-false _ _ _ fine) in
      record {
        cs = v.cs ++ c ∷ [];
        recordable = All-push Recordable v.cs c v.recordable s.0;
        front = next_front;
        is = next_is;
        state = ap (λ x. open_after x c) v.state ∙ sym (open_push false v.cs c);
        in_place = omega (arith, m, v.in_place, length_push v.cs c);
        missed = omega (arith, m, v.missed);
      }

  pub one_missed : out_of_place o c ≡ true → SoFar bs (at + length (record_bytes c)) o records (faults + 1)
  one_missed out =
      let m = misplaced_push false v.cs c ∙ ap (λ n. misplaced false v.cs + n) (ap (λ x. cond (out_of_place x c) 1 0) (sym v.state) ∙ cond-true _ _ _ out) in
      record {
        cs = v.cs ++ c ∷ [];
        recordable = All-push Recordable v.cs c v.recordable s.0;
        front = next_front;
        is = next_is;
        state = sym (unmoved o c out) ∙ ap (λ x. open_after x c) v.state ∙ sym (open_push false v.cs c);
        in_place = omega (arith, m, v.in_place, length_push v.cs c);
        missed = omega (arith, m, v.missed);
      }

-- the end of a run
finished : (cs : List Content) (records faults more : ℕ) (end : Option RecordFault) → records + misplaced false cs ≡ length cs → faults ≡ misplaced false cs → more ≡ one_if_any end → record { records = records; faults = faults + more; ending = end } ≡ tally_of cs end
finished cs records faults more end r f m =
    let left : records ≡ length cs - misplaced false cs = omega arith in
    let all : faults + more ≡ misplaced false cs + one_if_any end = omega arith in
    cc

pub at_its_end : (bs : List ℕ) (at : ℕ) (o : Bool) (records faults : ℕ) → SoFar bs at o records faults → length bs ≤ at → RunsThrough bs (record { records = records; faults = faults; ending = None })
at_its_end bs at o records faults v past =
    let none : faults + 0 ≡ faults = omega arith in
    record {
      visited = v.cs;
      end = None;
      consecutive = record { rest = []; recordable = v.recordable; one_by_one = sym (take_all at bs past) ∙ v.front ∙ sym (append-nil (flat_map record_bytes v.cs)); ends = refl };
      counted = ap (λ n. record { records = records; faults = n; ending = None }) (sym none) ∙ finished v.cs records faults 0 None v.in_place v.missed refl;
    }

cannot_read : (bs : List ℕ) (at : ℕ) (o : Bool) (after : ℕ) (fault : RecordFault) → NextExactly bs at o (Some (Err fault)) after → ends_run fault ≡ true → (at < length bs) × CannotRead at (drop at bs) fault
cannot_read bs at o after fault x ends = by_fault (x.no_other_fault fault refl)
  where
    by_fault : (EndsRun at fault ⊎ (fault ≡ no_open_subframe at)) → (at < length bs) × CannotRead at (drop at bs) fault
    by_fault (inl (inl e)) = let w = x.truncated_exactly.only (ap (λ f. Some (Err f)) e) in (w.0, inl (e, w.1))
    by_fault (inl (inr (inl e))) = let w = x.malformed_exactly.only (ap (λ f. Some (Err f)) e) in (w.0, inr (inl (e, w.1)))
    by_fault (inl (inr (inr e))) = let w = x.bad_body_exactly.only (ap (λ f. Some (Err f)) e) in (w.0, inr (inr (e, w.1)))
    by_fault (inr e) = absurd (false≢true (sym (ap ends_run e) ∙ ends))

pub at_its_fault : (bs : List ℕ) (at : ℕ) (o : Bool) (records faults after : ℕ) (fault : RecordFault) → SoFar bs at o records faults → NextExactly bs at o (Some (Err fault)) after → ends_run fault ≡ true → RunsThrough bs (record { records = records; faults = faults + 1; ending = Some fault })
at_its_fault bs at o records faults after fault v x ends =
    let w = cannot_read bs at o after fault x ends in
    record {
      visited = v.cs;
      end = Some fault;
      consecutive = record {
        rest = drop at bs;
        recordable = v.recordable;
        one_by_one = sym (take-append-drop at bs) ∙ ap (λ l. l ++ drop at bs) v.front;
        ends = (simp length-drop (omega (arith, w.0)), subst (λ p. CannotRead p (drop at bs) fault) v.is w.1);
      };
      counted = finished v.cs records faults 1 (Some fault) v.in_place v.missed refl;
    }

-- a fault after which the run goes on is 13
pub goes_on : (bs : List ℕ) (at : ℕ) (o : Bool) (records faults after : ℕ) (fault : RecordFault) → SoFar bs at o records faults → NextExactly bs at o (Some (Err fault)) after → ends_run fault ≡ false → SoFar bs after o records (faults + 1)
goes_on bs at o records faults after fault v x on = by_fault (x.no_other_fault fault refl)
  where
    ended : ends_run fault ≡ true → SoFar bs after o records (faults + 1)
    ended e = absurd (false≢true (sym on ∙ e))

    by_fault : (EndsRun at fault ⊎ (fault ≡ no_open_subframe at)) → SoFar bs after o records (faults + 1)
    by_fault (inl (inl e)) = ended (ap ends_run e)
    by_fault (inl (inr (inl e))) = ended (ap ends_run e)
    by_fault (inl (inr (inr e))) = ended (ap ends_run e)
    by_fault (inr e) =
        let w = x.no_open_subframe_exactly.only (ap (λ f. Some (Err f)) e) in
        subst (λ i. SoFar bs i o records (faults + 1)) (sym (x.passes_record w.0 w.1)) (one_missed bs at o records faults v w.0 w.1 w.2)

pub reads_on : (bs : List ℕ) (at : ℕ) (o : Bool) (records faults after : ℕ) (c : Content) → SoFar bs at o records faults → NextExactly bs at o (Some (Ok c)) after → SoFar bs after (open_after o c) (records + 1) faults
reads_on bs at o records faults after c v x =
    let w = (x.read_where_it_stands c).only refl in
    subst (λ i. SoFar bs i (open_after o c) (records + 1) faults) (sym (x.passes_record c w.0)) (one_read bs at o records faults v c w.0 w.1)

-- there is one run only
pub fault_there : (at : ℕ) (bs : List ℕ) (fault : RecordFault) → Bytes bs → CannotRead at bs fault → record_at at bs ≡ refused fault
fault_there at bs fault byte (inl w) = (record_exactly at bs byte).truncated_exactly.always w.1 ∙ ap refused (sym w.0)
fault_there at bs fault byte (inr (inl w)) = (record_exactly at bs byte).malformed_exactly.always w.1 ∙ ap refused (sym w.0)
fault_there at bs fault byte (inr (inr w)) = (record_exactly at bs byte).bad_body_exactly.always w.1 ∙ ap refused (sym w.0)

same_end : (at : ℕ) (bs : List ℕ) (e f : Option RecordFault) → Bytes bs → RunEnd at bs e → RunEnd at bs f → e ≡ f
same_end at bs None None byte x y = refl
same_end at bs None (Some fault) byte x y = absurd (omega (arith, ap length x, y.0))
same_end at bs (Some fault) None byte x y = absurd (omega (arith, ap length y, x.0))
same_end at bs (Some fault) (Some other) byte x y =
    let e = sym (fault_there at bs fault byte x.1) ∙ fault_there at bs other byte y.1 in
    cc

no_record : (at : ℕ) (bs : List ℕ) (e : Option RecordFault) (c : Content) (rest : List ℕ) → Bytes bs → RunEnd at bs e → Recordable c → bs ≡ record_bytes c ++ rest → ⊥
no_record at bs None c rest byte x a is = omega (arith, ap length (sym x ∙ is), length-append (record_bytes c) rest, some_bytes c)
no_record at bs (Some fault) c rest byte x a is =
    let e = sym (fault_there at bs fault byte x.1) ∙ reads_whole at c rest bs (a, is) in
    cc

same_first : (c d : Content) (xs ys : List ℕ) → Recordable c → Recordable d → record_bytes c ++ xs ≡ record_bytes d ++ ys → (c ≡ d) × (xs ≡ ys)
same_first c d xs ys a b e =
    let p = sym (reads_whole 0 c xs (record_bytes c ++ xs) (a, refl)) ∙ reads_whole 0 d ys (record_bytes c ++ xs) (b, e) in
    (cc, cc)

same_records : (p q : ℕ) (cs ds : List Content) (xs ys : List ℕ) (e f : Option RecordFault) → Bytes xs → Bytes ys → AllByRecursion Recordable cs → AllByRecursion Recordable ds → RunEnd p xs e → RunEnd q ys f → flat_map record_bytes cs ++ xs ≡ flat_map record_bytes ds ++ ys → (cs ≡ ds) × (xs ≡ ys)
same_records p q [] [] xs ys e f bx by a b x y is = (refl, is)
same_records p q [] (d ∷ ds) xs ys e f bx by a b x y is =
    absurd (no_record p xs e d (flat_map record_bytes ds ++ ys) bx x b.0 (is ∙ append_assoc (record_bytes d) (flat_map record_bytes ds) ys))
same_records p q (c ∷ cs) [] xs ys e f bx by a b x y is =
    absurd (no_record q ys f c (flat_map record_bytes cs ++ xs) by y a.0 (sym is ∙ append_assoc (record_bytes c) (flat_map record_bytes cs) xs))
same_records p q (c ∷ cs) (d ∷ ds) xs ys e f bx by a b x y is =
    let first = same_first c d (flat_map record_bytes cs ++ xs) (flat_map record_bytes ds ++ ys) a.0 b.0 (sym (append_assoc (record_bytes c) (flat_map record_bytes cs) xs) ∙ is ∙ append_assoc (record_bytes d) (flat_map record_bytes ds) ys) in
    let others = same_records p q cs ds xs ys e f bx by a.1 b.1 x y first.1 in
    let same = first.0 in
    let later = others.0 in
    (cc, others.1)

pub only_run : (bs : List ℕ) (t : Tally) → Bytes bs → RunsThrough bs t → OnlyRun bs t
only_run bs t byte r cs end k =
    let j = r.consecutive in
    let bx = bytes_after (flat_map record_bytes r.visited) j.rest (subst Bytes j.one_by_one byte) in
    let by = bytes_after (flat_map record_bytes cs) k.rest (subst Bytes k.one_by_one byte) in
    let same = same_records _ _ r.visited cs j.rest k.rest r.end end bx by j.recordable k.recordable j.ends k.ends (sym j.one_by_one ∙ k.one_by_one) in
    let there = subst (λ l. RunEnd (length (flat_map record_bytes cs)) l end) (sym same.1) k.ends in
    let here = subst (λ l. RunEnd (length (flat_map record_bytes l)) j.rest r.end) same.0 j.ends in
    r.counted ∙ ap (λ l. tally_of l r.end) same.0 ∙ ap (tally_of cs) (same_end _ j.rest r.end end bx here there)
