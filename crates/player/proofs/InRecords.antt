-- The lines of a recording are those of the records that it is cut into.
use Rattle.std.proofs.Common.{◌≡◌, ℕ, zero, suc, ◌+◌, ◌<◌, ◌≤◌, Bool, true, false, cond, List, [], ◌∷◌, ◌++◌, length, drop, Some, None, Ok, Err, Option, Result, sym, refl, ap, ◌∙◌, subst, inl, inr, append_assoc, add-zero, zero-add, arith, length-append, length-drop}
use Rattle.std.specs.List.{flat_map, AllByRecursion}
use Rattle.faults.specs.declared.RecordFault.{RecordFault}
use Rattle.faults.specs.Faults.{ends_run, no_open_subframe}
use Rattle.lines.specs.declared.line.Line.{Line}
use Rattle.recording.specs.Contents.{Content, out_of_place, Recordable, record_bytes}
use Rattle.recording.specs.Records.{whole, refused}
use Rattle.recording.specs.Reading.{next_answer, next_offset}
use Rattle.recording.specs.Runs.{CannotRead, RunEnd}
use Rattle.recording.proofs.NumberLaws.{Bytes}
use Rattle.recording.proofs.BodyLaws.{bytes_after}
use Rattle.recording.proofs.RecordLaws.{reads_whole}
use Rattle.recording.proofs.ReadingLaws.{some_bytes, inside, rest_is, ending_codes, answer_here, offset_here, answer_end}
use Rattle.recording.proofs.RunLaws.{fault_there}
use Rattle.states.specs.declared.state.State.{State}
use Rattle.states.specs.States.{fresh, is_open}
use Rattle.player.specs.Played.{last_line, played, record_lines, item_lines, item_played, item_ends, lines_of_records, lines_from, LinesOfTheRecords}

-- a fault that ends a run
ends_it : (place : ℕ) (bytes : List ℕ) (fault : RecordFault) → CannotRead place bytes fault → ends_run fault ≡ true
ends_it place bytes fault (inl w) = (ending_codes place fault (inl w.0)).3
ends_it place bytes fault (inr (inl w)) = (ending_codes place fault (inr (inl w.0))).3
ends_it place bytes fault (inr (inr w)) = (ending_codes place fault (inr (inr w.0))).3

-- each record takes a byte at least
fewer : (cs : List Content) → length cs ≤ length (flat_map record_bytes cs)
fewer [] = omega arith
fewer (c ∷ cs) = omega (arith, fewer cs, some_bytes c, length-append (record_bytes c) (flat_map record_bytes cs))

module _ {V : Type 0} (reserve : V → ℕ → ℕ → ℕ) (bytes : List ℕ) where
  -- one turn of the lines, where the answer is known
  turn : (k : ℕ) (w : State × V) (at : ℕ) (x : Option (Result Content RecordFault)) (after : ℕ) → x ≡ next_answer bytes at (is_open w.0.subframe) → after ≡ next_offset bytes at →
      lines_from reserve (suc k) w bytes at ≡ elim x [ None ↦ [] | Some r ↦ item_lines reserve at w r ++ cond (item_ends r) [] (lines_from reserve k (item_played reserve w r) bytes after) ]
  turn k w at x after e moved =
      let shown : Option (Result Content RecordFault) → ℕ → List Line = λ y n. elim y [ None ↦ [] | Some r ↦ item_lines reserve at w r ++ cond (item_ends r) [] (lines_from reserve k (item_played reserve w r) bytes n) ] in
      sym (ap (λ (y : Option (Result Content RecordFault)). shown y after) e ∙ ap (shown (next_answer bytes at (is_open w.0.subframe))) moved)

  -- the end of a run
  at_the_end : (k : ℕ) (w : State × V) (at : ℕ) (end : Option RecordFault) → Bytes (drop at bytes) → RunEnd at (drop at bytes) end → lines_from reserve (suc k) w bytes at ≡ last_line end
  at_the_end k w at None byte none =
      let past : length bytes ≤ at = omega (arith, length-drop at bytes, ap length none) in
      turn k w at None (next_offset bytes at) (answer_end bytes at (is_open w.0.subframe) past) refl
  at_the_end k w at (Some fault) byte h =
      let before : at < length bytes = omega (arith, length-drop at bytes, h.0) in
      let read = answer_here bytes at (is_open w.0.subframe) before (refused fault) (sym (fault_there at (drop at bytes) fault byte h.1)) in
      turn k w at (Some (Err fault)) (next_offset bytes at) read refl ∙ rw (ends_it at (drop at bytes) fault h.1) refl

  -- from a place on
  from_records : (cs : List Content) (k : ℕ) (w : State × V) (at : ℕ) (rest : List ℕ) (end : Option RecordFault) → length cs < k → AllByRecursion Recordable cs → Bytes rest →
      drop at bytes ≡ flat_map record_bytes cs ++ rest → RunEnd (at + length (flat_map record_bytes cs)) rest end → lines_from reserve k w bytes at ≡ lines_of_records reserve w at cs ++ last_line end
  from_records cs zero w at rest end more ok byte front ends = absurd (omega arith)
  from_records [] (suc k) w at rest end more ok byte front ends =
      at_the_end k w at end (subst Bytes (sym front) byte) (subst (λ (l : List ℕ). RunEnd at l end) (sym front) (subst (λ (n : ℕ). RunEnd n rest end) (add-zero at) ends))
  from_records (c ∷ cs) (suc k) w at rest end more ok byte front ends =
      let later = flat_map record_bytes cs ++ rest in
      let here : drop at bytes ≡ record_bytes c ++ later = front ∙ append_assoc (record_bytes c) (flat_map record_bytes cs) rest in
      let stands = reads_whole at c later (drop at bytes) (ok.0, here) in
      let after = at + length (record_bytes c) in
      let before : at < length bytes = omega (arith, inside bytes at c later here, some_bytes c) in
      let open-now = is_open w.0.subframe in
      let read = answer_here bytes at open-now before (whole c later) (sym stands) in
      let moved = offset_here bytes at before (whole c later) (sym stands) in
      let next : drop after bytes ≡ later = sym (rest_is bytes at c later here) in
      let far : after + length (flat_map record_bytes cs) ≡ at + length (flat_map record_bytes (c ∷ cs)) = omega (arith, length-append (record_bytes c) (flat_map record_bytes cs)) in
      let ends-later = subst (λ (n : ℕ). RunEnd n rest end) (sym far) ends in
      turn k w at _ after read moved
      ∙ by_place (out_of_place open-now c) after
      (λ (v : State × V). from_records cs k v after rest end (omega arith) ok.1 byte next ends-later)
    where
      by_place : (b : Bool) (after : ℕ) → ((v : State × V) → lines_from reserve k v bytes after ≡ lines_of_records reserve v after cs ++ last_line end) →
          ◌≡◌ {A = List Line}
          (elim (Some (cond b (Err (no_open_subframe at)) (Ok c))) [ None ↦ [] | Some r ↦ item_lines reserve at w r ++ cond (item_ends r) [] (lines_from reserve k (item_played reserve w r) bytes after) ])
          (cond b (item_lines reserve at w (Err (no_open_subframe at)) ++ lines_of_records reserve w after cs) (record_lines reserve at w c ++ lines_of_records reserve (played reserve w c) after cs) ++ last_line end)
      by_place true after ih = ap (λ (l : List Line). item_lines reserve at w (Err (no_open_subframe at)) ++ l) (ih w)
      by_place false after ih = ap (λ (l : List Line). record_lines reserve at w c ++ l) (ih (played reserve w c)) ∙ sym (append_assoc (record_lines reserve at w c) (lines_of_records reserve (played reserve w c) after cs) (last_line end))

  pub of_the_records : (rule : V) → Bytes bytes → LinesOfTheRecords reserve rule bytes
  of_the_records rule byte cs end h =
      let long : length cs < length bytes + 1 = omega (arith, fewer cs, ap length h.one_by_one, length-append (flat_map record_bytes cs) h.rest) in
      from_records cs (length bytes + 1) (fresh, rule) 0 h.rest end long h.recordable (bytes_after (flat_map record_bytes cs) h.rest (subst Bytes h.one_by_one byte)) h.one_by_one
      (subst (λ (n : ℕ). RunEnd n h.rest end) (sym (zero-add (length (flat_map record_bytes cs)))) h.ends)
