-- A recording, read one record a call: what a call answers at an offset, and where the reader stands after it.
use Rattle.std.specs.Prelude.{◌≡◌, ℕ, ◌+◌, ◌-◌, ◌<◌, ◌≤◌, Bool, true, false, cond, ◌⊎◌, List, length, drop, Some, None, Ok, Err, Option, Result, nat_lt}
use Rattle.std.specs.List.{between}
use Rattle.faults.specs.declared.RecordFault.{RecordFault}
use Rattle.recording.specs.declared.records.Record.{Record}
use Rattle.recording.specs.Exactly.{Exactly}
use Rattle.faults.specs.Faults.{fault_place, ends_run, EndsRun, truncated, malformed, bad_body, no_open_subframe}
use Rattle.recording.specs.Contents.{Content, noted, out_of_place, record_bytes}
use Rattle.recording.specs.Conditions.{Stands, EndsEarly, IllFormed, UnfitBody}
use Rattle.recording.specs.Records.{RecordOutcome, whole, refused, record_at, body_read}

-- what is answered, 13 after all else
abbrev pub admitted : ℕ → Bool → RecordOutcome → Result Content RecordFault
admitted place is_open (whole c rest) = cond (out_of_place is_open c) (Err (no_open_subframe place)) (Ok c)
admitted place is_open (refused fault) = Err fault

abbrev pub next_answer : List ℕ → ℕ → Bool → Option (Result Content RecordFault)
next_answer bytes at is_open = cond (nat_lt at (length bytes)) (Some (admitted at is_open (record_at at (drop at bytes)))) None

-- behind a record, in place or not, and else where the reader was
abbrev pub behind : ℕ → RecordOutcome → ℕ
behind at (whole c rest) = at + length (record_bytes c)
behind at (refused fault) = at

abbrev pub next_offset : List ℕ → ℕ → ℕ
next_offset bytes at = cond (nat_lt at (length bytes)) (behind at (record_at at (drop at bytes))) at

abbrev pub next_read : Option (Result Record RecordFault) → Option (Result Content RecordFault)
next_read (Some r) = Some (body_read r)
next_read None = None

-- the reader moves on within the n bytes, unless the run ends
abbrev pub Forward : Option (Result Record RecordFault) → ℕ → ℕ → ℕ → Type 0
Forward None at after n = (after ≡ at) × (n ≤ at)
Forward (Some (Ok r)) at after n = (at < after) × (after ≤ n)
Forward (Some (Err fault)) at after n = (ends_run fault ≡ true → after ≡ at) × (ends_run fault ≡ false → at < after) × (after ≤ n)

-- the record that says c stands in the bytes at an offset
abbrev pub StandsAt : List ℕ → ℕ → Content → Type 0
StandsAt bytes at c = Stands c (drop (at + length (record_bytes c)) bytes) (drop at bytes)

-- each answer exactly where its condition on the recording holds
pub record NextExactly (bytes : List ℕ) (at : ℕ) (is_open : Bool) (r : Option (Result Content RecordFault)) (after : ℕ) : Type 0 where
  pub end_exactly : Exactly (r ≡ None) (length bytes ≤ at)
  pub read_where_it_stands : (c : Content) → Exactly (r ≡ Some (Ok c)) (StandsAt bytes at c × (out_of_place is_open c ≡ false))
  pub truncated_exactly : Exactly (r ≡ Some (Err (truncated at))) ((at < length bytes) × EndsEarly (drop at bytes))
  pub malformed_exactly : Exactly (r ≡ Some (Err (malformed at))) ((at < length bytes) × IllFormed (drop at bytes))
  pub bad_body_exactly : Exactly (r ≡ Some (Err (bad_body at))) ((at < length bytes) × UnfitBody (drop at bytes))
  pub no_open_subframe_exactly : Exactly (r ≡ Some (Err (no_open_subframe at))) ((c : Content) × StandsAt bytes at c × (out_of_place is_open c ≡ true))
  -- a note's text is the part of the recording that ends where the next record begins
  pub note_is_part : (text : List ℕ) → r ≡ Some (Ok (noted text)) → text ≡ between (after - length text) after bytes
  pub no_other_fault : (fault : RecordFault) → r ≡ Some (Err fault) → EndsRun at fault ⊎ (fault ≡ no_open_subframe at)
  pub keeps_place : (fault : RecordFault) → r ≡ Some (Err fault) → fault_place fault ≡ at
  -- the reader stands behind a record, in place or not, and else where it was
  pub passes_record : (c : Content) → StandsAt bytes at c → after ≡ at + length (record_bytes c)
  pub stays_else : ((c : Content) → StandsAt bytes at c → ⊥) → after ≡ at
