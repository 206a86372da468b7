-- The record at the front of some bytes: what is read of it.
use Rattle.std.specs.Prelude.{◌≡◌, ℕ, zero, suc, Bool, cond, ◌&&◌, List, [], ◌∷◌, length, take, drop, Some, None, Ok, Err, Option, Result, nat_le, nat_lt}
use Rattle.std.specs.List.{list_all}
use Rattle.faults.specs.declared.RecordFault.{RecordFault}
use Rattle.faults.specs.declared.RecordFault.TheVariants.{Number}
use Rattle.recording.specs.declared.kinds.RecordKind.{RecordKind}
use Rattle.recording.specs.declared.records.Record.{Record}
use Rattle.recording.specs.Exactly.{Exactly}
use Rattle.faults.specs.Faults.{truncated, malformed, bad_body, EndsRun}
use Rattle.recording.specs.Numbers.{NumberRead, got, fails, number_at}
use Rattle.recording.specs.Kinds.{numbers_of, kind_with}
use Rattle.recording.specs.Contents.{Content, numbered, noted, content}
use Rattle.recording.specs.Conditions.{Stands, EndsEarly, IllFormed, UnfitBody}

-- a record and the bytes after it, or a fault
pub data RecordOutcome : Type 0 where
  whole : Content → List ℕ → RecordOutcome
  refused : RecordFault → RecordOutcome

-- each answer exactly where its condition on the bytes holds
pub record RecordExactly (place : ℕ) (bytes : List ℕ) (r : RecordOutcome) : Type 0 where
  pub read_where_it_stands : (c : Content) (rest : List ℕ) → Exactly (r ≡ whole c rest) (Stands c rest bytes)
  pub truncated_exactly : Exactly (r ≡ refused (truncated place)) (EndsEarly bytes)
  pub malformed_exactly : Exactly (r ≡ refused (malformed place)) (IllFormed bytes)
  pub bad_body_exactly : Exactly (r ≡ refused (bad_body place)) (UnfitBody bytes)
  pub no_other_fault : (fault : RecordFault) → r ≡ refused fault → EndsRun place fault

abbrev pub put_first : ℕ → Result (List ℕ) RecordFault → Result (List ℕ) RecordFault
put_first n (Ok ns) = Ok (n ∷ ns)
put_first n (Err fault) = Err fault

-- the k numbers that the bytes are, with nothing after them
abbrev pub numbers_at : ℕ → ℕ → List ℕ → Result (List ℕ) RecordFault
numbers_at place zero [] = Ok []
numbers_at place zero (b ∷ bytes) = Err (bad_body place)
numbers_at place (suc k) bytes = elim (number_at place bytes) [ got n rest ↦ put_first n (numbers_at place k rest) | fails fault ↦ Err (Number fault) ]

-- each byte is a printable character of ASCII
abbrev pub is_printable : List ℕ → Bool
is_printable bytes = list_all (λ b. nat_le 0x20 b && nat_le b 0x7E) bytes

abbrev pub text_at : ℕ → List ℕ → Result Content RecordFault
text_at place bytes = cond (is_printable bytes) (Ok (noted bytes)) (Err (bad_body place))

abbrev pub with_numbers : RecordKind → Result (List ℕ) RecordFault → Result Content RecordFault
with_numbers kind (Ok ns) = Ok (numbered kind ns)
with_numbers kind (Err fault) = Err fault

abbrev pub after_letter : ℕ → RecordKind → Option ℕ → List ℕ → Result Content RecordFault
after_letter place kind (Some count) bytes = with_numbers kind (numbers_at place count bytes)
after_letter place kind None bytes = text_at place bytes

abbrev pub of_kind : ℕ → Option RecordKind → List ℕ → Result Content RecordFault
of_kind place (Some kind) bytes = after_letter place kind (numbers_of kind) bytes
of_kind place None bytes = Err (bad_body place)

-- what a whole body says
abbrev pub body_at : ℕ → List ℕ → Result Content RecordFault
body_at place [] = Err (bad_body place)
body_at place (letter ∷ bytes) = of_kind place (kind_with letter) bytes

abbrev pub body_read : Result Record RecordFault → Result Content RecordFault
body_read (Ok r) = Ok (content r)
body_read (Err fault) = Err fault

abbrev pub followed : Result Content RecordFault → List ℕ → RecordOutcome
followed (Ok c) rest = whole c rest
followed (Err fault) rest = refused fault

abbrev pub after_length : ℕ → NumberRead → RecordOutcome
after_length place (got n rest) = cond (nat_lt (length rest) n) (refused (truncated place)) (followed (body_at place (take n rest)) (drop n rest))
after_length place (fails fault) = refused (Number fault)

-- the record at the front of the bytes
abbrev pub record_at : ℕ → List ℕ → RecordOutcome
record_at place bytes = after_length place (number_at place bytes)
