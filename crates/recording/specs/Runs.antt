-- A whole recording: consecutive records, and then its end or its first fault that ends a run.
use Rattle.std.specs.Prelude.{◌≡◌, ℕ, ◌+◌, ◌-◌, ◌<◌, Bool, false, cond, ◌⊎◌, List, [], ◌∷◌, ◌++◌, length, Some, None, Option}
use Rattle.std.specs.List.{flat_map, AllByRecursion}
use Rattle.faults.specs.declared.RecordFault.{RecordFault}
use Rattle.recording.specs.declared.runs.Tally.{Tally}
use Rattle.faults.specs.Faults.{truncated, malformed, bad_body}
use Rattle.recording.specs.Contents.{Content, out_of_place, open_after, Recordable, record_bytes}
use Rattle.recording.specs.Conditions.{EndsEarly, IllFormed, UnfitBody}

-- whether a subframe is open after some records
abbrev pub open_after_all : Bool → List Content → Bool
open_after_all is_open [] = is_open
open_after_all is_open (c ∷ cs) = open_after_all (open_after is_open c) cs

-- how many of the records need an open subframe where none is open
abbrev pub misplaced : Bool → List Content → ℕ
misplaced is_open [] = 0
misplaced is_open (c ∷ cs) = cond (out_of_place is_open c) 1 0 + misplaced (open_after is_open c) cs

-- no record can be read at the front of the bytes: 10, 11 or 12
abbrev pub CannotRead : ℕ → List ℕ → RecordFault → Type 0
CannotRead place bytes fault =
    ((fault ≡ truncated place) × EndsEarly bytes) ⊎ (((fault ≡ malformed place) × IllFormed bytes) ⊎ ((fault ≡ bad_body place) × UnfitBody bytes))

-- after the records there is nothing, or what cannot be read
abbrev pub RunEnd : ℕ → List ℕ → Option RecordFault → Type 0
RunEnd place rest None = rest ≡ []
RunEnd place rest (Some fault) = (0 < length rest) × CannotRead place rest fault

-- the bytes are these records, one after another, and what ends the run
pub record Consecutive (bytes : List ℕ) (cs : List Content) (end : Option RecordFault) : Type 0 where
  pub rest : List ℕ
  pub recordable : AllByRecursion Recordable cs
  pub one_by_one : bytes ≡ flat_map record_bytes cs ++ rest
  pub ends : RunEnd (length (flat_map record_bytes cs)) rest end

abbrev pub one_if_any : Option RecordFault → ℕ
one_if_any None = 0
one_if_any (Some fault) = 1

-- the count of the records in place, and of the faults: 13 for each that is not, and the one that ends the run
abbrev pub tally_of : List Content → Option RecordFault → Tally
tally_of cs end = record { records = length cs - misplaced false cs; faults = misplaced false cs + one_if_any end; ending = end }

-- the run visits consecutive records, and ends at the end or at the first fault of 10, 11 or 12
pub record RunsThrough (bytes : List ℕ) (t : Tally) : Type 0 where
  pub visited : List Content
  pub end : Option RecordFault
  pub consecutive : Consecutive bytes visited end
  pub counted : t ≡ tally_of visited end

-- and no other run does
abbrev pub OnlyRun : List ℕ → Tally → Type 0
OnlyRun bytes t = (cs : List Content) (end : Option RecordFault) → Consecutive bytes cs end → t ≡ tally_of cs end
