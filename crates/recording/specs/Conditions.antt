-- What stands at the front of some bytes, where a record is to begin: the record, or why there is none.
use Rattle.std.specs.Prelude.{◌≡◌, ℕ, ◌^◌, ◌<◌, ◌⊎◌, List, [], ◌∷◌, ◌++◌, length, Some, ◌≢◌}
use Rattle.std.specs.List.{flat_map, AllByRecursion}
use Rattle.recording.specs.declared.kinds.RecordKind.{RecordKind}
use Rattle.recording.specs.declared.kinds.RecordKind.TheVariants.{Note as NoteKind}
use Rattle.recording.specs.Numbers.{shortest, BeginsWith, CutNumber, IllFormedNumber}
use Rattle.recording.specs.Kinds.{letter_of, numbers_of}
use Rattle.recording.specs.Contents.{Content, Below32, Recordable, record_bytes}

-- the bytes begin with the record that says c, and the rest follows it
abbrev pub Stands : Content → List ℕ → List ℕ → Type 0
Stands c rest bytes = Recordable c × (bytes ≡ record_bytes c ++ rest)

-- the bytes begin with a length and a body of that length, and the rest follows it
pub record HasBody (bytes body : List ℕ) : Type 0 where
  pub rest : List ℕ
  pub size : length body < 2 ^ 32
  pub whole : bytes ≡ shortest (length body) ++ (body ++ rest)

-- the recording ends inside a body: fewer bytes follow a length than it says
pub record CutBody (bytes : List ℕ) : Type 0 where
  pub size : ℕ
  pub rest : List ℕ
  pub begins : BeginsWith size rest bytes
  pub short : length rest < size

-- a body is a letter that calls for numbers, some numbers in their shortest forms, and a tail
pub record CutAt (body : List ℕ) (kind : RecordKind) (count : ℕ) (ns tail : List ℕ) : Type 0 where
  pub calls : numbers_of kind ≡ Some count
  pub below : AllByRecursion Below32 ns
  pub parts : body ≡ letter_of kind ∷ (flat_map shortest ns ++ tail)

-- after fewer numbers than the letter calls for stands what P says
pub record NumberDue (P : List ℕ → Type 0) (body : List ℕ) : Type 0 where
  pub kind : RecordKind
  pub count : ℕ
  pub ns : List ℕ
  pub tail : List ℕ
  pub cut : CutAt body kind count ns tail
  pub fewer : length ns < count
  pub there : P tail

-- bytes are left over after all numbers
pub record LeftOver (body : List ℕ) : Type 0 where
  pub kind : RecordKind
  pub ns : List ℕ
  pub tail : List ℕ
  pub cut : CutAt body kind (length ns) ns tail
  pub left : 0 < length tail

-- the letter is no kind's
pub record UnknownLetter (body : List ℕ) : Type 0 where
  pub letter : ℕ
  pub tail : List ℕ
  pub parts : body ≡ letter ∷ tail
  pub unknown : (kind : RecordKind) → letter ≢ letter_of kind

-- a note has a byte outside 20 to 7E
pub record NotText (body : List ℕ) : Type 0 where
  pub before : List ℕ
  pub byte : ℕ
  pub after : List ℕ
  pub parts : body ≡ letter_of NoteKind ∷ (before ++ byte ∷ after)
  pub outside : (byte < 0x20) ⊎ (0x7E < byte)

-- a body that is no record's, whatever its numbers
abbrev pub Unfit : List ℕ → Type 0
Unfit body = (body ≡ []) ⊎ (UnknownLetter body ⊎ (LeftOver body ⊎ NotText body))

-- some body stands there, and P holds of it
pub record InBody (P : List ℕ → Type 0) (bytes : List ℕ) : Type 0 where
  pub body : List ℕ
  pub has : HasBody bytes body
  pub holds : P body

-- 10: the recording ends inside the length or the body, or the body before or inside a number its letter calls for
abbrev pub EndsEarly : List ℕ → Type 0
EndsEarly bytes = CutNumber bytes ⊎ (CutBody bytes ⊎ InBody (NumberDue CutNumber) bytes)

-- 11: the length, or a number that the letter calls for, is none
abbrev pub IllFormed : List ℕ → Type 0
IllFormed bytes = IllFormedNumber bytes ⊎ InBody (NumberDue IllFormedNumber) bytes

-- 12: the body is empty, its letter unknown, bytes are left over, or a note is not text
abbrev pub UnfitBody : List ℕ → Type 0
UnfitBody bytes = InBody Unfit bytes
