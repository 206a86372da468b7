-- What a record says, and the bytes that say it.
use Rattle.std.specs.Prelude.{◌≡◌, ℕ, ◌^◌, ◌<◌, ◌≤◌, Bool, not, ◌&&◌, List, [], ◌∷◌, ◌++◌, length, Some}
use Rattle.std.specs.List.{flat_map, AllByRecursion}
use Rattle.recording.specs.declared.kinds.RecordKind.{RecordKind}
use Rattle.recording.specs.declared.kinds.RecordKind.TheVariants.{Set as SetKind, Shares as SharesKind, Loss as LossKind, Command as CommandKind, Open as OpenKind, Want as WantKind, Settle as SettleKind, Drop as DropKind, Note as NoteKind}
use Rattle.recording.specs.declared.records.Record.{Record}
use Rattle.recording.specs.declared.records.Record.TheVariants.{Set, Shares, Loss, Command, Open, Want, Settle, Drop, Note}
use Rattle.recording.specs.Numbers.{shortest}
use Rattle.recording.specs.Kinds.{letter_of, numbers_of, needs_open, leaves_open}

-- what a record says: its kind and its numbers in order, or a note's text
pub data Content : Type 0 where
  numbered : RecordKind → List ℕ → Content
  noted : List ℕ → Content

abbrev pub content : Record → Content
content (Set cell loop_kind maximum data_base path_factor control_base) = numbered SetKind (cell ∷ loop_kind ∷ maximum ∷ data_base ∷ path_factor ∷ control_base ∷ [])
content (Shares total master secondary) = numbered SharesKind (total ∷ master ∷ secondary ∷ [])
content (Loss cell loss) = numbered LossKind (cell ∷ loss ∷ [])
content (Command cell channel code) = numbered CommandKind (cell ∷ channel ∷ code ∷ [])
content Open = numbered OpenKind []
content (Want cell kind class size format offset) = numbered WantKind (cell ∷ kind ∷ class ∷ size ∷ format ∷ offset ∷ [])
content Settle = numbered SettleKind []
content Drop = numbered DropKind []
content (Note text) = noted text.now

abbrev pub content_kind : Content → RecordKind
content_kind (numbered kind ns) = kind
content_kind (noted text) = NoteKind

-- a record that needs an open subframe, where none is open
abbrev pub out_of_place : Bool → Content → Bool
out_of_place is_open c = needs_open (content_kind c) && not is_open

-- whether a subframe is open after a record
abbrev pub open_after : Bool → Content → Bool
open_after is_open c = leaves_open (content_kind c) is_open

-- a number of a recording, a byte of a note
abbrev pub Below32 : ℕ → Type 0
Below32 n = n < 2 ^ 32

abbrev pub Printable : ℕ → Type 0
Printable b = (0x20 ≤ b) × (b ≤ 0x7E)

-- as many numbers as the letter calls for, or text
abbrev pub InForm : Content → Type 0
InForm (numbered kind ns) = (numbers_of kind ≡ Some (length ns)) × AllByRecursion Below32 ns
InForm (noted text) = AllByRecursion Printable text

-- the body: a letter, and the numbers in their shortest forms or the text
abbrev pub body_bytes : Content → List ℕ
body_bytes (numbered kind ns) = letter_of kind ∷ flat_map shortest ns
body_bytes (noted text) = letter_of NoteKind ∷ text

-- the record: the length of its body, and the body
abbrev pub record_bytes : Content → List ℕ
record_bytes c = shortest (length (body_bytes c)) ++ body_bytes c

-- what a record can say
abbrev pub Recordable : Content → Type 0
Recordable c = InForm c × (length (body_bytes c) < 2 ^ 32)
