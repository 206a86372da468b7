-- The kinds of record, each with its letter and the numbers that the letter calls for.
use Rattle.std.specs.Prelude.{◌≡◌, ℕ, Bool, true, false, cond, Some, None, Option, ◌==◌}
use Rattle.recording.specs.declared.kinds.RecordKind.{RecordKind}
use Rattle.recording.specs.declared.kinds.RecordKind.TheVariants.{Set, Shares, Loss, Command, Open, Want, Settle, Drop, Note}
use Rattle.recording.specs.Exactly.{Exactly}

-- C, S, L, T, O, W, E, X, N
abbrev pub letter_of : RecordKind → ℕ
letter_of Set = 0x43
letter_of Shares = 0x53
letter_of Loss = 0x4C
letter_of Command = 0x54
letter_of Open = 0x4F
letter_of Want = 0x57
letter_of Settle = 0x45
letter_of Drop = 0x58
letter_of Note = 0x4E

-- how many numbers follow the letter; a note has text
abbrev pub numbers_of : RecordKind → Option ℕ
numbers_of Set = Some 6
numbers_of Shares = Some 3
numbers_of Loss = Some 2
numbers_of Command = Some 3
numbers_of Open = Some 0
numbers_of Want = Some 6
numbers_of Settle = Some 0
numbers_of Drop = Some 0
numbers_of Note = None

-- W, E and X stand only where a subframe is open
abbrev pub needs_open : RecordKind → Bool
needs_open Set = false
needs_open Shares = false
needs_open Loss = false
needs_open Command = false
needs_open Open = false
needs_open Want = true
needs_open Settle = true
needs_open Drop = true
needs_open Note = false

-- O opens a subframe, E and X end it
abbrev pub leaves_open : RecordKind → Bool → Bool
leaves_open Set is_open = is_open
leaves_open Shares is_open = is_open
leaves_open Loss is_open = is_open
leaves_open Command is_open = is_open
leaves_open Open is_open = true
leaves_open Want is_open = is_open
leaves_open Settle is_open = false
leaves_open Drop is_open = false
leaves_open Note is_open = is_open

-- the kind that has the letter, looked for in turn
abbrev pub if_letter : ℕ → RecordKind → Option RecordKind → Option RecordKind
if_letter letter kind others = cond (letter == letter_of kind) (Some kind) others

abbrev pub kind_with : ℕ → Option RecordKind
kind_with letter =
    if_letter letter Set (if_letter letter Shares (if_letter letter Loss (if_letter letter Command (if_letter letter Open
    (if_letter letter Want (if_letter letter Settle (if_letter letter Drop (if_letter letter Note None))))))))

-- a kind is answered exactly where the letter is its letter
abbrev pub KindOfLetter : ℕ → Option RecordKind → Type 0
KindOfLetter letter r = (kind : RecordKind) → Exactly (r ≡ Some kind) (letter ≡ letter_of kind)
