-- The text of a line.
use Rattle.std.specs.Prelude.{ℕ, cond, ◌&&◌, List, [], ◌∷◌, ◌++◌, map, pos, ◌-ℤ◌, codes, decimal, nat_le}
use Rattle.std.specs.Fmt.{signed_decimal}
use Rattle.recording.specs.declared.records.Record.{Record}
use Rattle.recording.specs.declared.records.Record.TheVariants.{Set, Shares, Loss, Command, Open, Want, Settle, Drop, Note}
use Rattle.faults.specs.Marks.{pieces}

-- a byte of a note; one that is not printable, as `?`
abbrev pub shown_byte : ℕ → ℕ
shown_byte b = cond (nat_le 0x20 b && nat_le b 0x7E) b 0x3F

-- a note's text as it is shown
abbrev pub shown_text : List ℕ → List ℕ
shown_text bytes = map shown_byte bytes

-- what a number with 2000 added means
abbrev pub meant : ℕ → List ℕ
meant n = signed_decimal (pos n -ℤ pos 2000)

-- what a SET says after its cell and its loop kind
abbrev pub bases_text : (maximum data_base path_factor control_base : ℕ) → List ℕ
bases_text maximum data_base path_factor control_base =
    pieces (codes ", maximum " ∷ meant maximum ∷ codes ", data base " ∷ meant data_base ∷ codes ", path factor " ∷ decimal path_factor ∷ codes ", control base " ∷ meant control_base ∷ [])

-- a record's name, and its numbers by name
abbrev pub record_words : Record → List ℕ
record_words (Set cell loop_kind maximum data_base path_factor control_base) =
    pieces (codes "SET cell " ∷ decimal cell ∷ codes ", loop kind " ∷ decimal loop_kind ∷ []) ++ bases_text maximum data_base path_factor control_base
record_words (Shares total master secondary) = pieces (codes "SHARES total " ∷ meant total ∷ codes ", master " ∷ decimal master ∷ codes ", secondary " ∷ decimal secondary ∷ [])
record_words (Loss cell loss) = pieces (codes "LOSS cell " ∷ decimal cell ∷ codes ", loss " ∷ decimal loss ∷ [])
record_words (Command cell channel code) = pieces (codes "COMMAND cell " ∷ decimal cell ∷ codes ", channel " ∷ decimal channel ∷ codes ", code " ∷ decimal code ∷ [])
record_words Open = codes "OPEN"
record_words (Want cell kind class size format offset) =
    pieces (codes "WANT cell " ∷ decimal cell ∷ codes ", kind " ∷ decimal kind ∷ codes ", class " ∷ decimal class ∷ []) ++
    pieces (codes ", size " ∷ decimal size ∷ codes ", format " ∷ decimal format ∷ codes ", offset " ∷ meant offset ∷ [])
record_words Settle = codes "SETTLE, GROUPS, DONE"
record_words Drop = codes "DROP"
record_words (Note text) = pieces (codes "NOTE " ∷ shown_text text.now ∷ [])

-- a record's place, and what it says
abbrev pub record_line : ℕ → Record → List ℕ
record_line place r = pieces (decimal place ∷ codes " " ∷ record_words r ∷ [])
