-- All the cells of a terminal.
use Rattle.std.specs.Prelude.{ℕ, List, [], ◌∷◌, None, slice_index_or}
use Rattle.cells.specs.declared.cell.Cell.{Cell}
use Rattle.cells.specs.declared.wants.CellWants.{CellWants}
use Rattle.cells.specs.declared.powers.Powers.{Powers}
use Rattle.cells.specs.Cells.{unset_cell}
use Rattle.cells.specs.Loops.{moved}
use Rattle.cells.specs.Powers.{wanted_powers}

-- each cell after the subframe n, moved with its own wants
unfoldable pub all_moved : List Cell → List CellWants → ℕ → List Cell
all_moved [] ws n = []
all_moved (k ∷ ks) [] n = k ∷ ks
all_moved (k ∷ ks) (w ∷ ws) n = moved k w n ∷ all_moved ks ws n

-- what each cell wants
unfoldable pub all_wanted : List Cell → List CellWants → List Powers
all_wanted [] ws = []
all_wanted (k ∷ ks) [] = []
all_wanted (k ∷ ks) (w ∷ ws) = wanted_powers k w ∷ all_wanted ks ws

-- what the cell at a place wants; outside there is an unset cell, which wants nothing
abbrev pub wanted_at : List Cell → List CellWants → ℕ → Powers
wanted_at ks ws i = wanted_powers (slice_index_or ks i unset_cell) (slice_index_or ws i (record { control = None; «data» = None; sounding = None }))

-- two lists of one length, of which P holds place by place
abbrev pub Pairwise : {A B : Type 0} → (A → B → Type 0) → List A → List B → Type 0
Pairwise P [] [] = Unit {0}
Pairwise P [] (y ∷ ys) = ⊥
Pairwise P (x ∷ xs) [] = ⊥
Pairwise P (x ∷ xs) (y ∷ ys) = P x y × Pairwise P xs ys
