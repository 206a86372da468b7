-- The numbers of cells.
use Rattle.std.specs.Prelude.{ℕ, List, [], ◌∷◌, nat_lt, Option}
use Rattle.refusals.specs.declared.Refusal.TheVariants.{NoSuchCell}
use Rattle.refusals.specs.declared.Refusal.{Refusal}
use Rattle.refusals.specs.First.{when}

-- there are eight cells
abbrev pub cell_conditions : ℕ → List (Option Refusal)
cell_conditions k = when (nat_lt 7 k) NoSuchCell ∷ []
