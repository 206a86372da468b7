-- What a grant writes into a cell's claim.
use Rattle.std.specs.Prelude.{ℕ}
use Rattle.split.specs.declared.cell_claim.CellClaim.{CellClaim}

abbrev pub given : {class : ℕ} → CellClaim class → ℕ → CellClaim class
given claim n = record { want = claim.want; granted = n }
