-- The text of a fault.
use Rattle.std.specs.Prelude.{ℕ, List, [], ◌∷◌, ◌++◌, codes, decimal}

-- one piece of text after another
abbrev pub pieces : List (List ℕ) → List ℕ
pieces [] = []
pieces (p ∷ []) = p
pieces (p ∷ q ∷ ps) = p ++ pieces (q ∷ ps)

-- `!`, a place, a layer's letter and a number
abbrev pub marked : ℕ → ℕ → ℕ → List ℕ
marked place letter number = pieces (codes "! " ∷ decimal place ∷ codes " " ∷ (letter ∷ []) ∷ codes " " ∷ decimal number ∷ [])
