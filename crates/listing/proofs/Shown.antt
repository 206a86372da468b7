-- A text whose bytes are all shown as they are.
use Rattle.std.proofs.Common.{◌≡◌, ◌==◌, ℕ, true, List, [], ◌∷◌, refl, ap, ◌∙◌}
use Rattle.std.specs.List.{list_all}
use Rattle.std.proofs.lemmas.Bool.{eqb-true, and_parts}
use Rattle.listing.specs.Lines.{shown_byte, shown_text}

pub as_it_stands : (bytes : List ℕ) → list_all (λ b. shown_byte b == b) bytes ≡ true → shown_text bytes ≡ bytes
as_it_stands [] all = refl
as_it_stands (b ∷ bytes) all =
    let both = and_parts _ _ all in
    ap (λ (c : ℕ). c ∷ shown_text bytes) (eqb-true (shown_byte b) b both.0) ∙ ap (λ (cs : List ℕ). b ∷ cs) (as_it_stands bytes both.1)
