-- What the claims hold and ask once they have their grants.
use Rattle.std.proofs.Common.{◌≡◌, ℕ, List, [], ◌∷◌, map, length, refl, ap, ◌∙◌, arith}
use Rattle.split.specs.Shares.{with_grants}

module _ {C : Type 0} (given : C → ℕ → C) where
  pub granted_holds : (holds : C → ℕ) → ((c : C) (n : ℕ) → holds (given c n) ≡ n) → (cs : List C) (ns : List ℕ) → length ns ≡ length cs → map holds (with_grants given cs ns) ≡ ns
  granted_holds holds law [] [] h = refl
  granted_holds holds law [] (n ∷ ns) h = absurd (omega arith)
  granted_holds holds law (c ∷ cs) [] h = absurd (omega arith)
  granted_holds holds law (c ∷ cs) (n ∷ ns) h =
      ap (λ (m : ℕ). m ∷ map holds (with_grants given cs ns)) (law c n) ∙ ap (λ (ms : List ℕ). n ∷ ms) (granted_holds holds law cs ns (omega arith))

  pub granted_asks : (asks : C → ℕ) → ((c : C) (n : ℕ) → asks (given c n) ≡ asks c) → (cs : List C) (ns : List ℕ) → map asks (with_grants given cs ns) ≡ map asks cs
  granted_asks asks law [] ns = refl
  granted_asks asks law (c ∷ cs) [] = refl
  granted_asks asks law (c ∷ cs) (n ∷ ns) =
      ap (λ (m : ℕ). m ∷ map asks (with_grants given cs ns)) (law c n) ∙ ap (λ (ms : List ℕ). asks c ∷ ms) (granted_asks asks law cs ns)
