-- Lists of four, and the grants of a split read off its claims.
use Rattle.std.proofs.Common.{◌≡◌, ℕ, Bool, true, false, List, [], ◌∷◌, map, length, get_or, Ok, Err, Result, sym, refl, ◌∙◌, arith}
use Rattle.std.proofs.lemmas.Bool.{cond-true, cond-false}
use Rattle.refusals.specs.declared.Refusal.{Refusal}
use Rattle.refusals.specs.declared.Refusal.TheVariants.{OutOfRange}
use Rattle.split.specs.Shares.{split_of}
use Rattle.split.specs.Answer.{allowed, answer}
use Rattle.settling.specs.Grants.{split_grants}

-- a list of four, read place by place
pub four_is : {X Y : Type 0} (f : X → Y) (xs : List X) (d e g h : X) → length xs ≡ 4 → ◌≡◌ {A = List Y} (f (get_or xs 0 d) ∷ f (get_or xs 1 e) ∷ f (get_or xs 2 g) ∷ f (get_or xs 3 h) ∷ []) (map f xs)
four_is f [] d e g h l = absurd (omega arith)
four_is f (x ∷ []) d e g h l = absurd (omega arith)
four_is f (x ∷ y ∷ []) d e g h l = absurd (omega arith)
four_is f (x ∷ y ∷ z ∷ []) d e g h l = absurd (omega arith)
four_is f (x ∷ y ∷ z ∷ w ∷ []) d e g h l = refl
four_is f (x ∷ y ∷ z ∷ w ∷ v ∷ xs) d e g h l = absurd (omega arith)

-- what claims hold after a split, and what is granted by one that is refused
module _ (wants : List ℕ) (room : ℕ) where
  pub split_read : (held : List ℕ) → Ok tt ≡ answer wants room → held ≡ split_of wants room → held ≡ split_grants wants room
  split_read held a g = go (allowed wants room) refl
    where
      go : (b : Bool) → allowed wants room ≡ b → held ≡ split_grants wants room
      go true e = g ∙ sym (cond-true (allowed wants room) _ _ e)
      go false e = let k : ◌≡◌ {A = Result (Unit {0}) Refusal} (Ok tt) (Err OutOfRange) = a ∙ cond-false (allowed wants room) _ _ e in absurd cc

  pub none_granted : (r : Refusal) → Err r ≡ answer wants room → length wants ≡ 4 → ◌≡◌ {A = List ℕ} (0 ∷ 0 ∷ 0 ∷ 0 ∷ []) (split_grants wants room)
  none_granted r a four = go (allowed wants room) refl
    where
      go : (b : Bool) → allowed wants room ≡ b → ◌≡◌ {A = List ℕ} (0 ∷ 0 ∷ 0 ∷ 0 ∷ []) (split_grants wants room)
      go true e = let k : ◌≡◌ {A = Result (Unit {0}) Refusal} (Err r) (Ok tt) = a ∙ cond-true (allowed wants room) _ _ e in absurd cc
      go false e = four_is (λ n. 0) wants 0 0 0 0 four ∙ sym (cond-false (allowed wants room) _ _ e)
