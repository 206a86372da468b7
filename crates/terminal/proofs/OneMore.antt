-- The wants of a subframe with one more.
use Rattle.std.proofs.Common.{◌≡◌, ℕ, zero, suc, ◌+◌, ◌≤◌, true, false, cond, ◌&&◌, eqb, ltb, ◌⊎◌, List, [], ◌∷◌, get_or, sym, refl, ap, subst, inl, inr, ⊎_elim, arith}
use mathlib.Core.Logic.{∥∥₁_elim, ∥∥₁_prop}
use Rattle.std.proofs.lemmas.Bool.{ltb-false, le-ltb}
use Rattle.std.proofs.lemmas.Bool.Decides.{nat_tests}
use Rattle.std.specs.List.{AllByRecursion}
use Rattle.sharing.specs.declared.groups.Group.{Group}
use Rattle.sharing.specs.declared.groups.Group.TheVariants.{Master, Secondary}
use Rattle.sharing.specs.declared.ranks.Class.{Class}
use Rattle.sharing.specs.declared.ranks.Class.TheVariants.{Acknowledgement, ControlInformation, DataOnly, Sounding as SoundingClass}
use Rattle.sharing.specs.Ranks.{class_number}
use Rattle.cells.specs.declared.wants.CellWants.{CellWants}
use Rattle.cells.specs.declared.wants.Want.{Want}
use Rattle.cells.specs.declared.wants.Want.TheVariants.{Control, Data, Sounding}
use Rattle.cells.specs.Kinds.{class_of_want}
use Rattle.cells.specs.WantRanges.{WantInRange, WantsInRange}
use Rattle.settling.specs.Classes.{no_wants}
use Rattle.settling.specs.AddUp.{claims_in, over_group}
use Rattle.states.specs.Wanted.{group_of, has_kind, with_want, is_single, given_already, put_want}
use Rattle.states.specs.declared.state.State.{State}
use Rattle.states.specs.declared.state.Subframe.TheVariants.{Open}
use Rattle.states.specs.States.{wants_in, with_subframe}
use Rattle.terminal.specs.Kept.{WantsKept}

-- a want in range beside others in range
with_in_range : (w : Want) (ws : CellWants) → WantInRange w → WantsInRange ws → WantsInRange (with_want w ws)
with_in_range (Control w) ws h r = record { of_control = h; of_data = r.of_data; of_sounding = r.of_sounding }
with_in_range (Data w) ws h r = record { of_control = r.of_control; of_data = h; of_sounding = r.of_sounding }
with_in_range (Sounding w) ws h r = record { of_control = r.of_control; of_data = r.of_data; of_sounding = h }

put_in_range : (w : Want) → WantInRange w → (ws : List CellWants) (k : ℕ) → AllByRecursion WantsInRange ws → AllByRecursion WantsInRange (put_want ws k w)
put_in_range w h [] k r = tt
put_in_range w h (x ∷ ws) zero r = (with_in_range w x h r.0, r.1)
put_in_range w h (x ∷ ws) (suc k) r = (r.0, put_in_range w h ws k r.1)

-- 1 where the want is of the class
abbrev one_if : (own c : Class) → ℕ
one_if own c = cond (eqb (class_number own) (class_number c)) 1 0

abbrev one_of : Class → Want → ℕ
one_of c w = one_if (class_of_want w) c

-- one more want of a kind is at most one more claim, and that in its own class
claims_more : (c : Class) (w : Want) (ws : CellWants) → has_kind w ws ≡ false → claims_in c (with_want w ws) ≤ claims_in c ws + one_of c w
claims_more c (Control w) ws h = omega arith
claims_more c (Data w) ws h = omega arith
claims_more c (Sounding w) ws h = omega arith

-- d at the place k, and nothing elsewhere
here : ℕ → ℕ → ℕ → ℕ
here zero zero d = d
here zero (suc k) d = 0
here (suc j) zero d = 0
here (suc j) (suc k) d = here j k d

-- the claims at a place, before and after
claims_at : (c : Class) (ws : List CellWants) (k : ℕ) (w : Want) (j : ℕ) → has_kind w (get_or ws k no_wants) ≡ false →
    claims_in c (get_or (put_want ws k w) j no_wants) ≤ claims_in c (get_or ws j no_wants) + here j k (one_of c w)
unfolding here
claims_at c [] k w j h = omega arith
claims_at c (x ∷ ws) zero w zero h = claims_more c w x h
claims_at c (x ∷ ws) zero w (suc j) h = omega arith
claims_at c (x ∷ ws) (suc k) w zero h = omega arith
claims_at c (x ∷ ws) (suc k) w (suc j) h = claims_at c ws k w j h

-- only one of the four places of a group is the one that was changed
in_group : Group → ℕ → ℕ → ℕ
in_group Master k d = here 0 k d + here 1 k d + here 2 k d + here 3 k d
in_group Secondary k d = here 4 k d + here 5 k d + here 6 k d + here 7 k d

in_own_group : (X : Group) (k d : ℕ) → (in_group X k d ≡ 0) ⊎ ((X ≡ group_of k) × (in_group X k d ≤ d))
unfolding in_group here
in_own_group Master zero d = inr (refl, omega arith)
in_own_group Master (suc zero) d = inr (refl, omega arith)
in_own_group Master (suc (suc zero)) d = inr (refl, omega arith)
in_own_group Master (suc (suc (suc zero))) d = inr (refl, omega arith)
in_own_group Master (suc (suc (suc (suc k)))) d = inl refl
in_own_group Secondary zero d = inl refl
in_own_group Secondary (suc zero) d = inl refl
in_own_group Secondary (suc (suc zero)) d = inl refl
in_own_group Secondary (suc (suc (suc zero))) d = inl refl
in_own_group Secondary (suc (suc (suc (suc k)))) d = inr (rw (le-ltb (suc (suc (suc (suc k)))) 4 (omega arith)) refl, last k)
  where
    last : (n : ℕ) → here 0 n d + here 1 n d + here 2 n d + here 3 n d ≤ d
    last zero = omega arith
    last (suc zero) = omega arith
    last (suc (suc zero)) = omega arith
    last (suc (suc (suc zero))) = omega arith
    last (suc (suc (suc (suc n)))) = omega arith

module _ (ws : List CellWants) (k : ℕ) (w : Want) (new : given_already ws k w ≡ false) where
  no_such_kind : has_kind w (get_or ws k no_wants) ≡ false
  no_such_kind = grind (arith, nat_tests)

  grown : (c : Class) (X : Group) → over_group (claims_in c) no_wants (put_want ws k w) X ≤ over_group (claims_in c) no_wants ws X + in_group X k (one_of c w)
  unfolding in_group
  grown c Master = let at = λ (j : ℕ). claims_at c ws k w j no_such_kind in omega (arith, at 0, at 1, at 2, at 3)
  grown c Secondary = let at = λ (j : ℕ). claims_at c ws k w j no_such_kind in omega (arith, at 4, at 5, at 6, at 7)

  -- where the want is of a class that has to be alone, its group has none of that class yet
  none_yet : (c : Class) → is_single c ≡ true → (one_of c w ≡ 0) ⊎ ((one_of c w ≡ 1) × (over_group (claims_in c) no_wants ws (group_of k) ≡ 0))
  none_yet c single = by_class (class_of_want w) c single (second new)
    where
      second : given_already ws k w ≡ false → (is_single (class_of_want w) && ltb 0 (over_group (claims_in (class_of_want w)) no_wants ws (group_of k))) ≡ false
      second e = grind (arith, nat_tests)

      none_of : (own : Class) → (true && ltb 0 (over_group (claims_in own) no_wants ws (group_of k))) ≡ false → over_group (claims_in own) no_wants ws (group_of k) ≡ 0
      none_of own e = omega (arith, ltb-false 0 (over_group (claims_in own) no_wants ws (group_of k)) e)

      by_class : (own c : Class) → is_single c ≡ true → (is_single own && ltb 0 (over_group (claims_in own) no_wants ws (group_of k))) ≡ false →
          (one_if own c ≡ 0) ⊎ ((one_if own c ≡ 1) × (over_group (claims_in c) no_wants ws (group_of k) ≡ 0))
      by_class Acknowledgement Acknowledgement s e = inr (refl, none_of Acknowledgement e)
      by_class Acknowledgement ControlInformation s e = inl refl
      by_class ControlInformation Acknowledgement s e = inl refl
      by_class ControlInformation ControlInformation s e = inr (refl, none_of ControlInformation e)
      by_class DataOnly Acknowledgement s e = inl refl
      by_class DataOnly ControlInformation s e = inl refl
      by_class SoundingClass Acknowledgement s e = inl refl
      by_class SoundingClass ControlInformation s e = inl refl
      by_class own DataOnly s e = cc
      by_class own SoundingClass s e = cc

  alone_in : (c : Class) → is_single c ≡ true → ((X : Group) → over_group (claims_in c) no_wants ws X ≤ 1) → (X : Group) → over_group (claims_in c) no_wants (put_want ws k w) X ≤ 1
  alone_in c single before X =
      let more = grown c X in
      let old = before X in
      ⊎_elim (λ z. omega arith)
      (λ own. ⊎_elim (λ z. omega (arith, own.1)) (λ one. let first : over_group (claims_in c) no_wants ws X ≡ 0 = rw own.0 one.1 in omega (arith, own.1, one.0)) (none_yet c single))
      (in_own_group X k (one_of c w))

  one_more : WantInRange w → WantsKept ws → WantsKept (put_want ws k w)
  one_more h r = record {
    in_range = put_in_range w h ws k r.in_range;
    alone = record { first_class = alone_in Acknowledgement refl r.alone.first_class; second_class = alone_in ControlInformation refl r.alone.second_class };
  }

-- so a terminal keeps to it
pub more_kept : (ws : List CellWants) (k : ℕ) (w : Want) → given_already ws k w ≡ false → WantInRange w → ∥ WantsKept ws ∥₁ → (more : List CellWants) → more ≡ put_want ws k w → ∥ WantsKept more ∥₁
more_kept ws k w new h kept more is = subst (λ (vs : List CellWants). ∥ WantsKept vs ∥₁) (sym is) (∥∥₁_elim kept ∥∥₁_prop (λ r. ∣ one_more ws k w new h r ∣₁))

pub want_put : (s : State) (i j : ℕ) (w v : Want) → ◌≡◌ {A = ℕ × Want} (i, w) (j, v) → with_subframe s (Open (put_want (wants_in s.subframe) i w)) ≡ with_subframe s (Open (put_want (wants_in s.subframe) j v))
want_put s i j w v same = let put : ℕ × Want → State = λ q. with_subframe s (Open (put_want (wants_in s.subframe) q.0 q.1)) in ap put same
