-- What an answer says of the conditions that were asked, and what they say of it.
use Rattle.std.proofs.Common.{◌≡◌, Bool, true, false, List, [], ◌∷◌, ◌++◌, Some, None, Ok, Err, Option, sym, refl, ap, ◌∙◌, subst}
use Rattle.std.specs.Option.{option_or}
use Rattle.std.proofs.lemmas.Option.{none-some}
use Rattle.refusals.specs.declared.Refusal.{Refusal}
use Rattle.refusals.specs.First.{when, first_that_holds, refused_or, unchanged_or}

-- a condition that gives no refusal does not hold
pub not_held : (b : Bool) (e : Refusal) → when b e ≡ None → b ≡ false
not_held true e h = absurd (none-some e (sym h))
not_held false e h = refl

-- of two lists, the first is asked first
pub asked_in_turn : (xs ys : List (Option Refusal)) → first_that_holds (xs ++ ys) ≡ option_or (first_that_holds xs) (first_that_holds ys)
asked_in_turn [] ys = refl
asked_in_turn (None ∷ xs) ys = asked_in_turn xs ys
asked_in_turn (Some e ∷ xs) ys = refl

-- conditions that are asked after others, none of which holds
pub asked_after : (xs ys : List (Option Refusal)) → first_that_holds xs ≡ None → first_that_holds (xs ++ ys) ≡ first_that_holds ys
asked_after xs ys none = asked_in_turn xs ys ∙ ap (λ (o : Option Refusal). option_or o (first_that_holds ys)) none

-- a refusal is that of the first condition that holds
pub refusal_is : {X : Type 0} (o : Option Refusal) (e : Refusal) (x : X) → Err e ≡ refused_or o x → o ≡ Some e
refusal_is None e x h = absurd cc
refusal_is (Some d) e x h = let s : e ≡ d = cc in ap Some (sym s)

-- it is the same whatever would have been answered, and whatever would have been asked after it
pub refused_same : {X Y : Type 0} (o : Option Refusal) (e : Refusal) (x : X) (y : Y) → Err e ≡ refused_or o x → Err e ≡ refused_or o y
refused_same o e x y h = subst (λ (p : Option Refusal). Err e ≡ refused_or p y) (sym (refusal_is o e x h)) refl

pub refused_before : {X Y : Type 0} (o p : Option Refusal) (e : Refusal) (x : X) (y : Y) → Err e ≡ refused_or o x → Err e ≡ refused_or (option_or o p) y
refused_before o p e x y h = subst (λ (q : Option Refusal). Err e ≡ refused_or (option_or q p) y) (sym (refusal_is o e x h)) refl

-- a call that was admitted met no condition, and answers what it gives
pub admitted : {X : Type 0} (o : Option Refusal) (x y : X) → Ok x ≡ refused_or o y → (o ≡ None) × (x ≡ y)
admitted None x y h = (refl, cc)
admitted (Some e) x y h = absurd cc

pub accepts : {X : Type 0} (o : Option Refusal) (x y : X) → o ≡ None → x ≡ y → Ok x ≡ refused_or o y
accepts o x y none e = subst (λ (p : Option Refusal). Ok x ≡ refused_or p y) (sym none) (ap Ok e)

-- where no condition holds there is no refusal
pub never_refused : {X : Type 0} (o : Option Refusal) (e : Refusal) (x : X) → o ≡ None → Err e ≡ refused_or o x → ⊥
never_refused o e x none h = none-some e (sym none ∙ refusal_is o e x h)

pub changed : {X : Type 0} (o : Option Refusal) (x made before : X) → o ≡ None → x ≡ unchanged_or o made before → x ≡ made
changed o x made before none e = subst (λ (p : Option Refusal). x ≡ unchanged_or p made before) none e

-- a refused call leaves what was there
pub left_alone : {X Z : Type 0} (o : Option Refusal) (e : Refusal) (x : X) (made before : Z) → Err e ≡ refused_or o x → before ≡ unchanged_or o made before
left_alone o e x made before h = subst (λ (p : Option Refusal). before ≡ unchanged_or p made before) (sym (refusal_is o e x h)) refl
