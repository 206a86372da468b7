-- Which refusal a call answers: that of the first condition that holds, in the order in which the conditions are listed.
use Rattle.std.specs.Prelude.{◌≡◌, Bool, List, [], ◌∷◌, ◌++◌, Some, None, Ok, Err, Option, Result}
use Rattle.std.specs.Bool.{then_some}
use Rattle.std.specs.List.{AllByRecursion}
use Rattle.std.specs.Option.{option_or}
use Rattle.refusals.specs.declared.Refusal.{Refusal}

-- a condition, as the refusal that it gives where it holds
abbrev pub when : Bool → Refusal → Option Refusal
when b e = then_some b e

abbrev pub first_that_holds : List (Option Refusal) → Option Refusal
first_that_holds [] = None
first_that_holds (c ∷ cs) = option_or c (first_that_holds cs)

-- a call's answer: its result, unless it is refused
abbrev pub refused_or : {A : Type 0} → Option Refusal → A → Result A Refusal
refused_or None x = Ok x
refused_or (Some e) x = Err e

-- what a call leaves: what it makes, unless it is refused, and then what was there before
abbrev pub unchanged_or : {A : Type 0} → Option Refusal → (made before : A) → A
unchanged_or None made before = made
unchanged_or (Some e) made before = before

-- none of the conditions holds
abbrev pub NoneHolds : List (Option Refusal) → Type 0
NoneHolds cs = AllByRecursion (λ c. c ≡ None) cs

-- a condition that gives e holds, and none that is listed before it does
pub record FirstGives (e : Refusal) (cs : List (Option Refusal)) : Type 0 where
  pub before : List (Option Refusal)
  pub after : List (Option Refusal)
  pub listed : cs ≡ before ++ (Some e ∷ after)
  pub none_before : NoneHolds before

-- e is answered exactly where the first condition that holds gives e, and nothing exactly where none holds
pub record FirstThatHolds (cs : List (Option Refusal)) (answer : Option Refusal) : Type 0 where
  pub gives : (e : Refusal) → answer ≡ Some e → FirstGives e cs
  pub given : (e : Refusal) → FirstGives e cs → answer ≡ Some e
  pub nothing : answer ≡ None → NoneHolds cs
  pub passes : NoneHolds cs → answer ≡ None
