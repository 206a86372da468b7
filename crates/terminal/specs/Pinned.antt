-- What every call keeps to: it is refused by the first of its conditions that holds and then changes nothing, or it is done.
use Rattle.std.specs.Prelude.{◌≡◌, List, Some, None, Ok, Err, Option, Result}
use Rattle.refusals.specs.declared.Refusal.{Refusal}
use Rattle.refusals.specs.First.{first_that_holds, refused_or, unchanged_or, FirstThatHolds}
use Rattle.states.specs.declared.state.State.{State}

-- the refusal of an answer, if it is one
abbrev pub refusal_in : {A : Type 0} → Result A Refusal → Option Refusal
refusal_in (Ok x) = None
refusal_in (Err e) = Some e

-- A call with these conditions, on the state s and the holding rule v: it answers x and makes `made` of the state, unless it is refused.
pub record RefusedOrDone {A V : Type 0} (conditions : List (Option Refusal)) (x : A) (made s after : State) (v rule_after : V) (answer : Result A Refusal) : Type 0 where
  pub answers : answer ≡ refused_or (first_that_holds conditions) x
  pub leaves : after ≡ unchanged_or (first_that_holds conditions) made s
  pub same_rule : rule_after ≡ v
  -- a number is answered exactly where its condition holds and none earlier in the order does
  pub refused_exactly : FirstThatHolds conditions (refusal_in answer)
  pub refused_changes_nothing : (e : Refusal) → answer ≡ Err e → (after ≡ s) × (rule_after ≡ v)
