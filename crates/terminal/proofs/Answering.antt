-- A call that was refused, and one that was done, from what its admission answers.
use Rattle.std.proofs.Common.{◌≡◌, List, Some, None, Ok, Err, Option, Result, sym, refl, ap, ◌∙◌, subst}
use Rattle.refusals.proofs.Answered.{accepts, left_alone, refusal_is, refused_same}
use Rattle.refusals.specs.declared.Refusal.{Refusal}
use Rattle.refusals.specs.First.{first_that_holds, refused_or, unchanged_or, FirstThatHolds}
use Rattle.refusals.proofs.Firsts.{answers}
use Rattle.states.specs.declared.state.State.{State}
use Rattle.std.specs.Result.{IsErrAnd}
use Rattle.std.proofs.lemmas.Result.{err_from_is_err_and}
use Rattle.terminal.specs.Pinned.{RefusedOrDone, refusal_in}

pub not_refused : {X E : Type 0} (e : E) (x : X) → Ok x ≡ Err e → ⊥
not_refused e x h = cc

pub refusal_of : {X : Type 0} (o : Option Refusal) (x : X) → refusal_in (refused_or o x) ≡ o
refusal_of None x = refl
refusal_of (Some e) x = refl

-- an answer that is pinned is refused exactly where the first condition that holds says so
pub exactly : {X : Type 0} (cs : List (Option Refusal)) (r : Result X Refusal) (x : X) → r ≡ refused_or (first_that_holds cs) x → FirstThatHolds cs (refusal_in r)
exactly cs r x e = answers cs (refusal_in r) (ap refusal_in e ∙ refusal_of (first_that_holds cs) x)

-- the refusal of the admission is the call's
pub refused_with : {X Y : Type 0} (o : Option Refusal) (r : Result Y Refusal) (d : Refusal) (x : X) (y : Y) → r ≡ Err d → Err d ≡ refused_or o x → r ≡ refused_or o y
refused_with o r d x y is h = is ∙ refused_same o d x y h

pub refused_exactly : {X Y : Type 0} (cs : List (Option Refusal)) (r : Result Y Refusal) (d : Refusal) (x : X) → IsErrAnd r (λ e. e ≡ d) → Err d ≡ refused_or (first_that_holds cs) x → FirstThatHolds cs (refusal_in r)
refused_exactly cs r d x out h =
    let p = err_from_is_err_and r out in
    answers cs (refusal_in r) (ap refusal_in p.1 ∙ (ap Some p.2 ∙ sym (refusal_is (first_that_holds cs) d x h)))

pub refused_call : {X Y V : Type 0} (cs : List (Option Refusal)) (y : Y) (made s : State) (v : V) (r : Result Y Refusal) (d : Refusal) (x : X) →
    IsErrAnd r (λ e. e ≡ d) → Err d ≡ refused_or (first_that_holds cs) x → RefusedOrDone cs y made s s v v r
refused_call cs y made s v r d x out h =
    let p = err_from_is_err_and r out in
    let answer = refused_with (first_that_holds cs) r d x y (p.1 ∙ ap Err p.2) h in
    record {
      answers = answer;
      leaves = left_alone (first_that_holds cs) d x made s h;
      same_rule = refl;
      refused_exactly = exactly cs r y answer;
      refused_changes_nothing = λ e k. (refl, refl);
    }

pub done_call : {Y V : Type 0} (cs : List (Option Refusal)) (x y : Y) (made s after : State) (v left : V) → first_that_holds cs ≡ None → x ≡ y → after ≡ made → left ≡ v → RefusedOrDone cs y made s after v left (Ok x)
done_call cs x y made s after v left none is is_made same =
    let answer = accepts (first_that_holds cs) x y none is in
    record {
      answers = answer;
      leaves = subst (λ (p : Option Refusal). after ≡ unchanged_or p made s) (sym none) is_made;
      same_rule = same;
      refused_exactly = exactly cs (Ok x) y answer;
      refused_changes_nothing = λ e k. absurd (not_refused e x k);
    }
