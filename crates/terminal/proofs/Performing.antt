-- Any call, as the code reaches it.
use Rattle.std.proofs.Common.{◌≡◌, ℕ, Some, None, Ok, Option, Result, sym, refl, ap, ◌∙◌, subst}
use Rattle.refusals.specs.declared.Refusal.{Refusal}
use Rattle.refusals.specs.First.{first_that_holds, refused_or, unchanged_or}
use Rattle.refusals.proofs.Answered.{accepts, admitted}
use Rattle.refusals.proofs.Firsts.{answers}
use Rattle.cells.specs.declared.wants.RawWant.{RawWant}
use Rattle.states.specs.declared.state.State.{State}
use Rattle.states.specs.Admission.{refuses_want}
use Rattle.terminal.specs.declared.call.Call.{Call}
use Rattle.terminal.specs.declared.call.Call.TheVariants.{Want}
use Rattle.terminal.specs.declared.call.Answer.TheVariants.{Accepted}
use Rattle.terminal.specs.declared.call.Answer.{Answer}
use Rattle.terminal.specs.Pinned.{refusal_in}
use Rattle.terminal.proofs.Answering.{refusal_of}
use Rattle.terminal.specs.Calls.{conditions, refusal, result, answer_to, state_after, rule_after, Performs}

-- a call that leaves the rule, refused or not
pub same_or_same : {V : Type 0} (o : Option Refusal) (v : V) → v ≡ unchanged_or o v v
same_or_same None v = refl
same_or_same (Some e) v = refl

-- What an accepted WANT answers. `make` is given this by name, and no answer of its own says it, so that a wrong one is refused where it stands.
pub want_accepted : (s : State) (c : Call) (n k : ℕ) (r : RawWant) (x : Unit {0}) → c ≡ Want n k r → Ok x ≡ refused_or (first_that_holds (refuses_want s n k r)) tt → Ok Accepted ≡ answer_to s c
want_accepted s c n k r x is e =
    accepts (first_that_holds (refuses_want s n k r)) Accepted Accepted (admitted (first_that_holds (refuses_want s n k r)) x tt e).0 refl ∙ sym (ap (answer_to s) is)

some_refusal : {Z : Type 0} (o : Option Refusal) (e : Refusal) (made s : Z) → o ≡ Some e → unchanged_or o made s ≡ s
some_refusal o e made s is = subst (λ (p : Option Refusal). unchanged_or p made s ≡ s) (sym is) refl

pub performed : {V : Type 0} (reserve : V → ℕ → ℕ → ℕ) (c : Call) (s after : State) (v left : V) (a : Result Answer Refusal) →
    a ≡ answer_to s c → after ≡ state_after (reserve v) s c → left ≡ rule_after s v c → Performs reserve c s after v left a
performed reserve c s after v left a p q r =
    let told : refusal_in a ≡ refusal s c = ap refusal_in p ∙ refusal_of (refusal s c) (result s c) in
    record {
      answers = p;
      leaves = q;
      leaves_rule = r;
      refused_exactly = answers (conditions s c) (refusal_in a) told;
      refused_changes_nothing = λ e k.
          let some : refusal s c ≡ Some e = sym told ∙ ap refusal_in k in
          (q ∙ some_refusal (refusal s c) e _ s some, r ∙ some_refusal (refusal s c) e _ v some);
    }
