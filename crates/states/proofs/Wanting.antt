-- The steps in which a want is admitted.
use Rattle.std.proofs.Common.{◌≡◌, ℕ, List, [], ◌++◌, Ok, Err, Result, refl, Option}
use Rattle.refusals.proofs.Answered.{accepts, admitted}
use Rattle.std.specs.Result.{IsErrAnd}
use Rattle.refusals.specs.declared.Refusal.{Refusal}
use Rattle.refusals.specs.First.{first_that_holds, refused_or}
use Rattle.cells.specs.declared.wants.RawWant.{RawWant}
use Rattle.cells.specs.declared.wants.Want.{Want}
use Rattle.cells.specs.WantRanges.{want_conditions, want_of}
use Rattle.states.specs.declared.state.State.{State}
use Rattle.states.specs.Numbers.{cell_conditions}
use Rattle.states.specs.Admission.{refuses_open_ticket, refuses_want_of, refuses_want}
use Rattle.states.proofs.Chains.{stopped, passed}

module _ (s : State) (n k : ℕ) (r : RawWant) where
  abbrev answer : Result (ℕ × Want) Refusal → Type 0
  answer a = a ≡ refused_or (first_that_holds (refuses_want s n k r)) (k, want_of r)

  abbrev last : List (Option Refusal)
  last = refuses_want_of s k (want_of r)

  module _ (cell : ℕ) (opened : ◌≡◌ {A = Result Unit Refusal} (Ok tt) (refused_or (first_that_holds (refuses_open_ticket s n)) tt)) (there : Ok cell ≡ refused_or (first_that_holds (cell_conditions k)) k) where
    of_the_want : (a : Result (ℕ × Want) Refusal) → a ≡ refused_or (first_that_holds (want_conditions r ++ last)) (k, want_of r) → answer a
    of_the_want a h =
        passed (refuses_open_ticket s n) (cell_conditions k ++ (want_conditions r ++ last)) tt tt a (k, want_of r) opened
        (passed (cell_conditions k) (want_conditions r ++ last) cell k a (k, want_of r) there h)

    pub want_refused : (e : Refusal) (w : Want) (a : Result (ℕ × Want) Refusal) → Err e ≡ refused_or (first_that_holds (want_conditions r)) w → IsErrAnd a (λ d. d ≡ e) → answer a
    want_refused e w a h out = of_the_want a (stopped (want_conditions r) last e w a (k, want_of r) h out)

    module _ (w : Want) (in_range : Ok w ≡ refused_or (first_that_holds (want_conditions r)) (want_of r)) where
      same : (cell ≡ k) × (w ≡ want_of r)
      same = ((admitted (first_that_holds (cell_conditions k)) cell k there).1, (admitted (first_that_holds (want_conditions r)) w (want_of r) in_range).1)

      of_the_last : (a : Result (ℕ × Want) Refusal) → a ≡ refused_or (first_that_holds last) (k, want_of r) → answer a
      of_the_last a h = of_the_want a (passed (want_conditions r) last w (want_of r) a (k, want_of r) in_range h)

      pub want_not_admitted : (e : Refusal) (a : Result (ℕ × Want) Refusal) → ◌≡◌ {A = Result Unit Refusal} (Err e) (refused_or (first_that_holds (refuses_want_of s cell w)) tt) → IsErrAnd a (λ d. d ≡ e) → answer a
      want_not_admitted e a h out = of_the_last a (stopped last [] e tt a (k, want_of r) (rw (same.0, same.1) at h) out)

      pub want_admitted : ◌≡◌ {A = Result Unit Refusal} (Ok tt) (refused_or (first_that_holds (refuses_want_of s cell w)) tt) → answer (Ok (cell, w))
      want_admitted h = of_the_last (Ok (cell, w)) (accepts (first_that_holds last) (cell, w) (k, want_of r) (admitted _ _ _ (rw (same.0, same.1) at h)).0 (rw (same.0, same.1) refl))
