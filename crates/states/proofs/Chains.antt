-- Conditions that are asked after others.
use Rattle.std.proofs.Common.{◌≡◌, ℕ, List, ◌++◌, None, Ok, Err, Option, Result, sym, ap, ◌∙◌, subst}
use Rattle.std.specs.Result.{IsErrAnd}
use Rattle.std.proofs.lemmas.Result.{err_from_is_err_and}
use Rattle.refusals.specs.declared.Refusal.{Refusal}
use Rattle.refusals.proofs.Answered.{admitted, accepts, asked_after, asked_in_turn, refused_same, refused_before, changed}
use Rattle.refusals.specs.First.{first_that_holds, refused_or, unchanged_or}
use Rattle.cells.specs.declared.cell.Cell.{Cell}
use Rattle.cells.specs.declared.commands.Command.{Command}
use Rattle.cells.specs.declared.commands.RawCommand.{RawCommand}
use Rattle.cells.specs.Ranges.{command_of}
use Rattle.cells.specs.Waiting.{queue_conditions, queued}
use Rattle.states.specs.declared.state.State.{State}
use Rattle.states.specs.States.{cell_at}
use Rattle.states.specs.Admission.{refuses_command_to, refuses_command}

-- a step of an admission that refused: its refusal is the call's, whatever is asked after it
pub stopped : {X Y : Type 0} (xs ys : List (Option Refusal)) (e : Refusal) (x : X) (r : Result Y Refusal) (y : Y) → Err e ≡ refused_or (first_that_holds xs) x → IsErrAnd r (λ d. d ≡ e) → r ≡ refused_or (first_that_holds (xs ++ ys)) y
stopped xs ys e x r y h out =
    let p = err_from_is_err_and r out in
    p.1 ∙ rw p.2 (rw (asked_in_turn xs ys) (refused_before (first_that_holds xs) (first_that_holds ys) e x y h))

-- a step that was passed, before others
pub passed : {X Y : Type 0} (xs ys : List (Option Refusal)) (v x : X) (r : Result Y Refusal) (y : Y) → Ok v ≡ refused_or (first_that_holds xs) x → r ≡ refused_or (first_that_holds ys) y → r ≡ refused_or (first_that_holds (xs ++ ys)) y
passed xs ys v x r y h rest = subst (λ (o : Option Refusal). r ≡ refused_or o y) (sym (asked_after xs ys (admitted (first_that_holds xs) v x h).0)) rest

-- a command m to the cell p, which is d, as the call brought it
module _ (s : State) (k : ℕ) (r : RawCommand) (p : ℕ) (d : Cell) (m : Command) (none : first_that_holds (refuses_command_to s k r) ≡ None) (is : ◌≡◌ {A = ℕ × Command} (p, m) (k, command_of r)) (there : d ≡ cell_at s p) where
  abbrev waits : List (Option Refusal)
  waits = queue_conditions d s.settled m

  last_asked : first_that_holds (refuses_command s k r) ≡ first_that_holds waits
  last_asked =
      asked_after (refuses_command_to s k r) (queue_conditions (cell_at s k) s.settled (command_of r)) none
      ∙ sym (ap (λ (q : ℕ × Command). first_that_holds (queue_conditions (cell_at s q.0) s.settled q.1)) is)
      ∙ ap (λ (e : Cell). first_that_holds (queue_conditions e s.settled m)) (sym there)

  pub command_refused : {X : Type 0} (e : Refusal) (x : X) (y : ℕ × Cell) → Err e ≡ refused_or (first_that_holds waits) x → Err e ≡ refused_or (first_that_holds (refuses_command s k r)) y
  command_refused e x y h = subst (λ (o : Option Refusal). Err e ≡ refused_or o y) (sym last_asked) (refused_same (first_that_holds waits) e x y h)

  pub command_waits : {X : Type 0} (x y : X) (c : Cell) → Ok x ≡ refused_or (first_that_holds waits) y → c ≡ unchanged_or (first_that_holds waits) (queued d s.settled m) d →
      ◌≡◌ {A = Result (ℕ × Cell) Refusal} (Ok (p, c)) (refused_or (first_that_holds (refuses_command s k r)) (k, queued (cell_at s k) s.settled (command_of r)))
  command_waits x y c h e =
      let free = (admitted (first_that_holds waits) x y h).0 in
      let put : ℕ × Command → ℕ × Cell = λ q. (q.0, queued (cell_at s q.0) s.settled q.1) in
      let here : Cell → ℕ × Cell = λ z. (p, z) in
      accepts (first_that_holds (refuses_command s k r)) (here c) (put (k, command_of r)) (last_asked ∙ free)
      (ap here (changed (first_that_holds waits) c _ _ free e ∙ ap (λ (z : Cell). queued z s.settled m) there) ∙ ap put is)
