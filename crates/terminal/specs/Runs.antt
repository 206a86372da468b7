-- A list of calls, one after the other, on a state and a holding rule.
use Rattle.std.specs.Prelude.{ℕ, List, [], ◌∷◌, Result}
use Rattle.refusals.specs.declared.Refusal.{Refusal}
use Rattle.states.specs.declared.state.State.{State}
use Rattle.terminal.specs.declared.call.Call.{Call}
use Rattle.terminal.specs.declared.call.Answer.{Answer}
use Rattle.terminal.specs.Calls.{answer_to, state_after, rule_after}

module _ {V : Type 0} (reserve : V → ℕ → ℕ → ℕ) where
  abbrev pub after : State × V → Call → State × V
  after w c = (state_after (reserve w.1) w.0 c, rule_after w.0 w.1 c)

  -- what the calls are answered
  abbrev pub answers : State × V → List Call → List (Result Answer Refusal)
  answers w [] = []
  answers w (c ∷ cs) = answer_to w.0 c ∷ answers (after w c) cs

  -- the state and the rule after the calls
  abbrev pub at_end : State × V → List Call → State × V
  at_end w [] = w
  at_end w (c ∷ cs) = at_end (after w c) cs
