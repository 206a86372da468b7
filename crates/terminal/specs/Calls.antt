-- Any call on the state s and the holding rule v.
use Rattle.std.specs.Prelude.{◌≡◌, ℕ, List, Err, Option, Result}
use Rattle.refusals.specs.declared.Refusal.{Refusal}
use Rattle.refusals.specs.First.{first_that_holds, refused_or, unchanged_or, FirstThatHolds}
use Rattle.states.specs.declared.state.State.{State}
use Rattle.states.specs.States.{groups_in}
use Rattle.states.specs.Admission.{refuses_set, refuses_shares, refuses_loss, refuses_command, refuses_open, refuses_want, refuses_open_ticket, refuses_settled_ticket}
use Rattle.terminal.specs.declared.call.Call.{Call}
use Rattle.terminal.specs.declared.call.Call.TheVariants as call
use Rattle.terminal.specs.declared.call.Answer.{Answer}
use Rattle.terminal.specs.declared.call.Answer.TheVariants as says
use Rattle.terminal.specs.Pinned.{refusal_in}
use Rattle.terminal.specs.Settled.{settled_state, rule_settled}
use Rattle.terminal.specs.Changes.{cell_set, shares_given, loss_given, command_given, subframe_opened, want_given, subframe_ended}

-- when it is refused
abbrev pub conditions : State → Call → List (Option Refusal)
conditions s (call.Set k r) = refuses_set s k r
conditions s (call.Shares r) = refuses_shares s r
conditions s (call.Loss k loss) = refuses_loss s k loss
conditions s (call.Command k r) = refuses_command s k r
conditions s call.Open = refuses_open s
conditions s (call.Want n k r) = refuses_want s n k r
conditions s (call.Settle n) = refuses_open_ticket s n
conditions s (call.Groups n) = refuses_settled_ticket s n
conditions s (call.Done n) = refuses_settled_ticket s n
conditions s (call.Drop n) = refuses_open_ticket s n

abbrev pub refusal : State → Call → Option Refusal
refusal s c = first_that_holds (conditions s c)

-- what it answers where it is accepted
abbrev pub result : State → Call → Answer
result s (call.Set k r) = says.Accepted
result s (call.Shares r) = says.Accepted
result s (call.Loss k loss) = says.Accepted
result s (call.Command k r) = says.Accepted
result s call.Open = says.Opened s.settled
result s (call.Want n k r) = says.Accepted
result s (call.Settle n) = says.Settled n
result s (call.Groups n) = says.Groups (groups_in s.subframe)
result s (call.Done n) = says.Accepted
result s (call.Drop n) = says.Accepted

-- what it makes of the state where it is accepted
abbrev pub accepted_state : (rule : ℕ → ℕ → ℕ) → State → Call → State
accepted_state rule s (call.Set k r) = cell_set s k r
accepted_state rule s (call.Shares r) = shares_given s r
accepted_state rule s (call.Loss k loss) = loss_given s k loss
accepted_state rule s (call.Command k r) = command_given s k r
accepted_state rule s call.Open = subframe_opened s
accepted_state rule s (call.Want n k r) = want_given s k r
accepted_state rule s (call.Settle n) = settled_state rule s
accepted_state rule s (call.Groups n) = s
accepted_state rule s (call.Done n) = subframe_ended s
accepted_state rule s (call.Drop n) = subframe_ended s

-- and of the holding rule
abbrev pub accepted_rule : {V : Type 0} → V → Call → V
accepted_rule v (call.Set k r) = v
accepted_rule v (call.Shares r) = v
accepted_rule v (call.Loss k loss) = v
accepted_rule v (call.Command k r) = v
accepted_rule v call.Open = v
accepted_rule v (call.Want n k r) = v
accepted_rule v (call.Settle n) = rule_settled v
accepted_rule v (call.Groups n) = v
accepted_rule v (call.Done n) = v
accepted_rule v (call.Drop n) = v

-- a refused call answers its refusal and changes nothing
abbrev pub answer_to : State → Call → Result Answer Refusal
answer_to s c = refused_or (refusal s c) (result s c)

abbrev pub state_after : (rule : ℕ → ℕ → ℕ) → State → Call → State
state_after rule s c = unchanged_or (refusal s c) (accepted_state rule s c) s

abbrev pub rule_after : {V : Type 0} → State → V → Call → V
rule_after s v c = unchanged_or (refusal s c) (accepted_rule v c) v

-- a call that was made on the state s under the rule v
pub record Performs {V : Type 0} (reserve : V → ℕ → ℕ → ℕ) (c : Call) (s after : State) (v left : V) (a : Result Answer Refusal) : Type 0 where
  pub answers : a ≡ answer_to s c
  pub leaves : after ≡ state_after (reserve v) s c
  pub leaves_rule : left ≡ rule_after s v c
  -- a number is answered exactly where its condition holds and none earlier in the order does
  pub refused_exactly : FirstThatHolds (conditions s c) (refusal_in a)
  pub refused_changes_nothing : (e : Refusal) → a ≡ Err e → (after ≡ s) × (left ≡ v)
