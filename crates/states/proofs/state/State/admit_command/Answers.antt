use Rattle.std.proofs.Common.{ap, ◌∙◌, Err}
use Rattle.refusals.proofs.Answered.{admitted}
use Rattle.std.proofs.lemmas.Result.{err_from_is_err_and}
use Rattle.refusals.specs.First.{first_that_holds}
use Rattle.states.specs.Admission.{refuses_command_to}
use Rattle.states.proofs.Chains.{command_refused, command_waits}
use Rattle.states.proofs.state.State.admit_command.Goals as goal

pub returns-in_err-queue-clause-answers : goal.returns-in_err-queue-clause-answers
returns-in_err-queue-clause-answers c =
    let s = c.args.self.now in
    let a = admitted (first_that_holds (refuses_command_to s c.args.cell c.args.command)) _ _ c.in_ok-cell.ensures in
    let p = err_from_is_err_and c.from_residual-in_err-queue.result c.from_residual-in_err-queue.ensures.1 in
    p.1 ∙ (ap Err p.2 ∙ command_refused s c.args.cell c.args.command _ _ _ a.0 a.1 c.cell-waiting.ensures {X = Unit} _ tt _ c.in_err-queue.ensures.answers)

pub returns-clause-answers : goal.returns-clause-answers
returns-clause-answers c =
    let s = c.args.self.now in
    let a = admitted (first_that_holds (refuses_command_to s c.args.cell c.args.command)) _ _ c.in_ok-cell.ensures in
    command_waits s c.args.cell c.args.command _ _ _ a.0 a.1 c.cell-waiting.ensures {X = Unit} _ tt _ c.in_ok-queue.ensures.answers c.queue.ensures.leaves
