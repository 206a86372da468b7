use Rattle.std.proofs.Common.{None, sym}
use Rattle.refusals.proofs.Answered.{admitted}
use Rattle.refusals.specs.First.{first_that_holds}
use Rattle.refusals.proofs.Firsts.{answers}
use Rattle.states.specs.Admission.{refuses_settled_ticket}
use Rattle.terminal.proofs.Answering.{refused_exactly}
use Rattle.terminal.proofs.terminal.Terminal.groups.Goals as goal

pub returns-in_err-admit_settled_ticket-clause-refused_exactly : goal.returns-in_err-admit_settled_ticket-clause-refused_exactly
returns-in_err-admit_settled_ticket-clause-refused_exactly g c =
    refused_exactly (refuses_settled_ticket c.args.self.now.state c.args.ticket.now.subframe) _ _ _ c.from_residual.ensures.1 c.in_err-admit_settled_ticket.ensures

pub returns-clause-refused_exactly : goal.returns-clause-refused_exactly
returns-clause-refused_exactly g c =
    let cs = refuses_settled_ticket c.args.self.now.state c.args.ticket.now.subframe in
    answers cs None (sym (admitted (first_that_holds cs) _ _ c.in_ok-admit_settled_ticket.ensures).0)
