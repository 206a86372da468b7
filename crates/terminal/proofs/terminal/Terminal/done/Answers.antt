use Rattle.std.proofs.Common.{refl}
use Rattle.refusals.proofs.Answered.{admitted}
use Rattle.refusals.specs.First.{first_that_holds}
use Rattle.states.specs.Admission.{refuses_settled_ticket}
use Rattle.terminal.proofs.Answering.{refused_call, done_call}
use Rattle.terminal.proofs.terminal.Terminal.done.Goals as goal

pub returns-in_err-give_back : goal.returns-in_err-give_back
returns-in_err-give_back g c = refused_call (refuses_settled_ticket c.args.self.now.state c.args.ticket.subframe) _ _ _ _ _ _ _ c.from_residual.ensures.1 c.in_err-give_back.ensures

pub returns : goal.returns
returns g c =
    let s = c.args.self.now.state in
    let cs = refuses_settled_ticket c.args.self.now.state c.args.ticket.subframe in
    let a = admitted (first_that_holds cs) _ _ c.in_ok-give_back.ensures in
    done_call cs _ tt _ _ _ _ _ a.0 refl c.end_subframe.ensures.state c.end_subframe.ensures.rule
