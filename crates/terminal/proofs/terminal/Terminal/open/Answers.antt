use Rattle.std.proofs.Common.{ap, ◌∙◌}
use Rattle.refusals.proofs.Answered.{admitted}
use Rattle.refusals.specs.First.{first_that_holds}
use Rattle.states.specs.Admission.{refuses_open}
use Rattle.terminal.specs.Tickets.{open_ticket}
use Rattle.terminal.proofs.Answering.{refused_call, done_call}
use Rattle.terminal.proofs.terminal.Terminal.open.Goals as goal

pub returns-in_err-admit_open : goal.returns-in_err-admit_open
returns-in_err-admit_open g c = refused_call (refuses_open c.args.self.now.state) _ _ _ _ _ _ _ c.from_residual.ensures.1 c.in_err-admit_open.ensures

pub returns : goal.returns
returns g c =
    let s = c.args.self.now.state in
    let cs = refuses_open c.args.self.now.state in
    let a = admitted (first_that_holds cs) _ _ c.in_ok-admit_open.ensures in
    done_call cs _ (open_ticket s.settled) _ _ _ _ _ a.0 (c.new.ensures ∙ ap (λ t. open_ticket t.settled) c.open_subframe.ensures.state) c.open_subframe.ensures.state c.open_subframe.ensures.rule
