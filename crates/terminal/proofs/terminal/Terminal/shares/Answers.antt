use Rattle.std.proofs.Common.{refl, ap, ◌∙◌}
use Rattle.refusals.proofs.Answered.{admitted}
use Rattle.refusals.specs.First.{first_that_holds}
use Rattle.states.specs.Admission.{refuses_shares}
use Rattle.states.specs.States.{with_shares}
use Rattle.terminal.proofs.Answering.{refused_call, done_call}
use Rattle.terminal.proofs.terminal.Terminal.shares.Goals as goal

pub returns-in_err-shares : goal.returns-in_err-shares
returns-in_err-shares g c = refused_call (refuses_shares c.args.self.now.state c.args.shares) _ _ _ _ _ _ _ c.from_residual.ensures.1 c.in_err-shares.ensures.answers

pub returns : goal.returns
returns g c =
    let s = c.args.self.now.state in
    let cs = refuses_shares c.args.self.now.state c.args.shares in
    let a = admitted (first_that_holds cs) _ _ c.in_ok-shares.ensures.answers in
    done_call cs _ tt _ _ _ _ _ a.0 refl (c.put_shares.ensures.state ∙ ap (with_shares s) a.1) c.put_shares.ensures.rule
