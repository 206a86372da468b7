use Rattle.std.proofs.Common.{refl, ap, ◌∙◌}
use Rattle.refusals.proofs.Answered.{admitted}
use Rattle.refusals.specs.First.{first_that_holds}
use Rattle.states.specs.Admission.{refuses_loss}
use Rattle.terminal.specs.Changes.{loss_given}
use Rattle.terminal.proofs.Keeping.{loss_in_range}
use Rattle.terminal.proofs.Answering.{refused_call, done_call}
use Rattle.terminal.proofs.terminal.Terminal.loss.Goals as goal

pub returns-in_err-cell : goal.returns-in_err-cell
returns-in_err-cell g c = refused_call (refuses_loss c.args.self.now.state c.args.cell c.args.loss) _ _ _ _ _ _ _ c.from_residual.ensures.1 c.in_err-cell.ensures.answers

pub put_loss-requires : goal.put_loss-requires
put_loss-requires g c = loss_in_range c.in_ok-cell.loss c.in_ok-cell.ensures.in_range

pub returns : goal.returns
returns g c =
    let s = c.args.self.now.state in
    let cs = refuses_loss c.args.self.now.state c.args.cell c.args.loss in
    let a = admitted (first_that_holds cs) _ _ c.in_ok-cell.ensures.answers in
    done_call cs _ tt _ _ _ _ _ a.0 refl (c.put_loss.ensures.state ∙ ap (λ p. loss_given s p.0 p.1) a.1) c.put_loss.ensures.rule
