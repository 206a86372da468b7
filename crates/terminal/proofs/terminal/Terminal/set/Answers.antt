use Rattle.std.proofs.Common.{refl, ap, ◌∙◌}
use Rattle.refusals.proofs.Answered.{admitted}
use Rattle.refusals.specs.First.{first_that_holds}
use Rattle.states.specs.Admission.{refuses_set}
use Rattle.cells.specs.Cells.{fresh_cell}
use Rattle.terminal.proofs.Keeping.{cell_put}
use Rattle.terminal.proofs.Answering.{refused_call, done_call}
use Rattle.terminal.proofs.terminal.Terminal.set.Goals as goal

pub returns-in_err-cell : goal.returns-in_err-cell
returns-in_err-cell g c = refused_call (refuses_set c.args.self.now.state c.args.cell c.args.settings) _ _ _ _ _ _ _ c.from_residual.ensures.1 c.in_err-cell.ensures.answers

pub returns : goal.returns
returns g c =
    let s = c.args.self.now.state in
    let cs = refuses_set c.args.self.now.state c.args.cell c.args.settings in
    let a = admitted (first_that_holds cs) _ _ c.in_ok-cell.ensures.answers in
    done_call cs _ tt _ _ _ _ _ a.0 refl (c.put_cell.ensures.state ∙ cell_put s _ _ _ _ (ap (λ p. p.0) a.1) (c.set.ensures.value ∙ ap (λ p. fresh_cell p.1) a.1)) c.put_cell.ensures.rule
