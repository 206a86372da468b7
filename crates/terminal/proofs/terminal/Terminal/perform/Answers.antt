use Rattle.terminal.proofs.Performing.{performed}
use Rattle.terminal.proofs.terminal.Terminal.perform.Goals as goal

pub returns : goal.returns
returns g c =
    let m = c.make.ensures in
    performed g.R.HoldingRule.reserve c.args.call _ _ _ _ _ m.answers m.leaves m.leaves_rule
