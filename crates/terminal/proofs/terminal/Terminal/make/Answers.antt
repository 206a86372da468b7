use Rattle.std.proofs.Common.{sym, ap, ◌∙◌}
use Rattle.refusals.specs.First.{first_that_holds}
use Rattle.states.specs.Admission.{refuses_want}
use Rattle.terminal.specs.Calls.{rule_after}
use Rattle.terminal.proofs.Performing.{same_or_same}
use Rattle.terminal.proofs.terminal.Terminal.make.Goals as goal

pub returns-in_ok-make_want-in-Want-clause-leaves_rule : goal.returns-in_ok-make_want-in-Want-clause-leaves_rule
returns-in_ok-make_want-in-Want-clause-leaves_rule g c =
    let t = c.args.self.now in
    let w = c.in-Want in
    let same = same_or_same (first_that_holds (refuses_want t.state w.ticket w.cell w.want)) t.rule in
    c.make_want.ensures.same_rule ∙ (same ∙ sym (ap (rule_after t.state t.rule) w.is))
