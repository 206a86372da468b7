use Rattle.std.proofs.Common.{◌≡◌, length, arith}
use Rattle.terminal.proofs.OfType.{kept}
use Rattle.terminal.proofs.Keeping.{settleable}
use Rattle.terminal.proofs.Settling.{settled_within, within_powers, settled_adds_up}
use Rattle.terminal.proofs.terminal.Terminal.settled.Goals as goal

pub more_powers-requires-clause-more_within : goal.more_powers-requires-clause-more_within
more_powers-requires-clause-more_within g c =
    let t = c.args.self.now in
    let same : length c.move_all.new.cells ≡ length c.wants-wants.result = omega arith in
    within_powers (g.R.HoldingRule.reserve t.rule) t.state _ _ _ _ c.move_all.ensures.leaves c.wants-wants.ensures c.budget.ensures c.settle-outcome.ensures.value same (settleable t.state (kept t))

pub returns-clause-most : goal.returns-clause-most
returns-clause-most g c =
    let t = c.args.self.now in
    let same : length c.move_all.new.cells ≡ length c.wants-wants.result = omega arith in
    settled_within (g.R.HoldingRule.reserve t.rule) t.state _ _ _ _ c.move_all.ensures.leaves c.wants-wants.ensures c.budget.ensures c.settle-outcome.ensures.value same (settleable t.state (kept t))

pub returns-clause-cells_add_up_to_groups : goal.returns-clause-cells_add_up_to_groups
returns-clause-cells_add_up_to_groups g c =
    let t = c.args.self.now in
    let out = c.settle-outcome.ensures in
    settled_adds_up (g.R.HoldingRule.reserve t.rule) t.state _ _ _ _ c.move_all.ensures.leaves c.wants-wants.ensures c.budget.ensures out.value out.cells_add_up_to_groups (settleable t.state (kept t))
