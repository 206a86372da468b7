use Rattle.terminal.proofs.Keeping.{shares_not_refused, budget_is_ok}
use Rattle.terminal.proofs.terminal.Terminal.budget.Goals as goal

pub unwrap-requires : goal.unwrap-requires
unwrap-requires g c = budget_is_ok c.budget.result _ _ (shares_not_refused c.args.self.now.state.shares c.args.self.now.shares_kept) c.budget.ensures
