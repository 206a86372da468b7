use Rattle.std.proofs.Common.{Some, sym}
use Rattle.refusals.proofs.Answered.{admitted, refusal_is}
use Rattle.refusals.specs.First.{first_that_holds}
use Rattle.refusals.proofs.Firsts.{answers}
use Rattle.states.specs.Admission.{refuses_open_ticket}
use Rattle.terminal.proofs.OfType.{kept}
use Rattle.terminal.proofs.Keeping.{open_for_settle}
use Rattle.terminal.proofs.Settling.{left_by}
use Rattle.terminal.proofs.terminal.Terminal.settle.Goals as goal

pub returns-in-Err-clause-refused_exactly : goal.returns-in-Err-clause-refused_exactly
returns-in-Err-clause-refused_exactly g c =
    let cs = refuses_open_ticket c.args.self.now.state c.args.ticket.subframe in
    answers cs (Some c.in-Err.refusal) (sym (refusal_is (first_that_holds cs) c.in-Err.refusal _ c.in-Err.ensures))

pub invariant_of-self : goal.invariant_of-self
invariant_of-self g c =
    let t = c.args.self.now in
    let one = open_for_settle t.state c.args.ticket.subframe (admitted _ _ _ c.in_default.ensures).0 in
    let n = left_by (g.R.HoldingRule.reserve t.rule) t.state c.settled-self.result (kept t) one c.settled-self.ensures.most c.settled-self.ensures.value in
    record { shares_kept = n.shares; cells_in_range = n.cells; loop_limits = n.loops; wants_kept = n.wants; sums_within = n.sums; subframes_left = n.left }

pub returns-clause-refused_exactly : goal.returns-clause-refused_exactly
returns-clause-refused_exactly g c =
    let cs = refuses_open_ticket c.args.self.now.state c.args.ticket.subframe in
    answers cs _ (sym (admitted (first_that_holds cs) _ _ c.in_default.ensures).0)
