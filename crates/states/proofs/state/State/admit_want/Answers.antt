use Rattle.states.proofs.Wanting.{want_refused, want_not_admitted, want_admitted}
use Rattle.states.proofs.state.State.admit_want.Goals as goal

pub returns-in_err-want-clause-answers : goal.returns-in_err-want-clause-answers
returns-in_err-want-clause-answers c =
    want_refused c.args.self.now c.args.number c.args.cell c.args.want _ c.in_ok-admit_open_ticket.ensures c.in_ok-cell.ensures _ _ _ c.in_err-want.ensures.answers c.from_residual-in_err-want.ensures.1

pub returns-in_err-admit_want_of-clause-answers : goal.returns-in_err-admit_want_of-clause-answers
returns-in_err-admit_want_of-clause-answers c =
    want_not_admitted c.args.self.now c.args.number c.args.cell c.args.want _ c.in_ok-admit_open_ticket.ensures c.in_ok-cell.ensures _ c.in_ok-want.ensures.answers _ _ c.in_err-admit_want_of.ensures c.from_residual-in_err-admit_want_of.ensures.1

pub returns-clause-answers : goal.returns-clause-answers
returns-clause-answers c =
    want_admitted c.args.self.now c.args.number c.args.cell c.args.want _ c.in_ok-admit_open_ticket.ensures c.in_ok-cell.ensures _ c.in_ok-want.ensures.answers c.in_ok-admit_want_of.ensures
