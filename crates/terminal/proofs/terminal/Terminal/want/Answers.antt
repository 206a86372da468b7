use Rattle.std.proofs.Common.{refl, ap, ◌∙◌, arith}
use Rattle.refusals.proofs.Answered.{admitted}
use Rattle.refusals.specs.First.{first_that_holds}
use Rattle.states.specs.Admission.{refuses_want}
use Rattle.states.specs.declared.state.Subframe.TheVariants.{Open}
use Rattle.states.specs.Wanted.{put_want}
use Rattle.states.specs.States.{wants_in, with_subframe}
use Rattle.terminal.proofs.Keeping.{open_for_want}
use Rattle.terminal.proofs.OneMore.{more_kept, want_put}
use Rattle.terminal.proofs.Answering.{refused_call, done_call}
use Rattle.terminal.proofs.terminal.Terminal.want.Goals as goal

pub returns-in_err-cell : goal.returns-in_err-cell
returns-in_err-cell g c = refused_call (refuses_want c.args.self.now.state c.args.ticket.now.subframe c.args.cell c.args.want) _ _ _ _ _ _ _ c.from_residual.ensures.1 c.in_err-cell.ensures.answers

pub invariant_of-self : goal.invariant_of-self
invariant_of-self g c =
    let t = c.args.self.now in
    let i = c.in_ok-cell in
    let a = admitted (first_that_holds (refuses_want t.state c.args.ticket.now.subframe c.args.cell c.args.want)) _ _ i.ensures.answers in
    let one = open_for_want t.state c.args.ticket.now.subframe c.args.cell c.args.want a.0 in
    let wants = more_kept (wants_in t.state.subframe) i.cell i.want i.ensures.new i.ensures.in_range t.wants_kept _ (c.put_want.ensures ∙ ap (λ ws. put_want ws i.cell i.want) c.wants-wants.ensures) in
    record { shares_kept = t.shares_kept; cells_in_range = t.cells_in_range; loop_limits = t.loop_limits; wants_kept = wants; sums_within = t.sums_within; subframes_left = omega (arith, t.subframes_left, one) }

pub returns : goal.returns
returns g c =
    let s = c.args.self.now.state in
    let cs = refuses_want c.args.self.now.state c.args.ticket.now.subframe c.args.cell c.args.want in
    let a = admitted (first_that_holds cs) _ _ c.in_ok-cell.ensures.answers in
    done_call cs _ tt _ _ _ _ _ a.0 refl (ap (λ ws. with_subframe s (Open ws)) (c.put_want.ensures ∙ ap (λ ws. put_want ws c.in_ok-cell.cell c.in_ok-cell.want) c.wants-wants.ensures) ∙ want_put s _ _ _ _ a.1) refl
