use Rattle.settling.proofs.AddsUp.{cells_add_up}
use Rattle.std.proofs.Common.{List, sym, subst, ◌∙◌}
use Rattle.cells.specs.declared.powers.Powers.{Powers}
use Rattle.cells.specs.Every.{Pairwise}
use Rattle.cells.specs.Promises.{WithinMaximum}
use Rattle.settling.specs.AddUp.{CellsAddUp}
use Rattle.refusals.proofs.Answered.{admitted, never_refused, changed}
use Rattle.settling.proofs.Settles.{both_bounded, none_refused, outcome_is}
use Rattle.settling.proofs.whole.settle.Goals as goal

pub wants_by_class-requires : goal.wants_by_class-requires
wants_by_class-requires g c =
    let d = c.demands-demands in
    both_bounded c.args.cells.now c.args.wants.now _ d.result c.wanted_all-powers.ensures.within_maximum d.ensures.master d.ensures.secondary

pub unreachable-requires : goal.unreachable-requires
unreachable-requires g c =
    let d = c.demands-demands in
    never_refused _ _ _
    (none_refused c.args.cells.now c.args.wants.now _ d.result _ _ c.wanted_all-powers.ensures.within_maximum d.ensures.master d.ensures.secondary c.wants_by_class.ensures c.ranked-ranks.ensures)
    (sym c.in_default.is ∙ c.share.ensures.answers)

pub returns : goal.returns
returns g c =
    let d = c.demands-demands in
    let ps = c.wanted_all-powers in
    let none = none_refused c.args.cells.now c.args.wants.now _ d.result _ _ ps.ensures.within_maximum d.ensures.master d.ensures.secondary c.wants_by_class.ensures c.ranked-ranks.ensures in
    let is = outcome_is (g.R.HoldingRule.reserve c.args.rule.now) c.args.budget.now.shares c.args.cells.now c.args.wants.now ps.result d.result _ _ _ _ _ _ _ _ _
    ps.ensures.value d.ensures.master d.ensures.secondary c.wants_by_class.ensures c.ranked-ranks.ensures
    (admitted _ _ _ c.in-Ok.ensures.answers).1 (changed _ _ _ _ none c.in-Ok.ensures.leaves)
    c.grants_by_class-grants.ensures.master c.grants_by_class-grants.ensures.secondary c.powers_of_four.ensures c.powers_of_four-2.ensures c.groups_of.ensures in
    let within = subst (λ (qs : List Powers). Pairwise WithinMaximum c.args.cells.now qs) ps.ensures.value ps.ensures.within_maximum in
    record {
      value = is;
      cells_add_up_to_groups = λ ok. subst CellsAddUp (sym is) (cells_add_up (g.R.HoldingRule.reserve c.args.rule.now) c.args.budget.now.shares c.args.cells.now c.args.wants.now within ok);
    }
