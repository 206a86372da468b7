use Rattle.sharing.specs.declared.groups.Group.{Group}
use Rattle.sharing.specs.declared.groups.Group.TheVariants.{Master, Secondary}
use Rattle.sharing.specs.Groups.{at_group}
use Rattle.sharing.specs.Ranks.{whole_want}
use Rattle.refusals.proofs.Answered.{admitted}
use Rattle.sharing.proofs.Cuts.{room_at_every_rank, standard_remainder}
use Rattle.sharing.proofs.Judged.{Bounded, exact_fit, guaranteed_share, no_more, within_total}
use Rattle.sharing.proofs.serving.share.Goals as goal

pub returns-clause-room_at_every_rank : goal.returns-clause-room_at_every_rank
returns-clause-room_at_every_rank g c =
    let b = c.args.budget.now.shares in
    rw c.serve-granted.ensures.leaves (room_at_every_rank b.total c.in_ok-demand.demand.reserves b.guarantees c.args.already c.args.ranks.now)

pub returns-clause-no_more_than_wanted : goal.returns-clause-no_more_than_wanted
returns-clause-no_more_than_wanted g c =
    let b = c.args.budget.now.shares in
    rw c.serve-granted.ensures.leaves (no_more b.total b.guarantees c.in_ok-demand.demand.reserves c.args.already c.args.ranks.now)

pub returns-clause-within_total : goal.returns-clause-within_total
returns-clause-within_total g c =
    let b = c.args.budget.now.shares in
    rw c.serve-granted.ensures.leaves (within_total b.total b.guarantees c.in_ok-demand.demand.reserves c.args.already c.args.ranks.now)

-- the reserves, as the rule's laws bound them
bounded : (g : _) (c : goal.After-ranks-1 g) (X : Group) →
    Bounded (at_group X c.args.budget.now.shares.guarantees) (whole_want c.args.already X c.args.ranks.now) (at_group X c.in_ok-demand.demand.reserves)
bounded g c =
    let least = g.met.R.HoldingRule.at_least c.args.rule.now in
    let most = g.met.R.HoldingRule.at_most c.args.rule.now in
    rw (admitted _ _ _ c.in_ok-demand.ensures.answers).1 (elim [ Master ↦ (least _ _, most _ _) | Secondary ↦ (least _ _, most _ _) ])

pub returns-clause-exact_fit : goal.returns-clause-exact_fit
returns-clause-exact_fit g c =
    let b = c.args.budget.now in
    rw c.serve-granted.ensures.leaves (exact_fit b.shares.total b.shares.guarantees c.in_ok-demand.demand.reserves c.args.already c.args.ranks.now b.kept (bounded g c))

pub returns-clause-guaranteed_share : goal.returns-clause-guaranteed_share
returns-clause-guaranteed_share g c =
    let b = c.args.budget.now in
    rw c.serve-granted.ensures.leaves (guaranteed_share b.shares.total b.shares.guarantees c.in_ok-demand.demand.reserves c.args.already c.args.ranks.now b.kept (bounded g c))

pub returns-clause-standard_remainder : goal.returns-clause-standard_remainder
returns-clause-standard_remainder g c =
    let b = c.args.budget.now in
    λ aligned within.
    rw (c.serve-granted.ensures.leaves, aligned) (standard_remainder b.shares.total b.shares.guarantees c.args.already c.args.ranks.now b.kept (rw aligned at within))
