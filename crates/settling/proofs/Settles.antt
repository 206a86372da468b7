-- A settled subframe, as the code reaches it.
use Rattle.std.proofs.Common.{◌≡◌, ℕ, List, [], ◌∷◌, length, get_or, None, refl, ap, ◌∙◌}
use Rattle.sharing.specs.declared.groups.Group.TheVariants.{Master, Secondary}
use Rattle.sharing.specs.declared.groups.PerGroup.{PerGroup}
use Rattle.sharing.specs.declared.groups.Shares.{Shares}
use Rattle.sharing.specs.declared.ranks.Rank.{Rank}
use Rattle.sharing.specs.declared.serving.Sharing.{Sharing}
use Rattle.sharing.specs.Ranks.{by_class}
use Rattle.sharing.specs.Sharing.{demand_refusal}
use Rattle.sharing.specs.Shared.{shared_by, sharing_of}
use Rattle.cells.specs.declared.cell.Cell.{Cell}
use Rattle.cells.specs.declared.wants.CellWants.{CellWants}
use Rattle.cells.specs.declared.powers.Powers.{Powers}
use Rattle.cells.specs.Every.{all_wanted, Pairwise}
use Rattle.cells.specs.Promises.{WithinMaximum}
use Rattle.settling.specs.declared.classes.CellDemand.{CellDemand}
use Rattle.settling.specs.declared.grants.ClassGrants.{ClassGrants}
use Rattle.settling.specs.declared.outcome.CellPowers.{CellPowers}
use Rattle.settling.specs.declared.outcome.Power.{Power}
use Rattle.settling.specs.declared.outcome.Outcome.{Outcome}
use Rattle.settling.specs.Classes.{group_cells, class_wants, BothBounded}
use Rattle.settling.specs.Grants.{grants_in, four_powers}
use Rattle.settling.specs.Outcomes.{none_made, groups_from, ranks_of, served_ranks, outcome_of}
use Rattle.settling.proofs.Bounds.{all_bounded, never_refused}

-- the ranks of a subframe are never refused
module _ (cs : List Cell) (ws : List CellWants) (ps : List Powers) (d : PerGroup (List CellDemand)) where
  pub both_bounded : Pairwise WithinMaximum cs ps → d.master ≡ group_cells Master ws ps → d.secondary ≡ group_cells Secondary ws ps → BothBounded d
  both_bounded within em es = record { masters = rw em (all_bounded Master cs ws ps within); secondaries = rw es (all_bounded Secondary cs ws ps within) }

  pub none_refused : (wts : List (PerGroup ℕ)) (rs : List Rank) → Pairwise WithinMaximum cs ps → d.master ≡ group_cells Master ws ps → d.secondary ≡ group_cells Secondary ws ps →
      wts ≡ class_wants d.master d.secondary → rs ≡ by_class wts → demand_refusal none_made rs ≡ None
  none_refused wts rs within em es ew er =
      let both = both_bounded within em es in
      ap (demand_refusal none_made) (er ∙ ap by_class ew) ∙ never_refused d.master d.secondary (ap length em) (ap length es) both.masters both.secondaries

pub outcome_is : (rule : ℕ → ℕ → ℕ) (b : Shares) (cs : List Cell) (ws : List CellWants) (ps : List Powers) (d : PerGroup (List CellDemand)) (wts : List (PerGroup ℕ)) (rs after : List Rank)
    (s : Sharing) (g : PerGroup ClassGrants) (xs ys : List CellPowers) (gp : PerGroup Power) (e : CellPowers) →
    ps ≡ all_wanted cs ws → d.master ≡ group_cells Master ws ps → d.secondary ≡ group_cells Secondary ws ps → wts ≡ class_wants d.master d.secondary → rs ≡ by_class wts →
    s ≡ sharing_of rule b none_made rs → after ≡ shared_by rule b none_made rs → g.master ≡ grants_in Master after → g.secondary ≡ grants_in Secondary after →
    xs ≡ four_powers d.master g.master → ys ≡ four_powers d.secondary g.secondary →
    gp ≡ groups_from s.demand.wanted s.granted →
    ◌≡◌ {A = Outcome}
    (record { cells = get_or xs 0 e ∷ get_or xs 1 e ∷ get_or xs 2 e ∷ get_or xs 3 e ∷ get_or ys 0 e ∷ get_or ys 1 e ∷ get_or ys 2 e ∷ get_or ys 3 e ∷ []; groups = gp })
    (outcome_of rule b cs ws)
unfolding outcome_of served_ranks ranks_of
outcome_is rule b cs ws ps d wts rs after s g xs ys gp e ep em es ew er esh ea egm egs ex ey eg =
    rw (eg, ex, ey, egm, egs, ea, esh, er, ew, em, es, ep) refl
