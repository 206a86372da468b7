-- What a group wants and is granted in a subframe is at most 18,000,000,000 nW.
use Rattle.std.proofs.Common.{◌≡◌, ℕ, List, length, arith}
use native.Mathlib.Bridge.{le_prop}
use native.Mathlib.Nat.{ℕ_set}
use mathlib.Core.Logic.{∥∥₁_elim}
use Rattle.sharing.specs.declared.groups.Group.TheVariants.{Master, Secondary}
use Rattle.sharing.specs.declared.groups.Shares.{Shares}
use Rattle.sharing.specs.Sharing.{reserves_by}
use Rattle.sharing.proofs.Judged.{within_total}
use Rattle.cells.specs.declared.cell.Cell.{Cell}
use Rattle.cells.specs.declared.wants.CellWants.{CellWants}
use Rattle.cells.specs.Every.{all_wanted}
use Rattle.cells.proofs.InTurn.{all_within}
use Rattle.settling.specs.Outcomes.{none_made, ranks_of, served_ranks, outcome_of}
use Rattle.sharing.specs.declared.groups.PerGroup.{PerGroup}
use Rattle.settling.specs.declared.outcome.Power.{Power}
use Rattle.settling.specs.declared.outcome.Outcome.{Outcome}
use Rattle.settling.specs.AddUp.{CellsAddUp, Settleable}
use Rattle.settling.proofs.AddsUp.{cells_add_up}
use Rattle.settling.proofs.Bounds.{small_in_range}
use Rattle.terminal.specs.Kept.{SumsWithin}

module _ (rule : ℕ → ℕ → ℕ) (b : Shares) (cs : List Cell) (ws : List CellWants) (e : length cs ≡ length ws) (ok : Settleable b cs ws) where
  pub groups_most : SumsWithin 1 (outcome_of rule b cs ws).groups
  unfolding outcome_of served_ranks
  groups_most =
      let within = all_within cs ws e in
      let up = (cells_add_up rule b cs ws within ok).adds_wanted in
      let at = small_in_range cs (all_wanted cs ws) ok.of_cells within in
      let kept = within_total b.total b.guarantees (reserves_by rule b.guarantees none_made (ranks_of cs ws)) none_made (ranks_of cs ws) (omega arith) in
      let total = ok.of_total in (
        (omega (arith, up Master, at 0, at 1, at 2, at 3), omega (arith, kept, total)),
        (omega (arith, up Secondary, at 4, at 5, at 6, at 7), omega (arith, kept, total)),
      )

-- so nothing else is shown by it than these bounds, and that the cells add up
powers_prop : (n : ℕ) (g : PerGroup Power) → IsProp (SumsWithin n g)
powers_prop n g p q = λ i. ((le_prop p.0.0 q.0.0 i, le_prop p.0.1 q.0.1 i), (le_prop p.1.0 q.1.0 i, le_prop p.1.1 q.1.1 i))

adds_up_prop : (o : Outcome) → IsProp (CellsAddUp o)
adds_up_prop o p q = λ i. record {
  adds_wanted = λ X. ℕ_set _ _ (p.adds_wanted X) (q.adds_wanted X) i;
  adds_granted = λ X. ℕ_set _ _ (p.adds_granted X) (q.adds_granted X) i;
}

pub groups_within : (rule : ℕ → ℕ → ℕ) (b : Shares) (cs : List Cell) (ws : List CellWants) → length cs ≡ length ws → ∥ Settleable b cs ws ∥₁ → SumsWithin 1 (outcome_of rule b cs ws).groups
groups_within rule b cs ws e ok = ∥∥₁_elim ok (powers_prop 1 (outcome_of rule b cs ws).groups) (λ k. groups_most rule b cs ws e k)

pub adds_up : (o : Outcome) (b : Shares) (cs : List Cell) (ws : List CellWants) → (Settleable b cs ws → CellsAddUp o) → ∥ Settleable b cs ws ∥₁ → CellsAddUp o
adds_up o b cs ws h ok = ∥∥₁_elim ok (adds_up_prop o) h
