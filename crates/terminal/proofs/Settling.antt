-- A settled subframe, as the code reaches it.
use Rattle.std.proofs.Common.{◌≡◌, ℕ, List, length, sym, refl, ap, ◌∙◌, subst}
use Rattle.sharing.specs.declared.groups.Shares.{Shares}
use Rattle.cells.specs.declared.cell.Cell.{Cell}
use Rattle.cells.specs.declared.wants.CellWants.{CellWants}
use Rattle.cells.specs.Every.{all_moved}
use Rattle.settling.specs.declared.outcome.Outcome.{Outcome}
use Rattle.settling.specs.Outcomes.{outcome_of}
use Rattle.settling.specs.AddUp.{CellsAddUp, Settleable}
use Rattle.states.specs.declared.state.State.{State}
use Rattle.states.specs.States.{wants_in, shares_in_force}
use Rattle.terminal.specs.Kept.{SumsWithin, pending}
use Rattle.terminal.specs.Settled.{moved_cells, settlement, settled_state}
use Rattle.terminal.proofs.Keeping.{Kept, settled_kept}
use Rattle.terminal.proofs.Most.{groups_within, adds_up}

module _ (rule : ℕ → ℕ → ℕ) (s : State) (cs : List Cell) (ws : List CellWants) (b : Shares) (o : Outcome)
    (moves : cs ≡ all_moved s.cells ws s.settled) (wants : ws ≡ wants_in s.subframe) (shares : b ≡ shares_in_force s) (is : o ≡ outcome_of rule b cs ws) where
  cells_are : cs ≡ moved_cells s
  cells_are = moves ∙ ap (λ (vs : List CellWants). all_moved s.cells vs s.settled) wants

  pub outcome_is : o ≡ settlement rule s
  outcome_is = is ∙ rw (shares, cells_are, wants) refl

  pub settled_within : length cs ≡ length ws → ∥ Settleable (shares_in_force s) (moved_cells s) (wants_in s.subframe) ∥₁ → SumsWithin 1 (settlement rule s).groups
  settled_within e ok =
      let same : length (moved_cells s) ≡ length (wants_in s.subframe) = sym (ap length cells_are) ∙ (e ∙ ap length wants) in
      groups_within rule (shares_in_force s) (moved_cells s) (wants_in s.subframe) same ok

  pub within_powers : length cs ≡ length ws → ∥ Settleable (shares_in_force s) (moved_cells s) (wants_in s.subframe) ∥₁ → SumsWithin 1 o.groups
  within_powers e ok = subst (λ (p : Outcome). SumsWithin 1 p.groups) (sym outcome_is) (settled_within e ok)

  pub settled_adds_up : (Settleable b cs ws → CellsAddUp o) → ∥ Settleable (shares_in_force s) (moved_cells s) (wants_in s.subframe) ∥₁ → CellsAddUp (settlement rule s)
  settled_adds_up h ok =
      adds_up (settlement rule s) (shares_in_force s) (moved_cells s) (wants_in s.subframe)
      (λ k. subst CellsAddUp outcome_is (h (rw (shares, cells_are, wants) k))) ok

-- what every terminal keeps to holds of the state that a settled subframe leaves
pub left_by : (rule : ℕ → ℕ → ℕ) (s after : State) → Kept s → pending s.subframe ≡ 1 → SumsWithin 1 (settlement rule s).groups → after ≡ settled_state rule s → Kept after
left_by rule s after k one most is = subst Kept (sym is) (settled_kept rule s k one most)
