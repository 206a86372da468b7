-- What every terminal keeps to is kept by each change.
use Rattle.std.proofs.Common.{◌≡◌, ℕ, zero, suc, ◌+◌, ◌≤◌, Bool, false, not, ◌&&◌, eqb, ltb, Option, Result, Ok, Err, List, [], ◌∷◌, ◌++◌, get_or, set, pos, None, refl, arith}
use mathlib.Core.Logic.{∥∥₁_elim, ∥∥₁_prop}
use Rattle.std.proofs.lemmas.Bool.{le-ltb}
use Rattle.levels.specs.Levels.{W, scaled, mantissas, power}
use Rattle.levels.proofs.Rule.{monotone}
use Rattle.refusals.specs.declared.Refusal.{Refusal}
use Rattle.refusals.specs.declared.Refusal.TheVariants.{NoSuchCell, NoSuchSubframe}
use Rattle.cells.specs.declared.wants.RawWant.{RawWant}
use Rattle.states.specs.Admission.{refuses_want_of, refuses_want, refuses_open_ticket}
use Rattle.refusals.proofs.Answered.{not_held}
use Rattle.refusals.proofs.Firsts.{first_stands}
use Rattle.cells.proofs.InTurn.{all_in_range}
use Rattle.settling.specs.AddUp.{Settleable}
use Rattle.sharing.specs.declared.groups.Shares.{Shares}
use Rattle.sharing.specs.declared.budget.Budget.{Budget}
use Rattle.sharing.specs.Guarantees.{shares_refusal, amounts}
use Rattle.std.specs.Result.{IsOk}
use Rattle.states.specs.declared.shares.PowerShares.{PowerShares}
use Rattle.states.specs.declared.state.Subframe.TheVariants.{Idle, Open, Settled}
use Rattle.std.proofs.Props.{props}
use Rattle.std.proofs.lemmas.Int.{ints}
use Rattle.std.specs.List.{AllByRecursion}
use Rattle.cells.specs.declared.cell.Cell.{Cell}
use Rattle.std.proofs.lemmas.Bool.Decides.{nat_tests}
use Rattle.refusals.specs.First.{when, first_that_holds, refused_or, NoneHolds}
use Rattle.cells.specs.Ranges.{loss_conditions}
use Rattle.cells.specs.Cells.{CellInRange}
use Rattle.states.specs.declared.state.State.{State}
use Rattle.states.specs.declared.state.Subframe.{Subframe}
use Rattle.states.specs.Totals.{SharesKept}
use Rattle.states.specs.States.{is_open, open_as, shares_in_force, no_cell, wants_in, with_cell}
use Rattle.cells.specs.WantRanges.{want_conditions, want_of}
use Rattle.terminal.specs.Settled.{moved_cells, settlement, settled_state}
use Rattle.terminal.specs.Kept.{LoopLimits, WantsKept, SumsWithin, pending}

-- the limits of the loops, outright
in_limits_at : (ks : List Cell) → AllByRecursion CellInRange ks → LoopLimits ks
in_limits_at [] r i h = (omega (arith, ints), omega (arith, ints), omega (arith, ints), omega (arith, ints))
in_limits_at (k ∷ ks) r zero h = (r.0.of_data_loop.low, r.0.of_data_loop.high, r.0.of_control_loop.low, r.0.of_control_loop.high)
in_limits_at (k ∷ ks) r (suc i) h = in_limits_at ks r.1 i (omega arith)

pub limits : (ks : List Cell) → ∥ AllByRecursion CellInRange ks ∥₁ → LoopLimits ks
limits ks all i h = ∥∥₁_elim all (hlevel props) (λ r. in_limits_at ks r i h)

-- the cell in a place, changed so that it stays in range
pub cell_changed : (ks : List Cell) (i : ℕ) (k : Cell) → (CellInRange (get_or ks i no_cell) → CellInRange k) → ∥ AllByRecursion CellInRange ks ∥₁ → ∥ AllByRecursion CellInRange (set ks i k) ∥₁
cell_changed ks i k stays all = ∥∥₁_elim all ∥∥₁_prop (λ r. ∣ at ks i stays r ∣₁)
  where
    at : (xs : List Cell) (j : ℕ) → (CellInRange (get_or xs j no_cell) → CellInRange k) → AllByRecursion CellInRange xs → AllByRecursion CellInRange (set xs j k)
    at [] j h r = tt
    at (x ∷ xs) zero h r = (h r.0, r.1)
    at (x ∷ xs) (suc j) h r = (r.0, at xs j h r.1)

pub loss_in_range : (n : ℕ) → n ≤ 200 → NoneHolds (loss_conditions n)
loss_in_range n h = (grind (arith, nat_tests), tt)

-- all of it together
pub record Kept (s : State) : Type 0 where
  pub shares : SharesKept s.shares
  pub cells : ∥ AllByRecursion CellInRange s.cells ∥₁
  pub loops : LoopLimits s.cells
  pub wants : ∥ WantsKept (wants_in s.subframe) ∥₁
  pub sums : SumsWithin s.settled s.sums
  pub left : s.settled + pending s.subframe ≤ 864000000

-- the total that is kept is at most that of 33 dBm
at_330 : W (pos 330) ≡ 1995262314
unfolding W scaled mantissas
at_330 = refl

pub total_most : (h : PowerShares) → SharesKept h → power h.total ≤ 1995262314
total_most h k = omega (arith, monotone h.total.tenths (pos 330) k.0, at_330)

-- so the shares that are kept are never refused
pub shares_not_refused : (h : PowerShares) → SharesKept h → shares_refusal (power h.total) h.master h.secondary ≡ None
shares_not_refused h k =
    let total : ltb 1995262314 (power h.total) ≡ false = le-ltb 1995262314 (power h.total) (total_most h k) in
    let master : ltb 100 h.master ≡ false = le-ltb 100 h.master (omega (arith, k.1)) in
    let secondary : ltb 100 h.secondary ≡ false = le-ltb 100 h.secondary (omega (arith, k.1)) in
    let both : ltb 100 (h.master + h.secondary) ≡ false = le-ltb 100 (h.master + h.secondary) k.1 in
    rw (total, master, secondary, both) refl

-- a budget that is not refused is there
pub budget_is_ok : (r : Result Budget Refusal) (o : Option Refusal) (x : Shares) → o ≡ None → amounts r ≡ refused_or o x → IsOk r
budget_is_ok (Ok b) o x none is = refl
budget_is_ok (Err e) o x none is = cc

-- an open subframe is still to count
was_open : (s : State) (n : ℕ) → not (open_as s n) ≡ false → pending s.subframe ≡ 1
was_open s n e = by s.subframe (eqb n s.settled) e
  where
    by : (f : Subframe) (same : Bool) → not (is_open f && same) ≡ false → pending f ≡ 1
    by Idle same e = cc
    by (Open ws) same e = refl
    by (Settled ws o) same e = cc

-- the first condition of a call that was admitted does not hold
first_passed : (b : Bool) (e : Refusal) (cs : List (Option Refusal)) → first_that_holds (when b e ∷ cs) ≡ None → b ≡ false
first_passed b e cs h = not_held b e ((first_stands (when b e ∷ cs)).nothing h).0

pub open_for_want : (s : State) (n k : ℕ) (r : RawWant) → first_that_holds (refuses_want s n k r) ≡ None → pending s.subframe ≡ 1
open_for_want s n k r none = was_open s n (first_passed (not (open_as s n)) NoSuchSubframe (when (ltb 7 k) NoSuchCell ∷ (want_conditions r ++ refuses_want_of s k (want_of r))) none)

pub open_for_settle : (s : State) (n : ℕ) → first_that_holds (refuses_open_ticket s n) ≡ None → pending s.subframe ≡ 1
open_for_settle s n none = was_open s n (first_passed (not (open_as s n)) NoSuchSubframe [] none)

-- what a settled subframe needs
pub settleable : (s : State) → Kept s → ∥ Settleable (shares_in_force s) (moved_cells s) (wants_in s.subframe) ∥₁
settleable s k = ∥∥₁_elim k.cells ∥∥₁_prop (λ cs. ∥∥₁_elim k.wants ∥∥₁_prop (λ ws.
    ∣ record { of_total = total_most s.shares k.shares; of_cells = all_in_range s.cells (wants_in s.subframe) s.settled cs ws.in_range; of_wants = ws.in_range; alone = ws.alone } ∣₁))

-- and what it leaves
pub settled_kept : (rule : ℕ → ℕ → ℕ) (s : State) → Kept s → pending s.subframe ≡ 1 → SumsWithin 1 (settlement rule s).groups → Kept (settled_state rule s)
settled_kept rule s k one most =
    let moved : ∥ AllByRecursion CellInRange (moved_cells s) ∥₁ = ∥∥₁_elim (settleable s k) ∥∥₁_prop (λ ok. ∣ ok.of_cells ∣₁) in
    let sums = k.sums in
    record {
      shares = k.shares;
      cells = moved;
      loops = limits (moved_cells s) moved;
      wants = k.wants;
      sums = ((omega (arith, sums, most), omega (arith, sums, most)), (omega (arith, sums, most), omega (arith, sums, most)));
      left = omega (arith, k.left, one);
    }

-- a changed state, from its changed part
pub cell_put : (s : State) (i j : ℕ) (k l : Cell) → i ≡ j → k ≡ l → with_cell s i k ≡ with_cell s j l
cell_put s i j k l p q = rw (p, q) refl
