-- One cell after the other.
use Rattle.std.proofs.Common.{◌≡◌, ℕ, zero, suc, ◌+◌, ◌<◌, List, [], ◌∷◌, length, get_or, pos, None, refl, subst, arith}
use Rattle.std.specs.List.{AllByRecursion}
use Rattle.std.specs.Fn.{Called}
use Rattle.std.specs.Array.{IsFromFnResultFrom}
use denote.Param.Members.{Mut}
use Rattle.cells.specs.declared.cell.Cell.{Cell}
use Rattle.cells.specs.declared.wants.CellWants.{CellWants}
use Rattle.cells.specs.declared.powers.Powers.{Powers}
use Rattle.cells.specs.Cells.{CellInRange}
use Rattle.cells.specs.WantRanges.{WantsInRange}
use Rattle.cells.specs.Loops.{moved}
use Rattle.cells.specs.Powers.{wanted_powers}
use Rattle.cells.specs.Promises.{WithinMaximum}
use Rattle.cells.specs.Every.{all_moved, all_wanted, Pairwise, wanted_at}
use Rattle.cells.proofs.Limits.{moved_in_range}
use Rattle.cells.proofs.Largest.{within_maximum}

-- what is read past the end
abbrev pub no_cell : Cell
no_cell = record { settings = None; loss = 0; data_loop = pos 0; control_loop = pos 0; data_commands = []; control_commands = [] }

abbrev pub no_wants : CellWants
no_wants = record { control = None; «data» = None; sounding = None }

abbrev pub no_powers : Powers
no_powers = record { control = 0; «data» = 0; sounding = 0 }

-- cells that are each moved with their own wants
pub moved_each : (after ks : List Cell) (ws : List CellWants) (n : ℕ) → length after ≡ length ks → length ws ≡ length ks →
    ((i : ℕ) → i < length ks → get_or after i no_cell ≡ moved (get_or ks i no_cell) (get_or ws i no_wants) n) → after ≡ all_moved ks ws n
unfolding all_moved
moved_each [] [] ws n p w each = refl
moved_each (x ∷ after) [] ws n p w each = absurd (omega arith)
moved_each after (k ∷ ks) [] n p w each = absurd (omega arith)
moved_each [] (k ∷ ks) (x ∷ ws) n p w each = absurd (omega arith)
moved_each (y ∷ after) (k ∷ ks) (x ∷ ws) n p w each =
    let first : y ≡ moved k x n = each 0 (omega arith) in
    let rest : after ≡ all_moved ks ws n = moved_each after ks ws n (omega arith) (omega arith) (λ i h. each (suc i) (omega arith)) in
    cc

pub all_in_range : (ks : List Cell) (ws : List CellWants) (n : ℕ) → AllByRecursion CellInRange ks → AllByRecursion WantsInRange ws → AllByRecursion CellInRange (all_moved ks ws n)
unfolding all_moved
all_in_range [] ws n hk hw = tt
all_in_range (k ∷ ks) [] n hk hw = hk
all_in_range (k ∷ ks) (w ∷ ws) n hk hw = (moved_in_range k w n (moved k w n) refl hk.0 hw.0, all_in_range ks ws n hk.1 hw.1)

-- powers that are each what their own cell wants
pub wanted_each : (ps : List Powers) (ks : List Cell) (ws : List CellWants) → length ps ≡ length ks → length ws ≡ length ks →
    ((i : ℕ) → i < length ks → get_or ps i no_powers ≡ wanted_at ks ws i) → ps ≡ all_wanted ks ws
unfolding all_wanted
wanted_each [] [] ws p w each = refl
wanted_each (p ∷ ps) [] ws e w each = absurd (omega arith)
wanted_each ps (k ∷ ks) [] e w each = absurd (omega arith)
wanted_each [] (k ∷ ks) (x ∷ ws) e w each = absurd (omega arith)
wanted_each (p ∷ ps) (k ∷ ks) (x ∷ ws) e w each =
    let first : p ≡ wanted_powers k x = each 0 (omega arith) in
    let rest : ps ≡ all_wanted ks ws = wanted_each ps ks ws (omega arith) (omega arith) (λ i h. each (suc i) (omega arith)) in
    cc

-- a call of a closure that no call changes
first_call : {F B : Type 0} (g : Mut F (ℕ × Unit {0}) B) (f : F) (P : ℕ → B → Type 0) → ((i : ℕ) (y : B) (q : F) → Called g f (i, tt) y q → P i y × (q ≡ f)) →
    (a : ℕ) (p : F) → p ≡ f → (q : F) (y : B) → Called g p (a, tt) y q → P a y × (q ≡ f)
first_call {F} g f P calls a p is q y k = calls a y q (subst (λ (r : F). Called g r (a, tt) y q) is k)

-- an element of an array that a closure made is what a call of it gave, where no call changes the closure
pub made_at : {F B : Type 0} (g : Mut F (ℕ × Unit {0}) B) (f : F) (P : ℕ → B → Type 0) (ys : List B) (d : B) →
    ((i : ℕ) (y : B) (q : F) → Called g f (i, tt) y q → P i y × (q ≡ f)) → (n a : ℕ) (p : F) → p ≡ f → IsFromFnResultFrom g p ys a n →
    (k j : ℕ) → j ≡ a + k → k < n → P j (get_or ys j d)
made_at g f P ys d calls zero a p is made k j e h = absurd (omega arith)
made_at g f P ys d calls (suc n) a p is made zero j e h =
    let same : j ≡ a = omega arith in
    let element = made.2.1 d in
    rw (same, element) (first_call g f P calls a p is made.0 made.1 made.3).0
made_at g f P ys d calls (suc n) a p is made (suc k) j e h =
    let first = first_call g f P calls a p is made.0 made.1 made.3 in
    made_at g f P ys d calls n (a + 1) made.0 first.1 made.4 k j (omega arith) (omega arith)

pub all_within : (ks : List Cell) (ws : List CellWants) → length ks ≡ length ws → Pairwise WithinMaximum ks (all_wanted ks ws)
unfolding all_wanted
all_within [] ws e = tt
all_within (k ∷ ks) [] e = absurd (omega arith)
all_within (k ∷ ks) (w ∷ ws) e = (within_maximum k w, all_within ks ws (omega arith))
