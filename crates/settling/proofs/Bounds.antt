-- No power of a subframe is above that of the highest level, so what a group wants fits 64 bits.
use Rattle.std.proofs.Common.{◌≡◌, ℕ, zero, suc, ◌+◌, ◌*◌, ◌^◌, ◌≤◌, true, ltb, List, [], ◌∷◌, length, get_or, Some, None, Option, refl, arith}
use Rattle.std.specs.List.{AllByRecursion}
use Rattle.std.proofs.lemmas.Bool.{lt-ltb}
use Rattle.std.proofs.lemmas.Bool.Decides.{nat_tests}
use Rattle.levels.proofs.Rule.{most}
use Rattle.sharing.specs.declared.groups.Group.{Group}
use Rattle.sharing.specs.declared.groups.Group.TheVariants.{Master, Secondary}
use Rattle.sharing.specs.declared.ranks.Class.{Class}
use Rattle.sharing.specs.declared.ranks.Class.TheVariants.{Acknowledgement, ControlInformation, DataOnly, Sounding}
use Rattle.sharing.specs.Ranks.{by_class, whole_want}
use Rattle.sharing.specs.Sharing.{demand_refusal}
use Rattle.cells.specs.declared.cell.Cell.{Cell}
use Rattle.cells.specs.declared.settings.Settings.{Settings}
use Rattle.cells.specs.declared.powers.Powers.{Powers}
use Rattle.cells.specs.declared.wants.CellWants.{CellWants}
use Rattle.cells.specs.Cells.{CellInRange}
use Rattle.cells.specs.Every.{Pairwise}
use Rattle.cells.specs.Promises.{maximum_power, WithinMaximum}
use Rattle.settling.specs.declared.classes.CellDemand.{CellDemand}
use Rattle.settling.specs.Classes.{if_class, class_of_control, class_of_data, class_of_sounding, class_want, class_wants, Bounded, no_powers, demand_at, group_cells}
use Rattle.settling.specs.Outcomes.{none_made}

-- what control and data of a cell come to, and sounding, stays below a bound
abbrev pub Small : ℕ → Powers → Type 0
Small top p = (p.control + p.«data» ≤ top) × (p.sounding ≤ top)

-- where no cell's maximum is above the bound
module _ (top : ℕ) (P : Cell → Type 0) (below : (c : Cell) (p : Powers) → P c → WithinMaximum c p → maximum_power c.settings ≤ top) where
  small_at : (cs : List Cell) (ps : List Powers) → AllByRecursion P cs → Pairwise WithinMaximum cs ps → (k : ℕ) → Small top (get_or ps k no_powers)
  small_at [] [] r h k = (omega arith, omega arith)
  small_at [] (p ∷ ps) r h k = absurd h
  small_at (c ∷ cs) [] r h k = absurd h
  small_at (c ∷ cs) (p ∷ ps) r h zero =
      let w = h.0 in
      let m = below c p r.0 w in
      (omega (arith, w.together, m), omega (arith, w.alone, m))
  small_at (c ∷ cs) (p ∷ ps) r h (suc k) = small_at cs ps r.1 h.1 k

-- 33 dBm, where the settings are in range
pub small_in_range : (cs : List Cell) (ps : List Powers) → AllByRecursion CellInRange cs → Pairwise WithinMaximum cs ps → (k : ℕ) → Small 1995262314 (get_or ps k no_powers)
small_in_range = small_at 1995262314 CellInRange (λ c p r w. w.largest r.of_settings)

-- the largest power of all, whatever the settings
maximum_most : (o : Option Settings) → maximum_power o ≤ 9772372209
maximum_most None = omega arith
maximum_most (Some s) = most s.maximum.tenths

abbrev MaximumMost : Cell → Type 0
MaximumMost c = maximum_power c.settings ≤ 9772372209

all_most : (cs : List Cell) → AllByRecursion MaximumMost cs
all_most [] = tt
all_most (c ∷ cs) = (maximum_most c.settings, all_most cs)

bounded_at : (cs : List Cell) (ws : List CellWants) (ps : List Powers) → Pairwise WithinMaximum cs ps → (k : ℕ) → Bounded (demand_at ws ps k)
bounded_at cs ws ps h k =
    let s = small_at 9772372209 MaximumMost (λ c p m w. m) cs ps (all_most cs) h k in
    record { control = omega (arith, s.0); of_data = omega (arith, s.0); sounding = s.1 }

pub all_bounded : (X : Group) (cs : List Cell) (ws : List CellWants) (ps : List Powers) → Pairwise WithinMaximum cs ps → AllByRecursion Bounded (group_cells X ws ps)
all_bounded Master cs ws ps h = (bounded_at cs ws ps h 0, (bounded_at cs ws ps h (0 + 1), (bounded_at cs ws ps h (0 + 2), (bounded_at cs ws ps h (0 + 3), tt))))
all_bounded Secondary cs ws ps h = (bounded_at cs ws ps h 4, (bounded_at cs ws ps h (4 + 1), (bounded_at cs ws ps h (4 + 2), (bounded_at cs ws ps h (4 + 3), tt))))

pub if_class_most : (c : Class) (o : Option Class) (n : ℕ) → if_class c o n ≤ n
if_class_most c None n = omega arith
if_class_most c (Some own) n = grind (arith, nat_tests)

pub class_want_most : (c : Class) (ds : List CellDemand) → AllByRecursion Bounded ds → class_want c ds ≤ 29317116627 * length ds
class_want_most c [] h = omega arith
class_want_most c (d ∷ ds) h =
    let b = h.0 in
    omega (
      arith,
      class_want_most c ds h.1,
      b.control,
      b.of_data,
      b.sounding,
      if_class_most c (class_of_control d.wants.control) d.powers.control,
      if_class_most c (class_of_data d.wants.«data») d.powers.«data»,
      if_class_most c (class_of_sounding d.wants.sounding) d.powers.sounding,
    )

-- the wants of a subframe are never refused
pub never_refused : (ms ss : List CellDemand) → length ms ≡ 4 → length ss ≡ 4 → AllByRecursion Bounded ms → AllByRecursion Bounded ss → demand_refusal none_made (by_class (class_wants ms ss)) ≡ None
never_refused ms ss lm ls m s =
    let rs = by_class (class_wants ms ss) in
    let a = class_want_most Acknowledgement ms m in
    let b = class_want_most ControlInformation ms m in
    let c = class_want_most DataOnly ms m in
    let d = class_want_most Sounding ms m in
    let e = class_want_most Acknowledgement ss s in
    let f = class_want_most ControlInformation ss s in
    let g = class_want_most DataOnly ss s in
    let h = class_want_most Sounding ss s in
    let master : ltb (whole_want none_made Master rs) (2 ^ 64) ≡ true = lt-ltb (whole_want none_made Master rs) (2 ^ 64) (omega arith) in
    let secondary : ltb (whole_want none_made Secondary rs) (2 ^ 64) ≡ true = lt-ltb (whole_want none_made Secondary rs) (2 ^ 64) (omega arith) in
    rw (master, secondary) refl
