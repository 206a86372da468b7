-- What of a cell's powers ranks in each class.
use Rattle.std.specs.Prelude.{ℕ, ◌+◌, ◌≤◌, cond, List, [], ◌∷◌, Some, None, Option, ◌==◌, slice_index_or}
use Rattle.std.specs.List.{AllByRecursion}
use Rattle.sharing.specs.declared.groups.Group.{Group}
use Rattle.sharing.specs.declared.groups.Group.TheVariants.{Master, Secondary}
use Rattle.sharing.specs.declared.groups.PerGroup.{PerGroup}
use Rattle.sharing.specs.declared.ranks.Class.{Class}
use Rattle.sharing.specs.declared.ranks.Class.TheVariants.{Acknowledgement, ControlInformation, DataOnly, Sounding}
use Rattle.sharing.specs.Ranks.{class_number}
use Rattle.cells.specs.declared.wants.ControlWant.{ControlWant}
use Rattle.cells.specs.declared.wants.DataWant.{DataWant}
use Rattle.cells.specs.declared.wants.SoundingWant.{SoundingWant}
use Rattle.cells.specs.declared.wants.CellWants.{CellWants}
use Rattle.cells.specs.declared.powers.Powers.{Powers}
use Rattle.settling.specs.declared.classes.CellDemand.{CellDemand}

-- the class of a want, if there is one
abbrev pub class_of_control : Option ControlWant → Option Class
class_of_control (Some w) = Some w.class
class_of_control None = None

abbrev pub class_of_data : Option DataWant → Option Class
class_of_data (Some w) = Some w.class
class_of_data None = None

abbrev pub class_of_sounding : Option SoundingWant → Option Class
class_of_sounding (Some w) = Some Sounding
class_of_sounding None = None

-- the power where the want is of the class, else nothing
abbrev pub if_class : Class → Option Class → ℕ → ℕ
if_class c (Some own) n = cond (class_number own == class_number c) n 0
if_class c None n = 0

-- what a cell wants in a class
abbrev pub in_class : Class → CellDemand → ℕ
in_class c d =
    if_class c (class_of_control d.wants.control) d.powers.control
    + if_class c (class_of_data d.wants.«data») d.powers.«data»
    + if_class c (class_of_sounding d.wants.sounding) d.powers.sounding

-- what some cells want in a class
abbrev pub class_want : Class → List CellDemand → ℕ
class_want c [] = 0
class_want c (d ∷ ds) = in_class c d + class_want c ds

-- no power is above that of the highest level
pub record Bounded (d : CellDemand) : Type 0 where
  pub control : d.powers.control ≤ 9772372209
  pub of_data : d.powers.«data» ≤ 9772372209
  pub sounding : d.powers.sounding ≤ 9772372209

pub record BothBounded (demands : PerGroup (List CellDemand)) : Type 0 where
  pub masters : AllByRecursion Bounded demands.master
  pub secondaries : AllByRecursion Bounded demands.secondary

-- the four cells of a group: 0 to 3 are the master group's, 4 to 7 the secondary's
abbrev pub no_wants : CellWants
no_wants = record { control = None; «data» = None; sounding = None }

abbrev pub no_powers : Powers
no_powers = record { control = 0; «data» = 0; sounding = 0 }

abbrev pub demand_at : List CellWants → List Powers → ℕ → CellDemand
demand_at ws ps k = record { wants = slice_index_or ws k no_wants; powers = slice_index_or ps k no_powers }

abbrev pub four_from : List CellWants → List Powers → ℕ → List CellDemand
four_from ws ps k = demand_at ws ps k ∷ demand_at ws ps (k + 1) ∷ demand_at ws ps (k + 2) ∷ demand_at ws ps (k + 3) ∷ []

abbrev pub group_cells : Group → List CellWants → List Powers → List CellDemand
group_cells Master ws ps = four_from ws ps 0
group_cells Secondary ws ps = four_from ws ps 4

-- what each group wants in a class, and in classes 1 to 4
abbrev pub class_pair : Class → (masters secondaries : List CellDemand) → PerGroup ℕ
class_pair c ms ss = record { master = class_want c ms; secondary = class_want c ss }

abbrev pub class_wants : (masters secondaries : List CellDemand) → List (PerGroup ℕ)
class_wants ms ss = class_pair Acknowledgement ms ss ∷ class_pair ControlInformation ms ss ∷ class_pair DataOnly ms ss ∷ class_pair Sounding ms ss ∷ []
