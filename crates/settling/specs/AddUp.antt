-- The powers of a group's cells add up to the group's.
use Rattle.std.specs.Prelude.{◌≡◌, ℕ, ◌+◌, ◌≤◌, List, slice_index_or}
use Rattle.std.specs.List.{AllByRecursion}
use Rattle.sharing.specs.declared.groups.Group.{Group}
use Rattle.sharing.specs.declared.groups.Group.TheVariants.{Master, Secondary}
use Rattle.sharing.specs.declared.groups.Shares.{Shares}
use Rattle.sharing.specs.Groups.{at_group}
use Rattle.sharing.specs.declared.ranks.Class.{Class}
use Rattle.sharing.specs.declared.ranks.Class.TheVariants.{Acknowledgement, ControlInformation}
use Rattle.cells.specs.declared.cell.Cell.{Cell}
use Rattle.cells.specs.declared.wants.CellWants.{CellWants}
use Rattle.cells.specs.Cells.{CellInRange}
use Rattle.cells.specs.WantRanges.{WantsInRange}
use Rattle.settling.specs.declared.outcome.CellPowers.{CellPowers}
use Rattle.settling.specs.declared.outcome.Outcome.{Outcome}
use Rattle.settling.specs.Classes.{if_class, class_of_control, class_of_data, no_wants}

-- all that a cell wanted, and all that it was granted
abbrev pub cell_wanted : CellPowers → ℕ
cell_wanted p = p.control.wanted + p.«data».wanted + p.sounding.wanted

abbrev pub cell_granted : CellPowers → ℕ
cell_granted p = p.control.granted + p.«data».granted + p.sounding.granted

abbrev pub no_cell_powers : CellPowers
no_cell_powers = record { control = record { wanted = 0; granted = 0 }; «data» = record { wanted = 0; granted = 0 }; sounding = record { wanted = 0; granted = 0 } }

-- f added over four cells, and over the cells of a group
abbrev pub over_four : {A : Type 0} → (A → ℕ) → A → List A → ℕ → ℕ
over_four f d xs k = f (slice_index_or xs k d) + f (slice_index_or xs (k + 1) d) + f (slice_index_or xs (k + 2) d) + f (slice_index_or xs (k + 3) d)

abbrev pub over_group : {A : Type 0} → (A → ℕ) → A → List A → Group → ℕ
over_group f d xs Master = over_four f d xs 0
over_group f d xs Secondary = over_four f d xs 4

pub record CellsAddUp (o : Outcome) : Type 0 where
  pub adds_wanted : (X : Group) → over_group cell_wanted no_cell_powers o.cells X ≡ (at_group X o.groups).wanted
  pub adds_granted : (X : Group) → over_group cell_granted no_cell_powers o.cells X ≡ (at_group X o.groups).granted

-- how many control and data wants of a class a cell has
abbrev pub claims_in : Class → CellWants → ℕ
claims_in c w = if_class c (class_of_control w.control) 1 + if_class c (class_of_data w.«data») 1

-- a group has at most one want of class 1, and at most one of class 2
pub record AloneInRank (ws : List CellWants) : Type 0 where
  pub first_class : (X : Group) → over_group (claims_in Acknowledgement) no_wants ws X ≤ 1
  pub second_class : (X : Group) → over_group (claims_in ControlInformation) no_wants ws X ≤ 1

-- what a terminal keeps to: a total of at most 33 dBm, cells and wants in range, and wants of classes 1 and 2 alone in their ranks
pub record Settleable (b : Shares) (cs : List Cell) (ws : List CellWants) : Type 0 where
  pub of_total : b.total ≤ 1995262314
  pub of_cells : AllByRecursion CellInRange cs
  pub of_wants : AllByRecursion WantsInRange ws
  pub alone : AloneInRank ws
