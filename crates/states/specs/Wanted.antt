-- The wants of a subframe, by cell and kind.
use Rattle.std.specs.Prelude.{ℕ, Bool, true, false, cond, ◌&&◌, ◌||◌, List, is_some, Some, ◌==◌, nat_lt, slice_index_or, slice_set}
use Rattle.sharing.specs.declared.groups.Group.{Group}
use Rattle.sharing.specs.declared.groups.Group.TheVariants.{Master, Secondary}
use Rattle.sharing.specs.declared.ranks.Class.{Class}
use Rattle.sharing.specs.declared.ranks.Class.TheVariants.{Acknowledgement, ControlInformation, DataOnly, Sounding as SoundingClass}
use Rattle.cells.specs.declared.wants.CellWants.{CellWants}
use Rattle.cells.specs.declared.wants.Want.{Want}
use Rattle.cells.specs.declared.wants.Want.TheVariants.{Control, Data, Sounding}
use Rattle.cells.specs.Kinds.{class_of_want}
use Rattle.settling.specs.Classes.{no_wants}
use Rattle.settling.specs.AddUp.{claims_in, over_group}

-- 0 to 3 are the master group's cells, and 0 and 4 the primary ones
abbrev pub group_of : ℕ → Group
group_of k = cond (nat_lt k 4) Master Secondary

abbrev pub is_primary : ℕ → Bool
is_primary k = k == 0 || k == 4

-- whether a cell has a want of this one's kind
abbrev pub has_kind : Want → CellWants → Bool
has_kind (Control w) ws = is_some ws.control
has_kind (Data w) ws = is_some ws.«data»
has_kind (Sounding w) ws = is_some ws.sounding

-- the wants of a cell with one more
abbrev pub with_want : Want → CellWants → CellWants
with_want (Control w) ws = record { control = Some w; «data» = ws.«data»; sounding = ws.sounding }
with_want (Data w) ws = record { control = ws.control; «data» = Some w; sounding = ws.sounding }
with_want (Sounding w) ws = record { control = ws.control; «data» = ws.«data»; sounding = Some w }

-- a group has at most one want of class 1, and at most one of class 2
abbrev pub is_single : Class → Bool
is_single Acknowledgement = true
is_single ControlInformation = true
is_single DataOnly = false
is_single SoundingClass = false

-- the same kind twice on a cell, or a second want of class 1 or of class 2 in its group
abbrev pub given_already : List CellWants → ℕ → Want → Bool
given_already ws k w =
    has_kind w (slice_index_or ws k no_wants) || (is_single (class_of_want w) && nat_lt 0 (over_group (claims_in (class_of_want w)) no_wants ws (group_of k)))

-- the wants with one more of the cell k
abbrev pub put_want : List CellWants → ℕ → Want → List CellWants
put_want ws k w = slice_set ws k (with_want w (slice_index_or ws k no_wants))
