-- The kind and the class of a want.
use Rattle.std.specs.Prelude.{ℕ}
use Rattle.sharing.specs.declared.ranks.Class.{Class}
use Rattle.sharing.specs.declared.ranks.Class.TheVariants.{Sounding as SoundingClass}
use Rattle.cells.specs.declared.wants.WantKind.{WantKind}
use Rattle.cells.specs.declared.wants.WantKind.TheVariants.{Control as ControlKind, Data as DataKind, Sounding as SoundingKind}
use Rattle.cells.specs.declared.wants.Want.{Want}
use Rattle.cells.specs.declared.wants.Want.TheVariants.{Control, Data, Sounding}

abbrev pub kind_number : WantKind → ℕ
kind_number ControlKind = 1
kind_number DataKind = 2
kind_number SoundingKind = 3

abbrev pub kind_of : Want → WantKind
kind_of (Control w) = ControlKind
kind_of (Data w) = DataKind
kind_of (Sounding w) = SoundingKind

abbrev pub class_of_want : Want → Class
class_of_want (Control w) = w.class
class_of_want (Data w) = w.class
class_of_want (Sounding w) = SoundingClass
