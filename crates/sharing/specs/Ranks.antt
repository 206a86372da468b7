-- Wants in the order in which they are served, the first rank first.
use Rattle.std.specs.Prelude.{ℕ, ◌+◌, min, cond, List, [], ◌∷◌, nat_lt, slice_index_or}
use Rattle.sharing.specs.declared.groups.Group.{Group}
use Rattle.sharing.specs.declared.groups.Group.TheVariants.{Master, Secondary}
use Rattle.sharing.specs.declared.groups.PerGroup.{PerGroup}
use Rattle.sharing.specs.declared.ranks.Class.{Class}
use Rattle.sharing.specs.declared.ranks.Class.TheVariants.{Acknowledgement, ControlInformation, DataOnly, Sounding}
use Rattle.sharing.specs.declared.ranks.Rank.{Rank}
use Rattle.sharing.specs.Groups.{rival, at_group, if_group}

abbrev pub class_number : Class → ℕ
class_number Acknowledgement = 1
class_number ControlInformation = 2
class_number DataOnly = 3
class_number Sounding = 4

-- a group's want in a class, before anything is granted
abbrev pub rank_of : Class → Group → ℕ → Rank
rank_of c X w = record { class = c; group = X; want = w; room = 0; granted = 0 }

-- a rank with its room: a want that fits is granted whole, any other gets the room exactly
abbrev pub served_in : Rank → ℕ → Rank
served_in r n = record { class = r.class; group = r.group; want = r.want; room = n; granted = min r.want n }

-- the ranks of the wants of classes 1 to 4: by class, and in a class the master group first
abbrev pub by_class : List (PerGroup ℕ) → List Rank
by_class ws =
    let w : ℕ → PerGroup ℕ = λ k. slice_index_or ws k (record { master = 0; secondary = 0 }) in
    rank_of Acknowledgement Master (w 0).master ∷ rank_of Acknowledgement Secondary (w 0).secondary ∷
    rank_of ControlInformation Master (w 1).master ∷ rank_of ControlInformation Secondary (w 1).secondary ∷
    rank_of DataOnly Master (w 2).master ∷ rank_of DataOnly Secondary (w 2).secondary ∷
    rank_of Sounding Master (w 3).master ∷ rank_of Sounding Secondary (w 3).secondary ∷
    []

-- what a group wants, and what it is granted, over all its ranks
abbrev pub wanted_by : Group → List Rank → ℕ
wanted_by X [] = 0
wanted_by X (r ∷ rs) = if_group X r.group r.want + wanted_by X rs

abbrev pub granted_to : Group → List Rank → ℕ
granted_to X [] = 0
granted_to X (r ∷ rs) = if_group X r.group r.granted + granted_to X rs

-- The rival's wants that rank ahead of the group's lowest-ranked want above 0: those at a rank after which the group still wants something.
abbrev pub ahead_of : Group → List Rank → ℕ
ahead_of X [] = 0
ahead_of X (r ∷ rs) = cond (nat_lt 0 (wanted_by X rs)) (if_group (rival X) r.group r.want + ahead_of X rs) 0

-- What a group wants, and what it is granted, in all: with what it was granted already, which counts as a want that was met.
abbrev pub whole_want : (made : PerGroup ℕ) → Group → List Rank → ℕ
whole_want made X rs = at_group X made + wanted_by X rs

abbrev pub whole_grant : (made : PerGroup ℕ) → Group → List Rank → ℕ
whole_grant made X rs = at_group X made + granted_to X rs

abbrev pub grants_of : (made : PerGroup ℕ) → List Rank → PerGroup ℕ
grants_of made rs = record { master = whole_grant made Master rs; secondary = whole_grant made Secondary rs }
