-- The two cell groups, and values by group.
use Rattle.std.specs.Prelude.{ℕ, ◌+◌, List, codes}
use Rattle.sharing.specs.declared.groups.Group.{Group}
use Rattle.sharing.specs.declared.groups.Group.TheVariants.{Master, Secondary}
use Rattle.sharing.specs.declared.groups.PerGroup.{PerGroup}

-- the other group
abbrev pub rival : Group → Group
rival Master = Secondary
rival Secondary = Master

-- the word for a group
abbrev pub group_name : Group → List ℕ
group_name Master = codes "master"
group_name Secondary = codes "secondary"

-- what a group has of a value for each
abbrev pub at_group : {A : Type 0} → Group → PerGroup A → A
at_group Master p = p.master
at_group Secondary p = p.secondary

-- the amounts with n more for a group
abbrev pub more_for : Group → ℕ → PerGroup ℕ → PerGroup ℕ
more_for Master n p = record { master = p.master + n; secondary = p.secondary }
more_for Secondary n p = record { master = p.master; secondary = p.secondary + n }

-- n where Z is the group X, else nothing
abbrev pub if_group : (X Z : Group) → ℕ → ℕ
if_group Master Master n = n
if_group Master Secondary n = 0
if_group Secondary Master n = 0
if_group Secondary Secondary n = n
