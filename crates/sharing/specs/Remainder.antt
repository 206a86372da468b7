-- The remainder as the standard has it, for a terminal whose groups are aligned in time.
use Rattle.std.specs.Prelude.{◌≡◌, ℕ, ◌-◌, min, List, ◌∷◌, ◌++◌}
use Rattle.sharing.specs.declared.groups.Group.{Group}
use Rattle.sharing.specs.declared.groups.PerGroup.{PerGroup}
use Rattle.sharing.specs.declared.ranks.Rank.{Rank}
use Rattle.sharing.specs.Groups.{rival, at_group}
use Rattle.sharing.specs.Ranks.{wanted_by, whole_grant}

-- the total, less the own grants, less the rival's grants q, less the smaller of its wants at later ranks and of what its guarantee is above q
abbrev pub remainder_at : (total : ℕ) (guarantees : PerGroup ℕ) (own q : ℕ) → Group → (later : List Rank) → ℕ
remainder_at total guarantees own q X later =
    total - own - q - min (wanted_by (rival X) later) (at_group (rival X) guarantees - q)

-- at every rank, the room is that remainder
abbrev pub StandardRemainder : (total : ℕ) (guarantees made : PerGroup ℕ) → List Rank → Type 0
StandardRemainder total guarantees made rs =
    (before after : List Rank) (r : Rank) → rs ≡ before ++ (r ∷ after) →
    r.room ≡ remainder_at total guarantees (whole_grant made r.group before) (whole_grant made (rival r.group) before) r.group after
