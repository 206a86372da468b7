-- How one total is shared by two groups, rank by rank, while each holds a reserve.
use Rattle.std.specs.Prelude.{ℕ, ◌+◌, ◌-◌, ◌^◌, min, max, not, ◌&&◌, List, [], ◌∷◌, Option, nat_lt}
use Rattle.refusals.specs.declared.Refusal.{Refusal}
use Rattle.refusals.specs.declared.Refusal.TheVariants.{OutOfRange}
use Rattle.refusals.specs.First.{when, first_that_holds}
use Rattle.sharing.specs.declared.groups.Group.{Group}
use Rattle.sharing.specs.declared.groups.Group.TheVariants.{Master, Secondary}
use Rattle.sharing.specs.declared.groups.PerGroup.{PerGroup}
use Rattle.sharing.specs.declared.demand.Demand.{Demand}
use Rattle.sharing.specs.declared.ranks.Rank.{Rank}
use Rattle.sharing.specs.Groups.{rival, at_group, more_for}
use Rattle.sharing.specs.Ranks.{served_in, ahead_of, whole_want}

-- what each group wants in all
abbrev pub wants_of : (made : PerGroup ℕ) → List Rank → PerGroup ℕ
wants_of made rs = record { master = whole_want made Master rs; secondary = whole_want made Secondary rs }

-- what a rule reserves for each group, asked with its guarantee and its want
abbrev pub reserved : (rule : ℕ → ℕ → ℕ) (guarantees wanted : PerGroup ℕ) → PerGroup ℕ
reserved rule guarantees wanted = record {
  master = rule guarantees.master wanted.master;
  secondary = rule guarantees.secondary wanted.secondary;
}

abbrev pub reserves_by : (rule : ℕ → ℕ → ℕ) (guarantees made : PerGroup ℕ) → List Rank → PerGroup ℕ
reserves_by rule guarantees made rs = reserved rule guarantees (wants_of made rs)

-- what its rival can keep from a group: the larger of the rival's reserve and of its wants that rank ahead
abbrev pub rival_claim : (reserves made : PerGroup ℕ) → Group → List Rank → ℕ
rival_claim reserves made X rs = max (at_group (rival X) reserves) (at_group (rival X) made + ahead_of X rs)

-- all that is known before anything is shared
abbrev pub demand_of : (rule : ℕ → ℕ → ℕ) (guarantees made : PerGroup ℕ) → List Rank → Demand
demand_of rule guarantees made rs = record {
  wanted = wants_of made rs;
  reserves = reserves_by rule guarantees made rs;
  claims = record {
    master = rival_claim (reserves_by rule guarantees made rs) made Master rs;
    secondary = rival_claim (reserves_by rule guarantees made rs) made Secondary rs;
  };
}

-- wants that 64 bits do not hold are out of range
abbrev pub demand_refusal : (made : PerGroup ℕ) → List Rank → Option Refusal
demand_refusal made rs = first_that_holds (
    when (not (nat_lt (whole_want made Master rs) (2 ^ 64) && nat_lt (whole_want made Secondary rs) (2 ^ 64))) OutOfRange ∷
    [])

-- what a group may still take: the total, less what it has, less the larger of what its rival has and of its rival's reserve
abbrev pub room_at : (total : ℕ) (reserves so_far : PerGroup ℕ) → Group → ℕ
room_at total reserves so_far X = total - at_group X so_far - max (at_group (rival X) so_far) (at_group (rival X) reserves)

-- the ranks served in order, from what each group was granted before
abbrev pub served : (total : ℕ) (reserves so_far : PerGroup ℕ) → List Rank → List Rank
served total reserves so_far [] = []
served total reserves so_far (r ∷ rs) =
    let n : ℕ = room_at total reserves so_far r.group in
    served_in r n ∷ served total reserves (more_for r.group (min r.want n) so_far) rs
