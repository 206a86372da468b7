-- What each cell is granted of its group's grants.
use Rattle.std.specs.Prelude.{ℕ, cond, List, [], ◌∷◌, map, get_or, Some, None, Option, slice_index, slice_index_or}
use Rattle.sharing.specs.declared.groups.Group.{Group}
use Rattle.sharing.specs.declared.groups.Group.TheVariants.{Master, Secondary}
use Rattle.sharing.specs.declared.ranks.Class.{Class}
use Rattle.sharing.specs.declared.ranks.Class.TheVariants.{Acknowledgement, ControlInformation, DataOnly, Sounding}
use Rattle.sharing.specs.declared.ranks.Rank.{Rank}
use Rattle.sharing.specs.Ranks.{rank_of}
use Rattle.split.specs.Shares.{split_of}
use Rattle.split.specs.Answer.{allowed}
use Rattle.settling.specs.declared.classes.CellDemand.{CellDemand}
use Rattle.settling.specs.declared.grants.ClassGrants.{ClassGrants}
use Rattle.settling.specs.declared.outcome.CellPowers.{CellPowers}
use Rattle.settling.specs.Classes.{if_class, class_of_control, class_of_data, class_of_sounding, no_wants, no_powers}

-- the grant of the rank at a place
abbrev pub granted_at : List Rank → ℕ → ℕ
granted_at rs k = (get_or rs k (rank_of Acknowledgement Master 0)).granted

-- a group's grants, by class: the ranks of the groups take turns, the master's first
abbrev pub grants_in : Group → List Rank → ClassGrants
grants_in Master rs = record { first = granted_at rs 0; second = granted_at rs 2; third = granted_at rs 4; fourth = granted_at rs 6 }
grants_in Secondary rs = record { first = granted_at rs 1; second = granted_at rs 3; third = granted_at rs 5; fourth = granted_at rs 7 }

-- what a claim on the split of class 3, or of class 4, wants
abbrev pub data_claim_of : CellDemand → ℕ
data_claim_of d = if_class DataOnly (class_of_data d.wants.«data») d.powers.«data»

abbrev pub sounding_claim_of : CellDemand → ℕ
sounding_claim_of d = if_class Sounding (class_of_sounding d.wants.sounding) d.powers.sounding

-- the grants of a split; one that is refused grants nothing
abbrev pub split_grants : (wants : List ℕ) (room : ℕ) → List ℕ
split_grants wants room = cond (allowed wants room) (split_of wants room) (map (λ n. 0) wants)

-- what a want is granted by its class: it is alone in its rank in classes 1 and 2, and has a share of the split in class 3
abbrev pub grant_for : Option Class → ClassGrants → (share : ℕ) → ℕ
grant_for None g n = 0
grant_for (Some Acknowledgement) g n = g.first
grant_for (Some ControlInformation) g n = g.second
grant_for (Some DataOnly) g n = n
grant_for (Some Sounding) g n = 0

abbrev pub cell_powers : CellDemand → ClassGrants → (data_share sounding_share : ℕ) → CellPowers
cell_powers d g x y = record {
  control = record { wanted = d.powers.control; granted = grant_for (class_of_control d.wants.control) g 0 };
  «data» = record { wanted = d.powers.«data»; granted = grant_for (class_of_data d.wants.«data») g x };
  sounding = record { wanted = d.powers.sounding; granted = y };
}

abbrev pub no_demand : CellDemand
no_demand = record { wants = no_wants; powers = no_powers }

-- the powers of four cells
abbrev pub powers_at : List CellDemand → ClassGrants → (xs ys : List ℕ) → ℕ → CellPowers
powers_at ds g xs ys k = cell_powers (slice_index_or ds k no_demand) g (slice_index xs k) (slice_index ys k)

abbrev pub four_powers : List CellDemand → ClassGrants → List CellPowers
four_powers ds g =
    let xs : List ℕ = split_grants (map data_claim_of ds) g.third in
    let ys : List ℕ = split_grants (map sounding_claim_of ds) g.fourth in
    powers_at ds g xs ys 0 ∷ powers_at ds g xs ys 1 ∷ powers_at ds g xs ys 2 ∷ powers_at ds g xs ys 3 ∷ []
