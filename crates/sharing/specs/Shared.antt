-- What a sharing answers, and the ranks after it.
use Rattle.std.specs.Prelude.{ℕ, List}
use Rattle.sharing.specs.declared.groups.PerGroup.{PerGroup}
use Rattle.sharing.specs.declared.groups.Shares.{Shares}
use Rattle.sharing.specs.declared.ranks.Rank.{Rank}
use Rattle.sharing.specs.declared.serving.Sharing.{Sharing}
use Rattle.sharing.specs.Ranks.{grants_of}
use Rattle.sharing.specs.Sharing.{reserves_by, demand_of, served}

-- the ranks served under the reserves of a rule
abbrev pub shared_by : (rule : ℕ → ℕ → ℕ) → Shares → (made : PerGroup ℕ) → List Rank → List Rank
shared_by rule b made rs = served b.total (reserves_by rule b.guarantees made rs) made rs

abbrev pub sharing_of : (rule : ℕ → ℕ → ℕ) → Shares → (made : PerGroup ℕ) → List Rank → Sharing
sharing_of rule b made rs = record {
  demand = demand_of rule b.guarantees made rs;
  granted = grants_of made (shared_by rule b made rs);
}
