-- A settled subframe: its ranks, what is shared over them, and what each cell and each group wanted and was granted.
use Rattle.std.specs.Prelude.{ℕ, List, ◌++◌}
use Rattle.sharing.specs.declared.groups.Group.{Group}
use Rattle.sharing.specs.declared.groups.Group.TheVariants.{Master, Secondary}
use Rattle.sharing.specs.declared.groups.PerGroup.{PerGroup}
use Rattle.sharing.specs.declared.groups.Shares.{Shares}
use Rattle.sharing.specs.declared.ranks.Rank.{Rank}
use Rattle.sharing.specs.Ranks.{by_class, grants_of}
use Rattle.sharing.specs.Sharing.{wants_of}
use Rattle.sharing.specs.Shared.{shared_by}
use Rattle.cells.specs.declared.cell.Cell.{Cell}
use Rattle.cells.specs.declared.wants.CellWants.{CellWants}
use Rattle.cells.specs.Every.{all_wanted}
use Rattle.settling.specs.declared.classes.CellDemand.{CellDemand}
use Rattle.settling.specs.declared.outcome.Power.{Power}
use Rattle.settling.specs.declared.outcome.Outcome.{Outcome}
use Rattle.settling.specs.Classes.{group_cells, class_wants}
use Rattle.settling.specs.Grants.{grants_in, four_powers}

-- nothing is granted before the ranks are served
abbrev pub none_made : PerGroup ℕ
none_made = record { master = 0; secondary = 0 }

-- what a subframe asks of the cells of a group, the loops as they stand
abbrev pub asked_of : Group → List Cell → List CellWants → List CellDemand
asked_of X cs ws = group_cells X ws (all_wanted cs ws)

-- the ranks of a subframe, by class, the master group first, before they are served
unfoldable pub ranks_of : List Cell → List CellWants → List Rank
ranks_of cs ws = by_class (class_wants (asked_of Master cs ws) (asked_of Secondary cs ws))

-- and once they are served
unfoldable pub served_ranks : (rule : ℕ → ℕ → ℕ) → Shares → List Cell → List CellWants → List Rank
served_ranks rule b cs ws = shared_by rule b none_made (ranks_of cs ws)

-- what each group wanted and was granted
abbrev pub groups_from : (wanted granted : PerGroup ℕ) → PerGroup Power
groups_from w g = record {
  master = record { wanted = w.master; granted = g.master };
  secondary = record { wanted = w.secondary; granted = g.secondary };
}

unfoldable pub outcome_of : (rule : ℕ → ℕ → ℕ) → Shares → List Cell → List CellWants → Outcome
outcome_of rule b cs ws =
    let rs : List Rank = served_ranks rule b cs ws in
    record {
      cells = four_powers (asked_of Master cs ws) (grants_in Master rs) ++ four_powers (asked_of Secondary cs ws) (grants_in Secondary rs);
      groups = groups_from (wants_of none_made (ranks_of cs ws)) (grants_of none_made rs);
    }
