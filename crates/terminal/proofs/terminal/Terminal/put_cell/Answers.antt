use Rattle.terminal.proofs.Keeping.{cell_changed, limits}
use Rattle.terminal.proofs.terminal.Terminal.put_cell.Goals as goal

pub invariant_of-self : goal.invariant_of-self
invariant_of-self g c =
    let t = c.args.self.now in
    let all = cell_changed t.state.cells c.place.result c.args.cell (rw c.place.ensures.value c.requires) t.cells_in_range in
    record { shares_kept = t.shares_kept; cells_in_range = all; loop_limits = limits _ all; wants_kept = t.wants_kept; sums_within = t.sums_within; subframes_left = t.subframes_left }
