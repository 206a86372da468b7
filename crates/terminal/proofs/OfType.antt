-- What a terminal's type says of its state, as one fact.
use Rattle.terminal.specs.declared.terminal.Terminal.{Terminal}
use Rattle.terminal.proofs.Keeping.{Kept}

pub kept : {R : Type 0} (t : Terminal R) → Kept t.state
kept t = record { shares = t.shares_kept; cells = t.cells_in_range; loops = t.loop_limits; wants = t.wants_kept; sums = t.sums_within; left = t.subframes_left }
