use Rattle.cells.specs.Powers.{data_level}
use Rattle.cells.proofs.Exact.{some_block, close_below_exact}
use Rattle.cells.proofs.powers.data_want.Goals as goal

pub returns-clause-want_close_below_exact : goal.returns-clause-want_close_below_exact
returns-clause-want_close_below_exact c = λ most in_range.
    close_below_exact (data_level c.args.values) c.args.want.blocks c.args.cap (some_block c.args.want.blocks in_range.1.0) most c.data_power.result c.data_power.ensures
