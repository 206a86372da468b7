use Rattle.std.proofs.Common.{rules}
use Rattle.cells.proofs.Exact.{data_close}
use Rattle.cells.proofs.Largest.{powers_within}
use Rattle.cells.proofs.cell.Cell.wanted.Goals as goal

pub returns-clause-want_close_below_exact : goal.returns-clause-want_close_below_exact
returns-clause-want_close_below_exact c = data_close c.args.self.now c.args.wants _ (search rules)

pub returns-clause-within_maximum : goal.returns-clause-within_maximum
returns-clause-within_maximum c = powers_within c.args.self.now c.args.wants _ (search rules)
