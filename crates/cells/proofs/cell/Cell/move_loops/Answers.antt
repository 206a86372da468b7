use Rattle.std.proofs.Common.{rules}
use Rattle.cells.proofs.Limits.{moved_in_range}
use Rattle.cells.proofs.Steps.{moves_by_commands}
use Rattle.cells.proofs.cell.Cell.move_loops.Goals as goal

pub returns-clause-loop_limits : goal.returns-clause-loop_limits
returns-clause-loop_limits c = moved_in_range c.args.self.now c.args.wants c.args.subframe _ (search rules)

pub returns-clause-moves_by_commands : goal.returns-clause-moves_by_commands
returns-clause-moves_by_commands c = moves_by_commands c.args.self.now c.args.wants c.args.subframe _ (search rules)
