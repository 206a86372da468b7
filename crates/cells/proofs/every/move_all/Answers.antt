use Rattle.std.proofs.Common.{◌≡◌, sym, subst, arith}
use Rattle.std.specs.List.{AllByRecursion}
use Rattle.cells.specs.Cells.{CellInRange}
use Rattle.cells.specs.Every.{all_moved}
use Rattle.cells.proofs.InTurn.{moved_each, all_in_range}
use Rattle.cells.proofs.every.move_all.Goals as goal

pub returns-clause-loop_limits : goal.returns-clause-loop_limits
returns-clause-loop_limits c =
    let is : c.loop-number.cells ≡ all_moved c.args.cells.now c.args.wants.now c.args.subframe = grind (arith, moved_each) in
    λ hk hw. subst (AllByRecursion CellInRange) (sym is) (all_in_range c.args.cells.now c.args.wants.now c.args.subframe hk hw)
