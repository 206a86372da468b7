use Rattle.std.proofs.Common.{◌≡◌, ◌+◌, ◌*◌, ◌≤◌, drop}
use Rattle.settling.specs.Classes.{class_want}
use Rattle.settling.proofs.classes.wanted_together.Given as goal

abbrev pub invariant-loop-cell : goal.invariant-loop-cell
invariant-loop-cell l =
    (l.sum ≤ 29317116627 * l.cell-index)
    × (l.sum + class_want l.class (drop l.cell-index l.cells) ≡ class_want l.class l.cells)
