use Rattle.std.proofs.Common.{◌≡◌, ℕ, ◌<◌, ◌≤◌, length, get_or}
use Rattle.cells.specs.Loops.{moved}
use Rattle.cells.proofs.InTurn.{no_cell, no_wants}
use Rattle.cells.proofs.every.move_all.Given as goal

abbrev pub invariant-loop-number : goal.invariant-loop-number
invariant-loop-number l = record {
  long : length l.cells ≡ 8;
  done : (k : ℕ) → k < l.number → get_or l.cells k no_cell ≡ moved (get_or l.initial.cells k no_cell) (get_or l.wants k no_wants) l.subframe;
  left : (k : ℕ) → l.number ≤ k → get_or l.cells k no_cell ≡ get_or l.initial.cells k no_cell;
}
