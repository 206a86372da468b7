use Rattle.std.proofs.Common.{◌≡◌, ◌-◌, length}
use Rattle.listing.proofs.printing.print_listing.Given as goal

abbrev pub invariant-loop-item : goal.invariant-loop-item
invariant-loop-item g l = l.reader.recording.now ≡ l.recording

abbrev pub decreases-loop-item : goal.decreases-loop-item
decreases-loop-item g l = length l.recording - l.reader.offset
