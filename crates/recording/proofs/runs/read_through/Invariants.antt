use Rattle.std.proofs.Common.{◌≡◌, ◌+◌, ◌-◌, ◌≤◌, length, None}
use Rattle.recording.proofs.RunLaws.{SoFar}
use Rattle.recording.proofs.runs.read_through.Given as goal

abbrev pub invariant-loop-item : goal.invariant-loop-item
invariant-loop-item l = record {
  same : l.reader.recording.now ≡ l.recording;
  within : l.reader.offset ≤ length l.recording;
  counted : l.tally.records + l.tally.faults ≤ l.reader.offset;
  not_ended : l.tally.ending ≡ None;
  so_far : SoFar l.recording l.reader.offset l.subframe_open l.tally.records l.tally.faults;
}

abbrev pub decreases-loop-item : goal.decreases-loop-item
decreases-loop-item l = length l.recording - l.reader.offset
