use Rattle.std.proofs.Common.{◌≡◌, ◌-◌, ◌≤◌, length, vec_items, vec_len, vec_capacity}
use Rattle.player.specs.Played.{lines_of}
use Rattle.player.proofs.Turns.{ToPlay}
use Rattle.player.proofs.whole.play.Given as goal

-- the lines so far, with those of what is left to play, are all the lines
abbrev pub invariant-loop-item : goal.invariant-loop-item
invariant-loop-item g l = record {
  whole : l.reader.recording.now ≡ l.recording;
  inside : l.reader.offset ≤ length l.recording;
  placed : l.place ≡ l.reader.offset;
  few : vec_len l.lines ≤ l.reader.offset;
  room : length l.recording ≤ vec_capacity l.lines;
  to_play : ToPlay g.R.HoldingRule.reserve l.recording (lines_of g.R.HoldingRule.reserve l.initial.playing.terminal.rule l.recording) (l.playing.terminal.state, l.playing.terminal.rule) l.reader.offset (vec_items l.lines);
}

abbrev pub decreases-loop-item : goal.decreases-loop-item
decreases-loop-item g l = length l.recording - l.reader.offset
