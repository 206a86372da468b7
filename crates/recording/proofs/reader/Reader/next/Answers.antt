use Rattle.std.proofs.Common.{◌≡◌, length, drop, Some, sym, ap, ◌∙◌, subst}
use Rattle.recording.specs.declared.reader.Reader.{Reader}
use Rattle.recording.specs.Records.{RecordExactly}
use Rattle.recording.specs.Reading.{behind, Forward}
use Rattle.recording.specs.Whole.{record_read}
use Rattle.recording.proofs.ReadingLaws.{read_here, exactly_here, stands_behind, offset_here, next_exactly, forward}
use Rattle.recording.proofs.reader.Reader.next.Goals as goal
use Rattle.recording.proofs.reader.Reader.next.Goals.{in-Ok, in_default}

pub overflow_sub-offset : goal.overflow_sub-offset
overflow_sub-offset c =
    let bs = c.args.self.now.recording.now in
    let at = c.args.self.now.offset in
    (stands_behind bs at c.read_record-read.result c.in-Ok.read c.in-Ok.is (exactly_here bs at _ c.read_record-read.ensures.record_exactly)).1

-- the reader stands behind what was read
there : (c : goal.After-admitted) → RecordExactly c.args.self.now.offset (drop c.args.self.now.offset c.args.self.now.recording.now) (record_read c.read_record-read.result)
there c = exactly_here c.args.self.now.recording.now c.args.self.now.offset _ c.read_record-read.ensures.record_exactly

moved : (c : goal.After-admitted) → c.match-read.self.offset ≡ behind c.args.self.now.offset (record_read c.read_record-read.result)
moved c =
    let at = c.args.self.now.offset in
    elim c.match-read.branch [
      | in-Ok w ↦ ap (λ (s : Reader). s.offset) w.self-is ∙ (stands_behind c.args.self.now.recording.now at c.read_record-read.result w.in-Ok.read w.in-Ok.is (there c)).0
      | in_default w ↦ ap (λ (s : Reader). s.offset) w.self-is ∙ ap (λ r. behind at (record_read r)) (sym w.in_default.is)
    ]

pub returns-clause-stands_after : goal.returns-clause-stands_after
returns-clause-stands_after c =
    let bs = c.args.self.now.recording.now in
    let at = c.args.self.now.offset in
    moved c ∙ offset_here bs at c.if-place-recording.false _ (read_here bs at _ c.read_record-read.ensures.answer)

pub returns-clause-forward : goal.returns-clause-forward
returns-clause-forward c =
    let bs = c.args.self.now.recording.now in
    let at = c.args.self.now.offset in
    subst (λ after. Forward (Some c.admitted.result) at after (length bs)) (sym (moved c)) (forward bs at c.args.subframe_open c.if-place-recording.false c.admitted.result _ (there c) c.admitted.ensures)

pub returns-clause-next_exactly : goal.returns-clause-next_exactly
returns-clause-next_exactly c = rw (moved c, c.admitted.ensures) (next_exactly c.args.self.now.recording.now c.args.self.now.offset c.args.subframe_open c.if-place-recording.false _ (there c))
