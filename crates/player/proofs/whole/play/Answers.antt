use Rattle.std.proofs.Common.{◌++◌, length, vec_items, sym, ap, ◌∙◌, arith}
use Rattle.recording.specs.Records.{body_read}
use Rattle.recording.specs.Reading.{next_offset}
use Rattle.states.specs.States.{is_open}
use Rattle.player.specs.Played.{item_lines, lines_of}
use Rattle.player.proofs.InRecords.{of_the_records}
use Rattle.player.proofs.Turns.{in_place, starts, read_here, forth, goes_on, ends_here, at_its_end}
use Rattle.player.proofs.whole.play.Goals as goal
use Rattle.player.proofs.whole.play.Goals.{in-Some+in-Break, in_default}

pub returns-in_err-lines-clause-lines_of_the_records : goal.returns-in_err-lines-clause-lines_of_the_records
returns-in_err-lines-clause-lines_of_the_records g c = of_the_records g.R.HoldingRule.reserve c.args.recording.now c.args.rule (λ i. omega (arith, c.type_inv.recording i))

pub loop-item-init : goal.loop-item-init
loop-item-init g c =
    let m = c.in_ok-lines.ensures in
    let r = c.new-reader.ensures in
    record {
      whole = r.whole;
      inside = omega (arith, r.start);
      placed = sym r.start;
      few = omega (arith, m.len, r.start);
      room = m.capacity;
      to_play = starts g.R.HoldingRule.reserve c.args.recording.now _ _ _ _ c.new-playing.ensures.state r.start m.items;
    }

pub item-requires : goal.item-requires
item-requires g c = in_place _ _ c.is_open.result _ (body_read c.in-Some.item) _ c.is_open.ensures c.in-Some.ensures.next_exactly

pub loop-item-preserved : goal.loop-item-preserved
loop-item-preserved g c =
    let inv = c.loop-item.invariant in
    let bytes = c.args.recording.now in
    let t = c.loop-item.playing.terminal in
    let at = c.loop-item.reader.offset in
    let told = c.in-Some.ensures in
    let p = c.in-Continue.ensures in
    let on = sym p.ends_where in
    let read = read_here _ bytes at c.is_open.result (is_open t.state.subframe) _ inv.whole c.is_open.ensures told.answer in
    let f = forth c.in-Some.item at _ _ told.forward on in
    let shown = c.add.ensures.items ∙ ap (λ l. vec_items c.loop-item.lines ++ l) (p.shows ∙ ap (λ n. item_lines g.R.HoldingRule.reserve n (t.state, t.rule) (body_read c.in-Some.item)) inv.placed) in
    record {
      whole = told.same ∙ inv.whole;
      inside = omega (arith, f.1, ap length inv.whole);
      placed = c.place-place.ensures;
      few = omega (arith, c.add.ensures.one_more, inv.few, f.0);
      room = omega (arith, c.add.ensures.room, inv.room);
      to_play = goes_on g.R.HoldingRule.reserve bytes _ (t.state, t.rule) at _ inv.to_play inv.inside (body_read c.in-Some.item) read on _
          (told.stands_after ∙ ap (λ l. next_offset l at) inv.whole) f.0 _ p.leaves _ shown;
    }

pub returns-clause-lines : goal.returns-clause-lines
returns-clause-lines g c =
    let bytes = c.args.recording.now in
    let reserve = g.R.HoldingRule.reserve in
    let inv = c.loop-item.invariant in
    let t = c.loop-item.playing.terminal in
    let at = c.loop-item.reader.offset in
    let ruled = ap (λ v. lines_of reserve v bytes) c.new-playing.ensures.rule in
    elim c.match-next.branch [
      | in-Some+in-Break w ↦
          let p = w.in-Break.ensures in
          let read = read_here _ bytes at c.is_open.result (is_open t.state.subframe) _ inv.whole c.is_open.ensures w.in-Some.ensures.answer in
          let shown = w.add-in-Break.ensures.items ∙ ap (λ l. vec_items c.loop-item.lines ++ l) (p.shows ∙ ap (λ n. item_lines reserve n (t.state, t.rule) (body_read w.in-Some.item)) inv.placed) in
          ap vec_items w.lines-is ∙ (ends_here reserve bytes _ (t.state, t.rule) at _ inv.to_play inv.inside (body_read w.in-Some.item) read (sym p.ends_where) _ shown ∙ ruled)
      | in_default w ↦
          let read = read_here _ bytes at c.is_open.result (is_open t.state.subframe) _ inv.whole c.is_open.ensures w.in_default.ensures.answer in
          ap vec_items w.lines-is ∙ (at_its_end reserve bytes _ (t.state, t.rule) at _ inv.to_play inv.inside read ∙ ruled)
    ]

pub returns-clause-lines_of_the_records : goal.returns-clause-lines_of_the_records
returns-clause-lines_of_the_records g c = of_the_records g.R.HoldingRule.reserve c.args.recording.now c.args.rule (λ i. omega (arith, c.type_inv.recording i))
