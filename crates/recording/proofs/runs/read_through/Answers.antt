use Rattle.std.proofs.Common.{length, Some, Ok, Err, sym, ◌∙◌, subst, arith}
use Rattle.recording.specs.Contents.{content}
use Rattle.recording.specs.Reading.{Forward, NextExactly}
use Rattle.recording.specs.Runs.{RunsThrough}
use Rattle.recording.proofs.RunLaws.{at_its_end, at_its_fault, goes_on, reads_on, only_run}
use Rattle.recording.proofs.runs.read_through.Goals as goal

pub loop-item-preserved-in-Ok : goal.loop-item-preserved-in-Ok
loop-item-preserved-in-Ok c =
    let bs = c.args.recording.now in
    let at = c.loop-item.reader.offset in
    let after = c.next.new.self.offset in
    let inv = c.loop-item.invariant in
    let x : NextExactly bs at c.loop-item.subframe_open (Some (Ok (content c.in-Ok.record))) after = rw c.in-Ok.is at (rw inv.same at c.in-Some.ensures.next_exactly) in
    let f : Forward (Some (Ok c.in-Ok.record)) at after (length bs) = rw c.in-Ok.is at (rw inv.same at c.in-Some.ensures.forward) in
    let counted = rw c.in-Ok.is at c.count.ensures.record_more in
    rw (counted, c.leaves_open-subframe_open.ensures) (record {
      same = c.in-Some.ensures.same ∙ inv.same;
      within = f.1;
      counted = omega (arith, f.0);
      not_ended = inv.not_ended;
      so_far = reads_on bs at _ _ _ after (content c.in-Ok.record) inv.so_far x;
    })

pub loop-item-preserved : goal.loop-item-preserved
loop-item-preserved c =
    let bs = c.args.recording.now in
    let at = c.loop-item.reader.offset in
    let after = c.next.new.self.offset in
    let inv = c.loop-item.invariant in
    let x : NextExactly bs at c.loop-item.subframe_open (Some (Err c.in-Err.fault)) after = rw c.in-Err.is at (rw inv.same at c.in-Some.ensures.next_exactly) in
    let f : Forward (Some (Err c.in-Err.fault)) at after (length bs) = rw c.in-Err.is at (rw inv.same at c.in-Some.ensures.forward) in
    let counted = rw c.in-Err.is at c.count.ensures.fault_more in
    let on = sym c.if-ends_run.ensures in
    rw counted (record {
      same = c.in-Some.ensures.same ∙ inv.same;
      within = f.2;
      counted = omega (arith, f.1 on);
      not_ended = inv.not_ended;
      so_far = goes_on bs at _ _ _ after c.in-Err.fault inv.so_far x on;
    })

-- the run that ends at its fault
ended : (c : goal.Then-ends_run) → RunsThrough c.args.recording.now (record { records = c.count.new.self.records; faults = c.count.new.self.faults; ending = Some c.in-Err.fault })
ended c =
    let bs = c.args.recording.now in
    let at = c.loop-item.reader.offset in
    let after = c.next.new.self.offset in
    let inv = c.loop-item.invariant in
    let x : NextExactly bs at c.loop-item.subframe_open (Some (Err c.in-Err.fault)) after = rw c.in-Err.is at (rw inv.same at c.in-Some.ensures.next_exactly) in
    rw (rw c.in-Err.is at c.count.ensures.fault_more) (at_its_fault bs at _ _ _ after c.in-Err.fault inv.so_far x (sym c.if-ends_run.ensures))

pub returns-then-ends_run-clause-runs_through : goal.returns-then-ends_run-clause-runs_through
returns-then-ends_run-clause-runs_through c = ended c

pub returns-then-ends_run-clause-only_run : goal.returns-then-ends_run-clause-only_run
returns-then-ends_run-clause-only_run c = only_run c.args.recording.now _ (λ i. omega (arith, c.type_inv.recording i)) (ended c)

-- the run that ends at the end
done : (c : goal.In_default) → RunsThrough c.args.recording.now c.loop-item.tally
done c =
    let bs = c.args.recording.now in
    let inv = c.loop-item.invariant in
    let t = c.loop-item.tally in
    subst (λ ending. RunsThrough bs (record { records = t.records; faults = t.faults; ending = ending })) (sym inv.not_ended) (at_its_end bs _ _ _ _ inv.so_far (rw inv.same at c.in_default.ensures.forward).1)

pub returns-clause-only_run : goal.returns-clause-only_run
returns-clause-only_run c = only_run c.args.recording.now _ (λ i. omega (arith, c.type_inv.recording i)) (done c)
