use Rattle.std.proofs.Common.{◌<◌, ◌∙◌, length, sym, arith, length-set}
use Rattle.std.proofs.lemmas.Result.{err_from_is_err_and}
use Rattle.recording.proofs.Bodies.{number_on, number_off}
use Rattle.recording.proofs.cursor.Cursor.read_numbers.Goals as goal

pub returns-in_err-value : goal.returns-in_err-value
returns-in_err-value g c =
    let p = err_from_is_err_and c.from_residual.result c.from_residual.ensures.1 in
    let inv = c.loop-value.invariant in
    rw (p.1, p.2) (sym (inv.2 ∙ number_off c.args.self.place g.row.N _ _ _ _ (omega arith) (rw inv.0 at c.in_err-value.ensures.answer)))

pub loop-value-preserved : goal.loop-value-preserved
loop-value-preserved g c =
    let inv = c.loop-value.invariant in
    let inside : c.loop-value.value-index < length c.loop-value.value-items = omega arith in
    (c.in_ok-value.ensures.same_place ∙ inv.0, length-set _ _ _ ∙ inv.1, inv.2 ∙ number_on c.args.self.place g.row.N _ _ _ _ _ inside inv.1 (rw inv.0 at c.in_ok-value.ensures.answer))
