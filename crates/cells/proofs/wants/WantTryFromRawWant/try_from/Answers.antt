use Rattle.cells.specs.WantRanges.{want_conditions, want_of, raw_want_of}
use Rattle.cells.proofs.ReadBack.{reads_back, want_back}
use Rattle.cells.proofs.wants.WantTryFromRawWant.try_from.Goals as goal

pub returns : goal.returns
returns c =
    let back = reads_back want_conditions raw_want_of c.args.raw (want_of c.args.raw) c.checked.result c.checked.ensures (want_back c.args.raw) in
    record { answers = c.checked.ensures; reads_back = back.0; in_range = back.1 }
