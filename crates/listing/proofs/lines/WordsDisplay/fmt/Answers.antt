use Rattle.std.proofs.Common.{rules, ap, sym}
use Rattle.std.proofs.Output.{has_written_append, has_written_of_eq}
use Rattle.listing.specs.Lines.{record_words}
use Rattle.listing.proofs.lines.WordsDisplay.fmt.Goals as goal

pub returns-in_ok-write-in-Set-clause-writes : goal.returns-in_ok-write-in-Set-clause-writes
returns-in_ok-write-in-Set-clause-writes g c = λ plain done.
    has_written_of_eq _ _ _ _ _ (ap record_words (sym c.in-Set.is)) (has_written_append _ _ _ _ _ _ (c.in_ok-write-in-Set.ensures.writes plain (search rules)) (search rules))

pub returns-in-Command-clause-writes : goal.returns-in-Command-clause-writes
returns-in-Command-clause-writes g c = rw c.in-Command.is (search rules)
