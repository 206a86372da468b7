use Rattle.std.proofs.Common.{◌≡◌, drop}
use Rattle.std.specs.Option.{option_or}
use Rattle.refusals.specs.First.{first_that_holds}
use Rattle.refusals.proofs.first_refusal.Given as goal

abbrev pub invariant-loop-refusal : goal.invariant-loop-refusal
invariant-loop-refusal l = option_or l.found (first_that_holds (drop l.refusal-index l.conditions)) ≡ first_that_holds l.conditions
