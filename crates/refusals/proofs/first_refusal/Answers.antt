use Rattle.std.proofs.Common.{arith}
use Rattle.std.proofs.lemmas.Grind.{common_steps}
use Rattle.refusals.proofs.Firsts.{answers}
use Rattle.refusals.proofs.first_refusal.Goals as goal

pub returns-clause-refused_exactly : goal.returns-clause-refused_exactly
returns-clause-refused_exactly c = answers _ _ (grind (arith, common_steps))
