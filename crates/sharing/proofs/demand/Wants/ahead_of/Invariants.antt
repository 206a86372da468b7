use Rattle.std.proofs.Common.{◌≡◌, ◌+◌, drop}
use Rattle.sharing.specs.Groups.{rival}
use Rattle.sharing.specs.Ranks.{wanted_by}
use Rattle.sharing.proofs.Steps.{Searched}
use Rattle.sharing.proofs.demand.Wants.ahead_of.Given as goal

abbrev pub invariant-loop-rank : goal.invariant-loop-rank
invariant-loop-rank l =
    let X = l.group in
    let rs = l.self.ranks.now in
    let left = drop l.rank-index rs in
    record {
      is_rival : l.rival ≡ rival X;
      passed : l.passed + wanted_by (rival X) left ≡ wanted_by (rival X) rs;
      searched : Searched X rs l.passed l.ahead left;
    }
