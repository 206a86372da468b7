use Rattle.std.proofs.Common.{◌≡◌, ◌+◌, ◌^◌, ◌<◌, drop}
use Rattle.sharing.specs.Ranks.{wanted_by}
use Rattle.sharing.proofs.demand.Wants.all_of.Given as goal

abbrev pub invariant-loop-rank : goal.invariant-loop-rank
invariant-loop-rank l =
    (l.sum < 2 ^ 64)
    × (l.sum + wanted_by l.group (drop l.rank-index l.self.ranks.now) ≡ l.initial.sum + wanted_by l.group l.self.ranks.now)
