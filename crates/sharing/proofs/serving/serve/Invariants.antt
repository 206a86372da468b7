use Rattle.std.proofs.Common.{◌≡◌, ◌+◌, ◌^◌, ◌<◌, ◌++◌, take, drop}
use Rattle.sharing.specs.declared.groups.Group.{Group}
use Rattle.sharing.specs.Groups.{at_group}
use Rattle.sharing.specs.Ranks.{granted_to, whole_grant}
use Rattle.sharing.specs.Sharing.{served}
use Rattle.sharing.proofs.serving.serve.Given as goal

-- what is served, with what is left served from here, is the whole served; and so are the grants
abbrev pub invariant-loop-rank : goal.invariant-loop-rank
invariant-loop-rank l = record {
  held : (X : Group) → at_group X l.granted < 2 ^ 64;
  leaves : take l.rank-index l.ranks ++ served l.total l.reserves l.granted (drop l.rank-index l.ranks) ≡ served l.total l.reserves l.initial.granted l.initial.ranks;
  sums : (X : Group) → at_group X l.granted + granted_to X (served l.total l.reserves l.granted (drop l.rank-index l.ranks)) ≡ whole_grant l.initial.granted X (served l.total l.reserves l.initial.granted l.initial.ranks);
}
