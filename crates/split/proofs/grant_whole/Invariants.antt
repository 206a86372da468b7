use Rattle.std.proofs.Common.{◌≡◌, ◌++◌, map, take, drop}
use Rattle.split.specs.Shares.{with_grants}
use Rattle.split.proofs.grant_whole.Given as goal

abbrev pub invariant-loop-claim : goal.invariant-loop-claim
invariant-loop-claim g l =
    let asks = g.C.Claim.asks in
    let goal = g.C.Claim.given in
    take l.claim-index l.claims ++ with_grants goal (drop l.claim-index l.claims) (map asks (drop l.claim-index l.claims))
    ≡ with_grants goal l.initial.claims (map asks l.initial.claims)
