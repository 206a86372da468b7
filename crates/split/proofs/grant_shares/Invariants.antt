use Rattle.std.proofs.Common.{◌≡◌, ◌≤◌, ◌++◌, map, take, drop}
use Rattle.std.specs.List.{All}
use Rattle.split.specs.Shares.{with_leftovers, with_grants}
use Rattle.split.proofs.grant_shares.Given as goal

abbrev pub invariant-loop-claim : goal.invariant-loop-claim
invariant-loop-claim g l =
    let asks = g.C.Claim.asks in
    let given = g.C.Claim.given in
    record {
      small : All (λ c. asks c ≤ 1995262314) l.claims;
      granted : take l.claim-index l.claims ++ with_grants given (drop l.claim-index l.claims) (with_leftovers l.shortage.room l.shortage.total l.left (map asks (drop l.claim-index l.claims)))
          ≡ with_grants given l.initial.claims (with_leftovers l.shortage.room l.shortage.total l.leftover (map asks l.initial.claims));
    }
