use Rattle.std.proofs.Common.{arith}
use Rattle.split.proofs.Allowed.{scaled_bound}
use Rattle.split.proofs.grant_shares.Goals as goal

pub overflow_mul-scaled : goal.overflow_mul-scaled
overflow_mul-scaled g c =
    let l = c.loop-claim in
    let shortage = c.args.shortage.now in
    let small = l.invariant.small l.claim-index c.claim-item.result (omega arith) in
    omega (arith, scaled_bound c.want.result shortage.room (omega (arith, c.want.ensures, small)) shortage.limited)
