use Rattle.std.proofs.Common.{◌-◌, map, sym, refl, ap, ◌∙◌, arith}
use Rattle.split.specs.Shares.{with_grants}
use Rattle.split.proofs.Exact.{split_whole, split_from}
use Rattle.split.proofs.Allowed.{total_fits, floors_within, sum_of_wants, sum_of_floors}
use Rattle.split.proofs.grant_room.Goals as goal

pub total_want-total-requires : goal.total_want-total-requires
total_want-total-requires g c = total_fits g.C.Claim.asks c.args.claims.now c.args.room c.requires

pub floor_sum-requires-clause-fits : goal.floor_sum-requires-clause-fits
floor_sum-requires-clause-fits g c =
    omega (arith, floors_within g.C.Claim.asks c.args.room c.total_want-total.result c.args.claims.now c.total_want-total.ensures c.if-total-room.false)

pub overflow_sub-leftover : goal.overflow_sub-leftover
overflow_sub-leftover g c =
    omega (arith, c.floor_sum.ensures, floors_within g.C.Claim.asks c.args.room c.total_want-total.result c.args.claims.now c.total_want-total.ensures c.if-total-room.false)

pub returns-then-total-room : goal.returns-then-total-room
returns-then-total-room g c =
    let m = g.C.Claim in
    let cs = c.args.claims.now in
    c.grant_whole.ensures ∙ ap (with_grants m.given cs) (sym (split_whole (map m.asks cs) c.args.room (omega (arith, sum_of_wants m.asks cs))))

pub returns-else-total-room : goal.returns-else-total-room
returns-else-total-room g c =
    let m = g.C.Claim in
    let cs = c.args.claims.now in
    let room = c.args.room in
    let floor = c.floor_sum.result in
    let total = c.total_want-total.result in
    c.grant_shares.ensures ∙ ap (with_grants m.given cs)
    (split_from (map m.asks cs) room total floor (room - floor) (c.total_want-total.ensures ∙ sum_of_wants m.asks cs) c.if-total-room.false (c.floor_sum.ensures ∙ sum_of_floors m.asks room total cs) refl)
