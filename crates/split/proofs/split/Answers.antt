use Rattle.std.proofs.Common.{rules, map, sym, refl, ap, ◌∙◌}
use Rattle.std.proofs.lemmas.List.{length-map}
use Rattle.split.specs.Shares.{split_of}
use Rattle.split.proofs.Exact.{split_whole, split_length, spent, capped, near, ordered}
use Rattle.split.proofs.Granted.{granted_holds, granted_asks}
use Rattle.split.proofs.split.Goals as goal

pub returns : goal.returns
returns g c =
    let m = g.C.Claim in
    let room = c.args.room in
    let cs = c.args.claims.now in
    let wants = map m.asks cs in
    let yes = sym c.is_allowed.ensures ∙ c.if-not-is_allowed.false in
    let ends = c.grant_room.ensures in
    let holds = ap (map m.holds) ends ∙ granted_holds m.given m.holds g.met.C.Claim.takes_the_grant cs (split_of wants room) (split_length wants room ∙ length-map cs m.asks) in
    record {
      answers = rw yes refl;
      leaves = rw yes ends;
      refused_changes_nothing = search rules;
      wants_kept = ap (map m.asks) ends ∙ granted_asks m.given m.asks g.met.C.Claim.keeps_the_want cs (split_of wants room);
      grants = holds;
      whole_where_they_fit = λ h. holds ∙ split_whole wants room h;
      room_spent_exactly = spent wants room _ holds;
      no_more_than_wanted = capped wants room _ holds;
      within_one_nanowatt = near wants room _ holds;
      leftovers_in_order = ordered wants room _ holds;
    }
