use Rattle.std.proofs.Common.{◌≡◌, ap, sym, ◌∙◌, length, rules}
use Rattle.std.proofs.lemmas.List.{length-map}
use Rattle.split.specs.declared.cell_claim.CellClaim.{CellClaim}
use Rattle.settling.proofs.Fours.{four_is, split_read, none_granted}
use Rattle.settling.proofs.grants.shares.Goals as goal

pub returns-in-Ok : goal.returns-in-Ok
returns-in-Ok g c =
    let s = c.in-Ok.ensures in
    let four : length c.args.claims ≡ 4 = search rules in
    four_is (λ (k : CellClaim g.row.CLASS). k.granted) c.split.new.claims _ _ _ _
    (sym (length-map c.split.new.claims (λ k. k.want)) ∙ ap length s.wants_kept ∙ length-map c.args.claims (λ k. k.want) ∙ four) ∙ split_read _ c.args.room _ s.answers s.grants

pub returns-in-Err : goal.returns-in-Err
returns-in-Err g c =
    let four : length c.args.claims ≡ 4 = search rules in
    none_granted _ c.args.room _ c.in-Err.ensures.answers (length-map c.args.claims (λ k. k.want) ∙ four)
