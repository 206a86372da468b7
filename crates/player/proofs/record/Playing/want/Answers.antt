use Rattle.std.proofs.Common.{◌≡◌, Some, Option, sym, ◌∙◌}
use Rattle.terminal.specs.declared.tickets.Open.{Open}
use Rattle.terminal.specs.declared.tickets.Ticket.{Ticket}
use Rattle.player.proofs.Wanting.{want_plays, want_keeps}
use Rattle.player.proofs.record.Playing.want.Goals as goal

pub invariant_of-self : goal.invariant_of-self
invariant_of-self g c =
    let p = c.args.self.now in
    let held : ◌≡◌ {A = Option (Ticket Open)} (Some c.unwrap-ticket.result.now) p.ticket = rw c.unwrap-ticket.ensures at c.as_ref.ensures.value in
    record { mine = sym held ∙ want_keeps c.args.cell c.args.want p.terminal.state _ p.terminal.rule _ c.unwrap-ticket.result.now _ (held ∙ p.mine) c.want.ensures }

pub returns : goal.returns
returns g c =
    let p = c.args.self.now in
    let held : ◌≡◌ {A = Option (Ticket Open)} (Some c.unwrap-ticket.result.now) p.ticket = rw c.unwrap-ticket.ensures at c.as_ref.ensures.value in
    want_plays c.args.cell c.args.want p.terminal.state _ p.terminal.rule _ c.unwrap-ticket.result.now _ (held ∙ p.mine) c.want.ensures g.R.HoldingRule.reserve c.args.place _ c.refused_line.ensures
