-- Tickets of subframes.
use Rattle.std.specs.Prelude.{ℕ, Some, None, Ok, Err, Option, Result}
use Rattle.refusals.specs.declared.Refusal.{Refusal}
use Rattle.terminal.specs.declared.tickets.Open.{Open}
use Rattle.terminal.specs.declared.tickets.Settled.{Settled}
use Rattle.terminal.specs.declared.tickets.Ticket.{Ticket}
use Rattle.terminal.specs.declared.tickets.Unsettled.{Unsettled}

-- the ticket of a number, in whichever state
abbrev pub ticket : {S : Type 0} → ℕ → Ticket S
ticket n = record { subframe = n; state = record {} }

abbrev pub open_ticket : ℕ → Ticket Open
open_ticket n = ticket n

abbrev pub settled_ticket : ℕ → Ticket Settled
settled_ticket n = ticket n

-- SETTLE turns an open ticket into a settled one of the same number, or hands it back
abbrev pub settled_or_back : Option Refusal → Ticket Open → Result (Ticket Settled) Unsettled
settled_or_back None t = Ok (settled_ticket t.subframe)
settled_or_back (Some e) t = Err (record { ticket = t; refusal = e })

-- why a ticket was handed back, if it was
abbrev pub why_back : Result (Ticket Settled) Unsettled → Option Refusal
why_back (Ok t) = None
why_back (Err u) = Some u.refusal
