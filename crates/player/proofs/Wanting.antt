-- A WANT of a recording, made with the ticket of the open subframe.
use Rattle.std.proofs.Common.{◌≡◌, ℕ, [], ◌∷◌, Some, None, Option, Result, sym, refl, ap, ◌∙◌, subst}
use Rattle.std.specs.Option.{option_to_list}
use Rattle.refusals.specs.declared.Refusal.{Refusal}
use Rattle.refusals.specs.First.{first_that_holds, refused_or, unchanged_or}
use Rattle.cells.specs.declared.wants.RawWant.{RawWant}
use Rattle.lines.specs.declared.line.Line.{Line}
use Rattle.states.specs.declared.state.State.{State}
use Rattle.states.specs.declared.state.Subframe.{Subframe}
use Rattle.states.specs.declared.state.Subframe.TheVariants as subframe
use Rattle.states.specs.Admission.{refuses_want}
use Rattle.terminal.specs.declared.tickets.Open.{Open}
use Rattle.terminal.specs.declared.tickets.Ticket.{Ticket}
use Rattle.terminal.specs.declared.call.Call.TheVariants.{Want}
use Rattle.terminal.specs.declared.call.Answer.TheVariants.{Accepted}
use Rattle.terminal.specs.Tickets.{open_ticket}
use Rattle.terminal.specs.Changes.{want_given}
use Rattle.terminal.specs.Pinned.{RefusedOrDone}
use Rattle.terminal.proofs.Performing.{same_or_same}
use Rattle.player.specs.Played.{ticket_for, ticket_of, said, line_for, lines_for, PlaysCalls}

-- the ticket bears the number of settled subframes
ticket_is : (f : Subframe) (n : ℕ) (t : Ticket Open) → Some t ≡ ticket_for f n → t ≡ open_ticket n
ticket_is subframe.Idle n t e = cc
ticket_is (subframe.Open ws) n t e = cc
ticket_is (subframe.Settled ws o) n t e = cc

-- a call that gives nothing: its line, if it was refused
said_line : (place n : ℕ) (o : Option Refusal) → line_for place 0 (said (refused_or o tt)) ≡ lines_for place n (refused_or o Accepted ∷ [])
said_line place n None = refl
said_line place n (Some e) = refl

kept_open : (o : Option Refusal) (s : State) (k : ℕ) (r : RawWant) (t : Ticket Open) → t ≡ open_ticket s.settled → Some t ≡ ticket_of s → Some t ≡ ticket_of (unchanged_or o (want_given s k r) s)
kept_open None s k r t is e = ap Some is
kept_open (Some d) s k r t is e = e

module _ {V : Type 0} (k : ℕ) (r : RawWant) (s after : State) (v left : V) (t : Ticket Open) (x : Result Unit Refusal) (mine : Some t ≡ ticket_of s) (h : RefusedOrDone (refuses_want s t.subframe k r) tt (want_given s k r) s after v left x) where
  is : t ≡ open_ticket s.settled
  is = ticket_is s.subframe s.settled t mine

  done : RefusedOrDone (refuses_want s s.settled k r) tt (want_given s k r) s after v left x
  done = subst (λ (n : ℕ). RefusedOrDone (refuses_want s n k r) tt (want_given s k r) s after v left x) (ap (λ (u : Ticket Open). u.subframe) is) h

  -- the ticket stays that of the open subframe
  pub want_keeps : Some t ≡ ticket_of after
  want_keeps = kept_open (first_that_holds (refuses_want s s.settled k r)) s k r t is mine ∙ ap ticket_of (sym done.leaves)

  pub want_plays : (reserve : V → ℕ → ℕ → ℕ) (place : ℕ) (line : Option Line) → option_to_list line ≡ line_for place 0 (said x) → PlaysCalls reserve place (Want s.settled k r ∷ []) (s, v) (after, left) line
  want_plays reserve place line shown =
      let o = first_that_holds (refuses_want s s.settled k r) in
      record {
        leaves = λ i. (done.leaves i, (done.same_rule ∙ same_or_same o v) i);
        shows = shown ∙ (ap (λ (y : Result Unit Refusal). line_for place 0 (said y)) done.answers ∙ said_line place s.settled o);
      }
