-- When a call is refused: its conditions in the order in which they are checked. The order is one for all calls: 8, 5, 9, 1, 2, 7, 3, 4, 6.
use Rattle.std.specs.Prelude.{ℕ, Bool, true, false, not, ◌&&◌, List, [], ◌∷◌, ◌++◌, nat_le, nat_lt, Option}
use Rattle.refusals.specs.declared.Refusal.TheVariants.{NoSuchCell, CellNotSet, NotPrimary, Busy, GivenAlready, NoSuchSubframe, NoMoreSubframes}
use Rattle.refusals.specs.declared.Refusal.{Refusal}
use Rattle.refusals.specs.First.{when}
use Rattle.cells.specs.declared.settings.RawSettings.{RawSettings}
use Rattle.cells.specs.declared.commands.Channel.{Channel}
use Rattle.cells.specs.declared.commands.Channel.TheVariants.{Data as DataChannel, Control as ControlChannel}
use Rattle.cells.specs.declared.commands.RawCommand.{RawCommand}
use Rattle.cells.specs.declared.wants.RawWant.{RawWant}
use Rattle.cells.specs.declared.wants.Want.{Want}
use Rattle.cells.specs.declared.wants.Want.TheVariants.{Control, Data, Sounding}
use Rattle.cells.specs.Ranges.{settings_conditions, loss_conditions, command_conditions, command_of}
use Rattle.cells.specs.Waiting.{queue_conditions}
use Rattle.cells.specs.WantRanges.{want_conditions, want_of}
use Rattle.states.specs.declared.shares.RawShares.{RawShares}
use Rattle.states.specs.declared.state.State.{State}
use Rattle.states.specs.Totals.{share_conditions}
use Rattle.states.specs.Wanted.{is_primary, given_already}
use Rattle.states.specs.States.{is_busy, open_as, settled_as, wants_in, cell_at, not_set}

-- control is for primary cells alone
abbrev pub is_control : Want → Bool
is_control (Control w) = true
is_control (Data w) = false
is_control (Sounding w) = false

abbrev pub on_control : Channel → Bool
on_control DataChannel = false
on_control ControlChannel = true

module _ (s : State) where
  -- busy, or the cell k not set
  abbrev pub refuses_busy : List (Option Refusal)
  refuses_busy = when (is_busy s.subframe) Busy ∷ []

  abbrev pub refuses_not_set : ℕ → List (Option Refusal)
  refuses_not_set k = when (not_set s k) CellNotSet ∷ []

  -- SET of the cell k
  abbrev pub refuses_set : ℕ → RawSettings → List (Option Refusal)
  refuses_set k r =
      when (is_busy s.subframe) Busy ∷
      when (nat_lt 7 k) NoSuchCell ∷
      settings_conditions r

  -- SHARES
  abbrev pub refuses_shares : RawShares → List (Option Refusal)
  refuses_shares r = when (is_busy s.subframe) Busy ∷ share_conditions r

  -- LOSS of the cell k
  abbrev pub refuses_loss : ℕ → ℕ → List (Option Refusal)
  refuses_loss k loss =
      when (is_busy s.subframe) Busy ∷
      when (nat_lt 7 k) NoSuchCell ∷
      (loss_conditions loss ++ (
      when (not_set s k) CellNotSet ∷
      []))

  -- COMMAND to the cell k, but for a second command of its channel for the same subframe
  abbrev pub refuses_command_to : ℕ → RawCommand → List (Option Refusal)
  refuses_command_to k r =
      when (is_busy s.subframe) Busy ∷
      when (nat_lt 7 k) NoSuchCell ∷
      (command_conditions r ++ (
      when (not_set s k) CellNotSet ∷
      when (on_control (command_of r).channel && not (is_primary k)) NotPrimary ∷
      []))

  abbrev pub refuses_command : ℕ → RawCommand → List (Option Refusal)
  refuses_command k r = refuses_command_to k r ++ queue_conditions (cell_at s k) s.settled (command_of r)

  -- OPEN
  abbrev pub refuses_open : List (Option Refusal)
  refuses_open =
      when (is_busy s.subframe) Busy ∷
      when (nat_le 864000000 s.settled) NoMoreSubframes ∷
      []

  -- a want of the cell k whose fields are in range
  abbrev pub refuses_want_of : ℕ → Want → List (Option Refusal)
  refuses_want_of k w =
      when (not_set s k) CellNotSet ∷
      when (is_control w && not (is_primary k)) NotPrimary ∷
      when (given_already (wants_in s.subframe) k w) GivenAlready ∷
      []

  -- WANT of the cell k, with an open ticket of the number n
  abbrev pub refuses_want : (n k : ℕ) → RawWant → List (Option Refusal)
  refuses_want n k r =
      when (not (open_as s n)) NoSuchSubframe ∷
      when (nat_lt 7 k) NoSuchCell ∷
      (want_conditions r ++ refuses_want_of k (want_of r))

  -- SETTLE and DROP, with an open ticket of the number n
  abbrev pub refuses_open_ticket : ℕ → List (Option Refusal)
  refuses_open_ticket n = when (not (open_as s n)) NoSuchSubframe ∷ []

  -- GROUPS and DONE, with a settled ticket of the number n
  abbrev pub refuses_settled_ticket : ℕ → List (Option Refusal)
  refuses_settled_ticket n = when (not (settled_as s n)) NoSuchSubframe ∷ []
