-- What an accepted call makes of the state.
use Rattle.std.specs.Prelude.{ℕ}
use Rattle.cells.specs.declared.settings.RawSettings.{RawSettings}
use Rattle.cells.specs.declared.commands.RawCommand.{RawCommand}
use Rattle.cells.specs.declared.wants.RawWant.{RawWant}
use Rattle.cells.specs.Cells.{fresh_cell, with_loss}
use Rattle.cells.specs.Ranges.{settings_of, command_of}
use Rattle.cells.specs.Waiting.{queued}
use Rattle.cells.specs.WantRanges.{want_of}
use Rattle.states.specs.declared.shares.RawShares.{RawShares}
use Rattle.states.specs.declared.state.State.{State}
use Rattle.states.specs.declared.state.Subframe.TheVariants.{Idle, Open}
use Rattle.states.specs.Totals.{shares_from}
use Rattle.states.specs.Wanted.{put_want}
use Rattle.states.specs.States.{nothing_wanted, wants_in, cell_at, with_cell, with_shares, with_subframe}

-- SET, SHARES, LOSS and COMMAND
abbrev pub cell_set : State → ℕ → RawSettings → State
cell_set s k r = with_cell s k (fresh_cell (settings_of r))

abbrev pub shares_given : State → RawShares → State
shares_given s r = with_shares s (shares_from r)

abbrev pub loss_given : State → ℕ → ℕ → State
loss_given s k loss = with_cell s k (with_loss (cell_at s k) loss)

abbrev pub command_given : State → ℕ → RawCommand → State
command_given s k r = with_cell s k (queued (cell_at s k) s.settled (command_of r))

-- OPEN: a subframe with no wants yet
abbrev pub subframe_opened : State → State
subframe_opened s = with_subframe s (Open nothing_wanted)

-- WANT
abbrev pub want_given : State → ℕ → RawWant → State
want_given s k r = with_subframe s (Open (put_want (wants_in s.subframe) k (want_of r)))

-- DONE and DROP
abbrev pub subframe_ended : State → State
subframe_ended s = with_subframe s Idle
