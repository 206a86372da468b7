-- The commands that wait on the channels of a cell.
use Rattle.std.specs.Prelude.{◌≡◌, ℕ, ◌+◌, ◌<◌, ◌≤◌, List, Some, Option}
use Rattle.refusals.specs.declared.Refusal.{Refusal}
use Rattle.cells.specs.declared.commands.Channel.{Channel}
use Rattle.cells.specs.declared.commands.Channel.TheVariants.{Data, Control}
use Rattle.cells.specs.declared.commands.TpcCommand.{TpcCommand}
use Rattle.cells.specs.declared.commands.Command.{Command}
use Rattle.cells.specs.declared.cell.Cell.{Cell}
use Rattle.cells.specs.Commands.{due_subframe, due, put, places_conditions}

-- the commands that wait on a channel
abbrev pub waiting_on : Channel → Cell → List (Option TpcCommand)
waiting_on Data k = k.data_commands
waiting_on Control k = k.control_commands

-- the cell with these commands waiting on a channel
abbrev pub with_waiting : Channel → Cell → List (Option TpcCommand) → Cell
with_waiting Data k places = record {
  settings = k.settings;
  loss = k.loss;
  data_loop = k.data_loop;
  control_loop = k.control_loop;
  data_commands = places;
  control_commands = k.control_commands;
}
with_waiting Control k places = record {
  settings = k.settings;
  loss = k.loss;
  data_loop = k.data_loop;
  control_loop = k.control_loop;
  data_commands = k.data_commands;
  control_commands = places;
}

-- when n subframes are settled: a command is refused where one of its channel waits for the same subframe
abbrev pub queue_conditions : Cell → ℕ → Command → List (Option Refusal)
queue_conditions k n c = places_conditions (waiting_on c.channel k) (due_subframe n)

-- the cell with the command put where it waits
abbrev pub queued : Cell → ℕ → Command → Cell
queued k n c = with_waiting c.channel k (put (waiting_on c.channel k) (due_subframe n) c.code)

-- After n settled subframes a command was accepted: it is the one that acts in the subframe n + 4, and on its channel nothing else is changed
-- in the four subframes before.
pub record ActsFourLater (k : Cell) (n : ℕ) (c : Command) (after : Cell) : Type 0 where
  pub acts : due (waiting_on c.channel after) (n + 4) ≡ Some c.code
  pub earlier_stay : (m : ℕ) → n ≤ m → m < n + 4 → due (waiting_on c.channel after) m ≡ due (waiting_on c.channel k) m
