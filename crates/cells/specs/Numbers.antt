-- The numbers of kinds, channels, commands, formats and classes, and the case of each number.
-- A case of a number outside its range is never used: such numbers are refused.
use Rattle.std.specs.Prelude.{ℕ, cond, ◌==◌}
use Rattle.sharing.specs.declared.ranks.Class.{Class}
use Rattle.sharing.specs.declared.ranks.Class.TheVariants.{Acknowledgement, ControlInformation, DataOnly, Sounding}
use Rattle.cells.specs.declared.settings.LoopKind.{LoopKind}
use Rattle.cells.specs.declared.settings.LoopKind.TheVariants.{Accumulating, Absolute}
use Rattle.cells.specs.declared.commands.Channel.{Channel}
use Rattle.cells.specs.declared.commands.Channel.TheVariants.{Data, Control}
use Rattle.cells.specs.declared.commands.TpcCommand.{TpcCommand}
use Rattle.cells.specs.declared.commands.TpcCommand.TheVariants.{Zero, One, Two, Three}
use Rattle.cells.specs.declared.wants.ControlFormat.{ControlFormat}
use Rattle.cells.specs.declared.wants.ControlFormat.TheVariants.{Format1, Format2, Format3}

abbrev pub loop_kind_number : LoopKind → ℕ
loop_kind_number Accumulating = 0
loop_kind_number Absolute = 1

abbrev pub loop_kind_of : ℕ → LoopKind
loop_kind_of n = cond (n == 0) Accumulating Absolute

abbrev pub channel_number : Channel → ℕ
channel_number Data = 0
channel_number Control = 1

abbrev pub channel_of : ℕ → Channel
channel_of n = cond (n == 0) Data Control

-- the value of the command field
abbrev pub code_number : TpcCommand → ℕ
code_number Zero = 0
code_number One = 1
code_number Two = 2
code_number Three = 3

abbrev pub code_of : ℕ → TpcCommand
code_of n = cond (n == 0) Zero (cond (n == 1) One (cond (n == 2) Two Three))

abbrev pub format_number : ControlFormat → ℕ
format_number Format1 = 1
format_number Format2 = 2
format_number Format3 = 3

abbrev pub format_of : ℕ → ControlFormat
format_of n = cond (n == 1) Format1 (cond (n == 2) Format2 Format3)

abbrev pub class_of : ℕ → Class
class_of n = cond (n == 1) Acknowledgement (cond (n == 2) ControlInformation (cond (n == 3) DataOnly Sounding))
