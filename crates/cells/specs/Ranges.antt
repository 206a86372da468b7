-- Which settings, losses and commands a call may bring, and what they then stand for.
use Rattle.std.specs.Prelude.{◌≡◌, Result, IfOk, ℕ, Bool, not, ◌&&◌, ◌||◌, List, [], ◌∷◌, ℤ, pos, negsuc, ◌==◌, int_lt, nat_le, nat_lt, Option}
use Rattle.levels.specs.Levels.{level_of}
use Rattle.refusals.specs.declared.Refusal.TheVariants.{OutOfRange}
use Rattle.refusals.specs.declared.Refusal.{Refusal}
use Rattle.refusals.specs.First.{when, first_that_holds, refused_or, NoneHolds}
use Rattle.cells.specs.declared.settings.Settings.{Settings}
use Rattle.cells.specs.declared.settings.RawSettings.{RawSettings}
use Rattle.cells.specs.declared.commands.Command.{Command}
use Rattle.cells.specs.declared.commands.RawCommand.{RawCommand}
use Rattle.cells.specs.Numbers.{loop_kind_number, loop_kind_of, channel_number, channel_of, code_number, code_of}

-- below the low end or above the high end
abbrev pub outside : (low high v : ℤ) → Bool
outside low high v = int_lt v low || int_lt high v

-- 0, or 4 to 10 tenths
abbrev pub is_path_factor : ℕ → Bool
is_path_factor a = a == 0 || (nat_le 4 a && nat_le a 10)

-- a kind of 0 or 1, a maximum of -40 to 33 dBm, a data base of -134 to 31 dBm, a path factor, a control base of -135 to -89 dBm
abbrev pub settings_conditions : RawSettings → List (Option Refusal)
settings_conditions r =
    when (nat_lt 1 r.loop_kind) OutOfRange ∷
    when (outside (negsuc 399) (pos 330) r.maximum) OutOfRange ∷
    when (outside (negsuc 133) (pos 31) r.data_base) OutOfRange ∷
    when (not (is_path_factor r.path_factor)) OutOfRange ∷
    when (outside (negsuc 134) (negsuc 88) r.control_base) OutOfRange ∷
    []

abbrev pub settings_of : RawSettings → Settings
settings_of r = record {
  loop_kind = loop_kind_of r.loop_kind;
  maximum = level_of (pos 0) r.maximum;
  data_base = r.data_base;
  path_factor = r.path_factor;
  control_base = r.control_base;
}

-- settings as a call would bring them
abbrev pub raw_settings_of : Settings → RawSettings
raw_settings_of s = record {
  loop_kind = loop_kind_number s.loop_kind;
  maximum = s.maximum.tenths;
  data_base = s.data_base;
  path_factor = s.path_factor;
  control_base = s.control_base;
}

-- settings that no call is refused for
abbrev pub SettingsInRange : Settings → Type 0
SettingsInRange s = NoneHolds (settings_conditions (raw_settings_of s))

-- a loss of at most 200 dB
abbrev pub loss_conditions : ℕ → List (Option Refusal)
loss_conditions n = when (nat_lt 200 n) OutOfRange ∷ []

-- a channel of 0 or 1, a code of 0 to 3
abbrev pub command_conditions : RawCommand → List (Option Refusal)
command_conditions r =
    when (nat_lt 1 r.channel) OutOfRange ∷
    when (nat_lt 3 r.code) OutOfRange ∷
    []

abbrev pub command_of : RawCommand → Command
command_of r = record { channel = channel_of r.channel; code = code_of r.code }

-- a command as a call would bring it
abbrev pub raw_command_of : Command → RawCommand
raw_command_of c = record { channel = channel_number c.channel; code = code_number c.code }

-- settings that a call brings are refused, or answered as settings of the same numbers, which are in range
pub record SettingsChecked (raw : RawSettings) (r : Result Settings Refusal) : Type 0 where
  pub answers : r ≡ refused_or (first_that_holds (settings_conditions raw)) (settings_of raw)
  pub reads_back : IfOk r (λ s. raw_settings_of s ≡ raw)
  pub in_range : IfOk r SettingsInRange

-- a command that a call brings is refused, or answered as the command of the same numbers
pub record CommandChecked (raw : RawCommand) (r : Result Command Refusal) : Type 0 where
  pub answers : r ≡ refused_or (first_that_holds (command_conditions raw)) (command_of raw)
  pub reads_back : IfOk r (λ c. raw_command_of c ≡ raw)
