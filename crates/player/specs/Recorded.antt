-- The calls that a record stands for.
use Rattle.std.specs.Prelude.{ℕ, List, [], ◌∷◌, ℤ, pos, ◌-ℤ◌, Some, None, Option, slice_index}
use Rattle.cells.specs.declared.settings.RawSettings.{RawSettings}
use Rattle.cells.specs.declared.commands.RawCommand.{RawCommand}
use Rattle.cells.specs.declared.wants.RawWant.{RawWant}
use Rattle.states.specs.declared.shares.RawShares.{RawShares}
use Rattle.recording.specs.declared.kinds.RecordKind.{RecordKind}
use Rattle.recording.specs.declared.kinds.RecordKind.TheVariants as kind
use Rattle.recording.specs.Contents.{Content, numbered, noted}
use Rattle.terminal.specs.declared.call.Call.{Call}
use Rattle.terminal.specs.declared.call.Call.TheVariants as call

-- the number at a place; one with 2000 added, as what it means
abbrev pub plain : List ℕ → ℕ → ℕ
plain ns k = slice_index ns k

abbrev pub meant : List ℕ → ℕ → ℤ
meant ns k = pos (plain ns k) -ℤ pos 2000

abbrev pub settings_in : List ℕ → RawSettings
settings_in ns = record { loop_kind = plain ns 1; maximum = meant ns 2; data_base = meant ns 3; path_factor = plain ns 4; control_base = meant ns 5 }

abbrev pub shares_in : List ℕ → RawShares
shares_in ns = record { total = meant ns 0; master = plain ns 1; secondary = plain ns 2 }

abbrev pub command_in : List ℕ → RawCommand
command_in ns = record { channel = plain ns 1; code = plain ns 2 }

abbrev pub want_in : List ℕ → RawWant
want_in ns = record { kind = plain ns 1; class = plain ns 2; size = plain ns 3; format = plain ns 4; offset = meant ns 5 }

-- C, S, L, T, O, W, E and X, with the ticket of the open subframe n; E is three calls
abbrev pub calls_in : ℕ → RecordKind → List ℕ → List Call
calls_in n kind.Set ns = call.Set (plain ns 0) (settings_in ns) ∷ []
calls_in n kind.Shares ns = call.Shares (shares_in ns) ∷ []
calls_in n kind.Loss ns = call.Loss (plain ns 0) (plain ns 1) ∷ []
calls_in n kind.Command ns = call.Command (plain ns 0) (command_in ns) ∷ []
calls_in n kind.Open ns = call.Open ∷ []
calls_in n kind.Want ns = call.Want n (plain ns 0) (want_in ns) ∷ []
calls_in n kind.Settle ns = call.Settle n ∷ call.Groups n ∷ call.Done n ∷ []
calls_in n kind.Drop ns = call.Drop n ∷ []
calls_in n kind.Note ns = []

-- a note is no call
abbrev pub calls_for : ℕ → Content → List Call
calls_for n (numbered k ns) = calls_in n k ns
calls_for n (noted text) = []

-- those that need no ticket: C, S, L and T
abbrev pub plain_calls_in : RecordKind → List ℕ → List Call
plain_calls_in kind.Set ns = calls_in 0 kind.Set ns
plain_calls_in kind.Shares ns = calls_in 0 kind.Shares ns
plain_calls_in kind.Loss ns = calls_in 0 kind.Loss ns
plain_calls_in kind.Command ns = calls_in 0 kind.Command ns
plain_calls_in kind.Open ns = []
plain_calls_in kind.Want ns = []
plain_calls_in kind.Settle ns = []
plain_calls_in kind.Drop ns = []
plain_calls_in kind.Note ns = []

abbrev pub plain_calls : Content → List Call
plain_calls (numbered k ns) = plain_calls_in k ns
plain_calls (noted text) = []

-- one of these four, or none
abbrev pub PlainCall : Option Call → Type 0
PlainCall None = Unit {0}
PlainCall (Some (call.Set k r)) = Unit {0}
PlainCall (Some (call.Shares r)) = Unit {0}
PlainCall (Some (call.Loss k loss)) = Unit {0}
PlainCall (Some (call.Command k r)) = Unit {0}
PlainCall (Some call.Open) = ⊥
PlainCall (Some (call.Want n k r)) = ⊥
PlainCall (Some (call.Settle n)) = ⊥
PlainCall (Some (call.Groups n)) = ⊥
PlainCall (Some (call.Done n)) = ⊥
PlainCall (Some (call.Drop n)) = ⊥
