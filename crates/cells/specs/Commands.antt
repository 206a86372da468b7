-- The steps of commands, and the subframes that they wait for.
use Rattle.std.specs.Prelude.{◌≡◌, ℕ, ◌+◌, ◌%◌, ◌<◌, ◌≤◌, List, [], ◌∷◌, ℤ, pos, negsuc, is_some, Some, None, Option, slice_index_or, slice_set}
use Rattle.refusals.specs.declared.Refusal.TheVariants.{GivenAlready}
use Rattle.refusals.specs.declared.Refusal.{Refusal}
use Rattle.refusals.specs.First.{when}
use Rattle.cells.specs.declared.settings.LoopKind.{LoopKind}
use Rattle.cells.specs.declared.settings.LoopKind.TheVariants.{Accumulating, Absolute}
use Rattle.cells.specs.declared.commands.TpcCommand.{TpcCommand}
use Rattle.cells.specs.Numbers.{code_number}

-- the steps of the codes 0 to 3 in dB
abbrev pub steps_of : LoopKind → List ℤ
steps_of Accumulating = negsuc 0 ∷ pos 0 ∷ pos 1 ∷ pos 3 ∷ []
steps_of Absolute = negsuc 3 ∷ negsuc 0 ∷ pos 1 ∷ pos 4 ∷ []

abbrev pub step_of : LoopKind → TpcCommand → ℤ
step_of kind code = slice_index_or (steps_of kind) (code_number code) (pos 0)

-- a command that is given after n settled subframes acts in the fourth after
abbrev pub due_subframe : ℕ → ℕ
due_subframe n = n + 4

-- the place in which a command waits for the subframe n
abbrev pub place_for : ℕ → ℕ
place_for n = n % 5

-- the command that waits for the subframe n
abbrev pub due : List (Option TpcCommand) → ℕ → Option TpcCommand
due places n = slice_index_or places (place_for n) None

-- the places without it, and with a command that waits for n
abbrev pub taken : List (Option TpcCommand) → ℕ → List (Option TpcCommand)
taken places n = slice_set places (place_for n) None

abbrev pub put : List (Option TpcCommand) → ℕ → TpcCommand → List (Option TpcCommand)
put places n code = slice_set places (place_for n) (Some code)

-- at most one command waits for a subframe
abbrev pub places_conditions : List (Option TpcCommand) → ℕ → List (Option Refusal)
places_conditions places n = when (is_some (due places n)) GivenAlready ∷ []

-- a command waits in these places for the subframe n, and what waits for the four before is as it was
pub record WaitsFor (n : ℕ) (code : TpcCommand) (places after : List (Option TpcCommand)) : Type 0 where
  pub waits : due after n ≡ Some code
  pub earlier : (m : ℕ) → m < n → n ≤ m + 4 → due after m ≡ due places m
