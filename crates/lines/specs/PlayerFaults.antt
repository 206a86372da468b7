-- The faults of a played recording: those of its records, and the calls that the terminal refused.
use Rattle.std.specs.Prelude.{ℕ, Bool, false}
use Rattle.refusals.specs.Numbers.{number_of}
use Rattle.faults.specs.declared.Layer.{Layer}
use Rattle.faults.specs.declared.Layer.TheVariants.{Terminal as TerminalLayer}
use Rattle.faults.specs.Faults.{fault_place, fault_layer, fault_number, ends_run}
use Rattle.lines.specs.declared.fault.PlayerFault.{PlayerFault}
use Rattle.lines.specs.declared.fault.PlayerFault.TheVariants.{Record, Terminal}

-- a record's fault keeps its place, layer and number inside a player's
abbrev pub player_place : PlayerFault → ℕ
player_place (Record fault) = fault_place fault
player_place (Terminal refused) = refused.place

abbrev pub player_layer : PlayerFault → Layer
player_layer (Record fault) = fault_layer fault
player_layer (Terminal refused) = TerminalLayer

abbrev pub player_number : PlayerFault → ℕ
player_number (Record fault) = fault_number fault
player_number (Terminal refused) = number_of refused.refusal

-- a record's fault ends the run as it does alone; a refusal never does
abbrev pub player_ends_run : PlayerFault → Bool
player_ends_run (Record fault) = ends_run fault
player_ends_run (Terminal refused) = false
