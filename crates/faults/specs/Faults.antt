-- The faults of a recording: their numbers, their layers, and which of them end a run.
use Rattle.std.specs.Prelude.{◌≡◌, ℕ, Bool, ◌&&◌, ◌⊎◌, nat_le}
use Rattle.faults.specs.declared.Layer.{Layer}
use Rattle.faults.specs.declared.Layer.TheVariants.{Number as NumberLayer, Record as RecordLayer, Terminal as TerminalLayer}
use Rattle.faults.specs.declared.NumberFaultKind.{NumberFaultKind}
use Rattle.faults.specs.declared.NumberFaultKind.TheVariants.{Truncated, Malformed}
use Rattle.faults.specs.declared.NumberFault.{NumberFault}
use Rattle.faults.specs.declared.LayoutFaultKind.{LayoutFaultKind}
use Rattle.faults.specs.declared.LayoutFaultKind.TheVariants.{BadBody, NoOpenSubframe}
use Rattle.faults.specs.declared.RecordFault.{RecordFault}
use Rattle.faults.specs.declared.RecordFault.TheVariants.{Number, Layout}

-- the letter of a layer: N, R, T
abbrev pub layer_letter : Layer → ℕ
layer_letter NumberLayer = 0x4E
layer_letter RecordLayer = 0x52
layer_letter TerminalLayer = 0x54

abbrev pub number_kind : NumberFaultKind → ℕ
number_kind Truncated = 10
number_kind Malformed = 11

abbrev pub layout_kind : LayoutFaultKind → ℕ
layout_kind BadBody = 12
layout_kind NoOpenSubframe = 13

abbrev pub number_fault_number : NumberFault → ℕ
number_fault_number fault = number_kind fault.kind

-- a number's fault keeps its place, layer and number inside a record's
abbrev pub fault_place : RecordFault → ℕ
fault_place (Number fault) = fault.place
fault_place (Layout place kind) = place

abbrev pub fault_layer : RecordFault → Layer
fault_layer (Number fault) = NumberLayer
fault_layer (Layout place kind) = RecordLayer

abbrev pub fault_number : RecordFault → ℕ
fault_number (Number fault) = number_fault_number fault
fault_number (Layout place kind) = layout_kind kind

-- 10, 11 and 12 end the run; after any other it goes on
abbrev pub ends_run : RecordFault → Bool
ends_run fault = nat_le 10 (fault_number fault) && nat_le (fault_number fault) 12

-- the four faults of the record at a place
abbrev pub truncated_number : ℕ → NumberFault
truncated_number place = record { place = place; kind = Truncated }

abbrev pub malformed_number : ℕ → NumberFault
malformed_number place = record { place = place; kind = Malformed }

abbrev pub truncated : ℕ → RecordFault
truncated place = Number (truncated_number place)

abbrev pub malformed : ℕ → RecordFault
malformed place = Number (malformed_number place)

abbrev pub bad_body : ℕ → RecordFault
bad_body place = Layout place BadBody

abbrev pub no_open_subframe : ℕ → RecordFault
no_open_subframe place = Layout place NoOpenSubframe

-- one of the three that end the run
abbrev pub EndsRun : ℕ → RecordFault → Type 0
EndsRun place fault = (fault ≡ truncated place) ⊎ ((fault ≡ malformed place) ⊎ (fault ≡ bad_body place))
