-- The text of a line.
use Rattle.std.specs.Prelude.{ℕ, List, [], ◌∷◌, ◌++◌, codes, decimal}
use Rattle.faults.specs.Faults.{layer_letter}
use Rattle.faults.specs.Marks.{pieces, marked}
use Rattle.sharing.specs.declared.groups.PerGroup.{PerGroup}
use Rattle.settling.specs.declared.outcome.Power.{Power}
use Rattle.lines.specs.declared.fault.PlayerFault.{PlayerFault}
use Rattle.lines.specs.declared.line.Line.{Line}
use Rattle.lines.specs.declared.line.Line.TheVariants.{Settled, Fault}
use Rattle.lines.specs.PlayerFaults.{player_place, player_layer, player_number}

-- a subframe, and what the master and then the secondary group wanted and was granted
abbrev pub settled_words : ℕ → PerGroup Power → List ℕ
settled_words subframe groups =
    pieces (decimal subframe ∷ codes " " ∷ decimal groups.master.wanted ∷ codes " " ∷ decimal groups.master.granted ∷ codes " " ∷ decimal groups.secondary.wanted ∷ codes " " ∷ decimal groups.secondary.granted ∷ [])

-- a fault: `!`, its place, its layer's letter and its number
abbrev pub fault_words : PlayerFault → List ℕ
fault_words fault = marked (player_place fault) (layer_letter (player_layer fault)) (player_number fault)

abbrev pub line_words : Line → List ℕ
line_words (Settled subframe groups) = settled_words subframe groups
line_words (Fault fault) = fault_words fault

-- a line ends in byte 0A
abbrev pub line_bytes : Line → List ℕ
line_bytes line = line_words line ++ 0x0A ∷ []
