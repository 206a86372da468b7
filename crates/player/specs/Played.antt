-- A recording played on a terminal, record by record.
use Rattle.std.specs.Prelude.{◌≡◌, ℕ, zero, suc, ◌+◌, Bool, true, false, cond, List, [], ◌∷◌, ◌++◌, length, Some, None, Ok, Err, Option, Result}
use Rattle.std.specs.declared.ops.ControlFlow.{ControlFlow}
use Rattle.std.specs.declared.ops.ControlFlow.TheVariants.{Continue, Break}
use Rattle.std.specs.Option.{option_to_list}
use Rattle.faults.specs.declared.RecordFault.{RecordFault}
use Rattle.faults.specs.Faults.{ends_run, no_open_subframe}
use Rattle.refusals.specs.declared.Refusal.{Refusal}
use Rattle.lines.specs.declared.line.Line.{Line}
use Rattle.lines.specs.declared.line.Line.TheVariants.{Settled, Fault}
use Rattle.lines.specs.declared.fault.PlayerFault.TheVariants.{Record, Terminal}
use Rattle.recording.specs.Contents.{Content, out_of_place, record_bytes}
use Rattle.recording.specs.Reading.{next_answer, next_offset}
use Rattle.recording.specs.Runs.{Consecutive}
use Rattle.states.specs.declared.state.State.{State}
use Rattle.states.specs.declared.state.Subframe.{Subframe}
use Rattle.states.specs.declared.state.Subframe.TheVariants as subframe
use Rattle.states.specs.States.{fresh, is_open}
use Rattle.terminal.specs.declared.tickets.Open.{Open}
use Rattle.terminal.specs.declared.tickets.Ticket.{Ticket}
use Rattle.terminal.specs.declared.call.Call.{Call}
use Rattle.terminal.specs.declared.call.Answer.{Answer}
use Rattle.terminal.specs.declared.call.Answer.TheVariants as says
use Rattle.terminal.specs.Tickets.{open_ticket}
use Rattle.terminal.specs.Runs.{answers, at_end}
use Rattle.player.specs.Recorded.{calls_for}

-- the ticket of the open subframe, if there is one
abbrev pub ticket_for : Subframe → ℕ → Option (Ticket Open)
ticket_for subframe.Idle n = None
ticket_for (subframe.Open ws) n = Some (open_ticket n)
ticket_for (subframe.Settled ws o) n = None

abbrev pub ticket_of : State → Option (Ticket Open)
ticket_of s = ticket_for s.subframe s.settled

-- The lines of a record at a place: a refused call is a fault there, what GROUPS answers is a line of the subframe n, and nothing else is shown.
abbrev pub line_for : (place n : ℕ) → Result Answer Refusal → List Line
line_for place n (Err e) = Fault (Terminal (record { place = place; refusal = e })) ∷ []
line_for place n (Ok says.Accepted) = []
line_for place n (Ok (says.Opened m)) = []
line_for place n (Ok (says.Settled m)) = []
line_for place n (Ok (says.Groups g)) = Settled n g ∷ []

-- what a call says that gives nothing
abbrev pub said : Result Unit Refusal → Result Answer Refusal
said (Ok u) = Ok says.Accepted
said (Err e) = Err e

abbrev pub lines_for : (place n : ℕ) → List (Result Answer Refusal) → List Line
lines_for place n [] = []
lines_for place n (a ∷ more) = line_for place n a ++ lines_for place n more

-- whether the run ends with what was read: 10, 11 and 12 end it
abbrev pub item_ends : Result Content RecordFault → Bool
item_ends (Ok c) = false
item_ends (Err fault) = ends_run fault

-- what was read is in place: W, E and X need an open subframe
abbrev pub InPlace : Bool → Result Content RecordFault → Type 0
InPlace is_open (Ok c) = out_of_place is_open c ≡ false
InPlace is_open (Err fault) = Unit {0}

-- the line of a fault that ends a run
abbrev pub last_line : Option RecordFault → List Line
last_line None = []
last_line (Some fault) = Fault (Record fault) ∷ []

-- a turn of the player: its line, if it has one, and whether the run ends with it
abbrev pub line_in : ControlFlow Line (Option Line) → Option Line
line_in (Continue line) = line
line_in (Break line) = Some line

abbrev pub is_last : ControlFlow Line (Option Line) → Bool
is_last (Continue line) = false
is_last (Break line) = true

module _ {V : Type 0} (reserve : V → ℕ → ℕ → ℕ) where
  -- Some calls of a record at a place were made: what they left of state and rule, and their line.
  pub record PlaysCalls (place : ℕ) (calls : List Call) (w after : State × V) (line : Option Line) : Type 0 where
    pub leaves : after ≡ at_end reserve w calls
    pub shows : option_to_list line ≡ lines_for place w.0.settled (answers reserve w calls)

  -- a record played: its calls are made with the ticket of the open subframe, which bears the number of settled ones
  abbrev pub played : State × V → Content → State × V
  played w c = at_end reserve w (calls_for w.0.settled c)

  abbrev pub record_lines : ℕ → State × V → Content → List Line
  record_lines place w c = lines_for place w.0.settled (answers reserve w (calls_for w.0.settled c))

  abbrev pub PlaysRecord : ℕ → Content → (w after : State × V) → Option Line → Type 0
  PlaysRecord place c w after line = PlaysCalls place (calls_for w.0.settled c) w after line

  -- The lines of some records that stand one after another from a place on. W, E and X where no subframe is open are faults (13).
  abbrev pub lines_of_records : State × V → ℕ → List Content → List Line
  lines_of_records w place [] = []
  lines_of_records w place (c ∷ cs) =
      cond (out_of_place (is_open w.0.subframe) c)
      (Fault (Record (no_open_subframe place)) ∷ lines_of_records w (place + length (record_bytes c)) cs)
      (record_lines place w c ++ lines_of_records (played w c) (place + length (record_bytes c)) cs)

  -- what was read at a place, a record or a fault: its lines, and what it leaves
  abbrev pub item_lines : ℕ → State × V → Result Content RecordFault → List Line
  item_lines place w (Ok c) = record_lines place w c
  item_lines place w (Err fault) = Fault (Record fault) ∷ []

  abbrev pub item_played : State × V → Result Content RecordFault → State × V
  item_played w (Ok c) = played w c
  item_played w (Err fault) = w

  pub record PlaysItem (place : ℕ) (read : Result Content RecordFault) (w after : State × V) (turn : ControlFlow Line (Option Line)) : Type 0 where
    pub leaves : after ≡ item_played w read
    pub shows : option_to_list (line_in turn) ≡ item_lines place w read
    pub ends_where : is_last turn ≡ item_ends read

  -- the lines of the bytes from an offset on, read at most k times
  abbrev pub lines_from : ℕ → State × V → List ℕ → ℕ → List Line
  lines_from zero w bytes at = []
  lines_from (suc k) w bytes at =
      elim (next_answer bytes at (is_open w.0.subframe)) [
        | None ↦ []
        | Some read ↦ item_lines at w read ++ cond (item_ends read) [] (lines_from k (item_played w read) bytes (next_offset bytes at))
      ]

  -- the lines of a recording, on a fresh terminal; a record takes a byte at least
  abbrev pub lines_of : V → List ℕ → List Line
  lines_of rule bytes = lines_from (length bytes + 1) (fresh, rule) bytes 0

  -- However the bytes are cut into consecutive records and what ends the run, their lines are those of the records and of the end.
  abbrev pub LinesOfTheRecords : V → List ℕ → Type 0
  LinesOfTheRecords rule bytes =
      (cs : List Content) (end : Option RecordFault) → Consecutive bytes cs end → lines_of rule bytes ≡ lines_of_records (fresh, rule) 0 cs ++ last_line end
