use Rattle.std.proofs.Common.{◌≡◌, ◌-◌, length, take}
use Rattle.recording.specs.Records.{numbers_at}
use Rattle.recording.proofs.Bodies.{after}
use Rattle.recording.proofs.cursor.Cursor.read_numbers.Given as goal

abbrev pub invariant-loop-value : goal.invariant-loop-value
invariant-loop-value g l =
    (l.self.place ≡ l.fn.self.place) × (length l.value-items ≡ g.row.N) × (numbers_at l.fn.self.place g.row.N l.fn.self.rest.now ≡ after (take l.value-index l.value-items) (numbers_at l.fn.self.place (g.row.N - l.value-index) l.self.rest.now))
