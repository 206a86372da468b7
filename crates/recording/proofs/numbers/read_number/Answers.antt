use Rattle.std.proofs.Common.{◌≡◌, rules, arith}
use Rattle.recording.specs.Numbers.{number_at, number_read}
use Rattle.recording.proofs.NumberLaws.{exactly_read}
use Rattle.recording.proofs.ShortestForms.{shortest_number}
use Rattle.recording.proofs.numbers.read_number.Goals as goal

pub returns-in_err-value-clause-read_exactly : goal.returns-in_err-value-clause-read_exactly
returns-in_err-value-clause-read_exactly c =
    let answer : number_read c.from_residual.result ≡ number_at c.args.place c.args.bytes.now = search rules in
    exactly_read _ _ (λ i. omega (arith, c.type_inv.bytes i)) _ answer

pub returns-in_err-value-clause-shortest_number : goal.returns-in_err-value-clause-shortest_number
returns-in_err-value-clause-shortest_number c = shortest_number

pub returns-clause-read_exactly : goal.returns-clause-read_exactly
returns-clause-read_exactly c = exactly_read _ _ (λ i. omega (arith, c.type_inv.bytes i)) _ c.in_ok-value.ensures.answer

pub returns-clause-shortest_number : goal.returns-clause-shortest_number
returns-clause-shortest_number c = shortest_number
