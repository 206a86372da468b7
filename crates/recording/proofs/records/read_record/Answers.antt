use Rattle.std.proofs.Common.{◌≡◌, rules, arith}
use Rattle.recording.specs.Records.{record_at}
use Rattle.recording.specs.Whole.{record_read}
use Rattle.recording.proofs.RecordLaws.{exactly_there}
use Rattle.recording.proofs.records.read_record.Goals as goal

pub returns-in_err-size-clause-record_exactly : goal.returns-in_err-size-clause-record_exactly
returns-in_err-size-clause-record_exactly c =
    let answer : record_read c.from_residual.result ≡ record_at c.args.place c.args.bytes.now = search rules in
    exactly_there _ _ (λ i. omega (arith, c.type_inv.bytes i)) _ answer

pub returns-in_err-body-clause-record_exactly : goal.returns-in_err-body-clause-record_exactly
returns-in_err-body-clause-record_exactly c =
    let answer : record_read c.from_residual-in_err-body.result ≡ record_at c.args.place c.args.bytes.now = search rules in
    exactly_there _ _ (λ i. omega (arith, c.type_inv.bytes i)) _ answer

pub returns-in_err-read_body-clause-record_exactly : goal.returns-in_err-read_body-clause-record_exactly
returns-in_err-read_body-clause-record_exactly c =
    let answer : record_read c.from_residual-in_err-read_body.result ≡ record_at c.args.place c.args.bytes.now = search rules in
    exactly_there _ _ (λ i. omega (arith, c.type_inv.bytes i)) _ answer

pub returns-clause-record_exactly : goal.returns-clause-record_exactly
returns-clause-record_exactly c = exactly_there _ _ (λ i. omega (arith, c.type_inv.bytes i)) _ (search rules)
