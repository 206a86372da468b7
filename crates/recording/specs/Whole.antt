-- What `read_record` answers, as the record that was read and the bytes after it.
use Rattle.std.specs.Prelude.{Ok, Err, Result}
use Rattle.faults.specs.declared.RecordFault.{RecordFault}
use Rattle.recording.specs.declared.parsed.Parsed.{Parsed}
use Rattle.recording.specs.declared.records.Record.{Record}
use Rattle.recording.specs.Contents.{content}
use Rattle.recording.specs.Records.{RecordOutcome, whole, refused}

abbrev pub record_read : Result (Parsed Record) RecordFault → RecordOutcome
record_read (Ok r) = whole (content r.value) r.rest.now
record_read (Err fault) = refused fault
