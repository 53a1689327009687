use Rattle.library_records.proofs.NewRecords.{unrenewable}
use Rattle.library_records.proofs.renewal.last_of.Goals as goal

pub returns-in-Err-clause-refused : goal.returns-in-Err-clause-refused
returns-in-Err-clause-refused c =
    rw c.from.ensures
    (unrenewable c.args.octets.now c.last_stamp.result c.in-Err.fault c.in-Err.is c.last_stamp.ensures.no_stamp
    c.last_stamp.ensures.malformed c.in-Err.ensures.other)
