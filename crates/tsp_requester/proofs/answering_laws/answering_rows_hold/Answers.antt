use Rattle.tsp_requester.proofs.AnsweringRows.{answering_rows, failing_rows}
use Rattle.tsp_requester.proofs.answering_laws.answering_rows_hold.Goals as goal

pub returns : goal.returns
returns c = record { answering = answering_rows; failing = failing_rows }
