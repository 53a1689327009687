use Rattle.tsp_requester.proofs.AttachingRows.{attribute_rows, number_rows, size_rows, limit_rows}
use Rattle.tsp_requester.proofs.attaching_laws.attaching_rows_hold.Goals as goal

pub returns-clause-attributes : goal.returns-clause-attributes
returns-clause-attributes c = attribute_rows

pub returns-clause-numbers : goal.returns-clause-numbers
returns-clause-numbers c = number_rows

pub returns-clause-sizes : goal.returns-clause-sizes
returns-clause-sizes c = size_rows

pub returns-clause-limits : goal.returns-clause-limits
returns-clause-limits c = limit_rows
