use Rattle.digests.proofs.laws.rows_hold.Goals as goal
use Rattle.digests.proofs.Rows.{no_octet_rows, abc_rows, two_block_rows}

pub returns : goal.returns
returns c = record {
  no_octets = no_octet_rows;
  abc = abc_rows;
  two_blocks = two_block_rows;
}
