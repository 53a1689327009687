-- The worked rows of digests, computed.
use Rattle.std.proofs.Common.{rules}
use Rattle.sha1.specs.Sha1 as sha1
use Rattle.sha2.specs.Sha256 as sha256
use Rattle.sha2.specs.Sha512 as sha512
use Rattle.digests.specs.Messages.{digest_of}
use Rattle.digests.specs.DigestRows.{NoOctetRows, AbcRows, TwoBlockRows}

-- what the digests compute with
computing : Unit {0}
unfolding digest_of sha1.sha1 sha1.digest_bytes sha1.hash_after sha1.compress sha1.rounds sha1.schedule sha1.first_words
    sha256.sha224
    sha256.sha256 sha256.digest_bytes sha256.hash_after sha256.compress sha256.rounds sha256.schedule sha256.first_words
    sha512.sha384 sha512.sha512
    sha512.sha512_224 sha512.sha512_256 sha512.digest_bytes sha512.hash_after sha512.compress sha512.rounds
    sha512.schedule sha512.first_words
computing = tt

pub no_octet_rows : NoOctetRows
unfolding computing
no_octet_rows = search rules

pub abc_rows : AbcRows
unfolding computing
abc_rows = search rules

pub two_block_rows : TwoBlockRows
unfolding computing
two_block_rows = search rules
