use Rattle.digests.specs.Messages.{digest_of}
use Rattle.digests.proofs.selection.Wanted.finish.Goals as goal

pub returns-clause-digests : goal.returns-clause-digests
unfolding digest_of
returns-clause-digests c = λ m fed.
    let short = c.end_short-short.ensures.hashes m fed.short in
    let long = c.end_long-long.ensures.hashes m fed.long in
    record {
      sha1 = c.end_sha1.ensures.digest m fed.sha1;
      sha224 = c.end_224.ensures.digest m short.sha224;
      sha256 = c.end_256.ensures.digest m short.sha256;
      sha384 = c.end_384.ensures.digest m long.sha384;
      sha512 = c.end_512.ensures.digest m long.sha512;
      sha512_224 = c.end_512_224.ensures.digest m long.sha512_224;
      sha512_256 = c.end_512_256.ensures.digest m long.sha512_256;
    }
