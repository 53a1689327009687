use Rattle.std.proofs.Common.{◌∷◌, ◌++◌, []}
use Rattle.hex.specs.Hex.{encode_lower}
use Rattle.devices.proofs.Putting.{two_puts, wrote_next}
use Rattle.trust_lists.proofs.written.put_until.Goals as goal

pub returns-clause-wrote : goal.returns-clause-wrote
returns-clause-wrote g c = wrote_next (two_puts g.S.Sink.tells g.S.Sink.taken g.S.Sink.failures c.args.sink.now
    c.put_word.new.sink c.put_certificate.new.sink
    c.put_word.ensures.telling c.put_certificate.result)
    (c.args.until.now ++ 32 ∷ [])
    (encode_lower c.args.octets.now ++ 10 ∷ []) c.in_ok-put_word.ensures.wrote c.put_certificate.ensures.wrote
