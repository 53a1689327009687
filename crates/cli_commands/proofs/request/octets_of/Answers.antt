use Rattle.cli_commands.proofs.Stampings.{digest_refused, signature_refused}
use Rattle.cli_commands.proofs.request.octets_of.Goals as goal

pub returns-in-Signature-clause-refused : goal.returns-in-Signature-clause-refused
returns-in-Signature-clause-refused g c =
    signature_refused _ c.args.words.now c.in-Signature.path c.in-Signature.signer c.octets_of_signature.result
    c.in-Signature.is c.octets_of_signature.ensures.refused

pub returns-in-Digest-clause-refused : goal.returns-in-Digest-clause-refused
returns-in-Digest-clause-refused g c =
    digest_refused _ c.args.words.now c.in-Digest.digits c.octets_of_digest.result c.in-Digest.is
    c.octets_of_digest.ensures.refused
