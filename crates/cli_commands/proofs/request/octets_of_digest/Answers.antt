use Rattle.cli_commands.proofs.Stampings.{digest_too_long}
use Rattle.cli_commands.proofs.request.octets_of_digest.Goals as goal

pub returns-clause-refused : goal.returns-clause-refused
returns-clause-refused c =
    digest_too_long c.args.words.now c.args.digits.now c.in_ok-digest.digest _ _ c.request_of.result
    c.in_ok-digest.ensures.found c.in_ok-values.ensures.found c.request_of.ensures.refused
