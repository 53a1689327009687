use Rattle.cms_stream_laws.proofs.HeadersStated.{content_type_stated, signers_stated}
use Rattle.cms_stream_laws.proofs.headers_are_stated.Goals as goal

pub returns-clause-content_type : goal.returns-clause-content_type
returns-clause-content_type c = content_type_stated

pub returns-clause-signers : goal.returns-clause-signers
returns-clause-signers c = signers_stated
