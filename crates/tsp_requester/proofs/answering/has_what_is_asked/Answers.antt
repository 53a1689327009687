use Rattle.std.proofs.Common.{sym, ◌∙◌}
use Rattle.tsp_requester.proofs.answering.has_what_is_asked.Goals as goal

pub returns-in-True : goal.returns-in-True
returns-in-True c = (
  (λ h e. c.has_certificate.ensures.0 h),
  (λ f. c.has_certificate.ensures.1 (f (sym c.cert_req.ensures ∙ c.in-True.is))),
)
