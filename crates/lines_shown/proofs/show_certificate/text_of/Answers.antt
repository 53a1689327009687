use Rattle.std.proofs.Common.{option_copied, ◌∙◌}
use Rattle.cert_types.specs.Purposes.{HasKeyId}
use Rattle.lines_shown.proofs.Copied.{some_copied}
use Rattle.lines_shown.proofs.show_certificate.text_of.Goals as goal

pub returns-in-Ok-clause-shown : goal.returns-in-Ok-clause-shown
returns-in-Ok-clause-shown c = record {
  value = c.in_ok-certificate.certificate;
  encoded = c.in_ok-certificate.ensures.found;
  from = c.generalized_text.result;
  is_from =
      record { formed = c.generalized_text.ensures.text; named = c.generalized_text.ensures.back ∙ c.from.ensures };
  until = c.generalized_text-2.result;
  is_until = record {
    formed = c.generalized_text-2.ensures.text;
    named = c.generalized_text-2.ensures.back ∙ c.until.ensures;
  };
  key_id = option_copied c.key_id.result;
  is_key_id = record {
    found = some_copied
        (HasKeyId c.in_ok-certificate.certificate) c.key_id.result c.key_id.ensures.found;
    only = c.key_id.ensures.only;
  };
  stamping = c.stamping_only.result;
  is_stamping = c.stamping_only.ensures;
  lines = c.in-Ok.ensures;
}
