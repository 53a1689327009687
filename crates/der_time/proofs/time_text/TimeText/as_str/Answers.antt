use Rattle.std.proofs.Common.{ap, ◌∙◌}
use Rattle.std.proofs.lemmas.Str.{IsUtf8-from_ascii}
use Rattle.der_core.specs.Times.{is_generalized}
use Rattle.der_time.proofs.Texts.{text_is_ascii}
use Rattle.der_time.proofs.time_text.TimeText.as_str.Goals as goal

-- the octets of a GeneralizedTime are valid text
pub unreachable-requires : goal.unreachable-requires
unreachable-requires c =
    c.in_default.ensures.cases.0 (IsUtf8-from_ascii c.bytes.result.now
    (text_is_ascii c.bytes.result.now (ap is_generalized c.bytes.ensures.octets ∙ c.bytes.ensures.formed)))
