-- What the steps of reading a trust list hold.
use Rattle.std.specs.Prelude.{◌≡◌, true, false, Option, Some, None, IsOk, IsErr}
use Rattle.std.specs.Result.{result_ok}
use Rattle.hex.specs.Hex.{decode_of}
use Rattle.trust_lists.specs.declared.trust_fault.TrustRule.{TrustRule}
use Rattle.trust_lists.specs.declared.trust_fault.TrustRule.TheVariants as rule
use Rattle.trust_lists.specs.declared.trust_lines.Fields.{Fields}
use Rattle.trust_lists.specs.Periods.{is_backwards}
use Rattle.trust_lists.specs.TrustText.{LineFields, fields_from}

-- the fields of a line whose digits may not be pairs of digits
abbrev pub line_fields : Option Fields → Option LineFields
line_fields None = None
line_fields (Some f) = fields_from (Some f.role) (Some f.from) (Some f.until) (result_ok (decode_of f.digits.now))

-- the rule that they fail, or that memory alone was lacking
abbrev pub FailsWithoutMemory : Fields → TrustRule → Type 0
FailsWithoutMemory f rule.Line = IsErr (decode_of f.digits.now)
FailsWithoutMemory f rule.Period = IsOk (decode_of f.digits.now) × (is_backwards f.from f.until ≡ true)
FailsWithoutMemory f rule.OutOfMemory = IsOk (decode_of f.digits.now) × (is_backwards f.from f.until ≡ false)
FailsWithoutMemory f rule.Certificate = ⊥
FailsWithoutMemory f rule.Version = ⊥
