-- The rules C2 to C5 by what a pass kept of a file: a step of the proofs.
use Rattle.std.specs.Prelude.{◌==◌, Bool, true, false, length, Option, Some, None, Result, Ok, Err, if◌then◌else◌}
use Rattle.check_fit.specs.declared.rules.FileRule.TheVariants as rule
use Rattle.check_fit.specs.declared.rules.Refused.{Refused}
use Rattle.check_fit.specs.declared.rules.Refused.TheVariants as refused
use Rattle.cms_stream.specs.Opening.{OpenedValue}

-- C4 and C5
abbrev pub kept_place : OpenedValue → (attached handed : Bool) → Result OpenedValue Refused
kept_place o false false = Err (refused.File rule.NoContent)
kept_place o false true = Ok o
kept_place o true false = Ok o
kept_place o true true = Err (refused.File rule.ContentTwice)

-- what was kept of a SignedData, or the first of C2 to C5 that fails
abbrev pub kept_rules : Option OpenedValue → (handed : Bool) → Result OpenedValue Refused
kept_rules None handed = Err (refused.File rule.NotSignedData)
kept_rules (Some o) handed =
    if length o.signers == 0 then Err (refused.File rule.NoSigner) else kept_place o o.attached handed
