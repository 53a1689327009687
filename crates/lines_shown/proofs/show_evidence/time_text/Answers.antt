use Rattle.std.proofs.Common.{◌≡◌, ◌∙◌}
use Rattle.der_time.proofs.Unique.{texts_are_unique}
use Rattle.lines_shown.proofs.show_evidence.time_text.Goals as goal

pub returns-in-Some : goal.returns-in-Some
returns-in-Some c =
    let same : c.generalized_text-time.result ≡ c.in-Some.tst.now.time =
    texts_are_unique _ _ c.generalized_text-time.ensures.text (rw c.in-Some.is at c.requires)
    (c.generalized_text-time.ensures.back ∙ c.time.ensures) in
    rw c.in-Some.is (rw (c.as_str.ensures.octets ∙ same) at c.from_str.ensures.ok)
