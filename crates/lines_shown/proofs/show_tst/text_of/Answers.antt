use Rattle.std.proofs.Common.{◌∙◌}
use Rattle.der_time.proofs.Unique.{texts_are_unique}
use Rattle.lines_shown.proofs.show_tst.text_of.Goals as goal

pub lines-requires : goal.lines-requires
lines-requires c = texts_are_unique _ _ c.generalized_text-time.ensures.text c.in_ok-tst.ensures.found.1.time.0
    (c.generalized_text-time.ensures.back ∙ c.time.ensures)
