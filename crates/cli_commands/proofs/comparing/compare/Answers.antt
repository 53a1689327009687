use Rattle.cli_commands.proofs.Compared.{shows_same, shows_unlike}
use Rattle.cli_values.proofs.Held.{held_as}
use Rattle.cli_commands.proofs.comparing.compare.Goals as goal

pub returns-clause-same : goal.returns-clause-same
returns-clause-same g c =
    shows_same _ (λ (v : _). v.items) c.args.words.now _ _
    (held_as _ _ _ c.as_slice.ensures.value c.in_ok-first.ensures.whole)
    (held_as _ _ _ c.as_slice-2.ensures.value c.in_ok-second.ensures.whole) c.text_of.result c.text_of.ensures.same

pub returns-clause-unlike : goal.returns-clause-unlike
returns-clause-unlike g c = shows_unlike _ (λ (v : _). v.items) c.args.words.now _ _
    (held_as _ _ _ c.as_slice.ensures.value c.in_ok-first.ensures.whole)
    (held_as _ _ _ c.as_slice-2.ensures.value c.in_ok-second.ensures.whole) c.text_of.result c.text_of.ensures.unlike
