use Rattle.std.proofs.Common.{List, ℕ, [], ◌∷◌, ◌∙◌, ap, subst, take}
use Rattle.std.proofs.lemmas.List.{take_min}
use Rattle.der_core.specs.Reading.{Gives, spot, version_in}
use Rattle.cms_stream.proofs.version.version_ahead.Goals as goal

pub returns : goal.returns
returns c =
    subst (λ (xs : List ℕ). Gives (λ (v : ℕ). v ∷ []) c.version_of.result
    (version_in c.args.allowed.now (spot c.args.at xs)))
    (ap (λ (n : ℕ). take n c.args.ahead.now) c.min-count.ensures ∙ take_min c.args.left c.args.ahead.now)
    c.version_of.ensures
