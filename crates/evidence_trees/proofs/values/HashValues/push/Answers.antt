use Rattle.std.proofs.Common.{◌≡◌, ◌+◌, ◌++◌, ◌∷◌, [], ℕ, List, length, sym, ap, ◌∙◌, add-one}
use Rattle.evidence_trees.specs.Pieces.{Sized, pieces}
use Rattle.evidence_trees.proofs.Pieces.{pieces-push}
use Rattle.evidence_trees.proofs.values.HashValues.push.Goals as goal

pub returns-clause-values : goal.returns-clause-values
returns-clause-values c =
    let before = c.self.inside in
    let long : length c.args.value.now ≡ before.size = c.requires ∙ sym (ap (λ (s : Sized). s.size) c.self.view_is) in
    ap (λ (o : List ℕ). pieces (before.count + 1) before.size o) c.in_ok-extend_from_slice.ensures.items
    ∙ ap (λ (n : ℕ). pieces n before.size (before.octets.items ++ c.args.value.now)) (add-one before.count)
    ∙ pieces-push before.count before.size before.octets.items c.args.value.now c.self.invariant.whole long
    ∙ ap (λ (s : Sized). s.values ++ c.args.value.now ∷ []) c.self.view_is
