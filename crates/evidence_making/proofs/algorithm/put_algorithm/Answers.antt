use Rattle.std.proofs.Common.{◌≡◌, ◌+◌, ℕ, List, ◌∷◌, [], ◌++◌, length, sym, ap, ◌∙◌, append_assoc}
use Rattle.digests.specs.Algorithms.{contents_of}
use Rattle.evidence_making.proofs.Octets.{plain_octets}
use Rattle.evidence_making.proofs.algorithm.put_algorithm.Goals as goal

pub returns : goal.returns
returns c =
    let a = c.in_ok-extend_from_slice.ensures.items in
    let b = c.in_ok-extend_from_slice-2.ensures.items in
    let d = c.oid_contents-oid.ensures in
    let front : List ℕ =
    c.args.tag ∷ (2 + length (contents_of c.args.alg)) ∷ 6 ∷ length (contents_of c.args.alg) ∷ [] in
    let first : c.extend_from_slice.new.self.items ≡ c.args.out.now.items ++ front =
    a ∙ ap (λ (x : List ℕ). c.args.out.now.items ++ (c.args.tag ∷ (2 + length x) ∷ 6 ∷ length x ∷ [])) d in
    b ∙ ap (λ (l : List ℕ). l ++ c.oid_contents-oid.result.now) first
    ∙ ap (λ (l : List ℕ). (c.args.out.now.items ++ front) ++ l) d
    ∙ append_assoc c.args.out.now.items front (contents_of c.args.alg)
    ∙ ap (λ (l : List ℕ). c.args.out.now.items ++ l) (sym (plain_octets c.args.tag c.args.alg))
