use Rattle.std.proofs.Common.{◌≡◌, ◌+◌, ◌-◌, ◌*◌, ◌<◌, ◌≤◌, ◌++◌, ◌∷◌, ℕ, List, length, take, drop, get_or, sym, ap}
use Rattle.std.proofs.Common.{◌∙◌}
use Rattle.std.proofs.Common.{arith, add-one, [], vec_len}
use Rattle.evidence_trees.specs.Pieces.{Sized, pieces}
use Rattle.evidence_trees.proofs.Pieces.{length-pieces, pieces-at, pieces-push, pieces-sized, piece_is_whole}
use Rattle.evidence_trees.proofs.values.HashValues.push_again.Goals as goal
use Rattle.evidence_trees.proofs.values.HashValues.push_again.Goals.{After-self}

-- the place is one of the values
is_below : (c : After-self) → c.args.place < c.self.inside.count
is_below c =
    let same = ap (λ (s : Sized). length s.values) c.self.view_is in
    let count = length-pieces c.self.inside.count c.self.inside.size c.self.inside.octets.items in
    omega (arith, same, count, c.requires)

-- and its octets are there
is_whole : (c : After-self) → c.args.place * c.self.inside.size + c.self.inside.size ≤ vec_len c.self.inside.octets
is_whole c =
    let octets = c.self.inside.octets in
    let whole = piece_is_whole c.self.inside.count c.self.inside.size octets.items c.args.place (is_below c)
    c.self.invariant.whole in
    omega (arith, whole, octets.ok.0)

pub overflow_mul-start : goal.overflow_mul-start
overflow_mul-start c =
    let octets = c.self.inside.octets in
    let whole = is_whole c in
    let most = octets.ok.1 in
    let small = octets.small in
    omega arith

pub overflow_add-start : goal.overflow_add-start
overflow_add-start c =
    let octets = c.self.inside.octets in
    let whole = is_whole (goal.at.overflow_add-start c).After-self in
    let most = octets.ok.1 in
    let small = octets.small in
    omega arith

pub extend_from_within-requires-clause-in_bounds : goal.extend_from_within-requires-clause-in_bounds
extend_from_within-requires-clause-in_bounds c =
    is_whole (goal.at.extend_from_within-requires-clause-in_bounds c).After-self

pub returns-clause-values : goal.returns-clause-values
returns-clause-values c =
    let i = c.self.inside in
    let place = c.args.place * i.size in
    let below = is_below (goal.at.returns-clause-values c).After-self in
    let value = get_or (pieces i.count i.size i.octets.items) c.args.place [] in
    let size : place + i.size - place ≡ i.size = omega arith in
    let added : c.extend_from_within.new.self.items ≡ i.octets.items ++ value = c.in_ok-extend_from_within.ensures.items
    ∙ ap (λ (n : ℕ). i.octets.items ++ take n (drop place i.octets.items)) size
    ∙ ap (λ (v : List ℕ). i.octets.items ++ v) (sym (pieces-at i.count i.size i.octets.items c.args.place [] below)) in
    let long : length value ≡ i.size = pieces-sized i.count i.size i.octets.items c.self.invariant.whole c.args.place []
    (omega (arith, below, length-pieces i.count i.size i.octets.items)) in
    ap (λ (o : List ℕ). pieces (i.count + 1) i.size o) added
    ∙ ap (λ (n : ℕ). pieces n i.size (i.octets.items ++ value)) (add-one i.count)
    ∙ pieces-push i.count i.size i.octets.items value c.self.invariant.whole long
    ∙ ap (λ (s : Sized). s.values ++ get_or s.values c.args.place [] ∷ []) c.self.view_is
