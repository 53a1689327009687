use Rattle.std.proofs.Common.{◌≡◌, ◌+◌, ◌-◌, ◌*◌, ◌<◌, ◌≤◌, ℕ, List, length, take, drop, get_or, sym, ap, ◌∙◌, arith}
use Rattle.std.proofs.Common.{rules, [], length-drop}
use Rattle.std.proofs.lemmas.List.{length-take-le}
use Rattle.evidence_trees.specs.Pieces.{Sized}
use Rattle.evidence_trees.proofs.Pieces.{length-pieces, pieces-at, piece_is_whole}
use Rattle.evidence_trees.proofs.values.HashValues.get.Goals as goal
use Rattle.evidence_trees.proofs.values.HashValues.get.Goals.{After-as_slice-octets}

-- the place is one of the values
is_below : (c : After-as_slice-octets) → c.args.place < c.self.inside.count
is_below c =
    let same = ap (λ (s : Sized). length s.values) c.self.view_is in
    let count = length-pieces c.self.inside.count c.self.inside.size c.self.inside.octets.items in
    omega (arith, same, count, c.requires)

-- and its octets are there
is_whole : (c : After-as_slice-octets)
    → c.args.place * c.self.inside.size + c.self.inside.size ≤ length c.as_slice-octets.result.now
is_whole c =
    let whole = piece_is_whole c.self.inside.count c.self.inside.size c.self.inside.octets.items c.args.place
    (is_below c) c.self.invariant.whole in
    omega (arith, whole, ap length c.as_slice-octets.ensures.value)

pub overflow_mul-start : goal.overflow_mul-start
overflow_mul-start c = let whole = is_whole c in omega arith

pub overflow_add-result : goal.overflow_add-result
overflow_add-result c = let whole = is_whole c in omega arith

pub slice_bounds-result-end : goal.slice_bounds-result-end
slice_bounds-result-end c = let whole = is_whole c in search rules

pub returns-clause-value : goal.returns-clause-value
returns-clause-value c =
    let i = c.self.inside in
    let size : c.args.place * i.size + i.size - c.args.place * i.size ≡ i.size = omega arith in
    ap (λ (n : ℕ). take n (drop (c.args.place * i.size) c.as_slice-octets.result.now)) size
    ∙ ap (λ (o : List ℕ). take i.size (drop (c.args.place * i.size) o)) c.as_slice-octets.ensures.value
    ∙ sym (pieces-at i.count i.size i.octets.items c.args.place []
    (is_below (goal.at.returns-clause-value c).After-as_slice-octets))
    ∙ ap (λ (s : Sized). get_or s.values c.args.place []) c.self.view_is

pub returns-clause-length : goal.returns-clause-length
returns-clause-length c =
    let i = c.self.inside in
    let place = c.args.place * i.size in
    let whole = is_whole (goal.at.returns-clause-length c).After-as_slice-octets in
    let size : place + i.size - place ≡ i.size = omega arith in
    let long : length (drop place c.as_slice-octets.result.now) ≡ length c.as_slice-octets.result.now - place =
    length-drop place c.as_slice-octets.result.now in
    let fits : i.size ≤ length (drop place c.as_slice-octets.result.now) = omega arith in
    ap (λ (n : ℕ). length (take n (drop place c.as_slice-octets.result.now))) size
    ∙ length-take-le i.size (drop place c.as_slice-octets.result.now) fits
    ∙ ap (λ (s : Sized). s.size) c.self.view_is
