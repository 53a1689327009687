use Rattle.std.proofs.Common.{◌≡◌, ◌+◌, ◌-◌, ◌*◌, ◌≤◌, ℕ, List, length, take, drop, [], ap, ◌∙◌, arith, rules}
use Rattle.check_evidence.proofs.Strides.{stride_fits, strides_at}
use Rattle.check_evidence.proofs.search.value_at.Goals as goal
use Rattle.check_evidence.proofs.search.value_at.Goals.{After-bytes-octets}

-- its octets are there
is_whole : (c : After-bytes-octets)
    → c.args.place * (c.args.size + 2) + 2 + c.args.size ≤ length c.bytes-octets.result.now
is_whole c =
    let whole = stride_fits c.args.values.now c.args.size c.args.place c.requires.short c.requires.lengths
    c.requires.within in
    omega (arith, whole, ap length c.bytes-octets.ensures)

pub overflow_mul-start : goal.overflow_mul-start
overflow_mul-start c = let whole = is_whole c in omega arith

pub overflow_add-start-2 : goal.overflow_add-start-2
overflow_add-start-2 c = let whole = is_whole c in omega arith

pub overflow_add-result : goal.overflow_add-result
overflow_add-result c = let whole = is_whole c in omega arith

pub slice_bounds-result-end : goal.slice_bounds-result-end
slice_bounds-result-end c = let whole = is_whole c in search rules

pub returns : goal.returns
returns c =
    let start = c.args.place * (c.args.size + 2) + 2 in
    let size : start + c.args.size - start ≡ c.args.size = omega arith in
    ap (λ (n : ℕ). take n (drop start c.bytes-octets.result.now)) size
    ∙ ap (λ (o : List ℕ). take c.args.size (drop start o)) c.bytes-octets.ensures
    ∙ strides_at c.args.values.now c.args.size c.args.place [] c.requires.short c.requires.lengths c.requires.within
