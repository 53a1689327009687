use Rattle.std.proofs.Common.{◌≤◌, ◌∷◌, ℕ, length, refl, ap, ◌∙◌, arith}
use Rattle.der_core.specs.Element.{len}
use Rattle.evidence_making.specs.Frames.{frame_value, its_lists, record_inside}
use Rattle.evidence_making.proofs.Lengths.{long_chain, long_chains, sums}
use Rattle.evidence_making.proofs.headers.headers_of.Goals as goal

pub returns-in_err-chain-clause-too_long : goal.returns-in_err-chain-clause-too_long
returns-in_err-chain-clause-too_long c =
    let h =
    long_chain (frame_value c.args.frame.now) (its_lists c.args.frame.now c.args.values.now) c.args.token.now _ _ _
    (c.algorithm_length.ensures.size 0xa0) c.in_ok-lists.ensures.size.0 c.in_ok-stamp.ensures.size.0
    (c.in_err-chain.ensures.too_long.0 refl) in
    (λ _. h, λ _. c.from_residual-in_err-chain.ensures.0)

pub returns-in_err-chains-clause-too_long : goal.returns-in_err-chains-clause-too_long
returns-in_err-chains-clause-too_long c =
    let h = long_chains (frame_value c.args.frame.now)
    (its_lists c.args.frame.now c.args.values.now) c.args.token.now _ _ _ _
    (c.algorithm_length.ensures.size 0xa0) c.in_ok-lists.ensures.size.0 c.in_ok-stamp.ensures.size.0
    c.in_ok-chain.ensures.size.0 (c.in_err-chains.ensures.too_long.0 refl) in
    (λ _. h, λ _. c.from_residual-in_err-chains.ensures.0)

pub returns-in_err-whole-clause-too_long : goal.returns-in_err-whole-clause-too_long
returns-in_err-whole-clause-too_long c =
    let f = frame_value c.args.frame.now in
    let v = its_lists c.args.frame.now c.args.values.now in
    let t = c.args.token.now in
    let all = sums f v t c.algorithm_length.result c.in_ok-lists.lists.size c.in_ok-stamp.stamp.size
    c.in_ok-chain.chain.size c.in_ok-chains.chains.size c.added_length.result c.in_ok-algorithms.algorithms.size
    (c.algorithm_length.ensures.size 0xa0) c.in_ok-lists.ensures.size.0 c.in_ok-stamp.ensures.size.0
    c.in_ok-chain.ensures.size.0 c.in_ok-chains.ensures.size.0 c.added_length.ensures.size
    c.in_ok-algorithms.ensures.size.0 in
    let h : 4294967296 ≤ length (record_inside f v t) =
    omega (arith, all.whole, c.in_err-whole.ensures.too_long.0 refl) in
    (λ _. h, λ _. c.from_residual-in_err-whole.ensures.0)

pub returns-clause-headers : goal.returns-clause-headers
returns-clause-headers c =
    let f = frame_value c.args.frame.now in
    let v = its_lists c.args.frame.now c.args.values.now in
    let t = c.args.token.now in
    let all = sums f v t c.algorithm_length.result c.in_ok-lists.lists.size c.in_ok-stamp.stamp.size
    c.in_ok-chain.chain.size c.in_ok-chains.chains.size c.added_length.result c.in_ok-algorithms.algorithms.size
    (c.algorithm_length.ensures.size 0xa0) c.in_ok-lists.ensures.size.0 c.in_ok-stamp.ensures.size.0
    c.in_ok-chain.ensures.size.0 c.in_ok-chains.ensures.size.0 c.added_length.ensures.size
    c.in_ok-algorithms.ensures.size.0 in
    record {
      whole = c.in_ok-whole.ensures.header ∙ ap (λ (n : ℕ). 0x30 ∷ len n) all.whole;
      algorithms = c.in_ok-algorithms.ensures.header ∙ ap (λ (n : ℕ). 0x30 ∷ len n) all.algorithms;
      chains = c.in_ok-chains.ensures.header ∙ ap (λ (n : ℕ). 0x30 ∷ len n) all.chains;
      chain = c.in_ok-chain.ensures.header ∙ ap (λ (n : ℕ). 0x30 ∷ len n) all.chain;
      stamp = c.in_ok-stamp.ensures.header ∙ ap (λ (n : ℕ). 0x30 ∷ len n) all.stamp;
      lists = c.in_ok-lists.ensures.header;
    }

pub returns-clause-too_long : goal.returns-clause-too_long
returns-clause-too_long c =
    let f = frame_value c.args.frame.now in
    let v = its_lists c.args.frame.now c.args.values.now in
    let t = c.args.token.now in
    let all = sums f v t c.algorithm_length.result c.in_ok-lists.lists.size c.in_ok-stamp.stamp.size
    c.in_ok-chain.chain.size c.in_ok-chains.chains.size c.added_length.result c.in_ok-algorithms.algorithms.size
    (c.algorithm_length.ensures.size 0xa0) c.in_ok-lists.ensures.size.0 c.in_ok-stamp.ensures.size.0
    c.in_ok-chain.ensures.size.0 c.in_ok-chains.ensures.size.0 c.added_length.ensures.size
    c.in_ok-algorithms.ensures.size.0 in
    (λ e. absurd (let z = e in cc), λ h. c.in_ok-whole.ensures.too_long.1 (omega (arith, all.whole, h)))
