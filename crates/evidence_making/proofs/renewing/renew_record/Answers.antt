use Rattle.std.proofs.Common.{◌≡◌, Bool, not, List, ℕ, length, sym, ap, ◌∙◌}
use Rattle.std.specs.Vec.{vec_items}
use Rattle.evidence_types.specs.StampValue.{StampValue}
use Rattle.evidence_types.specs.EvidenceValue.{EvidenceValue, chains_parts}
use Rattle.der_core.specs.Values.{AlgorithmValue}
use Rattle.evidence_making.specs.Made.{lists_of, stamp_of}
use Rattle.evidence_making.specs.Frames.{FrameValue, record_inside}
use Rattle.evidence_making.specs.Renewed.{is_named, renewed}
use Rattle.evidence_making.specs.Renewing.{ChainsStandIn}
use Rattle.evidence_making.proofs.Placed.{alone_filled, frame_of}
use Rattle.evidence_making.proofs.Renewed.{placed, value_renewed, good_renewed, last_of_good, written, of_answer}
use Rattle.evidence_making.proofs.Renewed.{renewed_stand, renewed_show, Octets, answer_shows}
use Rattle.evidence_making.proofs.renewing.renew_record.Goals as goal

pub returns-clause-answer : goal.returns-clause-answer
returns-clause-answer c =
    let v : EvidenceValue = c.in-Ok.old in
    let alg = c.args.alg in
    let values = c.args.values.now in
    let token : List ℕ = c.args.token.now in
    let octets : List ℕ = c.args.octets.now in
    let found = c.in-Ok.ensures.found in
    let bytes : c.bytes.result.now ≡ chains_parts v.chains = c.bytes.ensures.joined
    ∙ ap (λ (l : List (List StampValue)). chains_parts l) c.chains.ensures in
    let kept = c.kept_of-kept.ensures v found (sym (ap (λ (l : List ℕ). length l) bytes)) in
    let adds = ap (λ (b : Bool). not b) (c.is_named-adds.ensures
    ∙ ap (λ (l : List AlgorithmValue). is_named alg l) c.algorithms.ensures) in
    let h = last_of_good v found.1 in
    let last = c.last_chain-last.ensures h.front h.end (c.chains-2.ensures ∙ h.is) in
    let frame : _ ≡ frame_of alg (placed alg v h.front h.end) = λ i. record {
      alg = alg;
      algorithms = kept.0 i;
      adds = adds i;
      others = kept.1 i;
      chains = last.0 i;
      stamps = last.1 i;
    } in
    written (λ w. renewed w alg values token) octets (λ (w : Octets). vec_items w) v found alg
    (placed alg v h.front h.end) (lists_of values) token _ (good_renewed v alg h.front h.end found.1 h.is) c.requires
    (alone_filled values)
    (value_renewed v alg values token h.front h.end h.is)
    (ap (λ (f : FrameValue). record_inside f (lists_of values) token) frame) c.renewed_in.result c.renewed_in.ensures

pub returns-clause-kept : goal.returns-clause-kept
returns-clause-kept c =
    let alg = c.args.alg in
    let values = c.args.values.now in
    let token : List ℕ = c.args.token.now in
    of_answer (λ w. renewed w alg values token) c.args.octets.now (λ (w : Octets). vec_items w)
    (λ (made : Octets) v. ChainsStandIn v.chains (vec_items made))
    (λ (made : Octets) v old new. renewed_stand (vec_items made) v alg values token new) c.renewed_in.result
    (returns-clause-answer c)

pub returns-clause-shows : goal.returns-clause-shows
returns-clause-shows c =
    answer_shows (λ w. renewed w c.args.alg c.args.values.now c.args.token.now) c.args.octets.now
    (stamp_of c.args.alg c.args.values.now c.args.token.now)
    (λ later v. renewed_show c.args.octets.now later v c.args.alg c.args.values.now c.args.token.now)
    c.renewed_in.result (returns-clause-answer c)
