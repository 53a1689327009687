use Rattle.std.proofs.Common.{◌≡◌, Bool, not, List, [], ℕ, length, sym, ap, ◌∙◌}
use Rattle.std.specs.Vec.{vec_items}
use Rattle.evidence_types.specs.StampValue.{StampValue}
use Rattle.evidence_types.specs.EvidenceValue.{EvidenceValue, chains_parts}
use Rattle.der_core.specs.Values.{AlgorithmValue}
use Rattle.evidence_making.specs.Made.{group_lists, stamp_with}
use Rattle.evidence_making.specs.Frames.{FrameValue, record_inside}
use Rattle.evidence_making.specs.Renewed.{is_named, rehashed}
use Rattle.evidence_making.specs.Renewing.{StandIn}
use Rattle.evidence_making.proofs.Placed.{filled_by, group_filled, frame_of}
use Rattle.evidence_making.proofs.Renewed.{placed, value_rehashed, good_rehashed, written, of_answer, rehashed_stand}
use Rattle.evidence_making.proofs.Renewed.{rehashed_show, Octets, answer_shows}
use Rattle.evidence_making.proofs.renewing.rehash_record.Goals as goal

pub returns-clause-answer : goal.returns-clause-answer
returns-clause-answer c =
    let v : EvidenceValue = c.in-Ok.old in
    let alg = c.args.alg in
    let group = c.args.group.now.values in
    let values = c.args.values.now in
    let token : List ℕ = c.args.token.now in
    let octets : List ℕ = c.args.octets.now in
    let found = c.in-Ok.ensures.found in
    let bytes : c.bytes-chains.result.now ≡ chains_parts v.chains = c.bytes-chains.ensures.joined
    ∙ ap (λ (l : List (List StampValue)). chains_parts l) c.chains.ensures in
    let kept = c.kept_of-kept.ensures v found (sym (ap (λ (l : List ℕ). length l) bytes)) in
    let adds = ap (λ (b : Bool). not b) (c.is_named-adds.ensures
    ∙ ap (λ (l : List AlgorithmValue). is_named alg l) c.algorithms.ensures) in
    let frame : _ ≡ frame_of alg (placed alg v v.chains []) = λ i. record {
      alg = alg;
      algorithms = kept.0 i;
      adds = adds i;
      others = kept.1 i;
      chains = bytes i;
      stamps = [];
    } in
    written (λ w. rehashed w alg group values token) octets (λ (w : Octets). vec_items w) v found alg
    (placed alg v v.chains []) (group_lists group values) token _ (good_rehashed v alg found.1) c.requires
    (group_filled group values (filled_by group c.values-values.ensures.some))
    (value_rehashed v alg group values token)
    (ap (λ (f : FrameValue). record_inside f (group_lists group values) token) frame) c.renewed_in.result
    c.renewed_in.ensures

pub returns-clause-kept : goal.returns-clause-kept
returns-clause-kept c =
    let alg = c.args.alg in
    let group = c.args.group.now.values in
    let values = c.args.values.now in
    let token : List ℕ = c.args.token.now in
    of_answer (λ w. rehashed w alg group values token) c.args.octets.now (λ (w : Octets). vec_items w)
    (λ (made : Octets) v. StandIn (chains_parts v.chains) (vec_items made))
    (λ (made : Octets) v old new. rehashed_stand (vec_items made) v alg group values token new) c.renewed_in.result
    (returns-clause-answer c)

pub returns-clause-shows : goal.returns-clause-shows
returns-clause-shows c =
    answer_shows
    (λ w. rehashed w c.args.alg c.args.group.now.values c.args.values.now c.args.token.now) c.args.octets.now
    (stamp_with c.args.alg (group_lists c.args.group.now.values c.args.values.now) c.args.token.now)
    (λ later v.
    rehashed_show c.args.octets.now later v c.args.alg c.args.group.now.values c.args.values.now c.args.token.now)
    c.renewed_in.result (returns-clause-answer c)
