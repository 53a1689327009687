use Rattle.std.proofs.Common.{◌-◌, ℕ, List, take, drop, refl, ap, ◌∙◌}
use Rattle.cms_types.specs.SignerValue.{SignerValue, signer_parts}
use Rattle.cms_types.specs.SignedDataValue.{signers_parts}
use Rattle.tsp_requester.specs.Pieces.{data_front}
use Rattle.tsp_requester.proofs.Cutting.{front_there, before_there, first_there, good_there}
use Rattle.tsp_requester.proofs.pieces.cut.Goals as goal

pub returns : goal.returns
returns c = λ v number encodes same place.
    let s = c.args.signer.now in
    let all = c.bytes-all.result.now in
    let all_is = c.bytes-all.ensures ∙ ap (λ (ss : List SignerValue). signers_parts ss) same in
    let good = good_there v number s c.args.from.now encodes.1.0 place in
    let front = front_there v all c.data_of.result.now all_is encodes.1.0 (c.data_of.ensures v encodes) in
    let one = c.first.ensures 48 (signer_parts s) (signers_parts (drop 1 (drop (number - 1) v.signers)))
    (record { identifier = refl; size = good.size }) (first_there v.signers number s c.args.from.now place) in
    let before = ap (λ (n : ℕ). take n all) c.saturating_sub.ensures
    ∙ before_there v.signers number s all c.args.from.now all_is place in
    λ i. record {
      data_front = c.before_last.ensures (data_front v) 49 all front.0 refl front.1 i;
      before = before i;
      signer_front = c.front_of.ensures good one.0 i;
      unsigned = c.unsigned_of.ensures i;
      behind = one.1 i;
    }
