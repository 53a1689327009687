use Rattle.std.proofs.Common.{refl}
use Rattle.tsp_requester.specs.Attaching.{HasSigner}
use Rattle.tsp_requester.proofs.Cutting.{numbered}
use Rattle.tsp_requester.proofs.Answered.{place_in, imprint_of, no_imprint_of}
use Rattle.tsp_requester.proofs.attaching.stamped_pieces.Goals.{After-stamp_of}
use Rattle.tsp_requester.proofs.attaching.stamped_pieces.Goals as goal

-- the file has the signer
stamps : (c : After-stamp_of) → HasSigner c.args.file.now c.args.signer c.in-Ok.signed c.in-Some.stamped
stamps c = record {
  encodes = c.in-Ok.ensures.found;
  signer = numbered c.in-Ok.signed.signers c.args.signer c.in-Some.stamped c.in-Some.from.now
      (place_in c.signers.result.now c.in-Ok.signed.signers c.args.signer c.in-Some.stamped c.in-Some.from.now
      c.signers.ensures c.in-Some.ensures);
}

pub returns-in_default-stamp_of-clause-refuses : goal.returns-in_default-stamp_of-clause-refuses
returns-in_default-stamp_of-clause-refuses c = record {
  value = c.in-Ok.signed;
  signer = c.in-Some.stamped;
  has = stamps (goal.at.returns-in_default-stamp_of-clause-refuses c).After-stamp_of;
  none = c.in_default-stamp_of.ensures.only refl;
}

pub returns-then-not-is_stamp_of-clause-refuses : goal.returns-then-not-is_stamp_of-clause-refuses
returns-then-not-is_stamp_of-clause-refuses c = record {
  value = c.in-Ok.signed;
  signer = c.in-Some.stamped;
  has = stamps (goal.at.returns-then-not-is_stamp_of-clause-refuses c).After-stamp_of;
  stamp = c.in-Some-stamp_of.stamp;
  is_token = c.in-Some-stamp_of.ensures.found;
  differs = no_imprint_of c.in-Some-stamp_of.stamp.imprint c.signature.result.now c.in-Some.stamped.signature
      c.is_stamp_of.result c.signature.ensures
      c.is_stamp_of.ensures c.if-not-is_stamp_of.true;
}

pub returns-clause-cuts : goal.returns-clause-cuts
returns-clause-cuts c =
    let place = place_in c.signers.result.now c.in-Ok.signed.signers c.args.signer c.in-Some.stamped c.in-Some.from.now
    c.signers.ensures c.in-Some.ensures in
    record {
      value = c.in-Ok.signed;
      signer = c.in-Some.stamped;
      stamp = c.in-Some-stamp_of.stamp;
      stamped = record {
        has = stamps (goal.at.returns-clause-cuts c).After-stamp_of;
        is_token = c.in-Some-stamp_of.ensures.found;
        imprint = imprint_of c.in-Some-stamp_of.stamp.imprint c.signature.result.now c.in-Some.stamped.signature
            c.is_stamp_of.result
            c.signature.ensures c.is_stamp_of.ensures c.if-not-is_stamp_of.false;
      };
      from = c.in-Some.from.now;
      place = place;
      is = c.cut.ensures c.in-Ok.signed c.args.signer c.in-Ok.ensures.found c.signers-2.ensures place;
    }
