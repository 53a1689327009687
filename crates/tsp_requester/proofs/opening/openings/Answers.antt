use Rattle.std.proofs.Common.{◌+◌, [], ◌++◌, length, refl}
use Rattle.der_core.specs.Element.{el}
use Rattle.tsp_requester.specs.Pieces.{pieces_value, stamp_id, data_id, attribute_inside, unsigned_inside}
use Rattle.tsp_requester.specs.Pieces.{signer_inside, signers_inside, data_inside}
use Rattle.tsp_requester.proofs.Openings.{too_so, fits_so, behind_length, opened_1, opened_2, opened_3, opened_4}
use Rattle.tsp_requester.proofs.Openings.{opened_5, opened_6, opened_7, opens_file}
use Rattle.tsp_requester.proofs.opening.openings.Goals as goal

pub returns-in_err-values-clause-too_long : goal.returns-in_err-values-clause-too_long
returns-in_err-values-clause-too_long c = λ e fit.
    too_so [] c.args.token.now (length c.args.token.now) (c.in_err-values.ensures.too_long.0 refl) refl fit.0

pub returns-in_err-attribute-clause-too_long : goal.returns-in_err-attribute-clause-too_long
returns-in_err-attribute-clause-too_long c = λ e fit.
    let p = pieces_value c.args.pieces.now in
    let at = opened_1 p c.args.token.now c.in_ok-values.values c.in_ok-values.ensures.opens in
    too_so stamp_id (el 0x31 c.args.token.now) c.in_ok-values.values.size
    (c.in_err-attribute.ensures.too_long.0 refl) at.1 fit.1.0

pub returns-in_err-unsigned-clause-too_long : goal.returns-in_err-unsigned-clause-too_long
returns-in_err-unsigned-clause-too_long c = λ e fit.
    let p = pieces_value c.args.pieces.now in
    let at = opened_2 p c.args.token.now c.in_ok-values.values c.in_ok-values.ensures.opens
    c.in_ok-attribute.attribute c.in_ok-attribute.ensures.opens in
    too_so p.unsigned (el 0x30 (attribute_inside c.args.token.now)) c.in_ok-attribute.attribute.size
    (c.in_err-unsigned.ensures.too_long.0 refl) at.1 fit.1.1.0

pub returns-in_err-signer-clause-too_long : goal.returns-in_err-signer-clause-too_long
returns-in_err-signer-clause-too_long c = λ e fit.
    let p = pieces_value c.args.pieces.now in
    let at = opened_3 p c.args.token.now c.in_ok-values.values c.in_ok-values.ensures.opens
    c.in_ok-attribute.attribute c.in_ok-attribute.ensures.opens
    c.in_ok-unsigned.unsigned c.in_ok-unsigned.ensures.opens in
    too_so p.signer_front (el 0xa1 (unsigned_inside p c.args.token.now)) c.in_ok-unsigned.unsigned.size
    (c.in_err-signer.ensures.too_long.0 refl) at.1 fit.1.1.1.0

pub returns-in_err-signers-clause-too_long : goal.returns-in_err-signers-clause-too_long
returns-in_err-signers-clause-too_long c = λ e fit.
    let p = pieces_value c.args.pieces.now in
    let at = opened_4 p c.args.token.now c.in_ok-values.values c.in_ok-values.ensures.opens
    c.in_ok-attribute.attribute c.in_ok-attribute.ensures.opens
    c.in_ok-unsigned.unsigned c.in_ok-unsigned.ensures.opens c.in_ok-signer.signer c.in_ok-signer.ensures.opens in
    too_so p.before (el 0x30 (signer_inside p c.args.token.now) ++ p.behind)
    (c.in_ok-signer.signer.size + length p.behind) (c.in_err-signers.ensures.too_long.0 refl)
    (behind_length (el 0x30 (signer_inside p c.args.token.now)) p.behind
    c.in_ok-signer.signer.size at.1) fit.1.1.1.1.0

pub returns-in_err-data-clause-too_long : goal.returns-in_err-data-clause-too_long
returns-in_err-data-clause-too_long c = λ e fit.
    let p = pieces_value c.args.pieces.now in
    let at = opened_5 p c.args.token.now c.in_ok-values.values c.in_ok-values.ensures.opens
    c.in_ok-attribute.attribute c.in_ok-attribute.ensures.opens
    c.in_ok-unsigned.unsigned c.in_ok-unsigned.ensures.opens
    c.in_ok-signer.signer c.in_ok-signer.ensures.opens c.in_ok-signers.signers c.in_ok-signers.ensures.opens in
    too_so p.data_front (el 0x31 (signers_inside p c.args.token.now)) c.in_ok-signers.signers.size
    (c.in_err-data.ensures.too_long.0 refl) at.1 fit.1.1.1.1.1.0

pub returns-in_err-content-clause-too_long : goal.returns-in_err-content-clause-too_long
returns-in_err-content-clause-too_long c = λ e fit.
    let p = pieces_value c.args.pieces.now in
    let at = opened_6 p c.args.token.now c.in_ok-values.values c.in_ok-values.ensures.opens
    c.in_ok-attribute.attribute c.in_ok-attribute.ensures.opens
    c.in_ok-unsigned.unsigned c.in_ok-unsigned.ensures.opens
    c.in_ok-signer.signer c.in_ok-signer.ensures.opens c.in_ok-signers.signers c.in_ok-signers.ensures.opens
    c.in_ok-data.data c.in_ok-data.ensures.opens in
    too_so [] (el 0x30 (data_inside p c.args.token.now)) c.in_ok-data.data.size
    (c.in_err-content.ensures.too_long.0 refl) at.1 fit.1.1.1.1.1.1.0

pub returns-in_err-info-clause-too_long : goal.returns-in_err-info-clause-too_long
returns-in_err-info-clause-too_long c = λ e fit.
    let p = pieces_value c.args.pieces.now in
    let at = opened_7 p c.args.token.now c.in_ok-values.values c.in_ok-values.ensures.opens
    c.in_ok-attribute.attribute c.in_ok-attribute.ensures.opens
    c.in_ok-unsigned.unsigned c.in_ok-unsigned.ensures.opens
    c.in_ok-signer.signer c.in_ok-signer.ensures.opens c.in_ok-signers.signers c.in_ok-signers.ensures.opens
    c.in_ok-data.data c.in_ok-data.ensures.opens c.in_ok-content.content c.in_ok-content.ensures.opens in
    too_so data_id (el 0xa0 (el 0x30 (data_inside p c.args.token.now))) c.in_ok-content.content.size
    (c.in_err-info.ensures.too_long.0 refl) at.1 fit.1.1.1.1.1.1.1.0

pub returns-clause-fit : goal.returns-clause-fit
returns-clause-fit c =
    let l1 = c.in_ok-values.ensures.opens c.args.token.now refl in
    let l2 = c.in_ok-attribute.ensures.opens (el 0x31 c.args.token.now) l1.1 in
    let l3 = c.in_ok-unsigned.ensures.opens (el 0x30 (attribute_inside c.args.token.now)) l2.1 in
    let l4 = c.in_ok-signer.ensures.opens
    (el 0xa1 (unsigned_inside (pieces_value c.args.pieces.now) c.args.token.now)) l3.1 in
    let l5 = c.in_ok-signers.ensures.opens (el 0x30 (signer_inside (pieces_value c.args.pieces.now) c.args.token.now)
    ++ (pieces_value c.args.pieces.now).behind)
    (behind_length (el 0x30 (signer_inside (pieces_value c.args.pieces.now) c.args.token.now))
    (pieces_value c.args.pieces.now).behind c.in_ok-signer.signer.size l4.1) in
    let l6 =
    c.in_ok-data.ensures.opens (el 0x31 (signers_inside (pieces_value c.args.pieces.now) c.args.token.now)) l5.1 in
    let l7 =
    c.in_ok-content.ensures.opens (el 0x30 (data_inside (pieces_value c.args.pieces.now) c.args.token.now)) l6.1 in (
      fits_so [] c.args.token.now (length c.args.token.now) c.in_ok-values.ensures.too_long refl,
      (
        fits_so stamp_id (el 0x31 c.args.token.now) c.in_ok-values.values.size
            c.in_ok-attribute.ensures.too_long l1.1,
        (
          fits_so (pieces_value c.args.pieces.now).unsigned
              (el 0x30 (attribute_inside c.args.token.now)) c.in_ok-attribute.attribute.size
              c.in_ok-unsigned.ensures.too_long l2.1,
          (
            fits_so (pieces_value c.args.pieces.now).signer_front
                (el 0xa1 (unsigned_inside (pieces_value c.args.pieces.now) c.args.token.now))
                c.in_ok-unsigned.unsigned.size c.in_ok-signer.ensures.too_long l3.1,
            (
              fits_so (pieces_value c.args.pieces.now).before
                  (el 0x30 (signer_inside (pieces_value c.args.pieces.now) c.args.token.now)
                  ++ (pieces_value c.args.pieces.now).behind)
                  (c.in_ok-signer.signer.size + length (pieces_value c.args.pieces.now).behind)
                  c.in_ok-signers.ensures.too_long
                  (behind_length (el 0x30 (signer_inside (pieces_value c.args.pieces.now) c.args.token.now))
                  (pieces_value c.args.pieces.now).behind c.in_ok-signer.signer.size l4.1),
              (
                fits_so (pieces_value c.args.pieces.now).data_front
                    (el 0x31 (signers_inside (pieces_value c.args.pieces.now) c.args.token.now))
                    c.in_ok-signers.signers.size c.in_ok-data.ensures.too_long l5.1,
                (
                  fits_so []
                      (el 0x30 (data_inside (pieces_value c.args.pieces.now) c.args.token.now)) c.in_ok-data.data.size
                      c.in_ok-content.ensures.too_long l6.1,
                  (
                    fits_so data_id (el 0xa0 (el 0x30 (data_inside (pieces_value c.args.pieces.now) c.args.token.now)))
                        c.in_ok-content.content.size
                        c.in_ok-info.ensures.too_long l7.1,
                    tt,
                  ),
                ),
              ),
            ),
          ),
        ),
      ),
    )

pub returns-clause-opens : goal.returns-clause-opens
returns-clause-opens c = opens_file (pieces_value c.args.pieces.now) c.args.token.now
    c.in_ok-values.values c.in_ok-values.ensures.opens
    c.in_ok-attribute.attribute c.in_ok-attribute.ensures.opens
    c.in_ok-unsigned.unsigned c.in_ok-unsigned.ensures.opens c.in_ok-signer.signer c.in_ok-signer.ensures.opens
    c.in_ok-signers.signers c.in_ok-signers.ensures.opens c.in_ok-data.data c.in_ok-data.ensures.opens
    c.in_ok-content.content c.in_ok-content.ensures.opens
    c.in_ok-info.info c.in_ok-info.ensures.opens
