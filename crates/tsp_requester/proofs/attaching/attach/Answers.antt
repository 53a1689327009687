use Rattle.std.proofs.Common.{◌≡◌, ℕ, List, Ok, Err, refl, ap, subst, ◌∙◌}
use Rattle.devices.specs.Device.{Wrote}
use Rattle.cms_types.specs.SignedDataValue.{SignedDataValue, SignedContent, encoding}
use Rattle.tsp_requester.specs.Attached.{attached}
use Rattle.tsp_requester.specs.Attaching.{Attaches}
use Rattle.tsp_requester.specs.Pieces.{pieces_value, file_of}
use Rattle.tsp_requester.specs.declared.fault.AttachFault.TheVariants as rule
use Rattle.tsp_requester.proofs.Answered.{one_file, never_both, can_attach, new_file, too_long}
use Rattle.tsp_requester.proofs.attaching.attach.Given.{Over}
use Rattle.tsp_requester.proofs.attaching.attach.Goals.{After-put_file}
use Rattle.tsp_requester.proofs.attaching.attach.Goals as goal

pub returns-in_err-pieces-clause-only : goal.returns-in_err-pieces-clause-only
returns-in_err-pieces-clause-only g c = λ w h.
    absurd (never_both c.args.file.now c.args.signer c.args.token.now w c.in_err-pieces.field-0.0 h
    c.in_err-pieces.ensures.refuses)

pub returns-in_default-clause-answer : goal.returns-in_default-clause-answer
returns-in_default-clause-answer g c = (
  too_long c.args.file.now c.args.signer c.args.token.now
      (pieces_value c.in_ok-pieces.pieces) c.in_ok-pieces.ensures.cuts (c.in_default.ensures.too_long refl),
  (λ _. refl),
  refl,
)

pub returns-in_default-clause-only : goal.returns-in_default-clause-only
returns-in_default-clause-only g c = λ w h. never_both c.args.file.now c.args.signer c.args.token.now w rule.TooLong h
    (too_long c.args.file.now c.args.signer c.args.token.now
    (pieces_value c.in_ok-pieces.pieces) c.in_ok-pieces.ensures.cuts
    (c.in_default.ensures.too_long refl))

-- the octets that are written are those of each file with the token
only : (g : Over) (c : After-put_file g) (w : SignedDataValue)
    → Attaches c.args.file.now c.args.signer c.args.token.now w
    → file_of (pieces_value c.in_ok-pieces.pieces) c.args.token.now ≡ encoding (SignedContent w)
only g c w h =
    let cut = c.in_ok-pieces.ensures.cuts in
    let p = pieces_value c.in_ok-pieces.pieces in
    new_file c.args.file.now c.args.signer c.args.token.now p cut
    ∙ ap (λ (v : SignedDataValue). encoding (SignedContent v))
    (one_file c.args.file.now c.args.signer c.args.token.now (attached cut.value c.args.signer c.args.token.now) w
    (can_attach c.args.file.now c.args.signer c.args.token.now p cut c.in-Ok.ensures.fit) h)

pub returns-in-Ok-put_file-clause-only : goal.returns-in-Ok-put_file-clause-only
returns-in-Ok-put_file-clause-only g c = λ w h.
    subst (λ (x : List ℕ). Wrote (Ok c.in-Ok-put_file.field-0)
    (g.S.Sink.tells c.args.out.now) (g.S.Sink.taken c.args.out.now) (g.S.Sink.taken c.put_file.new.out)
    (g.S.Sink.failures c.args.out.now) (g.S.Sink.failures c.put_file.new.out) x)
    (c.in-Ok.ensures.opens ∙ only g (goal.at.returns-in-Ok-put_file-clause-only g c).After-put_file w h)
    c.in-Ok-put_file.ensures.wrote

pub returns-in-Ok-put_file-clause-answer : goal.returns-in-Ok-put_file-clause-answer
returns-in-Ok-put_file-clause-answer g c =
    let cut = c.in_ok-pieces.ensures.cuts in
    let p = pieces_value c.in_ok-pieces.pieces in
    let attaches = can_attach c.args.file.now c.args.signer c.args.token.now p cut c.in-Ok.ensures.fit in
    let w = attached cut.value c.args.signer c.args.token.now in
    (w, attaches, returns-in-Ok-put_file-clause-only g c w attaches)

pub returns-in-Err-clause-only : goal.returns-in-Err-clause-only
returns-in-Err-clause-only g c = λ w h.
    subst (λ (x : List ℕ). Wrote (Err c.in-Err._fault) (g.S.Sink.tells c.args.out.now) (g.S.Sink.taken c.args.out.now)
    (g.S.Sink.taken c.put_file.new.out) (g.S.Sink.failures c.args.out.now) (g.S.Sink.failures c.put_file.new.out) x)
    (c.in-Ok.ensures.opens ∙ only g (goal.at.returns-in-Err-clause-only g c).After-put_file w h) c.in-Err.ensures.wrote

pub returns-in-Err-clause-answer : goal.returns-in-Err-clause-answer
returns-in-Err-clause-answer g c =
    let cut = c.in_ok-pieces.ensures.cuts in
    let p = pieces_value c.in_ok-pieces.pieces in
    let attaches = can_attach c.args.file.now c.args.signer c.args.token.now p cut c.in-Ok.ensures.fit in
    let w = attached cut.value c.args.signer c.args.token.now in
    (w, attaches, returns-in-Err-clause-only g c w attaches)
