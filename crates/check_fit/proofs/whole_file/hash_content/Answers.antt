use Rattle.std.proofs.Common.{◌≡◌, Bool, Ok, Err, subst}
use Rattle.check_fit.specs.declared.rules.Refused.TheVariants as refused
use Rattle.check_fit.specs.FileFitting.{facts_of, placed, Hashes}
use Rattle.check_fit.proofs.FileLaw.{handed_in, source_hashed, source_fails}
use Rattle.check_fit.proofs.whole_file.hash_content.Goals as goal

pub returns-in-Ok : goal.returns-in-Ok
returns-in-Ok g c =
    let v = c.args.signed.now in
    let s = c.in-Some-content.source in
    let s' = c.digests_from.new.source in
    handed_in (facts_of g.S.Source.tells g.S.Source.rest g.S.Source.failures)
    (Hashes c.args.wanted) v c.args.content.now s s'
    (Ok c.in-Ok.digests) c.in-Some-content.is
    (subst (λ (b : Bool). placed v v.encapsulated.content b ≡ Ok v) c.is_some.ensures c.in_ok-place.ensures)
    (source_hashed c.args.wanted v (g.S.Source.tells s) (g.S.Source.rest s) (g.S.Source.rest s') (g.S.Source.failures s)
    (g.S.Source.failures s') c.in-Ok.digests c.in-Ok.ensures)

pub returns-in-Err : goal.returns-in-Err
returns-in-Err g c =
    let v = c.args.signed.now in
    let s = c.in-Some-content.source in
    let s' = c.digests_from.new.source in
    handed_in (facts_of g.S.Source.tells g.S.Source.rest g.S.Source.failures)
    (Hashes c.args.wanted) v c.args.content.now s s'
    (Err (refused.Device c.in-Err.fault)) c.in-Some-content.is
    (subst (λ (b : Bool). placed v v.encapsulated.content b ≡ Ok v) c.is_some.ensures c.in_ok-place.ensures)
    (source_fails (λ content. Hashes c.args.wanted content v) c.args.wanted (g.S.Source.tells s) (g.S.Source.rest s)
    (g.S.Source.rest s')
    (g.S.Source.failures s) (g.S.Source.failures s') c.in-Err.fault c.in-Err.ensures)
