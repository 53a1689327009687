use Rattle.std.proofs.Common.{Option, IfSome}
use Rattle.std.proofs.lemmas.List.Elements.{All-set}
use Rattle.check_verdict.specs.declared.certificates.Kept.{Kept}
use Rattle.check_verdict.specs.KeptCertificates.{IsKept}
use Rattle.check_verdict.proofs.certificates.Recent.keep.Goals as goal

pub invariant_of-self : goal.invariant_of-self
invariant_of-self g c =
    let Is : Option Kept → Type 0 = λ slot. IfSome slot (IsKept g.K.Known.known c.self.inside.trust) in
    rw c.keep.ensures (All-set Is _ _ _ (rw c.self.view_is c.requires.entry, c.requires.known) c.self.invariant)
