use Rattle.std.proofs.Common.{ℕ, ◌^◌, ◌<◌, take, sym, subst}
use Rattle.big_numbers.specs.Numbers.{value}
use Rattle.big_numbers.proofs.ModulusSteps.{number_kept, size_kept}
use Rattle.big_numbers.proofs.moduli.Modulus.size.Goals as goal

pub returns-clause-count : goal.returns-clause-count
returns-clause-count c =
    sym (size_kept c.args.self.now
    (value (take c.self.inside.count c.self.inside.words)) c.self.inside.size c.self.view_is)

pub returns-clause-fits : goal.returns-clause-fits
returns-clause-fits c =
    let v : ℕ = value (take c.self.inside.count c.self.inside.words) in
    subst (λ z. z < 256 ^ c.self.inside.size)
    (sym (number_kept c.args.self.now v c.self.inside.size c.self.invariant.fits c.self.view_is)) c.self.invariant.fits
