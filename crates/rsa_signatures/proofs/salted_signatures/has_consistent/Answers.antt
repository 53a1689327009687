use Rattle.std.proofs.Common.{◌≡◌, ℕ, List, ◌+◌, ◌-◌, ◌/◌, ◌^◌, ◌<◌, length, subst, ap, sym, ◌∙◌, arith}
use Rattle.std.proofs.lemmas.Bool.{false≢true}
use Rattle.std.proofs.lemmas.List.{take_rest}
use Rattle.big_numbers.specs.Numbers.{i2osp}
use Rattle.rsa_signatures.specs.Pss.{IsConsistent}
use Rattle.rsa_signatures.proofs.SaltedOctets.{rest_of_octets, too_large}
use Rattle.rsa_signatures.proofs.salted_signatures.has_consistent.Goals as goal

pub returns-then-octets-ne0 : goal.returns-then-octets-ne0
returns-then-octets-ne0 c = λ x is small.
    let n : ℕ = length c.args.octets.now - 1 in
    let shorter : (c.args.bits + 7) / 8 ≡ n = omega arith in (
      λ never. absurd (false≢true never),
      λ h.
          absurd (c.if-octets-ne0.true
          (too_large c.args.octets.now x n (omega arith) is (subst (λ k. x < 256 ^ k) shorter h.0))),
    )

pub returns : goal.returns
returns c = λ x is small.
    let n : ℕ = length c.args.octets.now - 1 in
    let shorter : (c.args.bits + 7) / 8 ≡ n = omega arith in
    let r = rest_of_octets c.args.octets.now x n (omega arith) is c.if-octets-ne0.false small in
    let P : List ℕ → Type 0 = λ o. IsConsistent c.args.alg c.args.mask c.args.salt c.args.hash.now o c.args.bits in
    let octets = take_rest c.args.octets.now 1 ∙ r.1 ∙ ap (λ k. i2osp x k) (sym shorter) in (
      λ valid. (subst (λ k. x < 256 ^ k) (sym shorter) r.0, subst P octets (c.is_consistent-2.ensures.0 valid)),
      λ h. c.is_consistent-2.ensures.1 (subst P (sym octets) h.1),
    )
