use Rattle.std.proofs.Common.{◌≡◌, ◌++◌, length, ap, ◌∙◌, length-append, arith}
use Rattle.std.proofs.lemmas.List.{take_at}
use Rattle.std.proofs.lemmas.Slice.{take-put_mid}
use Rattle.digests.specs.Digests.{alg_of}
use Rattle.rsa_signatures.specs.Pkcs1.{info_prefix}
use Rattle.rsa_signatures.proofs.infos.put_info.Goals as goal

pub returns-clause-octets : goal.returns-clause-octets
returns-clause-octets c =
    let first : c.copy_from_slice.new.self ≡ c.prefix-front.result.now = c.copy_from_slice.ensures.after in
    let second : c.copy_from_slice-2.new.self ≡ c.bytes-octets.result.now = c.copy_from_slice-2.ensures.after in
    let l : length c.copy_from_slice.new.self ≡ length c.prefix-front.result.now = ap length first in
    let l2 : length c.copy_from_slice-2.new.self ≡ length c.bytes-octets.result.now = ap length second in
    take-put_mid (length c.prefix-front.result.now) _ _ c.copy_from_slice-2.new.self _ (omega arith)
    (simp length-append (omega arith))
    ∙ ap (λ z. z ++ c.copy_from_slice-2.new.self)
    (take_at c.copy_from_slice.new.self _ (length c.prefix-front.result.now) l)
    ∙ ap (λ z. z ++ c.copy_from_slice-2.new.self) (first ∙ c.prefix-front.ensures.is)
    ∙ ap (λ a. info_prefix a ++ c.copy_from_slice-2.new.self) c.alg-alg.ensures
    ∙ ap (λ z. info_prefix (alg_of c.args.digest.now) ++ z) (second ∙ c.bytes-octets.ensures.octets)
