use Rattle.std.proofs.Common.{◌≡◌, ℕ, ◌%◌, ◌^◌, ◌<◌, length, ap, sym, subst, ◌∙◌}
use Rattle.big_numbers.specs.Numbers.{i2osp, value}
use Rattle.big_numbers.proofs.OctetLaws.{octets_written}
use Rattle.big_numbers.proofs.octets.write_number.Goals as goal

pub returns : goal.returns
returns c =
    let x : ℕ = value c.args.words.now in
    let k : ℕ = length c.args.octets.now in
    let l : length c.write_octets.new.octets ≡ k = c.write_octets.auto.octets in
    octets_written c.write_octets.new.octets x (λ i. (c.type_inv.octets i).fits)
    (c.write_octets.ensures ∙ ap (λ i. x % 256 ^ i) (sym l)) (subst (λ i. x < 256 ^ i) (sym l) c.requires.fits)
    ∙ ap (λ i. i2osp x i) l
