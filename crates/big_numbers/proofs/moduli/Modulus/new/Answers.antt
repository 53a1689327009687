use Rattle.std.proofs.Common.{◌≡◌, ℕ, ◌+◌, ◌/◌, ◌<◌, ◌≤◌, List, Some, length, length-drop, take, ap, refl, arith}
use Rattle.std.proofs.lemmas.List.{length-take-le}
use Rattle.big_numbers.specs.Numbers.{IsModulus}
use Rattle.big_numbers.proofs.ModulusSteps.{long_enough, octets_kept, prepared, some_octets, value_of_octets}
use Rattle.big_numbers.proofs.moduli.Modulus.new.Goals as goal

pub square_of_base-requires-clause-long : goal.square_of_base-requires-clause-long
square_of_base-requires-clause-long c =
    let octets : List ℕ = c.args.octets.now in
    let words : List ℕ = c.read_octets.new.words in
    let count : ℕ = (length octets + 7) / 8 in
    let is : IsModulus octets = c.is_modulus.ensures.0 c.if-not-is_modulus.false in
    let short : length octets ≤ 1024 = is.short in
    let l : length words ≡ 128 = c.read_octets.auto.words in
    let lc : length (take count words) ≡ count = length-take-le count words (omega arith) in
    let n = value_of_octets words octets count (λ k. (c.type_inv.octets k).fits) (omega arith)
    (omega arith) c.read_octets.ensures in
    rw (lc, n) (long_enough octets count is (omega arith))

pub invariant_of-result : goal.invariant_of-result
invariant_of-result c =
    let octets : List ℕ = c.args.octets.now in
    let words : List ℕ = c.read_octets.new.words in
    let count : ℕ = (length octets + 7) / 8 in
    let is : IsModulus octets = c.is_modulus.ensures.0 c.if-not-is_modulus.false in
    let short : length octets ≤ 1024 = is.short in
    let some : 0 < length octets = some_octets octets is in
    let l : length words ≡ 128 = c.read_octets.auto.words in
    prepared octets words c.square_of_base.new.x _ count c.negated_inverse-inverse.result _
    (λ k. (c.type_inv.octets k).fits) is l (simp length-drop (omega arith)) (omega arith)
    (omega arith) c.read_octets.ensures
    c.negated_inverse-inverse.ensures c.square_of_base.ensures.length c.square_of_base.ensures.form refl

pub returns-clause-found : goal.returns-clause-found
returns-clause-found c =
    let octets : List ℕ = c.args.octets.now in
    let is : IsModulus octets = c.is_modulus.ensures.0 c.if-not-is_modulus.false in
    let short : length octets ≤ 1024 = is.short in
    let l : length c.read_octets.new.words ≡ 128 = c.read_octets.auto.words in (
      is,
      octets_kept c.read_octets.new.words octets ((length octets + 7) / 8) (λ k. (c.type_inv.octets k).fits)
          (omega arith) (omega arith)
          c.read_octets.ensures,
    )

pub returns-clause-only : goal.returns-clause-only
returns-clause-only c = λ is.
    let octets : List ℕ = c.args.octets.now in
    let short : length octets ≤ 1024 = is.short in
    let l : length c.read_octets.new.words ≡ 128 = c.read_octets.auto.words in
    ap (λ m. Some m) (octets_kept c.read_octets.new.words octets ((length octets + 7) / 8)
    (λ k. (c.type_inv.octets k).fits) (omega arith)
    (omega arith) c.read_octets.ensures)
