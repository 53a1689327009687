use Rattle.std.proofs.Common.{◌-◌, length, ap, ◌∙◌, arith}
use Rattle.std.proofs.lemmas.List.{length-take-le, length-set, take_rest}
use Rattle.big_numbers.specs.Numbers.{os2ip}
use Rattle.big_numbers.proofs.OctetSteps.{read_goes_on, read_ends}
use Rattle.big_numbers.proofs.octets.read_octets.Goals as goal

pub words-preserved : goal.words-preserved
words-preserved c = record {
  room = omega (
    arith,
    length-take-le (length c.words.rest.now - c.min.result) c.words.rest.now (omega arith),
    length-set c.words.words c.words.i c.word_of.result,
  );
  number =
      read_goes_on c.words.words c.words.rest.now c.words.i (length c.words.rest.now - c.min.result) c.word_of.result
      (os2ip c.args.octets.now) (omega arith) (ap (λ m. length c.words.rest.now - m) c.min.ensures) (c.word_of.ensures
      ∙ ap os2ip (take_rest c.words.rest.now (length c.words.rest.now - c.min.result))) c.words.invariant.number;
}

pub returns : goal.returns
returns c = read_ends c.words.words c.words.rest.now c.words.i (os2ip c.args.octets.now) (omega arith)
    (omega arith) c.words.invariant.number
