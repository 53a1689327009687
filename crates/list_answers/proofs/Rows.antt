-- The worked rows, by computation.
use Rattle.std.proofs.Common.{refl}
use Rattle.hex.specs.Hex.{decode_pairs}
use Rattle.list_answers.specs.Rows.{AnswersRows}

pub answers_rows : AnswersRows
unfolding decode_pairs
answers_rows = record {
  none = refl;
  one = refl;
  ended = refl;
  empty = refl;
  questions = refl;
  four = refl;
  odd = refl;
  spaces = refl;
  first = refl;
  vouched = refl;
  another = refl;
}
