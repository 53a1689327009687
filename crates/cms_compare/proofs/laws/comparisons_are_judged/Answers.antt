use Rattle.cms_compare.proofs.Bound.{bound}
use Rattle.cms_compare.proofs.Judged.{files_are_compared, never_both, one_answer, one_refusal}
use Rattle.cms_compare.proofs.laws.comparisons_are_judged.Goals as goal

pub returns : goal.returns
returns c = record {
  binding = bound;
  judged = files_are_compared;
  never_both = never_both;
  one_answer = one_answer;
  one_refusal = one_refusal;
}
