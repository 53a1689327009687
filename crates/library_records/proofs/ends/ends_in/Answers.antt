use Rattle.std.proofs.Common.{Some, None, [], inr, lit<, rules}
use Rattle.std.proofs.lemmas.Result.{err_from_is_err_and}
use Rattle.std.proofs.lemmas.Str.Pattern.{split_once_first}
use Rattle.library_records.proofs.Stated.{first_word, one_word, one_end, last_end, no_end}
use Rattle.library_records.proofs.ends.ends_in.Goals as goal

pub returns-in_err-end_of-clause-refused : goal.returns-in_err-end_of-clause-refused
returns-in_err-end_of-clause-refused c =
    let (there, front, back) = split_once_first 32 c.loop-word.left.now (Some (c.in-Some.word, c.in-Some.others))
    c.in-Some.ensures.cases (lit< tt) in
    let p = err_from_is_err_and c.from_residual.result c.from_residual.ensures.1 in
    let q = c.in_err-end_of.ensures.refused in
    rw (p.1, p.2) (inr (
      q.0,
      no_end c.args.text.now c.loop-word.left.now c.loop-word.ends.items c.loop-word.invariant.1
          c.in-Some.word.now _
          (first_word c.loop-word.left.now c.in-Some.word.now c.in-Some.others.now there front back) q.1,
    ))

pub loop-word-preserved : goal.loop-word-preserved
loop-word-preserved c =
    let (there, front, back) = split_once_first 32 c.loop-word.left.now (Some (c.in-Some.word, c.in-Some.others))
    c.in-Some.ensures.cases (lit< tt) in (
      search rules,
      one_end c.args.text.now c.loop-word.left.now c.loop-word.ends.items c.loop-word.invariant.1
          c.in-Some.word.now c.in-Some.others.now c.push.new.self.items c.in_ok-end_of.field-0
          (first_word c.loop-word.left.now c.in-Some.word.now c.in-Some.others.now there front back)
          c.in_ok-end_of.ensures.found c.in_ok-push.ensures.items,
    )

pub returns-in_err-end_of-2-clause-refused : goal.returns-in_err-end_of-2-clause-refused
returns-in_err-end_of-2-clause-refused c =
    let none = split_once_first 32 c.loop-word.left.now None c.in_default.ensures.cases (lit< tt) in
    let p = err_from_is_err_and c.from_residual-in_err-end_of-2.result c.from_residual-in_err-end_of-2.ensures.1 in
    let q = c.in_err-end_of-2.ensures.refused in
    rw (p.1, p.2) (inr (
      q.0,
      no_end c.args.text.now c.loop-word.left.now c.loop-word.ends.items c.loop-word.invariant.1
          c.loop-word.left.now [] (one_word c.loop-word.left.now none) q.1,
    ))

pub returns-clause-found : goal.returns-clause-found
returns-clause-found c =
    let none = split_once_first 32 c.loop-word.left.now None c.in_default.ensures.cases (lit< tt) in
    last_end c.args.text.now c.loop-word.left.now c.loop-word.ends.items c.loop-word.invariant.1 c.push-2.new.self.items
    c.in_ok-end_of-2.field-0 (one_word c.loop-word.left.now none) c.in_ok-end_of-2.ensures.found
    c.in_ok-push-2.ensures.items
