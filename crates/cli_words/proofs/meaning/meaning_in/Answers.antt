use Rattle.std.proofs.Common.{sym}
use Rattle.std.proofs.lemmas.Result.{IfOk-weaker}
use Rattle.clap.specs.Matches.{found_of}
use Rattle.cli_words.proofs.meaning.meaning_in.Goals as goal

pub returns-in-Some-clause-words : goal.returns-in-Some-clause-words
returns-in-Some-clause-words c = IfOk-weaker c.meaning_of_command.result _ _
    (λ meaning h. (found_of c.in-Some.given.now, sym c.in-Some.ensures.rows, h)) c.meaning_of_command.ensures.words
