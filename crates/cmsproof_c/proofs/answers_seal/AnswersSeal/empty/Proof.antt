-- `empty` makes a seal that owns nothing.
use Rattle.list_answers.specs.contracts.answers.Answers.{the_row}
use Rattle.list_answers.proofs.answers.Answers.TheLaws.{the_row_laws}
use Rattle.cmsproof_c.proofs.Seals.{empty_met}
use Rattle.cmsproof_c.proofs.AnswersAsSeal.{seal}
use Rattle.cmsproof_c.specs.contracts.answers_seal.AnswersSeal.empty.Key.{name as #self}
use Rattle.cmsproof_c.proofs.answers_seal.AnswersSeal.empty.Statement as stated
use Rattle.cmsproof_c.proofs.answers_seal.AnswersSeal.empty.Code as code

pub empty_spec : {M : Type 1} → stated.statement M
empty_spec 𝓤 𝓛 𝓜 𝓡 wired =
    empty_met the_row the_row_laws seal 𝓛 𝓜 𝓡 #self (code.unfolded 𝓤 𝓛.H 𝓜 𝓡 wired)
