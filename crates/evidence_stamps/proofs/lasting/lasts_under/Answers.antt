use Rattle.evidence_stamps.proofs.lasting.lasts_under.Goals as goal

pub returns-then-not-may_last-clause-only : goal.returns-then-not-may_last-clause-only
returns-then-not-may_last-clause-only g c = λ test asks. g.V.Verifier.asked_nothing test _
