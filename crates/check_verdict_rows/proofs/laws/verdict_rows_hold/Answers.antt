use Rattle.check_verdict_rows.proofs.Refusals.{refusal_rows}
use Rattle.check_verdict_rows.proofs.SeveralSigners.{several_signers_rows}
use Rattle.check_verdict_rows.proofs.NamedSigners.{named_signer_rows}
use Rattle.check_verdict_rows.proofs.Fractions.{fraction_rows}
use Rattle.check_verdict_rows.proofs.OtherEntries.{other_entry_rows}
use Rattle.check_verdict_rows.proofs.LongSources.{long_source_rows}
use Rattle.check_verdict_rows.proofs.laws.verdict_rows_hold.Goals as goal

pub returns-clause-refusals : goal.returns-clause-refusals
returns-clause-refusals c = refusal_rows

pub returns-clause-several : goal.returns-clause-several
returns-clause-several c = several_signers_rows

pub returns-clause-named : goal.returns-clause-named
returns-clause-named c = named_signer_rows

pub returns-clause-fractions : goal.returns-clause-fractions
returns-clause-fractions c = fraction_rows

pub returns-clause-entries : goal.returns-clause-entries
returns-clause-entries c = other_entry_rows

pub returns-clause-sources : goal.returns-clause-sources
returns-clause-sources c = long_source_rows
