use Rattle.der_core.specs.Grammar.{file}
use Rattle.der_grammar.specs.Table.{content_info}
use Rattle.der_grammar.proofs.Clearness.{content_info_clear}
use Rattle.der_core.proofs.OpenlyRefuted.{openly_refuted}
use Rattle.cms_types.proofs.SignedDataReaders.{content_encodes, content_unique}
use Rattle.cms_types.proofs.laws.content_infos_are_encodings.Goals as goal

pub returns-clause-encodings : goal.returns-clause-encodings
returns-clause-encodings c = content_encodes

pub returns-clause-no_faults : goal.returns-clause-no_faults
returns-clause-no_faults c =
    λ bytes v h f x. openly_refuted (file content_info) bytes f content_info_clear (content_encodes bytes v h) x

pub returns-clause-unique : goal.returns-clause-unique
returns-clause-unique c = content_unique
