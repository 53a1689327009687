use Rattle.tsp_requester.proofs.Answered.{one_file, never_both}
use Rattle.tsp_requester.proofs.ReadBack.{read_back}
use Rattle.tsp_requester.proofs.OneRule.{one_rule}
use Rattle.tsp_requester.proofs.attaching_laws.attachments_are_judged.Goals as goal

pub returns-clause-never_both : goal.returns-clause-never_both
returns-clause-never_both c = never_both

pub returns-clause-one_file : goal.returns-clause-one_file
returns-clause-one_file c = one_file

pub returns-clause-one_rule : goal.returns-clause-one_rule
returns-clause-one_rule c = one_rule

pub returns-clause-encodes : goal.returns-clause-encodes
returns-clause-encodes c = read_back
