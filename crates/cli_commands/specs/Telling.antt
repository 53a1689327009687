-- What a command prints for a malformed file, and for one that it refuses.
use Rattle.std.specs.Prelude.{◌≡◌, ◌⊎◌, ℕ, List, [], ◌∷◌, ◌++◌, Option, codes}
use Rattle.std.specs.Io.KnownBytes.{Appends}
use Rattle.der_core.specs.declared.fault.Fault.{Fault}
use Rattle.trust_lists.specs.declared.trust_fault.TrustFault.{TrustFault}
use Rattle.list_answers.specs.declared.answers_fault.AnswersFault.{AnswersFault}
use Rattle.list_answers.specs.FaultTexts.{answers_fault_text}
use Rattle.trust_lists.specs.FaultTexts.{trust_fault_text}
use Rattle.tsp_requester.specs.MatchFaultTexts.{match_fault_text}
use Rattle.tsp_requester.specs.declared.rules.MatchFault.{MatchFault}
use Rattle.tsp_requester.specs.declared.fault.AttachFault.{AttachFault}
use Rattle.tsp_requester.specs.AttachFaultTexts.{attach_fault_text}
use Rattle.cms_compare.specs.declared.fault.CompareFault.{CompareFault}
use Rattle.cms_compare.specs.FaultTexts.{compare_fault_text}
use Rattle.cli_failures.specs.declared.failure.Message.{Message}
use Rattle.check_fit.specs.declared.rules.Refused.{Refused}
use Rattle.check_fit.specs.declared.rules.TokenRule.{TokenRule}
use Rattle.check_fit.specs.RuleTexts.{refused_text, token_rule_text}
use Rattle.check_evidence.specs.declared.rules.EvidenceRefused.{EvidenceRefused}
use Rattle.check_evidence.specs.EvidenceTexts.{evidence_refused_text}
use Rattle.evidence_sums.specs.declared.sums_fault.SumsFault.{SumsFault}
use Rattle.evidence_sums.specs.FaultTexts.{sums_fault_text}
use Rattle.evidence_making.specs.declared.fault.MakeFault.{MakeFault}
use Rattle.evidence_making.specs.declared.fault.StampFault.{StampFault}
use Rattle.evidence_making.specs.declared.fault.LeafFault.{LeafFault}
use Rattle.evidence_making.specs.FaultTexts.{leaf_fault_text, make_fault_text, stamp_fault_text}
use Rattle.cli_failures.specs.declared.status.Status.{Status}
use Rattle.cli_failures.specs.declared.status.Status.TheVariants as status
use Rattle.cli_failures.specs.Failures.{said, malformed_line, record_refused_text, refused_status, sums_status}
use Rattle.cli_failures.specs.Failures.{uncompared_status, unshown_status}

-- a writer took the line of a fault, if what it takes is known
pub record TellsFault (before after : Option (List ℕ)) : Type 0 where
  pub message : Option Message
  pub fault : Fault
  pub line : Appends before after (malformed_line message fault)

-- a writer took the line of a fault of a trust list, if what it takes is known
abbrev pub TellsTrustFault : (before after : Option (List ℕ)) → Type 0
TellsTrustFault before after = (fault : TrustFault) × Appends before after
    (said (codes "trust") (trust_fault_text fault))

-- the same for an answers list
abbrev pub TellsAnswersFault : (before after : Option (List ℕ)) → Type 0
TellsAnswersFault before after = (fault : AnswersFault) × Appends before after
    (said (codes "answers") (answers_fault_text fault))

-- a writer took the line of two files that are not compared, with which a command ends with this status, if what it
-- takes is known
abbrev pub TellsUncompared : Status → (before after : Option (List ℕ)) → Type 0
TellsUncompared ends before after = (why : CompareFault) × (uncompared_status why.rule ≡ ends)
    × Appends before after (compare_fault_text why ++ (10 ∷ []))

-- a writer took the line of a file of sums that isn't read, with which a command ends with this status, if what it
-- takes is known
abbrev pub TellsSums : Status → (before after : Option (List ℕ)) → Type 0
TellsSums ends before after = (fault : SumsFault) × (sums_status fault.rule ≡ ends)
    × Appends before after (sums_fault_text fault ++ (10 ∷ []))

-- a writer took the line of an evidence record that was handed in beside another file, with which a command ends with
-- this status, if what it takes is known
abbrev pub TellsUnevidenced : Status → (before after : Option (List ℕ)) → Type 0
TellsUnevidenced ends before after = (why : EvidenceRefused) × (unshown_status why ≡ ends)
    × Appends before after (record_refused_text why ++ (10 ∷ []))

-- a writer took the line of a file that isn't of its form, if what it takes is known
abbrev pub TellsMalformed : (before after : Option (List ℕ)) → Type 0
TellsMalformed before after = TellsFault before after ⊎ (TellsTrustFault before after
    ⊎ (TellsAnswersFault before after ⊎ (TellsUncompared status.Malformed before after
    ⊎ (TellsSums status.Malformed before after ⊎ TellsUnevidenced status.Malformed before after))))

-- a writer took the line of a file that isn't a SignedData, if what it takes is known
abbrev pub TellsAnotherType : (before after : Option (List ℕ)) → Type 0
TellsAnotherType before after = Appends before after (said (codes "refused") (codes "NotSignedData"))

-- a writer took the line of a rule by which a response doesn't answer, if what it takes is known
abbrev pub TellsUnmatched : (before after : Option (List ℕ)) → Type 0
TellsUnmatched before after = (why : MatchFault) × Appends before after (said (codes "refused") (match_fault_text why))

-- a writer took the line of a file of another type, which has no questions, if what it takes is known
abbrev pub TellsUnasked : (before after : Option (List ℕ)) → Type 0
TellsUnasked before after = Appends before after (said (codes "refused") (codes "Q2 NotSignedData"))

-- a writer took the line of two signatures that don't sign the same, if what it takes is known
abbrev pub TellsUnlike : (before after : Option (List ℕ)) → Type 0
TellsUnlike before after = Appends before after (codes "different" ++ (10 ∷ []))
    ⊎ Appends before after (codes "collision" ++ (10 ∷ []))

-- a writer took the line of a token that is not attached, or of a signature that isn't available, if what it takes is
-- known
abbrev pub TellsUnattached : (before after : Option (List ℕ)) → Type 0
TellsUnattached before after = (why : AttachFault) × Appends before after
    (said (codes "refused") (attach_fault_text why))

-- a writer took the line of a rule by which a stamp's token doesn't pass, if what it takes is known
abbrev pub TellsUnstamped : (before after : Option (List ℕ)) → Type 0
TellsUnstamped before after = (why : TokenRule) × Appends before after
    (said (codes "refused") (token_rule_text why))

-- a writer took the line of a rule by which an evidence record is refused, by itself or beside another file, if what it
-- takes is known
abbrev pub TellsUnshown : (before after : Option (List ℕ)) → Type 0
TellsUnshown before after = ((why : EvidenceRefused) × (unshown_status why ≡ status.Refused)
    × Appends before after (evidence_refused_text why ++ (10 ∷ [])))
    ⊎ TellsUnevidenced status.Refused before after

-- a writer took the line of a rule by which a token can't be the stamp of a root, if what it takes is known
abbrev pub TellsUnstamping : (before after : Option (List ℕ)) → Type 0
TellsUnstamping before after = (why : StampFault) × Appends before after
    (said (codes "refused") (stamp_fault_text why))

-- a writer took the line of a rule by which no evidence record is made, if what it takes is known
abbrev pub TellsUnmade : (before after : Option (List ℕ)) → Type 0
TellsUnmade before after = (why : MakeFault) × Appends before after (said (codes "refused") (make_fault_text why))

-- a writer took the line of a rule by which an evidence record can't be renewed, if what it takes is known
abbrev pub TellsUnrenewable : (before after : Option (List ℕ)) → Type 0
TellsUnrenewable before after = (why : LeafFault) × Appends before after
    (said (codes "refused") (leaf_fault_text why))

-- a writer took the line that evidence records are by different algorithms, if what it takes is known
abbrev pub TellsMixed : (before after : Option (List ℕ)) → Type 0
TellsMixed before after = Appends before after (said (codes "refused") (codes "U4 Mixed"))

-- a writer took the line of a rule by which evidence records are not made or renewed, if what it takes is known
abbrev pub TellsMaking : (before after : Option (List ℕ)) → Type 0
TellsMaking before after = TellsSums status.Refused before after
    ⊎ (TellsUnstamping before after ⊎ (TellsUnmade before after
    ⊎ (TellsUnrenewable before after ⊎ TellsMixed before after)))

-- a writer took the line of a rule that refuses a file, if what it takes is known
abbrev pub TellsRefusal : (before after : Option (List ℕ)) → Type 0
TellsRefusal before after = TellsAnotherType before after
    ⊎ (TellsUnmatched before after ⊎ (TellsUnasked before after
    ⊎ (TellsUnlike before after ⊎ (TellsUncompared status.Refused before after ⊎ (TellsUnattached before after
    ⊎ (TellsUnstamped before after ⊎ (TellsUnshown before after ⊎ (TellsMaking before after ⊎ ((why : Refused)
    × (refused_status why ≡ status.Refused) × Appends before after (refused_text why ++ (10 ∷ [])))))))))))
