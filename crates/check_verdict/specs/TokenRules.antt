-- The first of K1 to K14 that a token fails: the order of the rules.
use Rattle.std.specs.Prelude.{◌≡◌, ⊤, ℕ, zero, suc, ◌⊎◌, Bool, true, false, List, [], Some, unwrap_or, Result, Ok, Err}
use Rattle.std.specs.Prelude.{if◌then◌else◌}
use Rattle.std.specs.Option.{ok_or}
use Rattle.der_core.specs.declared.fault.Fault.{Fault}
use Rattle.der_core.specs.declared.flag.Flag.{Flag}
use Rattle.der_core.specs.declared.flag.Flag.TheVariants as flag
use Rattle.der_core.specs.Faults.{Faults}
use Rattle.der_core.specs.Lists.{some, is_same, only}
use Rattle.der_core.specs.Results.{◌>>=◌, or_as}
use Rattle.der_core.specs.Grammar.{file}
use Rattle.der_grammar.specs.Table.{tst_info}
use Rattle.der_time.specs.Moments.{generalized_moment}
use Rattle.cert_types.specs.ExtensionValue.{ExtensionValue}
use Rattle.cert_types.specs.Purposes.{IsStampingOnly}
use Rattle.digests.specs.declared.algorithm.Alg.{Alg}
use Rattle.cms_types.specs.AttributeValue.{AttributeValue}
use Rattle.cms_types.specs.SignerValue.{SignerValue}
use Rattle.cms_types.specs.SignedDataValue.{SignedDataValue}
use Rattle.cms_types.specs.declared.fault.CmsFault.{CmsFault}
use Rattle.check_fit.specs.declared.policy.Policy.{Policy}
use Rattle.check_fit.specs.declared.rules.TokenRule.{TokenRule}
use Rattle.check_fit.specs.declared.rules.TokenRule.TheVariants as rule
use Rattle.check_fit.specs.Fitting.{allowed, signer_answer}
use Rattle.check_fit.specs.FileFitting.{IsReading}
use Rattle.tsp_types.specs.TstValue.{TstValue, EncodesTst}
use Rattle.trust_lists.specs.Entries.{EntryValue}
use Rattle.trust_lists.specs.declared.role.Role.TheVariants.{Tsa}
use Rattle.check_verdict.specs.Trusted.{Holds}
use Rattle.digests.specs.Named.{alg_named}
use Rattle.check_names.specs.Naming.{Matches, MustName}
use Rattle.check_verdict.specs.Filters.{StopsAt}
use Rattle.tsp_types.specs.TstValue.{id_tst_info}
use Rattle.check_verdict.specs.Passing.{Terms, Due, of_octets, Vouched}

abbrev pub is_critical : ExtensionValue → Bool
is_critical e = spelled e.critical
  where
    spelled : Flag → Bool
    spelled flag.Absent = false
    spelled flag.False = false
    spelled flag.True = true

-- what octets are read as that should be a TSTInfo: the one that they encode, or a fault that they have
abbrev pub IsTstReading : List ℕ → Result TstValue Fault → Type 0
IsTstReading bytes (Ok v) = EncodesTst bytes v
IsTstReading bytes (Err f) = Faults (file tst_info) bytes f

-- what K1 to K9 depend on: what the token's octets are read as, and those of its content
pub record Reads (token : List ℕ) (signed : Result SignedDataValue CmsFault)
    (stamp : Result TstValue Fault) : Type 0 where
  pub is_signed : IsReading token signed
  pub is_stamp : (v : SignedDataValue) (content : List ℕ) → signed ≡ Ok v → v.encapsulated.content ≡ Some content
      → IsTstReading content stamp

-- what a token states: who signed it, and at which moment what was stamped existed
pub record TokenClaim : Type 0 where
  pub signer : SignerValue
  pub attributes : List AttributeValue
  pub moment : ℕ

-- the same, and by which algorithm which imprint, if K1 to K8 hold
pub record Statement : Type 0 where
  pub claim : TokenClaim
  pub alg : Alg
  pub imprint : List ℕ

-- K2 and K3: the content, which is a TSTInfo by its type
abbrev pub held : SignedDataValue → Result (List ℕ) TokenRule
held v = if is_same v.encapsulated.content_type id_tst_info then ok_or v.encapsulated.content rule.NoContent
    else Err rule.ContentType

-- K4 and K5: the one signer, whose signed attributes belong to this content
abbrev pub signed_by : Policy → SignedDataValue → (content : List ℕ) → Result SignerValue TokenRule
signed_by policy v content = ok_or (only v.signers) rule.OneSigner >>= λ s.
    or_as rule.Attributes (signer_answer policy content id_tst_info s) >>= λ u. Ok s

-- K7 and K8: the algorithm of the imprint, which is allowed
abbrev pub imprint_alg : Policy → TstValue → Result Alg TokenRule
imprint_alg policy x = if some is_critical (unwrap_or x.extensions []) then Err rule.CriticalExtension
    else ok_or (allowed policy (alg_named x.imprint.algorithm)) rule.ImprintAlgorithm

-- what a signer states, and the time that its content states
abbrev pub claimed : SignerValue → TstValue → TokenClaim
claimed s x = record { signer = s; attributes = unwrap_or s.signed_attributes []; moment = generalized_moment x.time }

-- the same with its imprint
abbrev pub stated : SignerValue → TstValue → Alg → Statement
stated s x alg = record { claim = claimed s x; alg = alg; imprint = x.imprint.digest }

-- what it states, or the first of K1 to K8 that fails
abbrev pub token_statement : Policy → Result SignedDataValue CmsFault → Result TstValue Fault
    → Result Statement TokenRule
token_statement policy signed stamp = or_as rule.Malformed signed >>= λ v.
    held v >>= λ content.
    signed_by policy v content >>= λ s.
    or_as rule.TstMalformed stamp >>= λ x.
    imprint_alg policy x >>= λ alg. Ok (stated s x alg)

-- K8 and K9: the imprint is what is due by its algorithm
abbrev pub due_claim : Due → Statement → Result TokenClaim TokenRule
due_claim due s = ok_or (due s.alg) rule.ImprintAlgorithm >>= λ digest.
    if is_same s.imprint digest then Ok s.claim else Err rule.ImprintDiffers

-- what it states, or the first of K1 to K9 that fails
abbrev pub token_claim : Policy → Due → Result SignedDataValue CmsFault → Result TstValue Fault
    → Result TokenClaim TokenRule
token_claim policy due signed stamp = token_statement policy signed stamp >>= due_claim due

-- the same for octets, by what they and their content are read as
abbrev pub IsStatement : Policy → (token : List ℕ) → Result Statement TokenRule → Type 0
IsStatement policy token result = (signed : Result SignedDataValue CmsFault) × (stamp : Result TstValue Fault)
    × Reads token signed stamp × (result ≡ token_statement policy signed stamp)

abbrev pub IsClaim : Policy → Due → (token : List ℕ) → Result TokenClaim TokenRule → Type 0
IsClaim policy due token result = (signed : Result SignedDataValue CmsFault) × (stamp : Result TstValue Fault)
    × Reads token signed stamp × (result ≡ token_claim policy due signed stamp)

-- what an entry passes that is left after each of the filters K10 to K14
abbrev pub IsAuthority : TokenClaim → EntryValue → Type 0
IsAuthority c e = (e.role ≡ Tsa) × Matches c.signer.sid e.certificate

abbrev pub IsNamedOne : TokenClaim → EntryValue → Type 0
IsNamedOne c e = IsAuthority c e × MustName c.attributes e.certificate

abbrev pub IsForStamping : TokenClaim → EntryValue → Type 0
IsForStamping c e = IsNamedOne c e × IsStampingOnly e.certificate

abbrev pub IsInPeriod : TokenClaim → EntryValue → Type 0
IsInPeriod c e = IsForStamping c e × Holds e c.moment

abbrev pub LeftForToken : Terms → TokenClaim → ℕ → EntryValue → Type 0
LeftForToken t c zero e = ⊤
LeftForToken t c (suc zero) e = IsAuthority c e
LeftForToken t c (suc (suc zero)) e = IsNamedOne c e
LeftForToken t c (suc (suc (suc zero))) e = IsForStamping c e
LeftForToken t c (suc (suc (suc (suc zero)))) e = IsInPeriod c e
LeftForToken t c (suc (suc (suc (suc (suc n))))) e = IsInPeriod c e × Vouched t e c.signer c.attributes

-- the rule that fails if none is left after the filter n + 1
abbrev pub token_filter : ℕ → TokenRule
token_filter zero = rule.UnknownTsa
token_filter (suc zero) = rule.NotNamed
token_filter (suc (suc zero)) = rule.Purpose
token_filter (suc (suc (suc zero))) = rule.Period
token_filter (suc (suc (suc (suc n)))) = rule.SignatureFails

-- the first of K10 to K14 that fails
pub record RunsOut (t : Terms) (c : TokenClaim) (failed : TokenRule) : Type 0 where
  pub filter : ℕ
  pub stops : StopsAt (LeftForToken t c) 5 t.trust filter
  pub is : failed ≡ token_filter filter

-- the first of K1 to K14 that the token fails, where this is due as its imprint
pub record TokenFailsFor (t : Terms) (token : List ℕ) (due : Due) (failed : TokenRule) : Type 0 where
  pub signed : Result SignedDataValue CmsFault
  pub stamp : Result TstValue Fault
  pub reads : Reads token signed stamp
  pub first : (token_claim t.policy due signed stamp ≡ Err failed)
      ⊎ ((c : TokenClaim) × (token_claim t.policy due signed stamp ≡ Ok c) × RunsOut t c failed)

-- the first that it fails for octets that were stamped
abbrev pub TokenFails : Terms → (token stamped : List ℕ) → (failed : TokenRule) → Type 0
TokenFails t token stamped failed = TokenFailsFor t token (of_octets stamped) failed
