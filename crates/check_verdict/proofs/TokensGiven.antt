-- Each token passes or fails.
use Rattle.std.proofs.Common.{◌≡◌, ℕ, zero, suc, List, [], ◌∷◌, Option, Some, None, Result, Ok}
use Rattle.std.proofs.Common.{Err, refl, sym, ap, subst, ◌∙◌, arith, inl}
use Rattle.std.proofs.Common.{inr, ◌⊎◌}
use Rattle.std.specs.Prelude.{Any, IfSome}
use Rattle.std.specs.List.{AllByRecursion}
use Rattle.der_core.specs.declared.fault.Fault.{Fault}
use Rattle.der_core.specs.Element.{IsBytes}
use Rattle.cms_types.specs.AttributeValue.{AttributeValue}
use Rattle.cms_types.specs.SignerValue.{SignerValue}
use Rattle.cms_types.specs.SignedDataValue.{SignedDataValue}
use Rattle.cms_types.specs.declared.fault.CmsFault.{CmsFault}
use Rattle.check_fit.specs.declared.rules.TokenRule.{TokenRule}
use Rattle.check_fit.specs.FileFitting.{IsReading}
use Rattle.tsp_types.specs.TstValue.{TstValue}
use Rattle.tsp_types.specs.TstReading.{tst_at}
use Rattle.tsp_types.proofs.TstReaders.{tst_takes, tst_fault}
use Rattle.trust_lists.specs.Entries.{EntryValue}
use Rattle.digests.specs.Named.{alg_named}
use Rattle.check_verdict.specs.Passing.{Terms, Due, IsDue, StampedUnder, PassesFor}
use Rattle.check_verdict.specs.TokenRules.{IsTstReading, Reads, TokenClaim, token_claim, IsAuthority, IsNamedOne}
use Rattle.check_verdict.specs.TokenRules.{IsForStamping, IsInPeriod, LeftForToken}
use Rattle.check_verdict.specs.TokenRules.{token_filter, TokenFailsFor}
use Rattle.check_verdict.specs.Alone.{any_fault}
use Rattle.check_verdict.specs.Laws.{TokensPassOrFail}
use Rattle.check_verdict.proofs.Lists.{along}
use Rattle.digests.proofs.Named.{named_says}
use Rattle.check_verdict.proofs.Claims.{Says, claim_says, signer_says, is_due}
use Rattle.check_fit.proofs.Octets.{ValuesAreOctets, SignerOctets, SignedOctets, signed_octets}
use Rattle.check_names.proofs.Deciding.{Decided, both, must_name}
use Rattle.check_verdict.proofs.Deciding.{stamping, matches, stamping_only, holds, vouched, run}
use Rattle.check_fit.proofs.FitLaw.{allowed_is}
use Rattle.check_fit.proofs.Readings.{reading_of}

-- ---- readings

tst_of : (bytes : List ℕ) → IsBytes bytes → (r : Result TstValue Fault) × IsTstReading bytes r
tst_of bytes fits = go (tst_at bytes) refl
  where
    go : (r : Result TstValue Fault) → tst_at bytes ≡ r → (r : Result TstValue Fault) × IsTstReading bytes r
    go (Ok v) e = (Ok v, tst_takes bytes v fits e)
    go (Err f) e = (Err f, tst_fault bytes f fits e)

same_content : (a b : List ℕ) → Some a ≡ Some b → a ≡ b
same_content a b e = cc

abbrev Stamp : Option (List ℕ) → Type 0
Stamp o = (stamp : Result TstValue Fault) × ((content : List ℕ) → o ≡ Some content → IsTstReading content stamp)

no_stamp : Stamp None
no_stamp = (Err any_fault, λ content e. absurd (let z = e in cc))

stamp_of : (o : Option (List ℕ)) → IfSome o IsBytes → Stamp o
stamp_of None h = no_stamp
stamp_of (Some b) h =
    let r = tst_of b h in (r.0, λ content e. subst (λ (x : List ℕ). IsTstReading x r.0) (same_content b content e) r.1)

abbrev okay : SignedDataValue → Result SignedDataValue CmsFault
okay v = Ok v

same_value : (v w : SignedDataValue) → okay v ≡ okay w → v ≡ w
same_value v w e = cc

abbrev Looks : List ℕ → Type 0
Looks token = (signed : Result SignedDataValue CmsFault) × (stamp : Result TstValue Fault) × Reads token signed stamp

-- what the content of a SignedData reads as, where there is one
pub looks_at : (token : List ℕ) (v : SignedDataValue) → IsBytes token → IsReading token (Ok v)
    → (stamp : Result TstValue Fault) × Reads token (Ok v) stamp
looks_at token v fits is =
    let s = stamp_of v.encapsulated.content (signed_octets token v is fits).content in (
      s.0,
      record {
        is_signed = is;
        is_stamp = λ w content e present.
            s.1 content (ap (λ (x : SignedDataValue). x.encapsulated.content) (same_value v w e) ∙ present);
      },
    )

looks_of : (token : List ℕ) → IsBytes token → Looks token
looks_of token fits = let r = reading_of token fits in go r.0 r.1
  where
    go : (r : Result SignedDataValue CmsFault) → IsReading token r → Looks token
    go (Ok v) is = let l = looks_at token v fits is in (Ok v, l.0, l.1)
    go (Err f) is =
        (Err f, Err any_fault, record { is_signed = is; is_stamp = λ w content e present. absurd (let z = e in cc) })

-- ---- the filters

authority : (c : TokenClaim) (e : EntryValue) → Decided (IsAuthority c e)
authority c e = both (stamping e.role) (matches c.signer.sid e.certificate)

named_one : (c : TokenClaim) (e : EntryValue) → ValuesAreOctets c.attributes → Decided (IsNamedOne c e)
named_one c e octets = both (authority c e) (must_name c.attributes e.certificate octets)

for_stamping : (c : TokenClaim) (e : EntryValue) → ValuesAreOctets c.attributes → Decided (IsForStamping c e)
for_stamping c e octets = both (named_one c e octets) (stamping_only e.certificate)

in_period : (c : TokenClaim) (e : EntryValue) → ValuesAreOctets c.attributes → Decided (IsInPeriod c e)
in_period c e octets = both (for_stamping c e octets) (holds e c.moment)

left : (t : Terms) (c : TokenClaim) → ValuesAreOctets c.attributes → (k : ℕ) (e : EntryValue)
    → Decided (LeftForToken t c k e)
left t c octets zero e = inl tt
left t c octets (suc zero) e = authority c e
left t c octets (suc (suc zero)) e = named_one c e octets
left t c octets (suc (suc (suc zero))) e = for_stamping c e octets
left t c octets (suc (suc (suc (suc zero)))) e = in_period c e octets
left t c octets (suc (suc (suc (suc (suc n))))) e = both (in_period c e octets) (vouched t e c.signer c.attributes)

-- ---- the token

signer_of : (v : SignedDataValue) (s : SignerValue) → v.signers ≡ s ∷ [] → SignedOctets v → SignerOctets s
signer_of v s one octets =
    let h : AllByRecursion SignerOctets (s ∷ []) = subst (AllByRecursion SignerOctets) one octets.signers in h.0

pub attributes_of : (s : SignerValue) (attributes : List AttributeValue) → s.signed_attributes ≡ Some attributes
    → SignerOctets s → ValuesAreOctets attributes
attributes_of s attributes has octets = let h : IfSome (Some attributes) ValuesAreOctets =
    subst (λ (o : Option (List AttributeValue)). IfSome o ValuesAreOctets) has octets.attributes in h

under : (t : Terms) (c : TokenClaim) (e : EntryValue) → LeftForToken t c 5 e
    → StampedUnder t c.signer c.attributes c.moment e
under t c e (((((role, same), named), purpose), period), vouched) =
    record { role = role; matches = same; named = named; purpose = purpose; period = period; vouched = vouched }

pub passing : (t : Terms) (token : List ℕ) (due : Due) (signed : Result SignedDataValue CmsFault)
    (stamp : Result TstValue Fault) (c : TokenClaim)
    → Reads token signed stamp → Says t.policy due signed stamp c → Any (LeftForToken t c 5) t.trust
    → PassesFor t token due c.moment
passing t token due signed stamp c reads says any =
    let s = says.states in
    let named = allowed_is t.policy (alg_named s.tst.imprint.algorithm) says.statement.alg s.allows in
    let left = subst (λ (d : TokenClaim). Any (LeftForToken t d 5) t.trust) (sym says.claims) any in
    subst (λ (d : TokenClaim). PassesFor t token due d.moment) says.claims (record {
      signed = s.value;
      encodes = subst (IsReading token) s.reads reads.is_signed;
      econtent_type = s.econtent_type;
      content = s.content;
      present = s.present;
      signer = says.statement.claim.signer;
      one_signer = s.one_signer;
      attributes = says.statement.claim.attributes;
      has = s.has;
      fits = s.fits;
      stamp = s.tst;
      encodes_stamp = subst (IsTstReading s.content) s.reads_tst
          (reads.is_stamp s.value s.content s.reads s.present);
      calm = s.calm;
      imprint = record {
        alg = says.statement.alg;
        named = named_says s.tst.imprint.algorithm says.statement.alg named.0;
        allows = named.1;
        digest = subst (IsDue (due says.statement.alg)) (sym s.imprint)
            (is_due (due says.statement.alg) says.statement.imprint says.digest);
      };
      moment = s.moment;
      entry = along (LeftForToken t says.statement.claim 5)
          (StampedUnder t says.statement.claim.signer says.statement.claim.attributes says.statement.claim.moment)
          t.trust (λ e k p. under t says.statement.claim e p) left;
    })

abbrev PassesOrFails : Terms → (token : List ℕ) → Due → Type 0
PassesOrFails t token due =
    ((m : ℕ) × PassesFor t token due m) ⊎ ((failed : TokenRule) × TokenFailsFor t token due failed)

by_claim : (t : Terms) (token : List ℕ) (due : Due) → IsBytes token
    → (signed : Result SignedDataValue CmsFault) (stamp : Result TstValue Fault)
    → Reads token signed stamp → (r : Result TokenClaim TokenRule) → token_claim t.policy due signed stamp ≡ r
    → PassesOrFails t token due
by_claim t token due fits signed stamp reads (Err failed) e =
    inr (failed, record { signed = signed; stamp = stamp; reads = reads; first = inl e })
by_claim t token due fits signed stamp reads (Ok c) e =
    let says = claim_says t.policy due signed stamp c e in
    let its = signer_says t.policy due signed stamp c says in
    let octets = attributes_of c.signer c.attributes its.1
    (signer_of says.states.value c.signer its.0
    (signed_octets token says.states.value (subst (IsReading token) says.states.reads reads.is_signed) fits)) in
    elim (run (LeftForToken t c) 5 t.trust (omega arith) (left t c octets)) [
      | inl any ↦ inl (c.moment, passing t token due signed stamp c reads says any)
      | inr stops ↦ inr (
        token_filter stops.0,
        record {
          signed = signed;
          stamp = stamp;
          reads = reads;
          first = inr (c, e, record { filter = stops.0; stops = stops.1; is = refl });
        },
      )
    ]

pub pass_or_fail : TokensPassOrFail
pass_or_fail t token due fits =
    let l = looks_of token fits in by_claim t token due fits l.0 l.1 l.2 (token_claim t.policy due l.0 l.1) refl
