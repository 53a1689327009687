-- The rules by what a pass kept are the rules by the SignedData that the octets encode.
use Rattle.std.proofs.Common.{◌≡◌, ℕ, ◌<◌, Bool, true, false, cond, List, length, Option, Some, None, Result, Ok, Err}
use Rattle.std.proofs.Common.{refl, sym, ap, subst, ◌∙◌, arith}
use Rattle.std.specs.Prelude.{is_some, ◌==◌, ◌↔◌, IsTrue}
use Rattle.std.proofs.lemmas.Bool.{eqb-false, eqb-true}
use Rattle.der_core.specs.OpenFaults.{FaultsOpenly}
use Rattle.der_core.specs.Grammar.{file}
use Rattle.der_grammar.specs.Table.{content_info}
use Rattle.digests.specs.declared.algorithm.Alg.{Alg}
use Rattle.digests.specs.declared.set.Algs.{Algs}
use Rattle.digests.specs.Sets.{is_in}
use Rattle.digests.specs.declared.selection.Wanted.{Wanted}
use Rattle.digests.specs.declared.selection.WantedDigests.{WantedDigests}
use Rattle.digests.specs.Selection.{FedWanted, set_of, set_given}
use Rattle.cms_types.specs.SignerValue.{SignerValue}
use Rattle.cms_types.specs.SignedDataValue.{SignedDataValue, EncodesSignedData}
use Rattle.cms_types.specs.declared.fault.CmsFault.{CmsFault}
use Rattle.cms_types.specs.declared.fault.CmsFault.TheVariants as cms
use Rattle.check_fit.specs.declared.policy.Policy.{Policy}
use Rattle.check_fit.specs.declared.rules.FileRule.TheVariants as rule
use Rattle.check_fit.specs.declared.rules.DeviceFault.{DeviceFault}
use Rattle.check_fit.specs.declared.rules.DeviceFault.TheVariants as device
use Rattle.check_fit.specs.declared.rules.Refused.{Refused}
use Rattle.check_fit.specs.declared.rules.Refused.TheVariants as refused
use Rattle.check_fit.specs.FileFitting.{SourceFacts, IsReadingBy, placed, file_rules, HashesSource, OfSource, fails}
use Rattle.check_fit.specs.FileFitting.{too_long, read, OfContent, OfRules}
use Rattle.check_fit.specs.FileFitting.{OfFile}
use Rattle.check_fit.specs.Fitting.{WantedBy}
use Rattle.check_fit.proofs.FileLaw.{provided, source_fails}
use Rattle.cms_stream.specs.Passing.{Carries}
use Rattle.cms_stream.specs.Opening.{OpenedValue, IsOpened, OpensStream}
use Rattle.check_stream.specs.KeptRules.{kept_place, kept_rules}
use Rattle.check_stream.specs.Hashing.{AreWanted, HashesWanted}
use Rattle.check_stream.specs.JudgedKept.{IsLeft}

abbrev refusal : Refused → Result SignedDataValue Refused
refusal e = Err e

abbrev okay : SignedDataValue → Result SignedDataValue Refused
okay v = Ok v

abbrev kept_as : OpenedValue → Result OpenedValue Refused
kept_as o = Ok o

-- what no rule refuses: it has a signer, and its content in one place
pub record IsKept (opened : Option OpenedValue) (handed : Bool) (o : OpenedValue) : Type 0 where
  pub is : opened ≡ Some o
  pub place : kept_place o o.attached handed ≡ Ok o
  pub some : 0 < length o.signers

place_same : (o w : OpenedValue) (attached handed : Bool) → kept_place o attached handed ≡ Ok w → o ≡ w
place_same o w false false k = absurd cc
place_same o w false true k = cc
place_same o w true false k = cc
place_same o w true true k = absurd cc

pub is_kept : (opened : Option OpenedValue) (handed : Bool) (w : OpenedValue) → kept_rules opened handed ≡ Ok w
    → IsKept opened handed w
is_kept None handed w k = absurd cc
is_kept (Some o) handed w k = go (length o.signers == 0) refl k
  where
    some : OpenedValue → Option OpenedValue
    some x = Some x

    go : (b : Bool) → (length o.signers == 0) ≡ b
        → cond b (Err (refused.File rule.NoSigner)) (kept_place o o.attached handed) ≡ Ok w → IsKept (Some o) handed w
    go true e h = absurd cc
    go false e h = let same = place_same o w o.attached handed h in record {
      is = ap some same;
      place = subst (λ (x : OpenedValue). kept_place x x.attached handed ≡ Ok w) same h;
      some = subst (λ (x : OpenedValue). 0 < length x.signers) same (omega (arith, eqb-false (length o.signers) 0 e));
    }

-- the rules by whether a content is handed in
pub kept_by : (opened : Option OpenedValue) (handed b : Bool) (r w : Result OpenedValue Refused) → b ≡ handed
    → r ≡ kept_rules opened b → r ≡ w
    → kept_rules opened handed ≡ w
kept_by opened handed b r w e k is = subst (λ (x : Bool). kept_rules opened x ≡ w) e (sym k ∙ is)

-- with no other content it has its own
own_content : (o w : OpenedValue) (attached : Bool) → kept_place o attached false ≡ Ok w → attached ≡ true
own_content o w false k = absurd cc
own_content o w true k = refl

module _ (gains : List ℕ → Type 0) where
  place_refused : (o : OpenedValue) (v : SignedDataValue) (attached handed : Bool) (own : Option (List ℕ)) (e : Refused)
      → Carries gains attached own
      → kept_place o attached handed ≡ Err e → placed v own handed ≡ Err e
  place_refused o v false false own e c k =
      let z : refused.File rule.NoContent ≡ e = cc in
      subst (λ (x : Option (List ℕ)). placed v x false ≡ Err e) (sym c.0) (ap refusal z)
  place_refused o v false true own e c k = absurd cc
  place_refused o v true false own e c k = absurd cc
  place_refused o v true true own e c k =
      let z : refused.File rule.ContentTwice ≡ e = cc in
      subst (λ (x : Option (List ℕ)). placed v x true ≡ Err e) (sym c.1) (ap refusal z)

  place_left : (o : OpenedValue) (v : SignedDataValue) (attached handed : Bool) (own : Option (List ℕ))
      → Carries gains attached own
      → kept_place o attached handed ≡ Ok o → placed v own handed ≡ Ok v
  place_left o v false false own c k = absurd cc
  place_left o v false true own c k = subst (λ (x : Option (List ℕ)). placed v x true ≡ Ok v) (sym c.0) refl
  place_left o v true false own c k = subst (λ (x : Option (List ℕ)). placed v x false ≡ Ok v) (sym c.1) refl
  place_left o v true true own c k = absurd cc

  rules_refused : (o : OpenedValue) (v : SignedDataValue) (handed : Bool) (e : Refused) → IsOpened gains o v
      → kept_rules (Some o) handed ≡ Err e
      → file_rules (Ok v) handed ≡ Err e
  rules_refused o v handed e is k =
      subst (λ (xs : List SignerValue). cond (length xs == 0) (refusal (refused.File rule.NoSigner))
      (placed v v.encapsulated.content handed) ≡ Err e) is.1
      (go (length o.signers == 0) k)
    where
      go : (b : Bool) → cond b (Err (refused.File rule.NoSigner)) (kept_place o o.attached handed) ≡ Err e
          → cond b (refusal (refused.File rule.NoSigner)) (placed v v.encapsulated.content handed) ≡ Err e
      go true h = let z : refused.File rule.NoSigner ≡ e = cc in ap refusal z
      go false h = place_refused o v o.attached handed v.encapsulated.content e is.2 h

  rules_left : (o : OpenedValue) (v : SignedDataValue) (handed : Bool) → IsOpened gains o v → IsKept (Some o) handed o
      → file_rules (Ok v) handed ≡ Ok v
  rules_left o v handed is k = go (length v.signers == 0) refl
    where
      go : (b : Bool) → (length v.signers == 0) ≡ b
          → cond b (refusal (refused.File rule.NoSigner)) (placed v v.encapsulated.content handed) ≡ Ok v
      go true e =
          absurd (let n : length v.signers
          ≡ 0 = eqb-true (length v.signers) 0 e in let z = ap (λ (xs : List SignerValue). length xs) is.1 in
          omega (arith, n, z, k.some))
      go false e = place_left o v o.attached handed v.encapsulated.content is.2 k.place

-- ---- a content that was handed in

module _ {S : Type 0} (facts : SourceFacts S) (policy : Policy) (signers : List SignerValue) (hashers : Wanted)
    (wanted : Algs) (before : Option S) (s s' : S)
    (is : before ≡ Some s) where
  handed : (outcome : Result WantedDigests Refused)
      → OfSource (AreWanted policy signers) (facts.tells s) (facts.rest s) (facts.rest s') (facts.failures s)
      (facts.failures s') outcome
      → HashesWanted facts policy signers hashers before (Some s') (Some outcome)
  handed outcome source =
      subst (λ (o : Option S). HashesWanted facts policy signers hashers o (Some s') (Some outcome)) (sym is)
      (s', refl, outcome, refl, source)

  -- its source was read to its end
  pub handed_hashed : (digests : WantedDigests)
      → ((alg : Alg) → IsTrue (is_in alg wanted) ↔ WantedBy policy signers alg)
      → HashesSource wanted (facts.tells s) (facts.rest s) (facts.rest s') (facts.failures s) (facts.failures s')
      (Ok digests)
      → HashesWanted facts policy signers hashers before (Some s') (Some (Ok digests))
  handed_hashed digests iff h =
      handed (Ok digests) (read h.2 h.3 h.0 h.4 h.5 (h.6, provided policy signers wanted (set_given digests) h.1 iff))

  -- or failed, or was too long
  pub handed_failed : (fault : DeviceFault)
      → HashesSource wanted (facts.tells s) (facts.rest s) (facts.rest s') (facts.failures s) (facts.failures s')
      (Err fault)
      → HashesWanted facts policy signers hashers before (Some s') (Some (Err (refused.Device fault)))
  handed_failed fault h =
      handed (Err (refused.Device fault))
      (source_fails (AreWanted policy signers) wanted (facts.tells s) (facts.rest s) (facts.rest s') (facts.failures s)
      (facts.failures s') fault h)

-- ---- a file that a rule refuses

module _ {S : Type 0} (facts : SourceFacts S) (J : List ℕ → SignedDataValue → Result ℕ Refused → Type 0) where
  -- the verdict that is right for what the octets read as
  abbrev pub Reads : (octets : List ℕ) (before after : Option S) → Result ℕ Refused → Type 0
  Reads octets before after result =
      (reading : Result SignedDataValue CmsFault) × IsReadingBy (FaultsOpenly (file content_info)) octets reading
      × OfFile facts J reading before after result

  abbrev refused_by : Refused → Result ℕ Refused
  refused_by e = Err e

  pub kept_refused : (gains : List ℕ → Type 0) (octets : List ℕ) (room : ℕ) (opened : Option OpenedValue)
      (before : Option S) (e : Refused)
      → OpensStream gains room octets (Ok opened) → kept_rules opened (is_some before) ≡ Err e
      → Reads octets before before (Err e)
  kept_refused gains octets room None before e another k =
      let z : refused.File rule.NotSignedData ≡ e = cc in
      (Err cms.NotSignedData, another, (ap refused_by (sym z), refl))
  kept_refused gains octets room (Some o) before e (v, encodes, is) k = (
    Ok v,
    encodes,
    subst (λ (r : Result SignedDataValue Refused). OfRules facts J r before before (Err e))
        (sym (rules_refused gains o v (is_some before) e is k))
        (refl, refl),
  )

  -- ---- a file that none refuses

  -- the content of a SignedData that passed
  passed_content : (gains : List ℕ → Type 0) (o : OpenedValue) (v : SignedDataValue) (attached : Bool)
      (own : Option (List ℕ)) → Carries gains attached own
      → attached ≡ true → (c : List ℕ) × (own ≡ Some c) × gains c
  passed_content gains o v false own c is = absurd cc
  passed_content gains o v true own c is = c

  module _ (policy : Policy) (signers : List SignerValue) (v : SignedDataValue) (telling : Type 0)
      (before after : List ℕ) (count count' : ℕ) where
    source_to : (outcome : Result WantedDigests Refused) (result : Result ℕ Refused)
        → ((e : Refused) → outcome ≡ Err e → result ≡ Err e)
        → ((content : List ℕ) → AreWanted policy signers content outcome → J content v result)
        → OfSource (AreWanted policy signers) telling before after count count' outcome
        → OfSource (λ content. J content v) telling before after count count' result
    source_to outcome result same f (fails e) =
        subst (λ (x : Result ℕ Refused). OfSource (λ content. J content v) telling before after count count' x)
        (sym (same (refused.Device device.ReadFailed) refl)) (fails e)
    source_to outcome result same f (too_long e many) =
        subst (λ (x : Result ℕ Refused). OfSource (λ content. J content v) telling before after count count' x)
        (sym (same (refused.Device device.ContentTooLong) refl)) (too_long e many)
    source_to outcome result same f (read content small e all done j) =
        read content small e all done (f content j)

  -- what is right for the content and its digests
  module _ (policy : Policy) (signers : List SignerValue) (o : OpenedValue) (v : SignedDataValue)
      (hashers : Wanted) where
    hashed : (before after : Option S) (outcome : Result WantedDigests Refused) (result : Result ℕ Refused)
        → kept_place o o.attached (is_some before) ≡ Ok o
        → Carries (FedWanted hashers) o.attached v.encapsulated.content
        → HashesWanted facts policy signers hashers before after (Some outcome)
        → ((e : Refused) → outcome ≡ Err e → result ≡ Err e)
        → ((content : List ℕ) → AreWanted policy signers content outcome → J content v result)
        → OfContent facts J v before after result
    hashed None after outcome result place carries (none, made) same f =
        let c = passed_content (FedWanted hashers) o v o.attached v.encapsulated.content carries
        (own_content o o o.attached place) in (
          none,
          c.0,
          c.1,
          f c.0 (subst (λ (r : Result WantedDigests Refused). AreWanted policy signers c.0 r)
              (sym made.1) (made.2 c.0 c.2)),
        )
    hashed (Some s) after outcome result place carries (s', is, other, some, source) same f =
        let z : outcome ≡ other = cc in (
          s',
          is,
          source_to policy signers v (facts.tells s) (facts.rest s) (facts.rest s') (facts.failures s)
              (facts.failures s') outcome result same f
              (subst (λ (r : Result WantedDigests Refused).
              OfSource (AreWanted policy signers) (facts.tells s) (facts.rest s) (facts.rest s')
              (facts.failures s) (facts.failures s') r) (sym z) source),
        )

  module _ (policy : Policy) (hashers : Wanted) (octets : List ℕ) (room : ℕ) (opened : Option OpenedValue)
      (o : OpenedValue) (before after : Option S)
      (outcome : Result WantedDigests Refused) (result : Result ℕ Refused) where
    pub kept_judged : OpensStream (FedWanted hashers) room octets (Ok opened)
        → kept_rules opened (is_some before) ≡ Ok o
        → HashesWanted facts policy o.signers hashers before after (Some outcome)
        → ((e : Refused) → outcome ≡ Err e → result ≡ Err e)
        → ((v : SignedDataValue) → EncodesSignedData octets v → o.content_type ≡ v.encapsulated.content_type
        → o.signers ≡ v.signers → 0 < length o.signers
        → (content : List ℕ) → AreWanted policy o.signers content outcome → J content v result)
        → Reads octets before after result
    kept_judged opens k h same f =
        let i = is_kept opened (is_some before) o k in
        let there : OpensStream (FedWanted hashers) room octets (Ok (Some o)) = subst
        (λ (x : Option OpenedValue). OpensStream (FedWanted hashers) room octets (Ok x)) i.is opens in
        let v = there.0 in
        let is = there.2 in
        let kept : IsKept (Some o) (is_some before) o = record { is = refl; place = i.place; some = i.some } in (
          Ok v,
          there.1,
          subst (λ (r : Result SignedDataValue Refused). OfRules facts J r before after result)
              (sym (rules_left (FedWanted hashers) o v (is_some before) is kept))
              (hashed policy o.signers o v hashers before after outcome result i.place is.2 h same
              (f v there.1 is.0 is.1 i.some)),
        )

  -- the content could not be had
  module _ (policy : Policy) (signers : List SignerValue) (hashers : Wanted) (octets : List ℕ) (room : ℕ)
      (opened : Option OpenedValue) (o : OpenedValue)
      (before after : Option S) (outcome : Result WantedDigests Refused) (e : Refused) where
    pub kept_failed : OpensStream (FedWanted hashers) room octets (Ok opened)
        → kept_rules opened (is_some before) ≡ Ok o → signers ≡ o.signers
        → outcome ≡ Err e → HashesWanted facts policy signers hashers before after (Some outcome)
        → Reads octets before after (Err e)
    kept_failed opens k are is h =
        kept_judged policy hashers octets room opened o before after outcome (Err e) opens k
        (subst (λ (xs : List SignerValue). HashesWanted facts policy xs hashers before after (Some outcome)) are h)
        (λ f j. ap refused_by (same f j))
        (λ v encodes type sigs some content has.
        absurd (subst (λ (r : Result WantedDigests Refused). AreWanted policy o.signers content r) is has))
      where
        same : (f : Refused) → outcome ≡ Err f → e ≡ f
        same f j = let z = sym is ∙ j in cc

  -- a digest is lacking
  pub is_left :
      (policy : Policy) (hashers : Wanted) (opened : Option OpenedValue) (o : OpenedValue) (before after : Option S)
      → kept_rules opened (is_some before) ≡ Ok o → HashesWanted facts policy o.signers hashers before after None
      → IsLeft policy opened (set_of hashers) before after
  is_left policy hashers opened o None after k (none, lacks) =
      let i = is_kept opened false o k in (o, i.is, own_content o o o.attached i.place, lacks, refl, none)
  is_left policy hashers opened o (Some s) after k (s', is, other, some, source) = absurd (let z = some in cc)
