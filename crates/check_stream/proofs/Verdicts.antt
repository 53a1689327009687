-- From the verdict about signers, by the digests of a content, to the verdict about the octets of a stream.
use Rattle.std.proofs.Common.{◌≡◌, ◌∙◌, ℕ, ◌<◌, Bool, true, List, length, Option, Some, None, Result, Ok, Err, refl}
use Rattle.std.proofs.Common.{sym, ap, subst, inl, inr, ◌⊎◌}
use Rattle.std.specs.Prelude.{Contains, IfSome, IfOk, is_some}
use Rattle.digests.specs.declared.selection.Wanted.{Wanted}
use Rattle.digests.specs.declared.selection.WantedDigests.{WantedDigests}
use Rattle.digests.specs.Selection.{FedWanted}
use Rattle.cms_types.specs.SignerValue.{SignerValue}
use Rattle.cms_types.specs.declared.fault.CmsFault.TheVariants as cms
use Rattle.check_fit.specs.declared.rules.DeviceFault.TheVariants as device
use Rattle.check_fit.specs.declared.rules.Refused.{Refused}
use Rattle.check_fit.specs.declared.rules.Refused.TheVariants as refused
use Rattle.check_fit.specs.FileFitting.{SourceFacts, HasDigests}
use Rattle.trust_lists.specs.Asking.{Asked}
use Rattle.check_verdict.specs.Asks.{IsAskedOf}
use Rattle.check_verdict.specs.Passing.{Terms}
use Rattle.check_verdict.specs.Verdicts.{JudgesSigners}
use Rattle.check_verdict.specs.Checking.{JudgesAsking}
use Rattle.check_verdict.proofs.Acceptance.{of_signed}
use Rattle.check_verdict.proofs.Asks.{of_signed_data}
use Rattle.cms_stream.specs.Opening.{OpenedValue, OpensStream, CountsPass}
use Rattle.cms_stream.specs.declared.stream_fault.StreamFault.{StreamFault}
use Rattle.cms_stream.specs.declared.stream_fault.StreamFault.TheVariants as stream
use Rattle.check_stream.specs.KeptRules.{kept_rules}
use Rattle.check_stream.specs.Hashing.{HashesWanted}
use Rattle.check_stream.specs.StreamVerdicts.{OfStream, fails, too_long, told, ChecksStreamAsking, IsEarly}
use Rattle.check_stream.specs.JudgedKept.{stopped_by, Stopped, IsEarlyIn, OfPass}
use Rattle.check_stream.proofs.Keeping.{kept_judged}

module _ {S : Type 0} (facts : SourceFacts S) (t : Terms) (hashers : Wanted) (octets : List ℕ) (room : ℕ)
    (opened : Option OpenedValue) (o : OpenedValue)
    (before after : Option S) (digests : WantedDigests) (econtent_type : List ℕ) (signers : List SignerValue)
    (result : Result ℕ Refused)
    (opens : OpensStream (FedWanted hashers) room octets (Ok opened)) (kept : kept_rules opened (is_some before) ≡ Ok o)
    (hashes : HashesWanted facts t.policy signers hashers before after (Some (Ok digests)))
    (type_is : econtent_type ≡ o.content_type) (signers_are : signers ≡ o.signers)
    (judged : 0 < length signers → (content : List ℕ) → HasDigests t.policy content signers digests
    → JudgesSigners t content econtent_type signers result)
  where
    hashed : HashesWanted facts t.policy o.signers hashers before after (Some (Ok digests))
    hashed = subst (λ (xs : List SignerValue). HashesWanted facts t.policy xs hashers before after (Some (Ok digests)))
        signers_are hashes

    some_of : 0 < length o.signers → 0 < length signers
    some_of h = subst (λ (xs : List SignerValue). 0 < length xs) (sym signers_are) h

    digests_of : (content : List ℕ) → HasDigests t.policy content o.signers digests
        → HasDigests t.policy content signers digests
    digests_of content h = subst (λ (xs : List SignerValue). HasDigests t.policy content xs digests) (sym signers_are) h

    pub signers_judged : (OnlyAsked : (Asked → Bool) → Type 0)
        → ((content : List ℕ) → HasDigests t.policy content signers digests → (test : Asked → Bool)
        → ((s : SignerValue) → Contains signers s → (q : Asked) → IsAskedOf t content econtent_type s q → test q ≡ true)
        → OnlyAsked test)
        → ChecksStreamAsking facts t OnlyAsked octets before after result
    signers_judged OnlyAsked only =
        kept_judged facts (JudgesAsking t OnlyAsked) t.policy hashers octets room opened o before after
        (Ok digests) result opens kept hashed (λ e is. absurd cc)
        (λ v encodes type sigs some content has. (
          of_signed t content econtent_type signers v result (type_is ∙ type) (signers_are ∙ sigs)
              (judged (some_of some) content (digests_of content has)),
          of_signed_data t content econtent_type signers v OnlyAsked (type_is ∙ type) (signers_are ∙ sigs)
              (only content (digests_of content has)),
        ))

-- ---- what a pass gave

module _ (gains : List ℕ → Type 0) (octets : List ℕ) (room : ℕ) (pass : Result (Option OpenedValue) StreamFault)
    (opens : OpensStream gains room octets pass)
  where
    pub opens_ok : (opened : Option OpenedValue) → pass ≡ Ok opened → OpensStream gains room octets (Ok opened)
    opens_ok opened is =
        subst (λ (p : Result (Option OpenedValue) StreamFault). OpensStream gains room octets p) is opens

    -- the octets encode a ContentInfo
    pub of_ok : {S : Type 0} (Says : Result ℕ Refused → Type 0) (opened : Option OpenedValue) (before after : Option S)
        (result : Option (Result ℕ Refused))
        → pass ≡ Ok opened → (OpensStream gains room octets (Ok opened) → IfSome result Says)
        → OfPass Says pass before after result
    of_ok Says opened before after result is says =
        subst (λ (p : Result (Option OpenedValue) StreamFault). OfPass Says p before after result) (sym is)
        (says (opens_ok opened is))

-- or a pass ended before their end
module _ {S : Type 0} (facts : SourceFacts S) (t : Terms) (OnlyAsked : (Asked → Bool) → Type 0) (octets : List ℕ)
    (before : Option S) where
  abbrev Asking : Result ℕ Refused → Type 0
  Asking result = ChecksStreamAsking facts t OnlyAsked octets before before result

  stopped_at : (gains : List ℕ → Type 0) (room : ℕ) (fault : StreamFault) → OpensStream gains room octets (Err fault)
      → OfPass Asking (Err fault) before before (Some (Err (stopped_by fault)))
  stopped_at gains room (stream.Malformed f) holds = (Err (cms.Malformed f), holds, (refl, refl))
  stopped_at gains room stream.ReadFailed opens = (refl, refl)
  stopped_at gains room stream.TooLong opens = (refl, refl)

  pub of_stopped : (gains : List ℕ → Type 0) (room : ℕ) (pass : Result (Option OpenedValue) StreamFault)
      (fault : StreamFault) (refusal : Refused)
      → OpensStream gains room octets pass → pass ≡ Err fault → refusal ≡ stopped_by fault
      → OfPass Asking pass before before (Some (Err refusal))
  of_stopped gains room pass fault refusal opens is tells_it =
      let there : OpensStream gains room octets (Err fault) =
      subst (λ (p : Result (Option OpenedValue) StreamFault). OpensStream gains room octets p) is
      opens in
      subst (λ (p : Result (Option OpenedValue) StreamFault). OfPass Asking p before before (Some (Err refusal)))
      (sym is)
      (subst (λ (e : Refused). OfPass Asking (Err fault) before before (Some (Err e))) (sym tells_it)
      (stopped_at gains room fault there))

pub is_stopped : {S : Type 0} (before : Option S) (pass : Result (Option OpenedValue) StreamFault) (fault : StreamFault)
    (refusal : Refused) → pass ≡ Err fault
    → refusal ≡ stopped_by fault → Stopped pass before before (Some (Err refusal))
is_stopped before pass fault refusal is tells_it =
    subst (λ (p : Result (Option OpenedValue) StreamFault). Stopped p before before (Some (Err refusal))) (sym is)
    (ap refused_by tells_it, refl)
  where
    refused_by : Refused → Option (Result ℕ Refused)
    refused_by e = Some (Err e)

early : (fault : StreamFault) → IsEarly (Err (stopped_by fault))
early (stream.Malformed f) = tt
early stream.ReadFailed = tt
early stream.TooLong = tt

-- a pass stopped early, or came to the end
pub early_or_end : {S : Type 0} (pass : Result (Option OpenedValue) StreamFault) (before after : Option S)
    (result : Option (Result ℕ Refused))
    (IsEnd : Type 0) → Stopped pass before after result → IfOk pass (λ opened. IsEnd) → IsEarlyIn result ⊎ IsEnd
early_or_end (Ok opened) before after result IsEnd stopped end = inr end
early_or_end (Err fault) before after result IsEnd stopped end =
    inl (subst (λ (r : Option (Result ℕ Refused)). IsEarlyIn r) (sym stopped.0) (early fault))

-- the verdict about a stream, by what a pass over it gave
module _ {S : Type 0} (Says : Result ℕ Refused → Type 0) (tells : Type 0) (gains : List ℕ → Type 0) (octets : List ℕ)
    (room count count' : ℕ) where
  pub of_stream : (pass : Result (Option OpenedValue) StreamFault) (before after : Option S) (result : Result ℕ Refused)
      → (tells → OpensStream gains room octets pass) → CountsPass pass count count'
      → Stopped pass before after (Some result)
      → (tells → OfPass Says pass before after (Some result))
      → OfStream Says tells octets room count count' before after result
  of_stream (Err stream.ReadFailed) before after result opens counts stopped says =
      let z : result ≡ Err (refused.Device device.ReadFailed) = let w = stopped.0 in cc in
      subst (λ (r : Result ℕ Refused). OfStream Says tells octets room count count' before after r) (sym z)
      (fails counts stopped.1)
  of_stream (Err stream.TooLong) before after result opens counts stopped says =
      let z : result ≡ Err (refused.Device device.TooLong) = let w = stopped.0 in cc in
      subst (λ (r : Result ℕ Refused). OfStream Says tells octets room count count' before after r) (sym z)
      (too_long counts stopped.1 opens)
  of_stream (Err (stream.Malformed f)) before after result opens counts stopped says = told counts says
  of_stream (Ok opened) before after result opens counts stopped says = told counts says

-- the verdict about a stream, if there is one, by what a pass over it gave
module _ {S : Type 0} (Says : Result ℕ Refused → Type 0) (tells : Type 0) (gains : List ℕ → Type 0) (octets : List ℕ)
    (room count count' : ℕ) where
  pub if_stream :
      (pass : Result (Option OpenedValue) StreamFault) (before after : Option S) (result : Option (Result ℕ Refused))
      → (tells → OpensStream gains room octets pass) → CountsPass pass count count' → Stopped pass before after result
      → (tells → OfPass Says pass before after result)
      → IfSome result (OfStream Says tells octets room count count' before after)
  if_stream pass before after None opens counts stopped says = tt
  if_stream pass before after (Some r) opens counts stopped says =
      of_stream Says tells gains octets room count count' pass before after r opens counts stopped says
