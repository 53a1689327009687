-- What holds of the devices, whatever is known of the octets.
use Rattle.std.proofs.Common.{◌≡◌, ℕ, Bool, true, false, cond, List, length, Option, Some, None, Result, Ok, Err, refl}
use Rattle.std.proofs.Common.{sym, ap, subst, inl, inr}
use Rattle.std.specs.Prelude.{is_some, ◌==◌, IfOk, IfSome}
use Rattle.digests.specs.declared.selection.Wanted.{Wanted}
use Rattle.digests.specs.declared.selection.WantedDigests.{WantedDigests}
use Rattle.cms_types.specs.SignerValue.{SignerValue}
use Rattle.check_fit.specs.declared.policy.Policy.{Policy}
use Rattle.check_fit.specs.declared.rules.FileRule.{FileRule}
use Rattle.check_fit.specs.declared.rules.FileRule.TheVariants as rule
use Rattle.check_fit.specs.declared.rules.DeviceFault.TheVariants as device
use Rattle.check_fit.specs.declared.rules.Refused.{Refused}
use Rattle.check_fit.specs.declared.rules.Refused.TheVariants as refused
use Rattle.check_fit.specs.FileFitting.{SourceFacts, OfSource, fails, too_long, read}
use Rattle.check_verdict.specs.SignerVerdicts.{IsOfSigners}
use Rattle.cms_stream.specs.Opening.{OpenedValue, CountsPass}
use Rattle.cms_stream.specs.declared.stream_fault.StreamFault.{StreamFault}
use Rattle.cms_stream.specs.declared.stream_fault.StreamFault.TheVariants as stream
use Rattle.check_stream.specs.KeptRules.{kept_place, kept_rules}
use Rattle.check_stream.specs.Hashing.{AreWanted, HashesWanted}
use Rattle.check_stream.specs.JudgedKept.{Stopped}
use Rattle.check_stream.specs.StreamVerdicts.{IsUnjudged}
use Rattle.check_stream.specs.DeviceVerdicts.{IsOfWhole, IsJudged, OfRead, OfDevices, file_fails, no_room, decided}

-- a verdict about signers is none that comes before they are judged
pub judged_read : (count : ℕ) (result : Result ℕ Refused) → IsOfSigners count result → IsUnjudged result → ⊥
judged_read count (Ok m) is (inl e) = absurd cc
judged_read count (Ok m) is (inr unread) = unread
judged_read count (Err (refused.Signer n failed)) is (inl e) = absurd cc
judged_read count (Err (refused.Signer n failed)) is (inr unread) = unread
judged_read count (Err (refused.Token n k failed)) is (inl e) = absurd cc
judged_read count (Err (refused.Token n k failed)) is (inr unread) = unread
judged_read count (Err (refused.Device device.AskFailed)) is (inl e) = absurd cc
judged_read count (Err (refused.Device device.AskFailed)) is (inr unread) = unread
judged_read count (Err (refused.Device device.ReadFailed)) is u = is
judged_read count (Err (refused.Device device.TooLong)) is u = is
judged_read count (Err (refused.Device device.ContentTooLong)) is u = is
judged_read count (Err (refused.Device device.OutOfMemory)) is u = is
judged_read count (Err (refused.File failed)) is u = is

-- a rule that refuses what was kept is one of C2 to C5
abbrev IsRule : (handed : Bool) → Refused → Type 0
IsRule handed e = (failed : FileRule) × (e ≡ refused.File failed) × IsOfWhole handed failed

place_rule : (o : OpenedValue) (attached handed : Bool) (e : Refused) → kept_place o attached handed ≡ Err e
    → IsRule handed e
place_rule o false false e k = (rule.NoContent, (let z : e ≡ refused.File rule.NoContent = cc in z), refl)
place_rule o false true e k = absurd cc
place_rule o true false e k = absurd cc
place_rule o true true e k = (rule.ContentTwice, (let z : e ≡ refused.File rule.ContentTwice = cc in z), refl)

kept_rule : (opened : Option OpenedValue) (handed : Bool) (e : Refused) → kept_rules opened handed ≡ Err e
    → IsRule handed e
kept_rule None handed e k = (rule.NotSignedData, (let z : e ≡ refused.File rule.NotSignedData = cc in z), tt)
kept_rule (Some o) handed e k = go (length o.signers == 0) k
  where
    go : (b : Bool) → cond b (Err (refused.File rule.NoSigner)) (kept_place o o.attached handed) ≡ Err e
        → IsRule handed e
    go true h = (rule.NoSigner, (let z : e ≡ refused.File rule.NoSigner = cc in z), tt)
    go false h = place_rule o o.attached handed e h

module _ {S : Type 0} (facts : SourceFacts S) where
  abbrev refusal : Refused → Result ℕ Refused
  refusal e = Err e

  pub rule_read : (opened : Option OpenedValue) (before : Option S) (e : Refused)
      → kept_rules opened (is_some before) ≡ Err e
      → OfRead facts before before (Err e)
  rule_read opened before e k = let r = kept_rule opened (is_some before) e k in inl (r.0, ap refusal r.1, refl, r.2)

  module _ (policy : Policy) (signers : List SignerValue) (tells : Type 0) (rest rest' : List ℕ)
      (count count' : ℕ) where
    source_judged : (outcome : Result WantedDigests Refused) (result : Result ℕ Refused)
        → ((e : Refused) → outcome ≡ Err e → result ≡ Err e)
        → ((digests : WantedDigests) → outcome ≡ Ok digests → IsJudged result)
        → OfSource (AreWanted policy signers) tells rest rest' count count' outcome
        → OfSource (λ content. IsJudged) tells rest rest' count count' result
    source_judged outcome result same judged (fails e) =
        subst (λ (x : Result ℕ Refused). OfSource (λ content. IsJudged) tells rest rest' count count' x)
        (sym (same (refused.Device device.ReadFailed) refl))
        (fails e)
    source_judged outcome result same judged (too_long e many) =
        subst (λ (x : Result ℕ Refused). OfSource (λ content. IsJudged) tells rest rest' count count' x)
        (sym (same (refused.Device device.ContentTooLong) refl)) (too_long e many)
    source_judged (Ok digests) result same judged (read content small e all done j) =
        read content small e all done (judged digests refl)
    source_judged (Err f) result same judged (read content small e all done j) = absurd j

  -- the verdict, if the content could not be read, or if it was
  pub handed_read : (policy : Policy) (signers : List SignerValue) (hashers : Wanted) (before after : Option S)
      (outcome : Result WantedDigests Refused)
      (result : Result ℕ Refused)
      → ((e : Refused) → outcome ≡ Err e → result ≡ Err e)
      → ((digests : WantedDigests) → outcome ≡ Ok digests → IsJudged result)
      → HashesWanted facts policy signers hashers before after (Some outcome) → OfRead facts before after result
  handed_read policy signers hashers None after outcome result same judged (none, made) =
      inr (none, judged made.0 made.1)
  handed_read policy signers hashers (Some s) after outcome result same judged (s', is, other, some, source) =
      let z : outcome ≡ other = cc in inr (
        s',
        is,
        source_judged policy signers (facts.tells s) (facts.rest s) (facts.rest s') (facts.failures s)
            (facts.failures s') outcome result same judged
            (subst (λ (r : Result WantedDigests Refused).
            OfSource (AreWanted policy signers) (facts.tells s) (facts.rest s) (facts.rest s') (facts.failures s)
            (facts.failures s') r) (sym z) source),
      )

  -- from what a pass gave to the verdict
  pub devices_of : (count count' : ℕ) (pass : Result (Option OpenedValue) StreamFault) (before after : Option S)
      (result : Result ℕ Refused)
      → CountsPass pass count count' → Stopped pass before after (Some result)
      → IfOk pass (λ opened. OfRead facts before after result) → OfDevices facts count count' before after result
  devices_of count count' (Ok opened) before after result counts stopped has = decided counts has
  devices_of count count' (Err stream.ReadFailed) before after result counts stopped has =
      let z : result ≡ Err (refused.Device device.ReadFailed) = let w = stopped.0 in cc in
      subst (λ (r : Result ℕ Refused). OfDevices facts count count' before after r) (sym z)
      (file_fails counts stopped.1)
  devices_of count count' (Err stream.TooLong) before after result counts stopped has =
      let z : result ≡ Err (refused.Device device.TooLong) = let w = stopped.0 in cc in
      subst (λ (r : Result ℕ Refused). OfDevices facts count count' before after r) (sym z) (no_room counts stopped.1)
  devices_of count count' (Err (stream.Malformed f)) before after result counts stopped has =
      let z : result ≡ Err (refused.File (rule.Malformed f)) = let w = stopped.0 in cc in
      decided counts (inl (rule.Malformed f, z, stopped.1, tt))

  pub if_devices : (count count' : ℕ) (pass : Result (Option OpenedValue) StreamFault) (before after : Option S)
      (result : Option (Result ℕ Refused))
      → CountsPass pass count count' → Stopped pass before after result
      → IfOk pass (λ opened. IfSome result (OfRead facts before after))
      → IfSome result (OfDevices facts count count' before after)
  if_devices count count' pass before after None counts stopped has = tt
  if_devices count count' pass before after (Some result) counts stopped has =
      devices_of count count' pass before after result counts stopped has
