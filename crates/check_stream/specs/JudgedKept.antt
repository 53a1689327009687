-- The verdict by what a pass over a file gave, which may be no verdict: steps of the proofs.
use Rattle.std.specs.Prelude.{◌≡◌, ⊤, ℕ, Bool, true, Option, Some, None, Result, Ok, Err, IfSome}
use Rattle.digests.specs.declared.set.Algs.{Algs}
use Rattle.check_fit.specs.declared.policy.Policy.{Policy}
use Rattle.check_fit.specs.declared.rules.FileRule.TheVariants as rule
use Rattle.check_fit.specs.declared.rules.DeviceFault.TheVariants as device
use Rattle.check_fit.specs.declared.rules.Refused.{Refused}
use Rattle.check_fit.specs.declared.rules.Refused.TheVariants as refused
use Rattle.trust_lists.specs.Asking.{Asked}
use Rattle.list_answers.specs.declared.verifier.Verifier.{Ghosts as Verifiers}
use Rattle.check_verdict.specs.Checking.{CountsAsks}
use Rattle.cms_stream.specs.Opening.{OpenedValue}
use Rattle.cms_stream.specs.declared.stream_fault.StreamFault.{StreamFault}
use Rattle.cms_stream.specs.declared.stream_fault.StreamFault.TheVariants as stream
use Rattle.check_stream.specs.Hashing.{Lacks}
use Rattle.check_stream.specs.StreamVerdicts.{IsUnjudged, IsEarly}

-- nothing was judged: the content is in the SignedData, and a signer needs an algorithm that is none of these
abbrev pub IsLeft : {S : Type 0} → Policy → Option OpenedValue → Algs → (before after : Option S) → Type 0
IsLeft policy opened given before after =
    (o : OpenedValue) × (opened ≡ Some o) × (o.attached ≡ true) × Lacks policy o.signers given × (before ≡ None)
    × (after ≡ None)

-- no signer was judged
abbrev pub IsUnjudgedIn : Option (Result ℕ Refused) → Type 0
IsUnjudgedIn None = ⊤
IsUnjudgedIn (Some result) = IsUnjudged result

abbrev pub CountsAsksIn : Option (Result ℕ Refused) → (count count' : ℕ) → Type 0
CountsAsksIn None count count' = count' ≡ count
CountsAsksIn (Some result) count count' = CountsAsks result count count'

-- C1, X1 and X3, if a pass ended before the file's end
abbrev pub stopped_by : StreamFault → Refused
stopped_by (stream.Malformed f) = refused.File (rule.Malformed f)
stopped_by stream.ReadFailed = refused.Device device.ReadFailed
stopped_by stream.TooLong = refused.Device device.TooLong

-- its refusal is the verdict, and none of the content is read
abbrev pub Stopped : {S : Type 0} → Result (Option OpenedValue) StreamFault → (before after : Option S)
    → Option (Result ℕ Refused) → Type 0
Stopped (Ok opened) before after result = ⊤
Stopped (Err fault) before after result = (result ≡ Some (Err (stopped_by fault))) × (after ≡ before)

-- it may be given before the file's end
abbrev pub IsEarlyIn : Option (Result ℕ Refused) → Type 0
IsEarlyIn None = ⊥
IsEarlyIn (Some result) = IsEarly result

-- X1 if the file's source failed, X3 if there was too little room, and then none of the content is read; otherwise, if
-- there is a verdict, what is stated about it
abbrev pub OfPass : {S : Type 0} (Says : Result ℕ Refused → Type 0) → Result (Option OpenedValue) StreamFault
    → (before after : Option S) → Option (Result ℕ Refused) → Type 0
OfPass Says (Err stream.ReadFailed) before after result =
    (result ≡ Some (Err (refused.Device device.ReadFailed))) × (after ≡ before)
OfPass Says (Err stream.TooLong) before after result =
    (result ≡ Some (Err (refused.Device device.TooLong))) × (after ≡ before)
OfPass Says (Err (stream.Malformed f)) before after result = IfSome result Says
OfPass Says (Ok opened) before after result = IfSome result Says

-- The verifier was asked nothing if no signer was judged; what it vouches for stays the same; and it failed exactly if
-- the verdict says so.
pub record AsksVerifier {V : Type 0} (verifier : Verifiers V) (before after : V) (result : Option (Result ℕ Refused))
    : Type 0 where
  pub unasked : IsUnjudgedIn result → (test : Asked → Bool) → verifier.asked_only test before after
  pub same : verifier.vouches after ≡ verifier.vouches before
  pub count : CountsAsksIn result (verifier.failures before) (verifier.failures after)
