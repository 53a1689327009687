-- What is said of the verdict about a stream is all that a check of it promises.
use Rattle.std.proofs.Common.{ℕ, Bool, Option, Some, None, Result}
use Rattle.std.specs.Prelude.{IfSome}
use Rattle.devices.specs.declared.source.Source.{Ghosts}
use Rattle.der_core.specs.Element.{IsBytes}
use Rattle.check_fit.specs.declared.rules.Refused.{Refused}
use Rattle.trust_lists.specs.Asking.{Asked}
use Rattle.check_verdict.specs.Passing.{Terms}
use Rattle.check_verdict.specs.Questions.{Answers, with_answers}
use Rattle.check_verdict.specs.Checking.{ChecksStream}
use Rattle.check_stream.specs.StreamVerdicts.{Given, Judge, facts, ChecksStreamAsking, StreamChecks, StreamChecksAsking}
use Rattle.check_stream.specs.DeviceVerdicts.{OfDevices}
use Rattle.check_stream.specs.JudgedKept.{IsUnjudgedIn}
use Rattle.check_stream.specs.Promises.{Promised}
use Rattle.check_stream.proofs.StreamLaw.{stream_along, stream_checks, stream_suffices, stream_asks, stream_yes}
use Rattle.check_stream.proofs.StreamLaw.{stream_verdict}

module _ {S : Type 0} (j : Judge) (g : Given) (source : Ghosts S) (before after : Option S) where
  abbrev Says : Terms → Result ℕ Refused → Type 0
  Says t result = ChecksStream (facts source) t g.octets before after result

  checks : (result : Result ℕ Refused) → StreamChecksAsking j g source before after result
      → StreamChecks j.terms g source before after result
  checks result h =
      stream_along (ChecksStreamAsking (facts source) j.terms j.OnlyAsked g.octets before after)
      (Says j.terms) g.tells g.octets g.room g.count g.count'
      before after result (λ r a. stream_checks (facts source) j.terms g.octets before after j.OnlyAsked r a) h

  suffices : (w : Asked → Bool) → Answers j.terms g.octets w → (result : Result ℕ Refused)
      → StreamChecks j.terms g source before after result
      → StreamChecks (with_answers j.terms w) g source before after result
  suffices w agree result h =
      stream_along (Says j.terms)
      (Says (with_answers j.terms w)) g.tells g.octets g.room g.count g.count' before after result
      (λ r a. stream_suffices (facts source) j.terms g.octets before after w agree r a) h

  -- if there is a verdict
  pub promised : (g.tells → IsBytes g.octets) → (result : Option (Result ℕ Refused))
      → IfSome result (StreamChecksAsking j g source before after)
      → IfSome result (OfDevices (facts source) g.count g.count' before after)
      → (IsUnjudgedIn result → (test : Asked → Bool) → j.OnlyAsked test)
      → IfSome result (Promised j g source before after)
  promised bytes None asked devices unasked = tt
  promised bytes (Some r) asked devices unasked =
      let said = λ (told : g.tells) (known : IfSome before source.tells).
      stream_verdict (facts source) j.terms g.tells g.octets g.room g.count g.count'
      before after r told (bytes told) known (checks r asked) in
      record {
        headline = λ told known m. stream_yes j.terms g.octets (bytes told) _ r (said told known) m;
        verdict = said;
        judged = checks r asked;
        sufficient = λ w agree. suffices w agree r (checks r asked);
        only = λ told. stream_asks (facts source) j.terms j.OnlyAsked g.tells g.octets g.room g.count g.count' before
            after r told unasked asked;
        asked = asked;
        devices = devices;
        unasked = unasked;
      }
