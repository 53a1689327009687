-- What each check of a stream promises of its verdict: the clauses of `check_stream`, as one statement.
use Rattle.std.specs.Prelude.{ℕ, Bool, Option, Some, Result, IfSome, option_map}
use Rattle.devices.specs.declared.source.Source.{Ghosts}
use Rattle.check_fit.specs.declared.rules.Refused.{Refused}
use Rattle.trust_lists.specs.Asking.{Asked}
use Rattle.check_verdict.specs.Asks.{AsksOnly}
use Rattle.check_verdict.specs.Questions.{IsQuestion}
use Rattle.check_stream.specs.StreamVerdicts.{Given, Judge, facts, StreamChecks, StreamChecksAsking, StreamSuffices}
use Rattle.check_stream.specs.StreamVerdicts.{StreamSaysYes, StreamVerdictOrDevice, IsUnjudged}
use Rattle.check_stream.specs.DeviceVerdicts.{OfDevices}

-- Of the verdict about what a check of a stream is given, and a content that is handed in, by who judges:
pub record Promised {S : Type 0} (j : Judge) (g : Given) (source : Ghosts S) (content content' : Option S)
    (result : Result ℕ Refused) : Type 0 where
  -- for a file and a content that are known it is yes with a moment exactly if the definition says so, unless a device
  -- failed, the content is too long or there is too little room
  pub headline : g.tells → IfSome content source.tells → (m : ℕ)
      → StreamSaysYes j.terms g.octets (option_map source.rest content) result m
  -- and if it isn't yes, it is the refusal of the definition
  pub verdict : g.tells → IfSome content source.tells
      → StreamVerdictOrDevice j.terms g.octets (option_map source.rest content) result
  -- X1 if the file's source failed, X3 if the file states more than there is room for; otherwise it is right for the
  -- octets of the file and for what the source of the content gave
  pub judged : StreamChecks j.terms g source content content' result
  -- it is right with each list of answers that gives the verifier's answers to the file's questions
  pub sufficient : StreamSuffices j.terms g source content content' (Some result)
  -- the verifier was asked only questions of the file
  pub only : g.tells → AsksOnly j.OnlyAsked (IsQuestion j.terms.trust g.octets)
  -- and only about signers that fit the content that was judged, and under entries that passed the earlier filters
  pub asked : StreamChecksAsking j g source content content' result
  -- of each file, also one that isn't known: which device failed, and which refusals there are
  pub devices : OfDevices (facts source) g.count g.count' content content' result
  -- it was asked nothing if one of C1 to C5 refuses, there is too little room or the content could not be read
  pub unasked : IsUnjudged result → (test : Asked → Bool) → j.OnlyAsked test
