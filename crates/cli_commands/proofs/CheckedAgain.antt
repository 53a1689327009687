-- A check of a file after passes that had too little room: what it goes by, the content and the counts are as before.
use Rattle.std.proofs.Common.{◌≡◌, ℕ, Bool, List, Option, Result, subst}
use Rattle.check_fit.specs.FileFitting.{SourceFacts}
use Rattle.check_fit.specs.declared.rules.Refused.{Refused}
use Rattle.trust_lists.specs.Asking.{Asked, is_among}
use Rattle.check_verdict.specs.Checkers.{CheckerValue, terms_for}
use Rattle.check_verdict.specs.Checking.{ChecksStream}
use Rattle.cli_commands.specs.Rereading.{IsUnread, OfReading}
use Rattle.cli_commands.proofs.Growing.{read_on}

module _ {F S : Type 0} (position : F → Option ℕ) (remaining : F → Option (List ℕ)) (facts : SourceFacts S)
    (room count' : ℕ) (after : Option S) (verdict : Result ℕ Refused) where
  -- the verdict of one pass over a file that was opened, by a checker and a list, with a content and a count
  abbrev Checks : CheckerValue → List Asked → Option S → (count : ℕ) → F → Type 0
  Checks checker vouched before count file = OfReading position remaining
      (λ octets. ChecksStream facts (terms_for checker (λ q. is_among vouched q)) octets before after) file room count
      count' before after verdict

  -- a check of the file, from which nothing was read that counts
  pub check_on : (opened file : F) (checker now : CheckerValue) (vouched vouched_now : List Asked)
      (before between : Option S) (count count_now : ℕ)
      → IsUnread position opened file
      → now ≡ checker
      → ◌≡◌ {A = Asked → Bool} (λ q. is_among vouched_now q) (λ q. is_among vouched q)
      → between ≡ before
      → count_now ≡ count
      → Checks now vouched_now between count_now file
      → Checks checker vouched before count opened
  check_on opened file checker now vouched vouched_now before between count count_now unread stays same content failed
      checks =
      read_on position remaining opened file count' after
      (λ (asked : Asked → Bool) start octets. ChecksStream facts (terms_for checker asked) octets start after) room
      (record { asked = λ q. is_among vouched q; content = before; failures = count })
      (record { asked = λ q. is_among vouched_now q; content = between; failures = count_now }) verdict unread
      (λ i. record { asked = same i; content = content i; failures = failed i })
      (subst (λ (k : CheckerValue). Checks k vouched_now between count_now file) stays checks)
