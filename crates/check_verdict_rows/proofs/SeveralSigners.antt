-- The worked rows of two signers hold.
use Rattle.std.proofs.Common.{◌≡◌, ℕ, ◌≤◌, true, List, [], ◌∷◌, None, refl, arith, lit<, lit≤, inl, inr}
use Rattle.std.specs.Prelude.{Any}
use Rattle.der_core.specs.Element.{len}
use Rattle.der_grammar.specs.Vectors.{time_stamp_token}
use Rattle.cms_types.specs.SignerValue.{SignerValue}
use Rattle.check_fit.specs.FittingRows.{id_data}
use Rattle.check_fit.specs.declared.rules.SignerRule.TheVariants as signer
use Rattle.trust_lists.specs.Entries.{EntryValue}
use Rattle.check_verdict.specs.Trusted.{Holds}
use Rattle.check_verdict.specs.Passing.{of_octets, StampedUnder, Passes}
use Rattle.check_verdict.specs.Verdicts.{IsStamped, SignedUnder, SignerPasses, LeftForSigner, SignerFails, FirstBad}
use Rattle.check_verdict.specs.Verdicts.{Accepts}
use Rattle.check_verdict.specs.Rows.{of_signer, early_token, digest_of_stamp, digest_of_early_stamp, attributes_over}
use Rattle.check_verdict.specs.Rows.{token_signer, file_attributes, stamps_of}
use Rattle.check_verdict.specs.Rows.{of_file, of_early_token, of_token, nine_oclock, ten_oclock, signs, attests, three}
use Rattle.check_verdict.proofs.Lists.{any_of_none}
use Rattle.check_verdict.proofs.Tokens as tokens_law
use Rattle.check_verdict.proofs.RowsJudged.{one_of, first_of, after_first, in_one, none_of, all_and, attested_at}
use Rattle.check_verdict.proofs.RowsJudged.{passing, open_then, abc, file_fits}
use Rattle.check_verdict.proofs.RowsJudged.{file_named}
use Rattle.check_verdict.proofs.TwoTokens.{passing_early, open_early, valid_early, split}
use Rattle.der_time.specs.Calendar.{days_before_month}
use Rattle.der_time.specs.Moments.{utc_moment}
use Rattle.check_verdict_rows.specs.SeveralSigners.{trust, open_terms, unstamped, stamped_with, at_nine, at_ten}
use Rattle.check_verdict_rows.specs.SeveralSigners.{SeveralSignersRows}

record Answered : Type 0 where
  pub file : open_terms.vouches of_file ≡ true
  pub early : open_terms.vouches of_early_token ≡ true
  pub late : open_terms.vouches of_token ≡ true

answered : Answered
unfolding len
answered = record { file = refl; early = refl; late = refl }

abbrev others : List EntryValue
others = attests None None ∷ []

-- ---- the tokens

early_passes : Passes open_terms early_token abc nine_oclock
early_passes =
    let Under : EntryValue → Type 0 = StampedUnder open_terms (token_signer digest_of_early_stamp)
    (attributes_over digest_of_early_stamp) nine_oclock in
    passing_early trust three (after_first Under (signs None None) others
    (one_of Under (attests None None)
    (attested_at digest_of_early_stamp nine_oclock None None trust three open_early answered.early)))

late_passes : Passes open_terms time_stamp_token abc ten_oclock
late_passes =
    let Under : EntryValue → Type 0 =
    StampedUnder open_terms (token_signer digest_of_stamp) (attributes_over digest_of_stamp) ten_oclock in
    passing trust three (after_first Under (signs None None) others
    (one_of Under (attests None None)
    (attested_at digest_of_stamp ten_oclock None None trust three open_then answered.late)))

-- ---- a signer with one token

abbrev Good : ℕ → SignerValue → Type 0
Good m s = SignerPasses open_terms abc id_data s m

abbrev IsGood : SignerValue → Type 0
IsGood s = (n : ℕ) × Good n s

good : (token : List ℕ) (m : ℕ) → Passes open_terms token abc m → Holds (signs None None) m
    → Good m (stamped_with token)
good token m p h =
    let s : SignerValue = stamped_with token in
    let stamped : IsStamped open_terms s m = one_of (λ k. Passes open_terms k abc m) token p in
    let under : SignedUnder open_terms s file_attributes m (signs None None) =
    record { role = refl; matches = (refl, refl); named = file_named of_signer; period = h; vouched = answered.file } in
    record {
      fits = file_fits (stamps_of (token ∷ []));
      earliest = record {
        has = record {
          stamped = stamped;
          attributes = file_attributes;
          has = refl;
          entry = first_of (SignedUnder open_terms s file_attributes m) (signs None None) others under;
        };
        least = λ n k. (let e = tokens_law.one_moment open_terms token (of_octets abc) n m
            (in_one (λ x. Passes open_terms x abc n) token k.stamped) p in omega (arith, e));
      };
    }

nine_good : Good nine_oclock at_nine
nine_good = good early_token nine_oclock early_passes valid_early

valid_ten : Holds (signs None None) ten_oclock
unfolding utc_moment days_before_month
valid_ten = record { valid_from = lit≤ tt; valid_until = lit≤ tt; trusted_from = tt; trusted_until = tt }

ten_good : Good ten_oclock at_ten
ten_good = good time_stamp_token ten_oclock late_passes valid_ten

-- ---- two signers that are good

no_later : (s : SignerValue) (n m : ℕ) → Good m s → m ≤ ten_oclock → Good n s → n ≤ ten_oclock
no_later s n m g le k = let e = k.earliest.least m g.earliest.has in omega (arith, e, le)

nine_before_ten : nine_oclock ≤ ten_oclock
nine_before_ten = lit≤ tt

accepts : (a b : SignerValue) (m n : ℕ) → Good m a → Good n b → m ≤ ten_oclock → n ≤ ten_oclock
    → Any (Good ten_oclock) (a ∷ b ∷ [])
    → Accepts open_terms abc id_data (a ∷ b ∷ []) ten_oclock
accepts a b m n g h le lf any = record {
  each = all_and IsGood a (b ∷ []) (m, g) (all_and IsGood b [] (n, h) (none_of IsGood));
  latest = record {
    has = any;
    greatest = λ k found. elim (split (Good k) a (b ∷ []) found) [
      | inl p ↦ no_later a k m g le p
      | inr q ↦ no_later b k n h lf (in_one (Good k) b q)
    ];
  };
}

-- ---- one without a token

abbrev Left : ℕ → EntryValue → Type 0
Left k e = LeftForSigner open_terms unstamped file_attributes k e

no_token : SignerFails open_terms abc id_data unstamped signer.NoToken
no_token =
    let none : (m : ℕ) → IsStamped open_terms unstamped m
    → ⊥ = λ m k. any_of_none (λ token. Passes open_terms token abc m) [] refl k in
    let left : Left 3 (signs None None) = (
      (record { role = refl; matches = (refl, refl); period = λ n k. absurd (none n k) }, file_named of_signer),
      answered.file,
    ) in
    inr (inr (
      record {
        fits = file_fits None;
        attributes = file_attributes;
        has = refl;
        entry = first_of (Left 3) (signs None None) others left;
      },
      refl,
      refl,
    ))

abbrev Unstamped : SignerValue → Type 0
Unstamped s = SignerFails open_terms abc id_data s signer.NoToken

second_bad : FirstBad open_terms abc id_data (at_ten ∷ unstamped ∷ []) 2 Unstamped
second_bad = record {
  counts = lit< tt;
  before = all_and IsGood at_ten [] (ten_oclock, ten_good) (none_of IsGood);
  signer = unstamped;
  is = refl;
  bad = no_token;
}

first_bad : FirstBad open_terms abc id_data (unstamped ∷ at_ten ∷ []) 1 Unstamped
first_bad = record { counts = lit< tt; before = none_of IsGood; signer = unstamped; is = refl; bad = no_token }

pub several_signers_rows : SeveralSignersRows
several_signers_rows = record {
  rising = accepts at_nine at_ten nine_oclock ten_oclock nine_good ten_good nine_before_ten (lit≤ tt)
      (after_first (Good ten_oclock) at_nine (at_ten ∷ []) (one_of (Good ten_oclock) at_ten ten_good));
  falling = accepts at_ten at_nine ten_oclock nine_oclock ten_good nine_good (lit≤ tt) nine_before_ten
      (first_of (Good ten_oclock) at_ten (at_nine ∷ []) ten_good);
  second_unstamped = second_bad;
  first_unstamped = first_bad;
}
