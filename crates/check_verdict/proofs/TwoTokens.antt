-- The worked rows of a file with two tokens hold.
use Rattle.std.proofs.Common.{◌≡◌, ℕ, zero, suc, ◌≤◌, true, List, [], ◌∷◌, Option, Some, None, refl, sym, subst}
use Rattle.std.proofs.Common.{arith, lit≤, inl, inr, ◌⊎◌}
use Rattle.std.specs.Prelude.{Any}
use Rattle.der_core.specs.Element.{len}
use Rattle.der_grammar.specs.Vectors.{time_stamp_token}
use Rattle.der_time.specs.Calendar.{days_before_month}
use Rattle.der_time.specs.Moments.{utc_moment, in_places, generalized_moment}
use Rattle.sha2.specs.Sha256 as sha256
use Rattle.digests.specs.Messages.{digest_of}
use Rattle.digests.specs.declared.algorithm.Alg.TheVariants.{Sha256}
use Rattle.cms_types.specs.SignerValue.{SignerValue}
use Rattle.trust_lists.specs.Entries.{EntryValue}
use Rattle.trust_lists.specs.Asking.{Asked}
use Rattle.check_verdict.specs.Trusted.{Holds}
use Rattle.check_verdict.specs.Passing.{Terms, of_octets, StampedUnder, Passes}
use Rattle.check_verdict.specs.Verdicts.{IsStamped, SignedUnder, IsMoment, IsLeast}
use Rattle.check_verdict.specs.Rows.{of_signer, early_stamp, early_tst, early_token, digest_of_stamp}
use Rattle.check_verdict.specs.Rows.{digest_of_early_stamp, attributes_over}
use Rattle.check_verdict.specs.Rows.{token_signer, file_attributes, file_signer, both_stamps}
use Rattle.check_verdict.specs.Rows.{twice_stamped_file, of_file, of_early_token, of_token}
use Rattle.check_verdict.specs.Rows.{terms, nine_oclock, half_past_nine, ten_oclock, signs, attests, three}
use Rattle.check_verdict.specs.Rows.{TwoTokenRows}
use Rattle.check_verdict.proofs.Tokens as tokens_law
use Rattle.check_verdict.proofs.Rows.{early_reads, early_stamp_reads, twice_reads}
use Rattle.check_verdict.proofs.RowsJudged.{one_of, first_of, after_first, in_one}
use Rattle.check_verdict.proofs.RowsJudged.{attested_at, passing, passing_over, accepted_at, open_then, abc}
use Rattle.check_verdict.proofs.RowsJudged.{file_named}

-- ---- the earlier token

early_digest : digest_of Sha256 early_stamp ≡ digest_of_early_stamp
unfolding digest_of sha256.sha256 sha256.digest_bytes sha256.hash_after sha256.compress sha256.rounds sha256.schedule
    sha256.first_words
early_digest = refl

stamped_early : generalized_moment early_tst.time ≡ nine_oclock
unfolding generalized_moment in_places days_before_month
stamped_early = refl

pub passing_early : (trust : List EntryValue) (ls : List Asked)
    → Any (StampedUnder (terms trust ls) (token_signer digest_of_early_stamp)
    (attributes_over digest_of_early_stamp) nine_oclock) trust → Passes (terms trust ls) early_token abc nine_oclock
passing_early = passing_over early_token early_stamp digest_of_early_stamp early_tst.time nine_oclock early_reads
    early_stamp_reads early_digest stamped_early

-- ---- terms with one entry of a signer and one of an authority

abbrev trust_in : EntryValue → List EntryValue
trust_in e = e ∷ attests None None ∷ []

abbrev with_entry : EntryValue → Terms
with_entry e = terms (trust_in e) three

abbrev who : SignerValue
who = file_signer both_stamps

pub open_early : Holds (attests None None) nine_oclock
unfolding utc_moment days_before_month
open_early = record { valid_from = lit≤ tt; valid_until = lit≤ tt; trusted_from = tt; trusted_until = tt }

record Answered (t : Terms) : Type 0 where
  pub file : t.vouches of_file ≡ true
  pub early : t.vouches of_early_token ≡ true
  pub late : t.vouches of_token ≡ true

answered : (e : EntryValue) → Answered (with_entry e)
unfolding len
answered e = record { file = refl; early = refl; late = refl }

early_passes : (e : EntryValue) → Passes (with_entry e) early_token abc nine_oclock
early_passes e =
    let Under : EntryValue → Type 0 = StampedUnder (with_entry e) (token_signer digest_of_early_stamp)
    (attributes_over digest_of_early_stamp) nine_oclock in
    passing_early (trust_in e) three (after_first Under e (attests None None ∷ [])
    (one_of Under (attests None None)
    (attested_at digest_of_early_stamp nine_oclock None None (trust_in e) three open_early (answered e).early)))

late_passes : (e : EntryValue) → Passes (with_entry e) time_stamp_token abc ten_oclock
late_passes e =
    let Under : EntryValue → Type 0 =
    StampedUnder (with_entry e) (token_signer digest_of_stamp) (attributes_over digest_of_stamp) ten_oclock in
    passing (trust_in e) three (after_first Under e (attests None None ∷ [])
    (one_of Under (attests None None)
    (attested_at digest_of_stamp ten_oclock None None (trust_in e) three open_then (answered e).late)))

-- ---- the moments of the file's signer

abbrev PassesAt : EntryValue → ℕ → List ℕ → Type 0
PassesAt e n token = Passes (with_entry e) token abc n

stamped_early_too : (e : EntryValue) → IsStamped (with_entry e) who nine_oclock
stamped_early_too e = first_of (PassesAt e nine_oclock) early_token (time_stamp_token ∷ []) (early_passes e)

stamped_late : (e : EntryValue) → IsStamped (with_entry e) who ten_oclock
stamped_late e = after_first (PassesAt e ten_oclock) early_token (time_stamp_token ∷ [])
    (one_of (PassesAt e ten_oclock) time_stamp_token (late_passes e))

pub split : {A : Type 0} (P : A → Type 0) (x : A) (xs : List A) → Any P (x ∷ xs) → P x ⊎ Any P xs
split P x xs (zero, y, within, is, p) = inl (subst P (sym is) p)
split P x xs (suc i, y, within, is, p) = inr (i, y, omega (arith, within), is, p)

at_one : (e : EntryValue) (n : ℕ) → IsStamped (with_entry e) who n → (n ≡ nine_oclock) ⊎ (n ≡ ten_oclock)
at_one e n k = elim (split (PassesAt e n) early_token (time_stamp_token ∷ []) k) [
  | inl p ↦ inl (tokens_law.one_moment (with_entry e) early_token (of_octets abc) n nine_oclock p (early_passes e))
  | inr q ↦ inr (tokens_law.one_moment (with_entry e) time_stamp_token (of_octets abc) n ten_oclock
      (in_one (PassesAt e n) time_stamp_token q) (late_passes e))
]

signed_at : (from until : Option ℕ) (n : ℕ) → Holds (signs from until) n
    → SignedUnder (with_entry (signs from until)) who file_attributes n (signs from until)
signed_at from until n h = record {
  role = refl;
  matches = (refl, refl);
  named = file_named of_signer;
  period = h;
  vouched = (answered (signs from until)).file;
}

moment_at : (from until : Option ℕ) (n : ℕ) → IsStamped (with_entry (signs from until)) who n
    → Holds (signs from until) n
    → IsMoment (with_entry (signs from until)) who n
moment_at from until n k h = record {
  stamped = k;
  attributes = file_attributes;
  has = refl;
  entry = first_of (SignedUnder (with_entry (signs from until)) who file_attributes n) (signs from until)
      (attests None None ∷ []) (signed_at from until n h);
}

pub valid_early : Holds (signs None None) nine_oclock
unfolding utc_moment days_before_month
valid_early = record { valid_from = lit≤ tt; valid_until = lit≤ tt; trusted_from = tt; trusted_until = tt }

valid_late : Holds (signs (Some half_past_nine) None) ten_oclock
unfolding utc_moment days_before_month
valid_late = record { valid_from = lit≤ tt; valid_until = lit≤ tt; trusted_from = lit≤ tt; trusted_until = tt }

no_less : (n m : ℕ) → (n ≡ nine_oclock) ⊎ (n ≡ ten_oclock) → m ≡ nine_oclock → m ≤ n
no_less n m (inl e) h = omega (arith, e, h)
no_less n m (inr e) h = omega (arith, e, h)

least_early : IsLeast (IsMoment (with_entry (signs None None)) who) nine_oclock
least_early = record {
  has = moment_at None None nine_oclock (stamped_early_too (signs None None)) valid_early;
  least = λ n i. no_less n nine_oclock (at_one (signs None None) n i.stamped) refl;
}

-- from half past nine on no entry vouches for the signer at nine
abbrev later_entry : EntryValue
later_entry = signs (Some half_past_nine) None

held : (n : ℕ) → IsMoment (with_entry later_entry) who n → half_past_nine ≤ n
held n i = elim (split (SignedUnder (with_entry later_entry) who i.attributes n) later_entry
    (attests None None ∷ []) i.entry) [
      | inl u ↦ u.period.trusted_from
      | inr any ↦ absurd
          (let z = (in_one (SignedUnder (with_entry later_entry) who i.attributes n) (attests None None) any).role in
          cc)
    ]

least_late : IsLeast (IsMoment (with_entry later_entry) who) ten_oclock
least_late = record {
  has = moment_at (Some half_past_nine) None ten_oclock (stamped_late later_entry) valid_late;
  least = λ n i. then n (at_one later_entry n i.stamped) (held n i);
}
  where
    then : (n : ℕ) → (n ≡ nine_oclock) ⊎ (n ≡ ten_oclock) → half_past_nine ≤ n → ten_oclock ≤ n
    then n (inl e) le = absurd (omega (arith, e, le))
    then n (inr e) le = omega (arith, e)

-- ---- the file

pub two_token_rows : TwoTokenRows
two_token_rows = record {
  reads_early_token = early_reads;
  reads_file = twice_reads;
  earlier =
      accepted_at (trust_in (signs None None)) three twice_stamped_file both_stamps twice_reads nine_oclock least_early;
  later = accepted_at (trust_in later_entry) three twice_stamped_file both_stamps twice_reads ten_oclock least_late;
}
