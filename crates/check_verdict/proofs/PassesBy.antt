-- A token that passes also passes by other entries and another verifier, if that vouches for its signer under one of
-- them.
use Rattle.std.specs.Prelude.{◌≡◌, ℕ, Bool, true, List, Any}
use Rattle.cms_types.specs.AttributeValue.{AttributeValue}
use Rattle.cms_types.specs.SignerValue.{SignerValue}
use Rattle.trust_lists.specs.Entries.{EntryValue}
use Rattle.trust_lists.specs.Asking.{Asked}
use Rattle.check_verdict.specs.Trusted.{asked}
use Rattle.check_verdict.specs.Passing.{Terms, Due, StampedUnder, PassesFor}

-- the terms with other entries and another verifier
abbrev pub with_others : Terms → (trust : List EntryValue) → (vouches : Asked → Bool) → Terms
with_others t trust vouches = record { policy = t.policy; trust = trust; vouches = vouches }

module _ (t : Terms) (trust : List EntryValue) (vouches : Asked → Bool) where
  -- under an entry, if that verifier vouches too
  pub stamped_by : (s : SignerValue) (attributes : List AttributeValue) (m : ℕ) (e : EntryValue)
      → StampedUnder t s attributes m e → vouches (asked e.certificate s attributes) ≡ true
      → StampedUnder (with_others t trust vouches) s attributes m e
  stamped_by s attributes m e u vouched = record {
    role = u.role;
    matches = u.matches;
    named = u.named;
    purpose = u.purpose;
    period = u.period;
    vouched = vouched;
  }

  abbrev pub passes_by : (token : List ℕ) (due : Due) (m : ℕ) (p : PassesFor t token due m)
      → Any (StampedUnder (with_others t trust vouches) p.signer p.attributes m) trust
      → PassesFor (with_others t trust vouches) token due m
  passes_by token due m p entry = record {
    signed = p.signed;
    encodes = p.encodes;
    econtent_type = p.econtent_type;
    content = p.content;
    present = p.present;
    signer = p.signer;
    one_signer = p.one_signer;
    attributes = p.attributes;
    has = p.has;
    fits = p.fits;
    stamp = p.stamp;
    encodes_stamp = p.encodes_stamp;
    calm = p.calm;
    imprint = p.imprint;
    moment = p.moment;
    entry = entry;
  }
