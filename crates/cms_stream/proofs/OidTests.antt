-- The test of an OBJECT IDENTIFIER as it passes.
use Rattle.std.proofs.Common.{◌≡◌, ℕ, ◌+◌, ◌<◌, Bool, true, false, not, ◌&&◌, List, [], ◌∷◌, ◌++◌, length, drop, refl}
use Rattle.std.proofs.Common.{sym, ap, ◌∙◌, append_assoc, get_or}
use Rattle.std.proofs.Common.{add-one}
use Rattle.std.proofs.Math.Seq.{drop-cons}
use Rattle.std.proofs.lemmas.List.{append-nil}
use Rattle.std.specs.Prelude.{nat_lt, ◌==◌}
use Rattle.der_core.specs.Contents.{is_oid, are_subidentifiers}
use Rattle.cms_stream.specs.declared.oid.OidTest.{OidTest}
use Rattle.cms_stream.specs.Oids.{oid_from, Tested}

from_is : (begins : Bool) (xs : List ℕ) → are_subidentifiers begins xs ≡ oid_from true begins xs
unfolding oid_from
from_is begins [] = refl
from_is begins (x ∷ xs) = ap (λ (b : Bool). not (begins && x == 128) && b) (from_is (nat_lt x 128) xs)

pub oid_is : (xs : List ℕ) → is_oid xs ≡ oid_from false true xs
unfolding oid_from
oid_is [] = refl
oid_is (x ∷ xs) = ap (λ (b : Bool). not (true && x == 128) && b) (from_is (nat_lt x 128) xs)

pub stepped : (sound started begins : Bool) (x : ℕ) (zs : List ℕ)
    → ((sound && not (begins && x == 128)) && oid_from true (nat_lt x 128) zs)
    ≡ (sound && oid_from started begins (x ∷ zs))
unfolding oid_from
stepped true started begins x zs = refl
stepped false started begins x zs = refl

pub tested_all : (t : OidTest) (m : List ℕ) (b : Bool) → b ≡ (t.sound && oid_from t.started t.begins []) → Tested t m
    → is_oid m ≡ b
tested_all t m b e h = ap is_oid (sym (append-nil m)) ∙ h [] ∙ sym e

pub whole_begins : (t : OidTest) (m : List ℕ) → t.sound ≡ true → t.started ≡ true → Tested t m → is_oid m ≡ t.begins
unfolding oid_from
whole_begins t m p q h = tested_all t m t.begins
    (sym (ap (λ (x : Bool). x && (t.started && t.begins)) p ∙ ap (λ (x : Bool). x && t.begins) q)) h

pub whole_started : (t : OidTest) (m : List ℕ) → t.sound ≡ true → t.started ≡ false → Tested t m → is_oid m ≡ t.started
unfolding oid_from
whole_started t m p q h = tested_all t m t.started
    (sym (ap (λ (x : Bool). x && (t.started && t.begins)) p ∙ ap (λ (x : Bool). x && t.begins) q ∙ sym q)) h

pub whole_sound : (t : OidTest) (m : List ℕ) → t.sound ≡ false → Tested t m → is_oid m ≡ t.sound
unfolding oid_from
whole_sound t m p h = tested_all t m t.sound (sym (ap (λ (x : Bool). x && (t.started && t.begins)) p ∙ sym p)) h

-- one octet more
pub one_more : (old new : OidTest) (x : ℕ) (zs : List ℕ) → new.sound ≡ (old.sound && not (old.begins && x == 128))
    → new.started ≡ true
    → new.begins ≡ nat_lt x 128
    → (old.sound && oid_from old.started old.begins (x ∷ zs)) ≡ (new.sound && oid_from new.started new.begins zs)
one_more old new x zs p q r = sym (ap (λ (b : Bool). b && oid_from new.started new.begins zs) p
    ∙ ap (λ (b : Bool). (old.sound && not (old.begins && x == 128)) && oid_from b new.begins zs) q
    ∙ ap (λ (b : Bool). (old.sound && not (old.begins && x == 128)) && oid_from true b zs) r
    ∙ stepped old.sound old.started old.begins x zs)

pub tested_more : (old new : OidTest) (m xs : List ℕ)
    → ((zs : List ℕ)
    → (old.sound && oid_from old.started old.begins (xs ++ zs)) ≡ (new.sound && oid_from new.started new.begins zs))
    → Tested old m → Tested new (m ++ xs)
tested_more old new m xs e h zs = ap is_oid (append_assoc m xs zs) ∙ h (xs ++ zs) ∙ e zs

pub drop_step : (xs zs : List ℕ) (k : ℕ) → k < length xs → drop k xs ++ zs ≡ get_or xs k 0 ∷ (drop (k + 1) xs ++ zs)
drop_step xs zs k h = rw (add-one, drop-cons xs k 0 h) refl
