-- The tests of signatures are true exactly if each step succeeds.
use Rattle.std.proofs.Common.{◌≡◌, ◌↔◌, ℕ, zero, suc, ◌+◌, ◌-◌, ◌*◌, ◌^◌, Bool, true, false, ◌&&◌, IsTrue, List, []}
use Rattle.std.proofs.Common.{◌∷◌, ◌++◌, length, get_or, take, drop}
use Rattle.std.proofs.Common.{replicate, refl, ap, sym, ◌∙◌}
use Rattle.std.specs.Prelude.{◌==◌, nat_lt, nat_le}
use Rattle.std.proofs.lemmas.Bool.{and_parts, and_from, eqb-true, eq-eqb, ltb-true, lt-ltb, leb-true, le-leb}
use Rattle.std.proofs.lemmas.Bool.{false≢true}
use Rattle.der_core.specs.Element.{el, len}
use Rattle.der_core.specs.Lists.{is_same}
use Rattle.der_core.proofs.Encoded.{same}
use Rattle.der_core.proofs.SameOctets.{is_then_same}
use Rattle.digests.specs.declared.algorithm.Alg.{Alg}
use Rattle.digests.specs.declared.algorithm.Alg.TheVariants.{Sha1, Sha224, Sha256, Sha384, Sha512, Sha512_224}
use Rattle.digests.specs.declared.algorithm.Alg.TheVariants.{Sha512_256}
use Rattle.digests.specs.Algorithms.{contents_of, length_of}
use Rattle.digests.specs.Messages.{digest_of}
use Rattle.big_numbers.specs.Numbers.{i2osp, os2ip}
use Rattle.rsa_signatures.specs.Pkcs1.{IsPkcs1, digest_info, emsa_pkcs1_v1_5, is_pkcs1, rsavp1}
use Rattle.rsa_signatures.specs.Pss.{IsConsistent, IsPss, db_len, db_of, em_bits_of, em_len_of, h_of, is_consistent}
use Rattle.rsa_signatures.specs.Pss.{is_pss}

-- two tests that say the same are the same
pub same_answer : (a b : Bool) (P : Type 0) → (IsTrue a ↔ P) → ((b ≡ true) ↔ P) → a ≡ b
same_answer true true P f g = refl
same_answer true false P f g = absurd (false≢true (g.1 (f.0 refl)))
same_answer false true P f g = absurd (false≢true (f.1 (g.0 refl)))
same_answer false false P f g = refl

-- four tests, one after the other
record Four (a b c d : Bool) : Type 0 where
  pub first : a ≡ true
  pub second : b ≡ true
  pub third : c ≡ true
  pub fourth : d ≡ true

four_parts : (a b c d : Bool) → (a && b && c && d) ≡ true → Four a b c d
four_parts a b c d t =
    let x = and_parts (a && b && c) d t in
    let y = and_parts (a && b) c x.0 in
    let z = and_parts a b y.0 in
    record { first = z.0; second = z.1; third = y.1; fourth = x.1 }

four_from : (a b c d : Bool) → a ≡ true → b ≡ true → c ≡ true → d ≡ true → (a && b && c && d) ≡ true
four_from a b c d p q r s = and_from (a && b && c) d (and_from (a && b) c (and_from a b p q) r) s

pub pkcs1_says : (alg : Alg) (h modulus : List ℕ) (e : ℕ) (s : List ℕ)
    → (is_pkcs1 alg h modulus e s ≡ true) ↔ IsPkcs1 alg h modulus e s
unfolding is_pkcs1
pkcs1_says alg h modulus e s =
    let k : ℕ = length modulus in
    let a : Bool = length s == k in
    let b : Bool = nat_lt (os2ip s) (os2ip modulus) in
    let c : Bool = nat_le (length (digest_info alg h) + 11) k in
    let found : List ℕ = i2osp (rsavp1 (os2ip modulus) e (os2ip s)) k in
    let due : List ℕ = emsa_pkcs1_v1_5 (digest_info alg h) k in (
      λ t.
          let p = four_parts a b c (is_same found due) t in
          record {
            octets = eqb-true (length s) k p.first;
            representative = ltb-true (os2ip s) (os2ip modulus) p.second;
            room = leb-true (length (digest_info alg h) + 11) k p.third;
            encoded = same found due p.fourth;
          },
      λ r.
          four_from a b c (is_same found due) (eq-eqb (length s) k r.octets)
          (lt-ltb (os2ip s) (os2ip modulus) r.representative)
          (le-leb (length (digest_info alg h) + 11) k r.room) (is_then_same found due r.encoded),
    )

consistent_says : (alg mask : Alg) (s_len : ℕ) (m_hash em : List ℕ) (em_bits : ℕ)
    → (is_consistent alg mask s_len m_hash em em_bits ≡ true) ↔ IsConsistent alg mask s_len m_hash em em_bits
unfolding is_consistent
consistent_says alg mask s_len m_hash em em_bits =
    let db : List ℕ = db_of alg mask em em_bits in
    let zeros : ℕ = db_len alg em - s_len - 1 in
    let hash : List ℕ = digest_of alg (replicate 8 0 ++ (m_hash ++ drop (db_len alg em - s_len) db)) in
    let most : ℕ = 2 ^ (8 - (8 * length em - em_bits)) in
    let a : Bool = nat_le (length_of alg + s_len + 2) (length em) in
    let b : Bool = get_or em (length em - 1) 0 == 0xbc in
    let c : Bool = nat_lt (get_or em 0 0) most in
    let d : Bool = is_same (take zeros db) (replicate zeros 0) in
    let e : Bool = get_or db zeros 0 == 0x01 in
    let f : Bool = is_same hash (h_of alg em) in (
      λ t.
          let x = and_parts (a && b && c && d && e) f t in
          let y = and_parts (a && b && c && d) e x.0 in
          let p = four_parts a b c d y.0 in
          record {
            room = leb-true (length_of alg + s_len + 2) (length em) p.first;
            trailer = eqb-true (get_or em (length em - 1) 0) 0xbc p.second;
            top = ltb-true (get_or em 0 0) most p.third;
            zeros = same (take zeros db) (replicate zeros 0) p.fourth;
            one = eqb-true (get_or db zeros 0) 0x01 y.1;
            hash = same hash (h_of alg em) x.1;
          },
      λ r.
          and_from (a && b && c && d && e) f
          (and_from (a && b && c && d) e
          (four_from a b c d (le-leb (length_of alg + s_len + 2) (length em) r.room)
          (eq-eqb (get_or em (length em - 1) 0) 0xbc r.trailer) (lt-ltb (get_or em 0 0) most r.top)
          (is_then_same (take zeros db) (replicate zeros 0) r.zeros))
          (eq-eqb (get_or db zeros 0) 0x01 r.one))
          (is_then_same hash (h_of alg em) r.hash),
    )

pub pss_says : (alg mask : Alg) (s_len : ℕ) (h modulus : List ℕ) (e : ℕ) (s : List ℕ)
    → (is_pss alg mask s_len h modulus e s ≡ true) ↔ IsPss alg mask s_len h modulus e s
unfolding is_pss
pss_says alg mask s_len h modulus e s =
    let y : ℕ = rsavp1 (os2ip modulus) e (os2ip s) in
    let em : List ℕ = i2osp y (em_len_of modulus) in
    let a : Bool = length s == length modulus in
    let b : Bool = nat_lt (os2ip s) (os2ip modulus) in
    let c : Bool = nat_lt y (256 ^ em_len_of modulus) in
    let d : Bool = is_consistent alg mask s_len h em (em_bits_of modulus) in
    let says = consistent_says alg mask s_len h em (em_bits_of modulus) in (
      λ t.
          let p = four_parts a b c d t in
          record {
            octets = eqb-true (length s) (length modulus) p.first;
            representative = ltb-true (os2ip s) (os2ip modulus) p.second;
            small = ltb-true y (256 ^ em_len_of modulus) p.third;
            consistent = says.0 p.fourth;
          },
      λ r.
          four_from a b c d (eq-eqb (length s) (length modulus) r.octets)
          (lt-ltb (os2ip s) (os2ip modulus) r.representative) (lt-ltb y (256 ^ em_len_of modulus) r.small)
          (says.1 r.consistent),
    )

-- T is the DER encoding of a DigestInfo: first the length octets of the digest, then those of the whole
more : ℕ → ℕ → ℕ
more zero k = k
more (suc n) k = suc (more n k)

abbrev with_size : Alg → List ℕ → ℕ → List ℕ
with_size alg h k = el 0x30 (el 0x30 (el 0x06 (contents_of alg) ++ el 0x05 []) ++ 0x04 ∷ (len k ++ h))

abbrev with_whole : Alg → List ℕ → ℕ → ℕ → List ℕ
with_whole alg h n k = 0x30 ∷ (len (more n k) ++ drop 2 (digest_info alg h))

pub info_says : (alg : Alg) (h : List ℕ) → length h ≡ length_of alg
    → digest_info alg h ≡ el 0x30 (el 0x30 (el 0x06 (contents_of alg) ++ el 0x05 []) ++ el 0x04 h)
unfolding len more
info_says Sha1 h l = sym (ap (with_size Sha1 h) l ∙ ap (with_whole Sha1 h 13) l)
info_says Sha224 h l = sym (ap (with_size Sha224 h) l ∙ ap (with_whole Sha224 h 17) l)
info_says Sha256 h l = sym (ap (with_size Sha256 h) l ∙ ap (with_whole Sha256 h 17) l)
info_says Sha384 h l = sym (ap (with_size Sha384 h) l ∙ ap (with_whole Sha384 h 17) l)
info_says Sha512 h l = sym (ap (with_size Sha512 h) l ∙ ap (with_whole Sha512 h 17) l)
info_says Sha512_224 h l = sym (ap (with_size Sha512_224 h) l ∙ ap (with_whole Sha512_224 h 17) l)
info_says Sha512_256 h l = sym (ap (with_size Sha512_256 h) l ∙ ap (with_whole Sha512_256 h 17) l)
