-- What a verifier is asked.
use Rattle.std.specs.Prelude.{◌≡◌, ℕ, Bool, true, ◌&&◌, List}
use Rattle.std.specs.List.{list_any}
use Rattle.der_core.specs.Lists.{is_same}

-- whether a signature over signed attributes is valid under a key (RFC 5652, 5.4 and 5.6): the key as a
-- SubjectPublicKeyInfo, the digest algorithm and the signature algorithm as AlgorithmIdentifiers, each a whole element;
-- the tail of the signed attributes, before which the octet 31 was signed; the octets of the signature
pub record Asked : Type 0 where
  pub key : List ℕ
  pub digest_alg : List ℕ
  pub signature_alg : List ℕ
  pub tail : List ℕ
  pub signature : List ℕ

-- these are the same question
abbrev pub is_same_question : Asked → Asked → Bool
is_same_question a b = is_same a.key b.key && is_same a.digest_alg b.digest_alg
    && is_same a.signature_alg b.signature_alg && is_same a.tail b.tail && is_same a.signature b.signature

-- the question is one of these
abbrev pub is_among : List Asked → Asked → Bool
is_among asked q = list_any (is_same_question q) asked
