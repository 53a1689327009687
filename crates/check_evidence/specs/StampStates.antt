-- What the time-stamp of an archive time-stamp states, and the algorithm of an archive time-stamp (RFC 4998, 4.1).
use Rattle.std.specs.Prelude.{◌≡◌, ℕ, List, Option, Some, None}
use Rattle.der_time.specs.Moments.{generalized_moment}
use Rattle.digests.specs.Algorithms.{Names}
use Rattle.digests.specs.declared.algorithm.Alg.{Alg}
use Rattle.cms_types.specs.SignedDataValue.{SignedDataValue, EncodesSignedData}
use Rattle.tsp_types.specs.TstValue.{TstValue, EncodesTst, id_tst_info}
use Rattle.der_core.specs.Values.{AlgorithmValue}
use Rattle.evidence_types.specs.StampValue.{StampValue}
use Rattle.check_evidence.specs.Places.{Place, following}

-- the octets are a token with this content (RFC 3161, 2.4.2), whoever signed it
pub record States (token : List ℕ) (stated : TstValue) : Type 0 where
  pub signed : SignedDataValue
  pub encodes : EncodesSignedData token signed
  pub econtent_type : signed.encapsulated.content_type ≡ id_tst_info
  pub content : List ℕ
  pub present : signed.encapsulated.content ≡ Some content
  pub encodes_stamp : EncodesTst content stated

-- the moment that its time-stamp states
abbrev pub HasTime : StampValue → ℕ → Type 0
HasTime s m = (stated : TstValue) × States s.stamp stated × (generalized_moment stated.time ≡ m)

-- the algorithm of its time-stamp's imprint is this
abbrev pub ImprintedBy : StampValue → Alg → Type 0
ImprintedBy s alg = (stated : TstValue) × States s.stamp stated
    × Names stated.imprint.algorithm.oid stated.imprint.algorithm.parameters alg

-- The algorithm of its lists: that of digestAlgorithm, or, where the field is absent, that of the imprint (4.1).
abbrev pub NamedBy : Option AlgorithmValue → StampValue → Alg → Type 0
NamedBy None s alg = ImprintedBy s alg
NamedBy (Some named) s alg = Names named.oid named.parameters alg

abbrev pub HasAlg : StampValue → Alg → Type 0
HasAlg s alg = NamedBy s.algorithm s alg

-- it has the field, or its time-stamp can be read: so its algorithm can be asked for
abbrev pub ShowsAlg : Option AlgorithmValue → StampValue → Type 0
ShowsAlg None s = (stated : TstValue) × States s.stamp stated
ShowsAlg (Some named) s = Unit {0}

-- The end of a time-stamp's use: the moment of the one that follows; of the last one the moment that the user names,
-- or, where there is none, its own (5.3, step 2: "valid relative to the time of the following Archive Timestamp").
abbrev pub IsUntilBy : (next : Option StampValue) → (at : Option ℕ) → StampValue → ℕ → Type 0
IsUntilBy (Some next) at s until = HasTime next until
IsUntilBy None (Some m) s until = until ≡ m
IsUntilBy None None s until = HasTime s until

abbrev pub IsUntil : (at : Option ℕ) → Place → ℕ → Type 0
IsUntil at p until = IsUntilBy (following p) at p.stamp until
