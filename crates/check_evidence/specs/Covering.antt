-- What an archive time-stamp must cover (RFC 4998, 4.3, 5.2 and 5.3).
use Rattle.std.specs.Prelude.{ℕ, List, [], ◌∷◌, ◌++◌, map, Option, Some, None}
use Rattle.der_core.specs.Element.{el}
use Rattle.digests.specs.Messages.{digest_of}
use Rattle.digests.specs.declared.algorithm.Alg.{Alg}
use Rattle.evidence_types.specs.StampValue.{StampValue}
use Rattle.evidence_types.specs.EvidenceValue.{chains_parts}
use Rattle.check_evidence.specs.Places.{Place, last_of}

-- of a data object in the first chain: its hash value (4.3, step 1)
-- of one in a later chain: the hash value of its hash value h and of ha, the hash value of the ArchiveTimeStampSequence
-- of the chains before, in this order: H(h + ha) (5.2, steps 2 to 4)
abbrev pub covered_of : Alg → (earlier : List (List StampValue)) → (data_object : List ℕ) → List ℕ
covered_of alg [] data_object = digest_of alg data_object
covered_of alg (chain ∷ chains) data_object =
    digest_of alg (digest_of alg data_object ++ digest_of alg (el 0x30 (chains_parts (chain ∷ chains))))

-- of a stamp that is renewed in its chain: the hash value of its time-stamp field, the whole element (5.2, 5.3)
abbrev pub covered_after : Alg → (before : Option StampValue) → (earlier : List (List StampValue))
    → (data_objects : List (List ℕ)) → List (List ℕ)
covered_after alg (Some s) earlier data_objects = digest_of alg s.stamp ∷ []
covered_after alg None earlier data_objects = map (covered_of alg earlier) data_objects

-- The values that the stamp at a place must cover: that of the stamp before it in its chain; of the first of a chain
-- those of the data objects.
abbrev pub covered_at : Alg → (data_objects : List (List ℕ)) → Place → List (List ℕ)
covered_at alg data_objects p = covered_after alg (last_of p.before) p.earlier data_objects
