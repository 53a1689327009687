-- What is put round a token, so that it is the last of a record (RFC 4998, 3.1, 4.1 and 5.1): the octets of each
-- element that holds it, from the inside, and how these elements begin.
use Rattle.std.specs.Prelude.{◌≡◌, ℕ, Bool, true, false, List, [], ◌∷◌, ◌++◌, length, map, Option, Some, None}
use Rattle.std.specs.Option.{option_copied}
use Rattle.der_core.specs.Element.{el, len}
use Rattle.der_core.specs.Values.{algorithm_parts, algorithm_element}
use Rattle.digests.specs.declared.algorithm.Alg.{Alg}
use Rattle.evidence_types.specs.StampValue.{hash_lists_parts, optional_hash_lists}
use Rattle.evidence_trees.specs.Groups.{GroupValue}
use Rattle.evidence_making.specs.declared.frame.Frame.{Frame}
use Rattle.evidence_making.specs.declared.headers.Headers.{Headers}
use Rattle.evidence_making.specs.Made.{group_lists, plain, lists_of}

-- the algorithm of the archive time-stamp; the contents of digestAlgorithms, and whether the algorithm is added to
-- them; cryptoInfos and encryptionInfo; the chains before its own; and the archive time-stamps before it in its chain
pub record FrameValue : Type 0 where
  pub alg : Alg
  pub algorithms : List ℕ
  pub adds : Bool
  pub others : List ℕ
  pub chains : List ℕ
  pub stamps : List ℕ

abbrev pub added : Alg → Bool → List ℕ
added alg true = algorithm_element (plain alg)
added alg false = []

-- the lists of an archive time-stamp, if there are any
abbrev pub Lists : Type 0
Lists = Option (List (List (List ℕ)))

-- lists of these values, each alone, or with those of a group in place of the first
abbrev pub lists_with : (group : Option GroupValue) → (values : List (List ℕ)) → Lists
lists_with None values = lists_of values
lists_with (Some group) values = group_lists group.values values

abbrev pub each_inside : (values : List (List ℕ)) → List ℕ
each_inside values = hash_lists_parts (map (λ v. v ∷ []) values)

abbrev pub lists_inside : Lists → List ℕ
lists_inside None = []
lists_inside (Some lists) = hash_lists_parts lists

abbrev pub stamp_inside : Alg → Lists → (token : List ℕ) → List ℕ
stamp_inside alg lists token = el 0xa0 (algorithm_parts (plain alg))
    ++ (optional_hash_lists 0xa2 lists ++ token)

abbrev pub chain_inside : FrameValue → Lists → (token : List ℕ) → List ℕ
chain_inside f lists token = f.stamps ++ el 0x30 (stamp_inside f.alg lists token)

abbrev pub chains_inside : FrameValue → Lists → (token : List ℕ) → List ℕ
chains_inside f lists token = f.chains ++ el 0x30 (chain_inside f lists token)

abbrev pub algorithms_inside : FrameValue → List ℕ
algorithms_inside f = f.algorithms ++ added f.alg f.adds

abbrev pub record_inside : FrameValue → Lists → (token : List ℕ) → List ℕ
record_inside f lists token = el 0x02 (1 ∷ [])
    ++ (el 0x30 (algorithms_inside f) ++ (f.others ++ el 0x30 (chains_inside f lists token)))

-- ---- beginnings of elements

-- this is how an element begins that has these contents
abbrev pub Begins : (header : List ℕ) → (tag : ℕ) → (contents : List ℕ) → Type 0
Begins header tag contents = header ≡ tag ∷ len (length contents)

-- lists that are absent have no beginning
abbrev pub BeginLists : Option (List ℕ) → Lists → Type 0
BeginLists header None = header ≡ None
BeginLists header (Some lists) = header ≡ Some (0xa2 ∷ len (length (hash_lists_parts lists)))

-- the lists with a group of the code, if there is one
abbrev pub its_lists : Frame → (values : List (List ℕ)) → Lists
its_lists f values = lists_with (option_copied f.group) values

-- as it is in the code
abbrev pub frame_value : Frame → FrameValue
frame_value f = record {
  alg = f.alg;
  algorithms = f.algorithms.now;
  adds = f.adds;
  others = f.others.now;
  chains = f.chains.now;
  stamps = f.stamps.now;
}

-- these are the beginnings of the elements
pub record AreHeaders (f : FrameValue) (its : Lists) (token : List ℕ) (h : Headers) : Type 0 where
  pub whole : Begins h.whole 0x30 (record_inside f its token)
  pub algorithms : Begins h.algorithms 0x30 (algorithms_inside f)
  pub chains : Begins h.chains 0x30 (chains_inside f its token)
  pub chain : Begins h.chain 0x30 (chain_inside f its token)
  pub stamp : Begins h.stamp 0x30 (stamp_inside f.alg its token)
  pub lists : BeginLists h.lists its

-- what is written before the chains, and then before the parts of the archive time-stamp
abbrev pub head_octets : Headers → FrameValue → List ℕ
head_octets h f = h.whole
    ++ ((0x02 ∷ 0x01 ∷ 0x01 ∷ []) ++ (h.algorithms ++ (f.algorithms ++ (added f.alg f.adds ++ f.others))))

abbrev pub chains_octets : Headers → FrameValue → List ℕ
chains_octets h f = h.chains ++ (f.chains ++ (h.chain ++ (f.stamps ++ h.stamp)))
