-- How long what is made is.
use Rattle.std.proofs.Common.{◌≡◌, ℕ, ◌+◌, ◌<◌, ◌≤◌, List, [], ◌∷◌, ◌++◌, length, map, Some, None, refl, ap, ◌∙◌, arith}
use Rattle.std.proofs.Common.{length-append}
use Rattle.std.proofs.lemmas.List.Concat.{flat_map-cons}
use Rattle.der_core.specs.Element.{len, el}
use Rattle.der_core.specs.Values.{algorithm_parts}
use Rattle.digests.specs.declared.algorithm.Alg.{Alg}
use Rattle.digests.specs.Algorithms.{contents_of}
use Rattle.digests.proofs.Named.{contents_short}
use Rattle.tsp_types.proofs.LengthsMade.{length_el, length_small, length_version}
use Rattle.evidence_types.specs.StampValue.{hash_list_element, hash_list_parts, hash_lists_parts, optional_hash_lists}
use Rattle.evidence_making.specs.Made.{plain}
use Rattle.evidence_making.specs.Frames.{FrameValue, Lists, added, each_inside, lists_inside, stamp_inside}
use Rattle.evidence_making.specs.Frames.{chain_inside, chains_inside}
use Rattle.evidence_making.specs.Frames.{algorithms_inside, record_inside}

-- an element whose contents have so many octets
pub el_length : (t : ℕ) (b : List ℕ) (n size : ℕ) → n ≡ length b → size ≡ 1 + length (len n) + n
    → size ≡ length (el t b)
el_length t b n size e s = omega (arith, length_el t b, s, e, ap (λ (k : ℕ). length (len k)) e)

-- it is longer than these
pub inside_less : (t : ℕ) (b : List ℕ) → length b ≤ length (el t b)
inside_less t b = omega (arith, length_el t b)

pub plain_length : (t : ℕ) (alg : Alg) → length (el t (algorithm_parts (plain alg))) ≡ 4 + length (contents_of alg)
plain_length t alg =
    let c = contents_of alg in
    let short = contents_short alg in
    let inside : length (algorithm_parts (plain alg)) ≡ 2 + length c =
    omega (arith, length-append (el 0x06 c) [], length_small 0x06 c (omega (arith, short))) in
    omega (arith, inside, short, length_small t (algorithm_parts (plain alg)) (omega (arith, inside, short)))

pub parts_cons_length : (list : List (List ℕ)) (lists : List (List (List ℕ)))
    → length (hash_lists_parts (list ∷ lists)) ≡ length (hash_list_element list) + length (hash_lists_parts lists)
parts_cons_length list lists = ap (λ (l : List ℕ). length l) (flat_map-cons hash_list_element list lists)
    ∙ length-append (hash_list_element list) (hash_lists_parts lists)

pub lists_cons_length : (v : List ℕ) (vs : List (List ℕ))
    → length (each_inside (v ∷ vs)) ≡ length (hash_list_element (v ∷ [])) + length (each_inside vs)
lists_cons_length v vs = parts_cons_length (v ∷ []) (map (λ (w : List ℕ). w ∷ []) vs)

pub list_cons_length : (v : List ℕ) (vs : List (List ℕ))
    → length (hash_list_parts (v ∷ vs)) ≡ length (el 0x04 v) + length (hash_list_parts vs)
list_cons_length v vs = ap (λ (l : List ℕ). length l) (flat_map-cons (λ (x : List ℕ). el 0x04 x) v vs)
    ∙ length-append (el 0x04 v) (hash_list_parts vs)

lists_less : (lists : Lists) → length (lists_inside lists) ≤ length (optional_hash_lists 0xa2 lists)
lists_less None = omega arith
lists_less (Some lists) = inside_less 0xa2 (hash_lists_parts lists)

-- a size, by the length of the contents
abbrev pub Size : (size contents : ℕ) → Type 0
Size size contents = size ≡ 1 + length (len contents) + contents

-- ---- the elements round a token

module _ (f : FrameValue) (lists : Lists) (token : List ℕ) where
  abbrev stamp : List ℕ
  stamp = stamp_inside f.alg lists token

  abbrev chain : List ℕ
  chain = chain_inside f lists token

  abbrev chains : List ℕ
  chains = chains_inside f lists token

  abbrev algorithms : List ℕ
  algorithms = algorithms_inside f

  abbrev whole : List ℕ
  whole = record_inside f lists token

  pub stamp_length : (a l : ℕ) → a ≡ length (el 0xa0 (algorithm_parts (plain f.alg)))
      → l ≡ length (optional_hash_lists 0xa2 lists) → a + l + length token ≡ length stamp
  stamp_length a l a-is l-is =
      omega (
        arith,
        a-is,
        l-is,
        length-append (el 0xa0 (algorithm_parts (plain f.alg))) (optional_hash_lists 0xa2 lists ++ token),
        length-append (optional_hash_lists 0xa2 lists) token,
      )

  pub chain_length : (s : ℕ) → s ≡ length (el 0x30 stamp) → length f.stamps + s ≡ length chain
  chain_length s s-is = omega (arith, s-is, length-append f.stamps (el 0x30 stamp))

  pub chains_length : (s : ℕ) → s ≡ length (el 0x30 chain) → length f.chains + s ≡ length chains
  chains_length s s-is = omega (arith, s-is, length-append f.chains (el 0x30 chain))

  pub algorithms_length : (n : ℕ) → n ≡ length (added f.alg f.adds) → length f.algorithms + n ≡ length algorithms
  algorithms_length n n-is = omega (arith, n-is, length-append f.algorithms (added f.alg f.adds))

  abbrev behind_algorithms : List ℕ
  behind_algorithms = f.others ++ el 0x30 chains

  pub whole_length : (n s : ℕ) → n ≡ length (el 0x30 algorithms) → s ≡ length (el 0x30 chains)
      → 3 + n + length f.others + s ≡ length whole
  whole_length n s n-is s-is =
      omega (
        arith,
        n-is,
        s-is,
        length_version,
        length-append (el 0x02 (1 ∷ [])) (el 0x30 algorithms ++ behind_algorithms),
        length-append (el 0x30 algorithms) behind_algorithms,
        length-append f.others (el 0x30 chains),
      )

  -- ---- none is longer than the one round it

  pub algorithms_less : length algorithms ≤ length whole
  algorithms_less = omega (
    arith,
    inside_less 0x30 algorithms,
    whole_length (length (el 0x30 algorithms)) (length (el 0x30 chains)) refl refl,
  )

  pub chains_less : length chains ≤ length whole
  chains_less = omega (
    arith,
    inside_less 0x30 chains,
    whole_length (length (el 0x30 algorithms)) (length (el 0x30 chains)) refl refl,
  )

  pub chain_less : length chain ≤ length whole
  chain_less = omega (arith, inside_less 0x30 chain, chains_length (length (el 0x30 chain)) refl, chains_less)

  pub stamp_less : length stamp ≤ length whole
  stamp_less = omega (arith, inside_less 0x30 stamp, chain_length (length (el 0x30 stamp)) refl, chain_less)

  pub lists_less_whole : length (lists_inside lists) ≤ length whole
  lists_less_whole = omega (
    arith,
    lists_less lists,
    stamp_length (length (el 0xa0 (algorithm_parts (plain f.alg))))
        (length (optional_hash_lists 0xa2 lists)) refl refl,
    stamp_less,
  )

  -- ---- what is too long makes the record so

  chain_by_stamp : (a l s : ℕ) → a ≡ length (el 0xa0 (algorithm_parts (plain f.alg)))
      → l ≡ length (optional_hash_lists 0xa2 lists) → Size s (a + l + length token)
      → length f.stamps + s ≡ length chain
  chain_by_stamp a l s a-is l-is s-is = chain_length s (el_length 0x30 stamp _ s (stamp_length a l a-is l-is) s-is)

  pub long_chain : (a l s : ℕ) → a ≡ length (el 0xa0 (algorithm_parts (plain f.alg)))
      → l ≡ length (optional_hash_lists 0xa2 lists) → Size s (a + l + length token)
      → 4294967295 < length f.stamps + s → 4294967296 ≤ length whole
  long_chain a l s a-is l-is s-is over = omega (arith, chain_by_stamp a l s a-is l-is s-is, over, chain_less)

  pub long_chains : (a l s c : ℕ) → a ≡ length (el 0xa0 (algorithm_parts (plain f.alg)))
      → l ≡ length (optional_hash_lists 0xa2 lists) → Size s (a + l + length token)
      → Size c (length f.stamps + s) → 4294967295 < length f.chains + c → 4294967296 ≤ length whole
  long_chains a l s c a-is l-is s-is c-is over = omega (
    arith,
    chains_length c (el_length 0x30 chain _ c (chain_by_stamp a l s a-is l-is s-is) c-is),
    over,
    chains_less,
  )

-- how long the contents of each element are, by the sizes of those inside it
pub record Sums (f : FrameValue) (lists : Lists) (token : List ℕ) (a l s c k n m : ℕ) : Type 0 where
  pub stamp : a + l + length token ≡ length (stamp_inside f.alg lists token)
  pub chain : length f.stamps + s ≡ length (chain_inside f lists token)
  pub chains : length f.chains + c ≡ length (chains_inside f lists token)
  pub algorithms : length f.algorithms + n ≡ length (algorithms_inside f)
  pub whole : 3 + m + length f.others + k ≡ length (record_inside f lists token)

pub sums : (f : FrameValue) (lists : Lists) (token : List ℕ) (a l s c k n m : ℕ)
    → a ≡ length (el 0xa0 (algorithm_parts (plain f.alg)))
    → l ≡ length (optional_hash_lists 0xa2 lists) → Size s (a + l + length token)
    → Size c (length f.stamps + s) → Size k (length f.chains + c) → n ≡ length (added f.alg f.adds)
    → Size m (length f.algorithms + n) → Sums f lists token a l s c k n m
sums f lists token a l s c k n m a-is l-is s-is c-is k-is n-is m-is =
    let e1 = stamp_length f lists token a l a-is l-is in
    let e2 = chain_length f lists token s (el_length 0x30 (stamp_inside f.alg lists token) _ s e1 s-is) in
    let e3 = chains_length f lists token c (el_length 0x30 (chain_inside f lists token) _ c e2 c-is) in
    let e4 = algorithms_length f lists token n n-is in
    let e5 = whole_length f lists token m k (el_length 0x30 (algorithms_inside f) _ m e4 m-is)
    (el_length 0x30 (chains_inside f lists token) _ k e3 k-is) in
    record { stamp = e1; chain = e2; chains = e3; algorithms = e4; whole = e5 }
