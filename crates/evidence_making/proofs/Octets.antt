-- What octets parts of a record are, and that they make up the whole.
use Rattle.std.proofs.Common.{◌≡◌, ℕ, suc, ◌+◌, List, [], ◌∷◌, ◌++◌, length, sym, ap, ◌∙◌, arith, append-nil}
use Rattle.std.proofs.Common.{append_assoc}
use Rattle.der_core.specs.Element.{len, el}
use Rattle.der_core.specs.Values.{algorithm_parts}
use Rattle.der_core.proofs.Lengths.{len_0}
use Rattle.digests.specs.declared.algorithm.Alg.{Alg}
use Rattle.digests.specs.Algorithms.{contents_of}
use Rattle.digests.proofs.Named.{contents_short}
use Rattle.evidence_making.specs.declared.headers.Headers.{Headers}
use Rattle.evidence_making.specs.Made.{plain}
use Rattle.evidence_making.specs.Frames.{FrameValue, Lists, added, stamp_inside, chain_inside, chains_inside}
use Rattle.evidence_making.specs.Frames.{algorithms_inside, record_inside, AreHeaders, head_octets, chains_octets}

-- the AlgorithmIdentifier without parameters
pub plain_octets : (t : ℕ) (alg : Alg) → el t (algorithm_parts (plain alg))
    ≡ (t ∷ (2 + length (contents_of alg)) ∷ 0x06 ∷ length (contents_of alg) ∷ []) ++ contents_of alg
plain_octets t alg =
    let c = contents_of alg in
    let n = length c in
    let short = contents_short alg in
    let inside : algorithm_parts (plain alg) ≡ 0x06 ∷ n ∷ c = append-nil (el 0x06 c)
    ∙ ap (λ (l : List ℕ). 0x06 ∷ (l ++ c)) (len_0 n (omega (arith, short))) in
    let two : suc (suc n) ≡ 2 + n = omega arith in
    let header : len (suc (suc n)) ≡ (2 + n) ∷ [] = len_0 (suc (suc n)) (omega (arith, short))
    ∙ ap (λ (k : ℕ). k ∷ []) two in
    ap (λ (b : List ℕ). el t b) inside ∙ ap (λ (l : List ℕ). t ∷ (l ++ (0x06 ∷ n ∷ c))) header

-- ---- beginnings and what follows them

five : (a b c d e f : List ℕ) → (a ++ (b ++ (c ++ (d ++ e)))) ++ f ≡ a ++ (b ++ (c ++ (d ++ (e ++ f))))
five a b c d e f =
    append_assoc a (b ++ (c ++ (d ++ e))) f ∙ ap (λ (x : List ℕ). a ++ x) (append_assoc b (c ++ (d ++ e)) f
    ∙ ap (λ (x : List ℕ). b ++ x) (append_assoc c (d ++ e) f ∙ ap (λ (x : List ℕ). c ++ x) (append_assoc d e f)))

six : (a b c d e f g : List ℕ) → (a ++ (b ++ (c ++ (d ++ (e ++ f))))) ++ g ≡ a ++ (b ++ (c ++ (d ++ (e ++ (f ++ g)))))
six a b c d e f g =
    append_assoc a (b ++ (c ++ (d ++ (e ++ f)))) g ∙ ap (λ (x : List ℕ). a ++ x) (five b c d e f g)

begun : (header : List ℕ) (t : ℕ) (b : List ℕ) → header ≡ t ∷ len (length b) → header ++ b ≡ el t b
begun header t b e = ap (λ (h : List ℕ). h ++ b) e

-- the same where something follows the element
begun_behind : (header : List ℕ) (t : ℕ) (b rest : List ℕ) → header ≡ t ∷ len (length b)
    → header ++ (b ++ rest) ≡ el t b ++ rest
begun_behind header t b rest e =
    sym (append_assoc header b rest) ∙ ap (λ (x : List ℕ). x ++ rest) (begun header t b e)

version_is : 0x02 ∷ 0x01 ∷ 0x01 ∷ [] ≡ el 0x02 (1 ∷ [])
version_is = ap (λ (l : List ℕ). 0x02 ∷ (l ++ (1 ∷ []))) (sym (len_0 1 (omega arith)))

module _ (f : FrameValue) (lists : Lists) (token : List ℕ) (h : Headers)
    (are : AreHeaders f lists token h) where
  abbrev stamp : List ℕ
  stamp = stamp_inside f.alg lists token

  abbrev chain : List ℕ
  chain = chain_inside f lists token

  abbrev chains : List ℕ
  chains = chains_inside f lists token

  chains_are : chains_octets h f ++ stamp ≡ el 0x30 chains
  chains_are = five h.chains f.chains h.chain f.stamps h.stamp stamp
      ∙ ap (λ (x : List ℕ). h.chains ++ (f.chains ++ (h.chain ++ (f.stamps ++ x)))) (begun h.stamp 0x30 stamp are.stamp)
      ∙ ap (λ (x : List ℕ). h.chains ++ (f.chains ++ x)) (begun h.chain 0x30 chain are.chain)
      ∙ begun h.chains 0x30 chains are.chains

  abbrev version : List ℕ
  version = 0x02 ∷ 0x01 ∷ 0x01 ∷ []

  head_is : (rest : List ℕ) → head_octets h f ++ rest
      ≡ h.whole ++ (el 0x02 (1 ∷ []) ++ (el 0x30 (algorithms_inside f) ++ (f.others ++ rest)))
  head_is rest =
      let adds : List ℕ = added f.alg f.adds in
      six h.whole version h.algorithms f.algorithms adds f.others rest
      ∙ ap (λ (x : List ℕ). h.whole ++ (x ++ (h.algorithms ++ (f.algorithms ++ (adds ++ (f.others ++ rest))))))
      version_is
      ∙ ap (λ (x : List ℕ). h.whole ++ (el 0x02 (1 ∷ []) ++ x))
      (ap (λ (x : List ℕ). h.algorithms ++ x) (sym (append_assoc f.algorithms adds (f.others ++ rest)))
      ∙ begun_behind h.algorithms 0x30 (algorithms_inside f) (f.others ++ rest) are.algorithms)

  pub all_octets : (head_octets h f ++ chains_octets h f) ++ stamp ≡ el 0x30 (record_inside f lists token)
  all_octets = append_assoc (head_octets h f) (chains_octets h f) stamp
      ∙ ap (λ (x : List ℕ). head_octets h f ++ x) chains_are ∙ head_is (el 0x30 chains)
      ∙ begun h.whole 0x30 (record_inside f lists token) are.whole
