-- Worked rows: what tokens stamp, what renewals stand on, and chains that are renewed by a token already. The digests
-- were computed by Python's hashlib, of octets that were put together from RFC 4998, 4.2, 4.3 and 5.2; the signatures
-- of the tokens are made up.
use Rattle.std.specs.Prelude.{ℕ, List, [], ◌∷◌, ◌++◌}
use Rattle.der_core.specs.Hex.{hex}
use Rattle.digests.specs.declared.algorithm.Alg.TheVariants.{Sha256, Sha512}
use Rattle.digests.specs.declared.value.Digest.{Digest}
use Rattle.digests.specs.declared.value.Digest.TheVariants as digest
use Rattle.evidence_types.specs.StampValue.{StampValue}
use Rattle.evidence_types.specs.EvidenceRows.{bare, empty}
use Rattle.check_verdict.specs.Rows.{early_token, digest_of_stamp, nine_oclock, ten_oclock}
use Rattle.evidence_trees.specs.Rows.{d000, d001, node, root_of_three}
use Rattle.evidence_making.specs.declared.leaves.LastStamp.{LastStamp}
use Rattle.evidence_making.specs.Made.{stamp_of}
use Rattle.evidence_making.specs.Stamping.{StampsRoot, StampsAnother, IsNoToken}
use Rattle.evidence_making.specs.Leaves.{IsLastOf, IsRehashOf, EndsWithoutTime, EndsWithoutAlg}
use Rattle.evidence_making.specs.Done.{IsRootOver, StampsAfter, AreRenewed, AreRehashed}

-- ---- tokens

-- what a token of ten o'clock attests of this digest by SHA-256, and the token
abbrev pub stamp_over : (imprint : List ℕ) → List ℕ
stamp_over imprint = hex "304f 0201 01 0603 883703 3031 300d 0609 608648016503040201 0500 0420" ++ imprint
    ++ hex "0201 09 180f 32303234303131353130303030305a"

abbrev pub token_over : (imprint : List ℕ) → List ℕ
token_over imprint =
    hex "30820147 0609 2a864886f70d010702 a0820138 30820134 0201 03 310d 300b 0609 608648016503040201"
    ++ hex "3062 060b 2a864886f70d0109100104 a053 0451" ++ stamp_over imprint
    ++ hex "3181bb 3081b8 0201 01 3011 300c 310a 3008 0603 550403 0c01 54 0201 07 300b 0609 608648016503040201"
    ++ hex "a08186 301a 0609 2a864886f70d010903 310d 060b 2a864886f70d0109100104"
    ++ hex "302f 0609 2a864886f70d010904 3122 0420" ++ digest_of_stamp
    ++ hex "3037 060b 2a864886f70d010910022f 3128 3026 3024 3022 0420"
    ++ hex "b5bda2dd49f9ac5c960f22fe79a6cbef1d5b7e0e88c7890e416bb657f4dbb8e1 3005 0603 883701 0403 747361"

-- the digest of abc, and the token over it
abbrev pub digest_of_abc : List ℕ
digest_of_abc = hex "ba7816bf8f01cfea414140de5dae2223b00361a396177a9cb410ff61f20015ad"

abbrev pub late_token : List ℕ
late_token = token_over digest_of_abc

-- NULL in place of a token
abbrev pub null : List ℕ
null = hex "0500"

abbrev pub of_abc : Digest
of_abc = digest.Sha256 digest_of_abc

pub record StampingRows : Type 0 where
  -- a token over abc stamps its digest, and another digest, or one by another algorithm, isn't what it stamps
  pub stamps : StampsRoot late_token of_abc ten_oclock
  pub of_another : StampsAnother late_token (digest.Sha256 d000)
  pub by_another : StampsAnother late_token (digest.Sha512_256 digest_of_abc)
  pub no_token : IsNoToken null
  -- it comes after an earlier moment, and not after its own
  pub after : StampsAfter late_token of_abc nine_oclock
  pub not_after : StampsAfter late_token of_abc ten_oclock → ⊥

-- ---- roots

pub record RootRows : Type 0 where
  -- without lists the leaf is the root
  pub no_lists : IsRootOver (stamp_of Sha256 [] empty) of_abc of_abc
  -- of the odd leaf of three documents
  pub of_three : IsRootOver (stamp_of Sha256 (d001 ∷ node ∷ []) empty) (digest.Sha256 d001)
      (digest.Sha256 root_of_three)
  -- the leaf must stand in the first list, and be by the time-stamp's algorithm
  pub second_list : (root : Digest) → IsRootOver (stamp_of Sha256 (node ∷ d001 ∷ []) empty) (digest.Sha256 d001) root
      → ⊥
  pub by_another : (root : Digest) → IsRootOver (stamp_of Sha256 (d001 ∷ []) empty) (digest.Sha512_256 d001) root → ⊥

-- ---- what renewals stand on

-- one chain of a token of nine o'clock, over abc
abbrev pub early_chain : List StampValue
early_chain = bare early_token ∷ []

abbrev pub early_leaf : List ℕ
early_leaf = hex "2e7468f208ff1efaa0f80a5cc38b7a460320f447ed4ae25c21c51d423e8fe380"

abbrev pub early_last : LastStamp
early_last = record { alg = Sha256; leaf = digest.Sha256 early_leaf; moment = nine_oclock }

-- by SHA-512: the digest of that token; of the text of the first document; and what stands for this in a new chain
abbrev pub early_leaf_512 : List ℕ
early_leaf_512 = hex "3564693a8c4eeab74c7c1d4c715a883aa148e40e105151bc4c1d055d45b5a2fc"
    ++ hex "458280f4b23060324091b94c71ddf48a9f23178620849c13aca899ccf4a182fa"

abbrev pub document_512 : List ℕ
document_512 = hex "ceaa56613ab8e5d1df24800efa21bbb0a8dbf5cbcdddf64f3ae6676bc376518e"
    ++ hex "816431b40624e3f0a35c8b331c798d7a2dcb25d38c2927c8b017ef0946f0cd17"

abbrev pub rehash_512 : List ℕ
rehash_512 = hex "85169d1482f9b00885bb61daf300dccd5555d821bce8fdeac3a16da409b88bf5"
    ++ hex "cbf317fa846ac150375e9f1b75ad6942d3d4eb011a0818375a7b7be9d4bca84c"

-- the same of the first document by SHA-256
abbrev pub rehash_leaf : List ℕ
rehash_leaf = hex "648b1e5dffde84a56318f9b7cf8e101fcafac7646dc23c9b8397b224feb5cecc"

pub record LastRows : Type 0 where
  -- the algorithm is that of the token's imprint, where the archive time-stamp names none
  pub of_one : IsLastOf (early_chain ∷ []) early_last
  -- it is that of the first archive time-stamp of the last chain, and the digest that of the last one's token
  pub of_several : IsLastOf
      ((bare late_token ∷ []) ∷ (stamp_of Sha512 [] late_token ∷ bare early_token ∷ []) ∷ [])
      (record { alg = Sha512; leaf = digest.Sha512 early_leaf_512; moment = nine_oclock })
  -- for a new chain: of the digest of the first document, and then that of the chains so far
  pub rehashed : IsRehashOf (early_chain ∷ []) (digest.Sha256 d000) (digest.Sha256 rehash_leaf) nine_oclock
  pub by_sha512 : IsRehashOf (early_chain ∷ []) (digest.Sha512 document_512) (digest.Sha512 rehash_512) nine_oclock
  -- what is no token has no moment, and as the first of its chain no algorithm
  pub no_time : EndsWithoutTime (early_chain ∷ (bare null ∷ []) ∷ [])
  pub no_alg : EndsWithoutAlg (early_chain ∷ (bare null ∷ bare early_token ∷ []) ∷ [])

-- ---- chains that are renewed

-- the roots of the trees of two over these and another document each
abbrev pub renewal_root : List ℕ
renewal_root = hex "99596bd33bcbefcc9b334350353f4339c7c38c5b2952a5bbb7cd65ef89678db6"

abbrev pub rehash_root : List ℕ
rehash_root = hex "83cb9be0525e2486f7f1a567d5d87bc4e8467dbc637e2dec46ba06623031eb79"

pub record DoneRows : Type 0 where
  -- a time-stamp with the lists of the leaf, and a token of ten o'clock over the root
  pub renewed : AreRenewed
      ((bare early_token ∷ stamp_of Sha256 (early_leaf ∷ d000 ∷ []) (token_over renewal_root) ∷ []) ∷ [])
      (token_over renewal_root) early_last
  -- a new chain of such a time-stamp
  pub rehashed : AreRehashed
      (early_chain ∷ (stamp_of Sha256 (rehash_leaf ∷ d001 ∷ []) (token_over rehash_root) ∷ []) ∷ [])
      (token_over rehash_root) (digest.Sha256 d000) (digest.Sha256 rehash_leaf) nine_oclock
