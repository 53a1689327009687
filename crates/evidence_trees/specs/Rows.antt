-- Worked rows: trees over digests, and the lists of their leaves. The roots are those that Bouncy Castle 1.72 gave
-- these leaves, and it accepts records with these lists; the nodes between were computed by Python's hashlib.
use Rattle.std.specs.Prelude.{ℕ, List, [], ◌∷◌, ◌++◌}
use Rattle.der_core.specs.Hex.{hex}
use Rattle.digests.specs.declared.algorithm.Alg.TheVariants.{Sha256, Sha512}
use Rattle.evidence_trees.specs.HashTrees.{AreLeavesOf, IsTreeRoot, HashTree, AreListsOf, IsWayFrom}

abbrev pub d000 : List ℕ
d000 = hex "b30bb20e74f7a295aeaba71bedea2d4c63ebad7ded8d1d6368f9e70fa063d0ad"

abbrev pub d001 : List ℕ
d001 = hex "f6065ce8be732658ce43398ea1da159c98d57c15c9ff3832e91979db9cbe8bfd"

abbrev pub d002 : List ℕ
d002 = hex "7aba2e26e82bad298453edd2ba18f03201dfa3bba9a26720900238a7c1a18528"

abbrev pub d003 : List ℕ
d003 = hex "c1e2fd013db3520097dfd6459ad8d9a0516efb83a5afa51cb875368ddd86ee7b"

abbrev pub d004 : List ℕ
d004 = hex "3d736001e6d46f623bc8d549e3f16d771826d7933b095742d3f3ce14a500f76b"

abbrev pub d005 : List ℕ
d005 = hex "5903acc64d247954027ce2201679c86a420bd29be02fd76247cf134a501def93"

abbrev pub d006 : List ℕ
d006 = hex "f01023c83b25081bb9e9d406d08f651e09806e9a07e73cd71d49163e94acf796"

-- d002 and d000, one after the other, hashed: the node of these
abbrev pub node : List ℕ
node = hex "1eaf68cc480d3bc72ad73318c28190fc408a0efdb54d67c27329befcec005bc4"

abbrev pub root_of_three : List ℕ
root_of_three = hex "5bef1129e60c586a6a1af7a9b4660d6fd8791dbd60e542aa60243932426fbde2"

-- the tree of three
abbrev pub three : HashTree
three = record { algorithm = Sha256; leaves = d002 ∷ d000 ∷ d001 ∷ []; root = root_of_three }

-- those of one, two, five and seven
abbrev pub one : HashTree
one = record { algorithm = Sha256; leaves = d000 ∷ []; root = d000 }

abbrev pub two : HashTree
two = record {
  algorithm = Sha256;
  leaves = d000 ∷ d001 ∷ [];
  root = hex "c3dd95ab57ec3930f6a0c0f0ff7aff589813b3e7c9a5e3e04b4c722efa89709c";
}

abbrev pub five : HashTree
five = record {
  algorithm = Sha256;
  leaves = d004 ∷ d002 ∷ d000 ∷ d003 ∷ d001 ∷ [];
  root = hex "90ee0d13ad8fea93af0d57636d8af0c2154c99222cf95c1f9670aeae6382b523";
}

abbrev pub seven : HashTree
seven = record {
  algorithm = Sha256;
  leaves = d004 ∷ d005 ∷ d002 ∷ d000 ∷ d003 ∷ d006 ∷ d001 ∷ [];
  root = hex "651bd64e31d982717ddc45c2df789f2df28f7d873e3e6b5d955c6a714729711d";
}

-- two digests by SHA-512
abbrev pub lesser : List ℕ
lesser = hex "803431bdcb173f74906dc5c059c42691446bc07b523d9286bb92b0714542f14b"
    ++ hex "965f5e46a9b18b4439d1c4c9fc20d63ebefbdd8e8323838e053e9a17d3a4ad90"

abbrev pub greater : List ℕ
greater = hex "ceaa56613ab8e5d1df24800efa21bbb0a8dbf5cbcdddf64f3ae6676bc376518e"
    ++ hex "816431b40624e3f0a35c8b331c798d7a2dcb25d38c2927c8b017ef0946f0cd17"

abbrev pub two_by_sha512 : HashTree
two_by_sha512 = record {
  algorithm = Sha512;
  leaves = lesser ∷ greater ∷ [];
  root = hex "6d2fa32fbb4b0cd6af91cc3979b4541fae0fb39537c2a4676c9210d5e8bda4f2"
      ++ hex "fb53fa1483bd362b1a649537ff19b990b76a230c03223dc2a62684fa2064c8d7";
}

pub record TreeRows : Type 0 where
  -- the leaves of values in another order, of which one stands twice
  pub leaves : AreLeavesOf (d001 ∷ d000 ∷ d001 ∷ d002 ∷ []) (d002 ∷ d000 ∷ d001 ∷ [])
  -- one leaf is its own root
  pub one : IsTreeRoot Sha256 (d000 ∷ []) d000
  pub two : IsTreeRoot Sha256 (d000 ∷ d001 ∷ [])
      (hex "c3dd95ab57ec3930f6a0c0f0ff7aff589813b3e7c9a5e3e04b4c722efa89709c")
  -- the third is an odd one on the first level
  pub three : IsTreeRoot Sha256 (d002 ∷ d000 ∷ d001 ∷ []) root_of_three
  -- the last is an odd one on two levels
  pub five : IsTreeRoot Sha256 (d004 ∷ d002 ∷ d000 ∷ d003 ∷ d001 ∷ [])
      (hex "90ee0d13ad8fea93af0d57636d8af0c2154c99222cf95c1f9670aeae6382b523")
  -- the last is an odd one on the first level alone, and then a node of two
  pub seven : IsTreeRoot Sha256 (d004 ∷ d005 ∷ d002 ∷ d000 ∷ d003 ∷ d006 ∷ d001 ∷ [])
      (hex "651bd64e31d982717ddc45c2df789f2df28f7d873e3e6b5d955c6a714729711d")
  pub by_sha512 : IsTreeRoot Sha512 (lesser ∷ greater ∷ [])
      (hex "6d2fa32fbb4b0cd6af91cc3979b4541fae0fb39537c2a4676c9210d5e8bda4f2"
      ++ hex "fb53fa1483bd362b1a649537ff19b990b76a230c03223dc2a62684fa2064c8d7")

-- the lists of the leaves of three
pub record ListRows : Type 0 where
  -- the first has its neighbour, and then the odd leaf
  pub first : AreListsOf three d002 (d002 ∷ d000 ∷ d001 ∷ [])
  -- the second has the first
  pub second : AreListsOf three d000 (d000 ∷ d002 ∷ d001 ∷ [])
  -- the odd one has no neighbour on the first level, and then the node of the others
  pub odd : AreListsOf three d001 (d001 ∷ node ∷ [])

-- all that stands in the lists of leaves
pub record WayRows : Type 0 where
  -- one leaf has no neighbour
  pub of_one : IsWayFrom one d000 (d000 ∷ [])
  -- each of two has the other
  pub first_of_two : IsWayFrom two d000 (d000 ∷ d001 ∷ [])
  pub second_of_two : IsWayFrom two d001 (d001 ∷ d000 ∷ [])
  pub by_sha512 : IsWayFrom two_by_sha512 greater (greater ∷ lesser ∷ [])
  -- of three the odd one has no neighbour on the first level
  pub first_of_three : IsWayFrom three d002 (d002 ∷ d000 ∷ d001 ∷ [])
  pub second_of_three : IsWayFrom three d000 (d000 ∷ d002 ∷ d001 ∷ [])
  pub odd_of_three : IsWayFrom three d001 (d001 ∷ node ∷ [])
  -- of five it has none on the first two levels, and is the neighbour of the node of all others
  pub first_of_five : IsWayFrom five d004
      (d004 ∷ d002 ∷ hex "66d184d913d284eb9a530819dbeafd813544228c223b27a5841afe3ea8ce0dd9" ∷ d001 ∷ [])
  pub fourth_of_five : IsWayFrom five d003
      (d003 ∷ d000 ∷ hex "aa29c737f0f0fdefbce3efdce4a8fbce41b007227e29ce286aea8cfee109c2df" ∷ d001 ∷ [])
  pub odd_of_five : IsWayFrom five d001
      (d001 ∷ hex "c10159398a731ac177cbad1067d32e42107c97a72973796b28c34c06fc27cd09" ∷ [])
  -- of seven it has none on the first level, and one on the second
  pub third_of_seven : IsWayFrom seven d002
      (d002 ∷ d000 ∷ hex "2b063cca1d9cda47a64ec027762678be8b8a8e6c4d40dc0b56f48d4f3831a999"
      ∷ hex "a71b3d1850a4bc6b5a980399eb95fb694fe37c05f9092b34ab5528d25c1ca271" ∷ [])
  pub fifth_of_seven : IsWayFrom seven d003
      (d003 ∷ d006 ∷ d001 ∷ hex "12bea2579fc43d062ddcbe190e4ec94377c9259f7ce6baf89b5103479daa842b" ∷ [])
  pub odd_of_seven : IsWayFrom seven d001
      (d001 ∷ hex "4cc2bcca344b2ad72c0c6f508f6bf79d714ce87f37f887928b5240a1f1aabc69"
      ∷ hex "12bea2579fc43d062ddcbe190e4ec94377c9259f7ce6baf89b5103479daa842b" ∷ [])
  -- what is no leaf has no way
  pub no_leaf : (values : List (List ℕ)) → IsWayFrom three d003 values → ⊥
