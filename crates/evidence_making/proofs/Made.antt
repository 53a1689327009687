-- What records that are made show.
use Rattle.std.proofs.Common.{◌≡◌, ℕ, List, [], ◌∷◌, ◌++◌, Option, Some, None, refl, sym, ap, ◌∙◌, subst}
use Rattle.std.proofs.Common.{All, Contains, arith, zero, suc, length, map}
use Rattle.std.specs.Prelude.{unwrap_or}
use Rattle.std.specs.List.{AllByRecursion}
use Rattle.digests.specs.Messages.{digest_of}
use Rattle.digests.specs.declared.algorithm.Alg.{Alg}
use Rattle.evidence_types.specs.StampValue.{StampValue}
use Rattle.evidence_types.specs.EvidenceValue.{encoding, EncodesEvidence}
use Rattle.check_verdict.specs.Passing.{Terms, Due, PassesFor}
use Rattle.check_evidence.specs.Grounds.{Grounds}
use Rattle.check_evidence.specs.Roots.{IsNode, IsRoot, IsRootAfter, IsCovered, HasNoOthers}
use Rattle.evidence_trees.specs.Groups.{GroupValue, GoodGroup}
use Rattle.digests.specs.Algorithms.{length_of}
use Rattle.std.proofs.lemmas.List.Elements.{All-from_recursion, recursion_from_All}
use Rattle.check_evidence.specs.Places.{Place, IsIn, preceding}
use Rattle.check_evidence.specs.StampStates.{HasTime, HasAlg, IsUntilBy}
use Rattle.check_evidence.specs.Covering.{covered_at}
use Rattle.check_evidence.specs.Standing.{IsAlgOf, HasLengths, IsLater, Stands}
use Rattle.evidence_trees.specs.HashTrees.{HashTree, AreListsOf, each_alone}
use Rattle.evidence_trees.proofs.Ways.{one_way}
use Rattle.evidence_making.specs.Frames.{Lists}
use Rattle.evidence_making.specs.Made.{lists_of, group_lists, stamp_of, stamp_with, made}
use Rattle.evidence_making.specs.Laws.{TokenStands, alone, MadeStampsStand, MadeRecordsShow, ShowsLeaf}
use Rattle.evidence_making.specs.Laws.{LeavesHaveOneRecord, IsOfLeaf}

-- ---- one archive time-stamp

pub its_alg : (alg : Alg) (lists : Lists) (token : List ℕ) → HasAlg (stamp_with alg lists token) alg
its_alg alg lists token = record { contents = refl; plain = tt }

-- lists that lead to a root from what they must cover
pub record LeadUp (alg : Alg) (lists : Lists) (must : List (List ℕ)) (root : List ℕ) : Type 0 where
  pub lengths : HasLengths lists alg
  pub covers : IsCovered lists must
  pub is_root : IsRoot alg lists must root

-- lists that cover something are not absent
lists_are : (values covered : List (List ℕ)) → IsCovered (each_alone values) covered
    → lists_of values ≡ each_alone values
lists_are [] covered h = absurd h
lists_are (v ∷ values) covered h = refl

-- a token that passes has the moment
pub time_of : (t : Terms) (s : StampValue) (due : Due) (m : ℕ) → PassesFor t s.stamp due m → HasTime s m
time_of t s due m p = (
  p.stamp,
  record {
    signed = p.signed;
    encodes = p.encodes;
    econtent_type = p.econtent_type;
    content = p.content;
    present = p.present;
    encodes_stamp = p.encodes_stamp;
  },
  p.moment,
)

until_of : (at : Option ℕ) (s : StampValue) (m : ℕ) → HasTime s m → IsUntilBy None at s (unwrap_or at m)
until_of None s m h = h
until_of (Some n) s m h = refl

-- the lists of a leaf, as they stand there
module _ (tree : HashTree) (leaf : List ℕ) (values : List (List ℕ)) (are : AreListsOf tree leaf values) where
  same : each_alone values ≡ lists_of values
  same = sym (lists_are values (leaf ∷ []) are.covered)

  root_there : (covered : List (List ℕ)) → covered ≡ leaf ∷ []
      → IsRoot tree.algorithm (lists_of values) covered tree.root
  root_there covered e = subst (λ (c : List (List ℕ)). IsRoot tree.algorithm (lists_of values) c tree.root) (sym e)
      (subst (λ (l : Lists). IsRoot tree.algorithm l (leaf ∷ []) tree.root) same are.root)

  covered_there : (covered : List (List ℕ)) → covered ≡ leaf ∷ [] → IsCovered (lists_of values) covered
  covered_there covered e = subst (λ (c : List (List ℕ)). IsCovered (lists_of values) c) (sym e)
      (subst (λ (l : Lists). IsCovered l (leaf ∷ [])) same are.covered)

  pub no_others_there : HasNoOthers (lists_of values) (leaf ∷ [])
  no_others_there = subst (λ (l : Lists). HasNoOthers l (leaf ∷ [])) same are.no_others

  lengths_there : HasLengths (lists_of values) tree.algorithm
  lengths_there = subst (λ (l : Lists). HasLengths l tree.algorithm) same are.lengths

  pub lead_up : (must : List (List ℕ)) → must ≡ leaf ∷ [] → LeadUp tree.algorithm (lists_of values) must tree.root
  lead_up must e = record {
    lengths = lengths_there;
    covers = covered_there must e;
    is_root = root_there must e;
  }

-- with a group whose node the leaf is in place of the leaf
module _ (tree : HashTree) (group : GroupValue) (good : GoodGroup group) (by : group.algorithm ≡ tree.algorithm)
    (must : List (List ℕ)) (each : All (Contains group.values) must) where
  first_is : (value : List ℕ) (node : List ℕ) → All (Contains (value ∷ [])) (node ∷ []) → value ≡ node
  first_is value node h = go (h 0 node (omega arith))
    where
      go : Contains (value ∷ []) node → value ≡ node
      go (zero, lt, is) = is
      go (suc k, lt, is) = absurd (omega (arith, lt))

  abbrev AreLong : List (List ℕ) → Type 0
  AreLong l = All (λ w. length w ≡ length_of tree.algorithm) l

  pub group_leads_up : (values : List (List ℕ)) → AreListsOf tree group.node values
      → LeadUp tree.algorithm (group_lists group.values values) must tree.root
  group_leads_up [] are = absurd are.root
  group_leads_up (v ∷ values) are = record {
    lengths = let each : AllByRecursion AreLong (group.values ∷ map (λ (w : List ℕ). w ∷ []) values) = (
      subst (λ (a : Alg). All (λ w. length w ≡ length_of a) group.values) by good.lengths,
      (recursion_from_All AreLong (map (λ (w : List ℕ). w ∷ []) (v ∷ values)) are.lengths).1,
    ) in
        All-from_recursion AreLong (group.values ∷ map (λ (w : List ℕ). w ∷ []) values) each;
    covers = each;
    is_root = (
      group.node,
      subst (λ (a : Alg). IsNode a group.values group.node) by good.node,
      subst (λ (n : List ℕ). IsRootAfter tree.algorithm n (map (λ (w : List ℕ). w ∷ []) values) tree.root)
          (are.root.1 ∙ first_is v group.node are.covered) are.root.2,
    );
  }

-- ---- the last of all

-- after these chains and time-stamps
abbrev pub last_place : (earlier : List (List StampValue)) → (before : List StampValue) → StampValue → Place
last_place earlier before s = record { earlier = earlier; before = before; stamp = s; after = []; later = [] }

-- it stands, if its lists lead to the root from what it must cover
pub new_stands : (g : Grounds) (ds : List (List ℕ)) (tree : HashTree) (lists : Lists)
    (token : List ℕ) (m : ℕ) (earlier : List (List StampValue)) (before : List StampValue)
    → LeadUp tree.algorithm lists
    (covered_at tree.algorithm ds (last_place earlier before (stamp_with tree.algorithm lists token))) tree.root
    → IsAlgOf (last_place earlier before (stamp_with tree.algorithm lists token)) tree.algorithm
    → IsLater (preceding (last_place earlier before (stamp_with tree.algorithm lists token))) m
    → TokenStands g tree.algorithm tree.root token m
    → Stands g ds (last_place earlier before (stamp_with tree.algorithm lists token))
new_stands g ds tree lists token m earlier before up is_alg later t =
    let s = stamp_with tree.algorithm lists token in
    record {
      alg = tree.algorithm;
      moment = m;
      fits = record {
        is_alg = is_alg;
        lengths = up.lengths;
        covers = up.covers;
        imprints = record {
          root = tree.root;
          is_root = up.is_root;
          passes = t.passes;
        };
        ordered = record { later = later; in_time = t.in_time };
      };
      until = unwrap_or g.at m;
      is_until = until_of g.at s m (time_of _ s _ m t.passes);
      algs = t.algs;
      lasts = t.lasts;
    }

pub made_stamps_stand : MadeStampsStand
made_stamps_stand g tree data_object values token m are t =
    let s = stamp_of tree.algorithm values token in
    new_stands g (data_object ∷ []) tree (lists_of values) token m [] []
    (lead_up tree (digest_of tree.algorithm data_object) values are (digest_of tree.algorithm data_object ∷ []) refl)
    (record {
      its = its_alg tree.algorithm (lists_of values) token;
      first = s;
      is_first = refl;
      same = its_alg tree.algorithm (lists_of values) token;
    }) tt t

-- ---- its place is the only one

none_there : {A : Type 0} (xs : List A) (x : A) (ys : List A) → [] ≡ xs ++ x ∷ ys → ⊥
none_there [] x ys e = absurd cc
none_there (y ∷ xs) x ys e = absurd cc

record IsOnly {A : Type 0} (a : A) (xs : List A) (x : A) (ys : List A) : Type 0 where
  before : xs ≡ []
  at : x ≡ a
  after : ys ≡ []

only : {A : Type 0} (a : A) (xs : List A) (x : A) (ys : List A) → a ∷ [] ≡ xs ++ x ∷ ys → IsOnly a xs x ys
only a [] x ys e = record { before = refl; at = cc; after = cc }
only a (y ∷ xs) x ys e = absurd (none_there xs x ys cc)

only_place : (s : StampValue) (p : Place) → IsIn ((s ∷ []) ∷ []) p → p ≡ alone s
only_place s p there =
    let chain = only (s ∷ []) p.earlier (p.before ++ p.stamp ∷ p.after) p.later there in
    let its = only s p.before p.stamp p.after (sym chain.at) in
    λ i. record {
      earlier = chain.before i;
      before = its.before i;
      stamp = its.at i;
      after = its.after i;
      later = chain.after i;
    }

pub made_records_show : MadeRecordsShow
made_records_show g tree data_object values token octets m are encodes stands time =
    let s = stamp_of tree.algorithm values token in
    record {
      some_data = λ e. absurd cc;
      record_value = made tree.algorithm values token;
      encodes = encodes;
      open_data = refl;
      stands = λ p there. subst (λ (q : Place). Stands g (data_object ∷ []) q) (sym (only_place s p there)) stands;
      first = s;
      is_first = refl;
      moment = time;
      whole = λ e. record {
        alg = tree.algorithm;
        its = its_alg tree.algorithm (lists_of values) token;
        no_others = no_others_there tree (digest_of tree.algorithm data_object) values are;
      };
    }

pub shows_leaf : (alg : Alg) (values : List (List ℕ)) (token octets : List ℕ)
    → EncodesEvidence octets (made alg values token) → ShowsLeaf alg values token octets
shows_leaf alg values token octets encodes g tree data_object m same are stands =
    let lists : AreListsOf tree (digest_of tree.algorithm data_object) values =
    subst (λ (a : Alg). AreListsOf tree (digest_of a data_object) values) (sym same) are in
    let on_root : TokenStands g tree.algorithm tree.root token m =
    subst (λ (a : Alg). TokenStands g a tree.root token m) (sym same) stands in
    let s = stamp_of tree.algorithm values token in
    made_records_show g tree data_object values token octets m lists
    (subst (λ (a : Alg). EncodesEvidence octets (made a values token)) (sym same) encodes)
    (made_stamps_stand g tree data_object values token m lists on_root) (time_of _ s _ m on_root.passes)

-- ---- the record of a leaf

pub of_leaf : (alg : Alg) (values : List (List ℕ)) (token octets : List ℕ)
    → EncodesEvidence octets (made alg values token) → IsOfLeaf alg values token octets
of_leaf alg values token octets encodes tree leaf same way = record {
  way = values;
  is_way = way;
  encoded = subst (λ (a : Alg). EncodesEvidence octets (made a values token)) (sym same) encodes;
}

pub one_record : LeavesHaveOneRecord
one_record alg digests tree leaf token octets others is a b =
    let same = one_way tree leaf b.way a.way is.leaves.rising b.is_way a.is_way in
    a.encoded.0 ∙ (ap (λ (w : List (List ℕ)). encoding (made tree.algorithm w token)) same ∙ sym b.encoded.0)
