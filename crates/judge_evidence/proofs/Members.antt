-- What is shown of a group of data objects is shown of each of them.
use Rattle.std.proofs.Common.{◌≡◌, ◌≢◌, ℕ, true, false, ◌<◌, List, [], ◌∷◌, length, Option, Some, None, Contains, map}
use Rattle.std.proofs.Common.{refl, sym, ap, ◌∙◌, subst, arith}
use Rattle.std.proofs.lemmas.List.{length-map, get_or-map}
use Rattle.std.proofs.lemmas.List.Elements.{Contains-push}
use Rattle.digests.specs.Messages.{digest_of}
use Rattle.digests.specs.declared.algorithm.Alg.{Alg}
use Rattle.evidence_types.specs.StampValue.{StampValue}
use Rattle.check_evidence.specs.Grounds.{Grounds}
use Rattle.check_evidence.specs.Roots.{IsRoot, IsCovered}
use Rattle.check_evidence.specs.Places.{Place, last_of}
use Rattle.check_evidence.specs.Covering.{covered_of, covered_after, covered_at}
use Rattle.check_evidence.specs.Standing.{Covers, Stands}
use Rattle.check_evidence.specs.Laws.{GroupsCoverMembers, MembersHaveTheRoot}
use Rattle.judge_evidence.specs.ShowingLaws.{MembersAreShown}

-- a list that contains the image of each
contains_map : (f : List ℕ → List ℕ) (xs : List (List ℕ)) (x : List ℕ) → Contains xs x → Contains (map f xs) (f x)
contains_map f xs x h =
    let long : h.0 < length (map f xs) = omega (arith, length-map xs f) in
    (h.0, long, get_or-map f xs h.0 x (f x) h.1 ∙ ap f h.2)

-- what must be covered for one of the data objects is one value, which must be covered for all of them
pub record IsOneOf (covered single : List (List ℕ)) : Type 0 where
  pub value : List ℕ
  pub among : Contains covered value
  pub is : single ≡ value ∷ []

one_of : (alg : Alg) (before : Option StampValue) (earlier : List (List StampValue)) (ds : List (List ℕ)) (d : List ℕ)
    → Contains ds d → IsOneOf (covered_after alg before earlier ds) (covered_after alg before earlier (d ∷ []))
one_of alg None earlier ds d h = record {
  value = covered_of alg earlier d;
  among = contains_map (covered_of alg earlier) ds d h;
  is = refl;
}
one_of alg (Some s) earlier ds d h = record {
  value = digest_of alg s.stamp;
  among = Contains-push [] (digest_of alg s.stamp);
  is = refl;
}

module _ (cover : GroupsCoverMembers) (root : MembersHaveTheRoot) (g : Grounds) (ds : List (List ℕ)) (d : List ℕ)
    (member : Contains ds d) where
  one_at : (p : Place) (alg : Alg) → IsOneOf (covered_at alg ds p) (covered_at alg (d ∷ []) p)
  one_at p alg = one_of alg (last_of p.before) p.earlier ds d member

  one_covered : (p : Place) (alg : Alg) → Covers ds p alg → Covers (d ∷ []) p alg
  one_covered p alg h =
      let one = one_at p alg in
      subst (λ (c : List (List ℕ)). IsCovered p.stamp.lists c) (sym one.is)
      (cover alg p.stamp.lists (covered_at alg ds p) one.value h one.among)

  one_root : (p : Place) (alg : Alg) (r : List ℕ) → IsRoot alg p.stamp.lists (covered_at alg ds p) r
      → IsRoot alg p.stamp.lists (covered_at alg (d ∷ []) p) r
  one_root p alg r h =
      let one = one_at p alg in
      subst (λ (c : List (List ℕ)). IsRoot alg p.stamp.lists c r) (sym one.is)
      (root alg p.stamp.lists (covered_at alg ds p) one.value r one.among h)

  pub stands_for_one : (p : Place) → Stands g ds p → Stands g (d ∷ []) p
  stands_for_one p s =
      let f = s.fits in
      record {
        alg = s.alg;
        moment = s.moment;
        fits = record {
          is_alg = f.is_alg;
          lengths = f.lengths;
          covers = one_covered p s.alg f.covers;
          imprints = record {
            root = f.imprints.root;
            is_root = one_root p s.alg f.imprints.root f.imprints.is_root;
            passes = f.imprints.passes;
          };
          ordered = f.ordered;
        };
        until = s.until;
        is_until = s.is_until;
        algs = s.algs;
        lasts = s.lasts;
      }

not_empty : (d : List ℕ) → d ∷ [] ≢ []
not_empty d h = cc

pub shown_of_each : GroupsCoverMembers → MembersHaveTheRoot → MembersAreShown
shown_of_each cover root g octets ds d m open_lists member s = record {
  some_data = not_empty d;
  record_value = s.record_value;
  encodes = s.encodes;
  open_data = s.open_data;
  stands = λ p there. stands_for_one cover root g ds d member p (s.stands p there);
  first = s.first;
  is_first = s.is_first;
  moment = s.moment;
  whole = λ e. absurd (let no : true ≡ false = sym e ∙ open_lists in cc);
}
