-- What is shown of each of some data objects is shown of them as a group.
use Rattle.std.proofs.Common.{◌≡◌, ◌≢◌, ℕ, suc, List, [], ◌∷◌, Option, Some, None, Contains, map, refl, subst, arith}
use Rattle.std.specs.Prelude.{All}
use Rattle.std.proofs.lemmas.List.Elements.{All-nil, All-cons, All-head, Contains-append_left}
use Rattle.digests.specs.declared.algorithm.Alg.{Alg}
use Rattle.evidence_types.specs.StampValue.{StampValue}
use Rattle.evidence_types.specs.EvidenceValue.{EvidenceValue}
use Rattle.evidence_types.proofs.EvidenceReaders.{evidence_unique}
use Rattle.check_verdict.proofs.Lists.{all-along}
use Rattle.check_evidence.specs.Grounds.{Grounds, terms_of}
use Rattle.check_evidence.specs.Roots.{IsRoot, AreOne, IsCovered, HasNoOthers}
use Rattle.check_evidence.specs.Places.{Place, IsIn, last_of}
use Rattle.check_evidence.specs.Covering.{covered_of, covered_after, covered_at}
use Rattle.check_evidence.specs.Standing.{Covers, Stands}
use Rattle.check_evidence.specs.Showing.{IsWhole}
use Rattle.evidence_laws.specs.Laws.{GroupsAreShown}
use Rattle.check_evidence.proofs.States.{one_alg, one_imprinted}

abbrev Values : Type 0
Values = List (List ℕ)

-- ---- lists

all_map : (f : List ℕ → List ℕ) (P : List ℕ → Type 0) (ds : Values) → ((d : List ℕ) → Contains ds d → P (f d))
    → All P (map f ds)
all_map f P [] h = All-nil P
all_map f P (d ∷ ds) h = All-cons P (f d) (map f ds) (h d (0, omega arith, refl))
    (all_map f P ds (λ x c. h x (suc c.0, omega (arith, c.1), c.2)))

-- lists have this root and cover what they must
abbrev Covering : Alg → (lists : Option (List Values)) → (covered : Values) → (root : List ℕ) → Type 0
Covering alg lists covered root = IsCovered lists covered × IsRoot alg lists covered root

module _ (alg : Alg) (earlier : List (List StampValue)) (root d : List ℕ) (ds : Values) where
  group_of_data : (lists : Option (List Values))
      → ((x : List ℕ) → Contains (d ∷ ds) x → Covering alg lists (covered_of alg earlier x ∷ []) root)
      → Covering alg lists (map (covered_of alg earlier) (d ∷ ds)) root
  group_of_data None h =
      let one : AreOne (map (covered_of alg earlier) (d ∷ ds)) root = record {
        some = (0, omega arith, only d (0, omega arith, refl));
        only = all_map (covered_of alg earlier) (λ v. v ≡ root) (d ∷ ds) only;
      } in
      ((root, one), one)
    where
      only : (x : List ℕ) → Contains (d ∷ ds) x → covered_of alg earlier x ≡ root
      only x c = All-head (λ v. v ≡ root) (covered_of alg earlier x) [] (h x c).1.only
  group_of_data (Some []) h = absurd (h d (0, omega arith, refl)).0
  group_of_data (Some (values ∷ lists)) h = (
    all_map (covered_of alg earlier) (Contains values) (d ∷ ds)
        (λ x c. All-head (Contains values) (covered_of alg earlier x) [] (h x c).0),
    (h d (0, omega arith, refl)).1,
  )

  group_after : (before : Option StampValue) (lists : Option (List Values))
      → ((x : List ℕ) → Contains (d ∷ ds) x → Covering alg lists (covered_after alg before earlier (x ∷ [])) root)
      → Covering alg lists (covered_after alg before earlier (d ∷ ds)) root
  group_after (Some s) lists h = h d (0, omega arith, refl)
  group_after None lists h = group_of_data lists h

-- ---- a place

module _ (g : Grounds) (d : List ℕ) (ds : Values) (p : Place)
    (each : (x : List ℕ) → Contains (d ∷ ds) x → Stands g (x ∷ []) p) where
  st : Stands g (d ∷ []) p
  st = each d (0, omega arith, refl)

  covering_at : (x : List ℕ) → Contains (d ∷ ds) x
      → Covering st.alg p.stamp.lists (covered_at st.alg (x ∷ []) p) st.fits.imprints.root
  covering_at x c =
      let s = each x c in
      let alg : s.alg ≡ st.alg = one_alg p.stamp s.alg st.alg s.fits.is_alg.its st.fits.is_alg.its in
      let same : s.fits.imprints.root ≡ st.fits.imprints.root
      = one_imprinted (terms_of g) p.stamp.stamp s.alg st.alg s.fits.imprints.root st.fits.imprints.root
      s.moment st.moment
      s.fits.imprints.passes st.fits.imprints.passes in (
        subst (λ (a : Alg). Covers (x ∷ []) p a) alg s.fits.covers,
        subst (λ (r : List ℕ). IsRoot st.alg p.stamp.lists (covered_at st.alg (x ∷ []) p) r) same
            (subst (λ (a : Alg). IsRoot a p.stamp.lists (covered_at a (x ∷ []) p) s.fits.imprints.root) alg
            s.fits.imprints.is_root),
      )

  together : Covering st.alg p.stamp.lists (covered_at st.alg (d ∷ ds) p) st.fits.imprints.root
  together = group_after st.alg p.earlier st.fits.imprints.root d ds (last_of p.before) p.stamp.lists covering_at

  stands_together : Stands g (d ∷ ds) p
  stands_together =
      let f = st.fits in
      record {
        alg = st.alg;
        moment = st.moment;
        fits = record {
          is_alg = f.is_alg;
          lengths = f.lengths;
          covers = together.0;
          imprints = record { root = f.imprints.root; is_root = together.1; passes = f.imprints.passes };
          ordered = f.ordered;
        };
        until = st.until;
        is_until = st.is_until;
        algs = st.algs;
        lasts = st.lasts;
      }

-- ---- the first list

none_beside : (lists : Option (List Values)) (v : List ℕ) (more : Values) → HasNoOthers lists (v ∷ [])
    → HasNoOthers lists (v ∷ more)
none_beside None v more h = tt
none_beside (Some []) v more h = tt
none_beside (Some (values ∷ lists)) v more h = all-along (Contains (v ∷ [])) (Contains (v ∷ more)) values
    (λ x c among. Contains-append_left (v ∷ []) more x among) h

whole_together : (s : StampValue) (d : List ℕ) (ds : Values) → IsWhole (d ∷ []) s → IsWhole (d ∷ ds) s
whole_together s d ds h = record {
  alg = h.alg;
  its = h.its;
  no_others =
      none_beside s.lists (covered_of h.alg [] d) (map (covered_of h.alg []) ds) h.no_others;
}

-- ---- a record

not_empty : (d : List ℕ) (ds : Values) → d ∷ ds ≢ []
not_empty d ds e = cc

pub groups_are_shown : GroupsAreShown
groups_are_shown g octets [] m some h = absurd (some refl)
groups_are_shown g octets (d ∷ ds) m some h =
    let s = h d (0, omega arith, refl) in
    record {
      some_data = not_empty d ds;
      record_value = s.record_value;
      encodes = s.encodes;
      open_data = s.open_data;
      stands = λ p there. stands_together g d ds p (λ x c.
          let k = h x c in
          k.stands p (subst (λ (v : EvidenceValue). IsIn v.chains p)
          (evidence_unique octets s.record_value k.record_value s.encodes k.encodes) there));
      first = s.first;
      is_first = s.is_first;
      moment = s.moment;
      whole = λ e. whole_together s.first d ds (s.whole e);
    }
