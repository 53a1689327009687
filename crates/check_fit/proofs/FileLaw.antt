-- From a file that is opened, and the result for its signers, to the result for the file.
use Rattle.std.proofs.Common.{◌≡◌, ℕ, ◌<◌, Bool, true, false, cond, List, length, Option, Some, None, Result, Ok, Err}
use Rattle.std.proofs.Common.{refl, sym, ap, subst, arith}
use Rattle.std.specs.Prelude.{is_some, ◌==◌, ◌↔◌, IsTrue, MatchResult}
use Rattle.std.proofs.lemmas.Bool.{eqb-false}
use Rattle.digests.specs.declared.algorithm.Alg.{Alg}
use Rattle.digests.specs.declared.set.Algs.{Algs}
use Rattle.digests.specs.declared.selection.WantedDigests.{WantedDigests}
use Rattle.digests.specs.Sets.{is_in}
use Rattle.digests.specs.Selection.{AreOfWanted, set_given}
use Rattle.cms_types.specs.declared.fault.CmsFault.{CmsFault}
use Rattle.cms_types.specs.SignedDataValue.{SignedDataValue}
use Rattle.cms_types.specs.SignerValue.{SignerValue}
use Rattle.check_fit.specs.declared.policy.Policy.{Policy}
use Rattle.check_fit.specs.declared.rules.FileRule.TheVariants as rule
use Rattle.check_fit.specs.declared.rules.DeviceFault.{DeviceFault}
use Rattle.check_fit.specs.declared.rules.DeviceFault.TheVariants as device
use Rattle.check_fit.specs.declared.rules.Refused.{Refused}
use Rattle.check_fit.specs.declared.rules.Refused.TheVariants as refused
use Rattle.check_fit.specs.Fitting.{WantedBy}
use Rattle.check_fit.specs.FileFitting.{SourceFacts, placed, file_rules, OfSource, fails, too_long, read, OfContent}
use Rattle.check_fit.specs.FileFitting.{OfRules, OfFile, HasDigests, Hashes, Opens}
use Rattle.check_fit.specs.FileFitting.{FitsSigners, FitsSigned, HashesSource}

placed_is : (w v : SignedDataValue) (content : Option (List ℕ)) (handed : Bool) → placed w content handed ≡ Ok v → w ≡ v
placed_is w v None false e = absurd cc
placed_is w v None true e = cc
placed_is w v (Some b) false e = cc
placed_is w v (Some b) true e = absurd cc

-- if no rule refuses a file, its content is in exactly one place
pub placed_from : (reading : Result SignedDataValue CmsFault) (handed : Bool) (v : SignedDataValue)
    → file_rules reading handed ≡ Ok v
    → placed v v.encapsulated.content handed ≡ Ok v
placed_from (Err f) handed v e = absurd cc
placed_from (Ok w) handed v e = go (length w.signers == 0) e
  where
    go : (b : Bool) → cond b (Err (refused.File rule.NoSigner)) (placed w w.encapsulated.content handed) ≡ Ok v
        → placed v v.encapsulated.content handed ≡ Ok v
    go true e = absurd cc
    go false e = subst (λ (x : SignedDataValue). placed x x.encapsulated.content handed ≡ Ok v)
        (placed_is w v w.encapsulated.content handed e) e

-- and it has a signer
pub signer_from : (reading : Result SignedDataValue CmsFault) (handed : Bool) (v : SignedDataValue)
    → file_rules reading handed ≡ Ok v → 0 < length v.signers
signer_from (Err f) handed v e = absurd cc
signer_from (Ok w) handed v e = go (length w.signers == 0) refl e
  where
    go : (b : Bool) → (length w.signers == 0) ≡ b
        → cond b (Err (refused.File rule.NoSigner)) (placed w w.encapsulated.content handed) ≡ Ok v
        → 0 < length v.signers
    go true is k = absurd cc
    go false is k =
        subst (λ (x : SignedDataValue). 0 < length x.signers) (placed_is w v w.encapsulated.content handed k)
        (omega (arith, eqb-false (length w.signers) 0 is))

twice : (v : SignedDataValue) (b : List ℕ) → placed v (Some b) true ≡ Ok v → ⊥
twice v b e = absurd cc

-- each algorithm that a signer wants is among the digests
pub provided : (policy : Policy) (signers : List SignerValue) (wanted given : Algs)
    → given ≡ wanted → ((alg : Alg) → IsTrue (is_in alg wanted) ↔ WantedBy policy signers alg)
    → (alg : Alg) → WantedBy policy signers alg → IsTrue (is_in alg given)
provided policy signers wanted given e iff alg w = rw (e) ((iff alg).1 w)

-- the source failed
pub source_fails :
    {A : Type 0} (Judges : List ℕ → Result A Refused → Type 0) (wanted : Algs) (tells : Type 0) (rest rest' : List ℕ)
    (count count' : ℕ) (fault : DeviceFault)
    → HashesSource wanted tells rest rest' count count' (Err fault)
    → OfSource Judges tells rest rest' count count' (Err (refused.Device fault))
source_fails Judges wanted tells rest rest' count count' device.ReadFailed h = fails h
source_fails Judges wanted tells rest rest' count count' device.ContentTooLong h = too_long h.0 h.1
source_fails Judges wanted tells rest rest' count count' device.AskFailed h = absurd h
source_fails Judges wanted tells rest rest' count count' device.TooLong h = absurd h
source_fails Judges wanted tells rest rest' count count' device.OutOfMemory h = absurd h

module _ {A S : Type 0} (facts : SourceFacts S) (Judges : List ℕ → SignedDataValue → Result A Refused → Type 0)
    (v : SignedDataValue) where
  -- the content is in the SignedData
  pub attached : (content : List ℕ) (before : Option S) (result : Result A Refused)
      → placed v v.encapsulated.content (is_some before) ≡ Ok v
      → v.encapsulated.content ≡ Some content → Judges content v result
      → OfRules facts Judges (placed v v.encapsulated.content (is_some before)) before before result
  attached content None result e is judged = rw (e) (refl, content, is, judged)
  attached content (Some s) result e is judged =
      absurd (twice v content (subst (λ (o : Option (List ℕ)). placed v o true ≡ Ok v) is e))

  -- it was handed in
  pub handed_in : (before : Option S) (s s' : S) (result : Result A Refused) → before ≡ Some s
      → placed v v.encapsulated.content (is_some before) ≡ Ok v
      → OfSource (λ content. Judges content v) (facts.tells s) (facts.rest s) (facts.rest s') (facts.failures s)
      (facts.failures s') result
      → OfRules facts Judges (placed v v.encapsulated.content (is_some before)) before (Some s') result
  handed_in before s s' result is e answer =
      subst (λ (o : Option S). placed v v.encapsulated.content (is_some o) ≡ Ok v
      → OfRules facts Judges (placed v v.encapsulated.content (is_some o)) o (Some s') result) (sym is)
      (λ h. rw (h) (s', refl, answer)) e

-- the source was read to its end
pub source_hashed : (wanted : Algs) (v : SignedDataValue) (tells : Type 0) (rest rest' : List ℕ) (count count' : ℕ)
    (digests : WantedDigests)
    → HashesSource wanted tells rest rest' count count' (Ok digests)
    → OfSource (λ content. Hashes wanted content v) tells rest rest' count count' (Ok digests)
source_hashed wanted v tells rest rest' count count' digests h = read h.2 h.3 h.0 h.4 h.5 (h.1, h.6)

-- ---- from the digests of a content to what is said by them

-- a refusal is the same refusal
abbrev Refuses : {A B : Type 0} → Result A Refused → Result B Refused → Type 0
Refuses r r' = (e : Refused) → r ≡ Err e → r' ≡ Err e

same_refusal : {A B : Type 0} (e : Refused) → Refuses {A = A} {B = B} (Err e) (Err e)
same_refusal {A} {B} e f k = let z : e ≡ f = same e f k in ap answer z
  where
    answer : Refused → Result B Refused
    answer x = Err x

    hashed : Refused → Result A Refused
    hashed x = Err x

    same : (x y : Refused) → hashed x ≡ hashed y → x ≡ y
    same x y h = cc

module _ {A B S : Type 0} (facts : SourceFacts S) (J : List ℕ → SignedDataValue → Result A Refused → Type 0)
    (K : List ℕ → SignedDataValue → Result B Refused → Type 0) where
  source_to : (v : SignedDataValue) (telling : Type 0) (before after : List ℕ) (count count' : ℕ) (r : Result A Refused)
      (r' : Result B Refused)
      → Refuses r r' → ((content : List ℕ) → J content v r → K content v r')
      → OfSource (λ content. J content v) telling before after count count' r
      → OfSource (λ content. K content v) telling before after count count' r'
  source_to v telling before after count count' r r' same f (fails e) =
      subst (λ (x : Result B Refused). OfSource (λ content. K content v) telling
      before after count count' x) (sym (same (refused.Device device.ReadFailed) refl)) (fails e)
  source_to v telling before after count count' r r' same f (too_long e many) =
      subst (λ (x : Result B Refused). OfSource (λ content. K content v)
      telling before after count count' x) (sym (same (refused.Device device.ContentTooLong) refl)) (too_long e many)
  source_to v telling before after count count' r r' same f (read content small e all done j) =
      read content small e all done (f content j)

  content_to : (v : SignedDataValue) (before after : Option S) (r : Result A Refused) (r' : Result B Refused)
      → Refuses r r'
      → ((content : List ℕ) → J content v r → K content v r')
      → OfContent facts J v before after r → OfContent facts K v before after r'
  content_to v None after r r' same f (none, content, is, j) = (none, content, is, f content j)
  content_to v (Some s) after r r' same f (s', is, source) = (
    s',
    is,
    source_to v (facts.tells s) (facts.rest s) (facts.rest s') (facts.failures s)
        (facts.failures s') r r' same f source,
  )

  pub rules_to : (v : SignedDataValue) (left left' : Result SignedDataValue Refused) (before after : Option S)
      (r : Result A Refused)
      (r' : Result B Refused) → left ≡ Ok v → left' ≡ Ok v → Refuses r r'
      → ((content : List ℕ) → J content v r → K content v r') → OfRules facts J left before after r
      → OfRules facts K left' before after r'
  rules_to v left left' before after r r' is is' same f h =
      subst (λ (x : Result SignedDataValue Refused). OfRules facts K x before after r') (sym is')
      (content_to v before after r r' same f
      (subst (λ (x : Result SignedDataValue Refused). OfRules facts J x before after r) is h))

-- two answers of rules leave the SignedData v, as those about the file do and those about one of its signers: what the
-- digests of its content say after the first is said after the second
module _ {A S : Type 0} (facts : SourceFacts S) (K : List ℕ → SignedDataValue → Result A Refused → Type 0)
    (wanted : Algs) (v : SignedDataValue)
    (left left' : Result SignedDataValue Refused) (is : left ≡ Ok v) (is' : left' ≡ Ok v)
    (before after : Option S) where
  -- no digests, for this refusal
  pub unhashed : (e : Refused) → OfRules facts (Hashes wanted) left before after (Err e)
      → OfRules facts K left' before after (Err e)
  unhashed e h = rules_to facts (Hashes wanted) K v left left' before after (Err e) (Err e) is is' (same_refusal e)
      (λ content j. absurd j) h

  -- what is said by the digests
  pub by_digests : (digests : WantedDigests) (result : Result A Refused)
      → ((content : List ℕ) → set_given digests ≡ wanted → AreOfWanted digests content → K content v result)
      → OfRules facts (Hashes wanted) left before after (Ok digests) → OfRules facts K left' before after result
  by_digests digests result f h =
      rules_to facts (Hashes wanted) K v left left' before after (Ok digests) result is is' (λ e k. absurd cc)
      (λ content j. f content j.0 j.1) h

-- ---- a file that is opened

abbrev Opened : Type 0
Opened = SignedDataValue × WantedDigests

pub opens : (policy : Policy) (content : List ℕ) (reading : Result SignedDataValue CmsFault) (handed : Bool)
    (v : SignedDataValue)
    (digests : WantedDigests) → file_rules reading handed ≡ Ok v → HasDigests policy content v.signers digests
    → Opens policy content v (Ok (v, digests))
opens policy content reading handed v digests e has = (refl, signer_from reading handed v e, has)

-- what holds of a file that was opened: it was read, it has a signer, and the digests are those of a content
module _ {S : Type 0} (facts : SourceFacts S) (policy : Policy) (w : SignedDataValue) (digests : WantedDigests) where
  abbrev pub HasContent : Type 0
  HasContent = (content : List ℕ) × HasDigests policy content w.signers digests

  abbrev Found : SignedDataValue → Type 0
  Found v = (v ≡ w) × (0 < length w.signers) × HasContent

  found : (v : SignedDataValue) (content : List ℕ) → Opens policy content v (Ok (w, digests)) → Found v
  found v content (same, some, has) = (
    sym same,
    subst (λ (x : SignedDataValue). 0 < length x.signers) (sym same) some,
    (content, subst (λ (x : SignedDataValue). HasDigests policy content x.signers digests) (sym same) has),
  )

  found_of_source :
      (v : SignedDataValue) (telling : Type 0) (before after : List ℕ) (count count' : ℕ) (r : Result Opened Refused)
      → r ≡ Ok (w, digests) → OfSource (λ content. Opens policy content v) telling before after count count' r → Found v
  found_of_source v telling before after count count' (Err (refused.Device device.ReadFailed)) is (fails e) =
      absurd (let z = is in cc)
  found_of_source v telling before after count count' (Err (refused.Device device.ContentTooLong)) is
      (too_long e many) = absurd (let z = is in cc)
  found_of_source v telling before after count count' r is (read content small count_is all done opened) =
      found v content (subst (λ (x : Result Opened Refused). Opens policy content v x) is opened)

  found_of_content : (v : SignedDataValue) (before after : Option S)
      → OfContent facts (Opens policy) v before after (Ok (w, digests)) → Found v
  found_of_content v None after (same, content, is, opened) = found v content opened
  found_of_content v (Some s) after (s', same, source) =
      found_of_source v (facts.tells s) (facts.rest s) (facts.rest s') (facts.failures s)
      (facts.failures s') (Ok (w, digests)) refl source

  abbrev okay : Result Opened Refused
  okay = Ok (w, digests)

  read_from : (reading : Result SignedDataValue CmsFault) (handed : Bool) (v : SignedDataValue)
      → file_rules reading handed ≡ Ok v → reading ≡ Ok v
  read_from (Err f) handed v e = absurd cc
  read_from (Ok x) handed v e = go (length x.signers == 0) e
    where
      good : SignedDataValue → Result SignedDataValue CmsFault
      good y = Ok y

      go : (b : Bool) → cond b (Err (refused.File rule.NoSigner)) (placed x x.encapsulated.content handed) ≡ Ok v
          → good x ≡ Ok v
      go true k = absurd cc
      go false k = ap good (placed_is x v x.encapsulated.content handed k)

  abbrev IsOpened : Result SignedDataValue CmsFault → Type 0
  IsOpened reading = (reading ≡ Ok w) × (0 < length w.signers) × HasContent

  opened_by : (reading : Result SignedDataValue CmsFault) (before after : Option S) (r : Result SignedDataValue Refused)
      → file_rules reading (is_some before) ≡ r → MatchResult r (λ v. OfContent facts (Opens policy) v before after
      (Ok (w, digests))) (λ e. (okay ≡ Err e) × (after ≡ before)) → IsOpened reading
  opened_by reading before after (Ok v) e h = let f = found_of_content v before after h in
      (subst (λ (x : SignedDataValue). reading ≡ Ok x) f.0 (read_from reading (is_some before) v e), f.1, f.2)
  opened_by reading before after (Err failed) e h = absurd (let z = h.0 in cc)

  pub is_opened : (reading : Result SignedDataValue CmsFault) (before after : Option S)
      → OfFile facts (Opens policy) reading before after (Ok (w, digests)) → IsOpened reading
  is_opened reading before after file = opened_by reading before after (file_rules reading (is_some before)) refl file

-- ---- the result for its signers is the result for the file

module _ {A S : Type 0} (facts : SourceFacts S) (policy : Policy)
    (Judges : List ℕ → SignedDataValue → Result A Refused → Type 0) where
  abbrev Tells : SignedDataValue → WantedDigests → Result A Refused → Type 0
  Tells v digests result = 0 < length v.signers → (content : List ℕ) → HasDigests policy content v.signers digests
      → Judges content v result

  told : (v w : SignedDataValue) (content : List ℕ) (digests : WantedDigests) (result : Result A Refused)
      → Opens policy content v (Ok (w, digests))
      → Tells w digests result → Judges content v result
  told v w content digests result (same, some, has) tell =
      let t : Tells v digests result = subst (λ (x : SignedDataValue). Tells x digests result) same tell in
      t some content has

  of_content : (v w : SignedDataValue) (before after : Option S) (digests : WantedDigests) (result : Result A Refused)
      → OfContent facts (Opens policy) v before after (Ok (w, digests)) → Tells w digests result
      → OfContent facts Judges v before after result
  of_content v w before after digests result h tell =
      content_to facts (Opens policy) Judges v before after (Ok (w, digests)) result (λ e k. absurd cc)
      (λ content opens. told v w content digests result opens tell) h

  abbrev Says : {B : Type 0} → (List ℕ → SignedDataValue → Result B Refused → Type 0) → (before after : Option S)
      → Result B Refused
      → Result SignedDataValue Refused → Type 0
  Says J before after result r =
      MatchResult r (λ v. OfContent facts J v before after result) (λ e. (result ≡ Err e) × (after ≡ before))

  by_rules : (before after : Option S) (w : SignedDataValue) (digests : WantedDigests) (result : Result A Refused)
      (r : Result SignedDataValue Refused) → Says (Opens policy) before after (Ok (w, digests)) r
      → Tells w digests result
      → Says Judges before after result r
  by_rules before after w digests result (Ok v) says tell = of_content v w before after digests result says tell
  by_rules before after w digests result (Err e) says tell = absurd (let z = says.0 in cc)

  -- it was opened
  pub judged_open : (reading : Result SignedDataValue CmsFault) (before after : Option S) (w : SignedDataValue)
      (digests : WantedDigests)
      (result : Result A Refused) → OfFile facts (Opens policy) reading before after (Ok (w, digests))
      → Tells w digests result
      → OfFile facts Judges reading before after result
  judged_open reading before after w digests result file tell =
      by_rules before after w digests result (file_rules reading (is_some before)) file tell

  refused_content : (v : SignedDataValue) (before after : Option S) (e : Refused)
      → OfContent facts (Opens policy) v before after (Err e)
      → OfContent facts Judges v before after (Err e)
  refused_content v before after e h = content_to facts (Opens policy) Judges v before after (Err e) (Err e)
      (same_refusal e) (λ content opens. absurd opens) h

  refused_by : (before after : Option S) (e : Refused) (r : Result SignedDataValue Refused)
      → Says (Opens policy) before after (Err e) r
      → Says Judges before after (Err e) r
  refused_by before after e (Ok v) says = refused_content v before after e says
  refused_by before after e (Err f) (is, same) =
      (let z : f ≡ e = cc in subst (λ (x : Refused). answer e ≡ Err x) (sym z) refl, same)
    where
      answer : Refused → Result A Refused
      answer x = Err x

  -- it was refused, or a device failed
  pub refused_open : (reading : Result SignedDataValue CmsFault) (before after : Option S) (e : Refused)
      → OfFile facts (Opens policy) reading before after (Err e) → OfFile facts Judges reading before after (Err e)
  refused_open reading before after e file = refused_by before after e (file_rules reading (is_some before)) file

-- the result for the signers is the result for the SignedData whose signers they are, with the type of its content
pub of_signed : (policy : Policy) (content econtent_type : List ℕ) (signers : List SignerValue) (v : SignedDataValue)
    (result : Result ℕ Refused)
    → econtent_type ≡ v.encapsulated.content_type → signers ≡ v.signers
    → FitsSigners policy content econtent_type signers result
    → FitsSigned policy content v result
of_signed policy content econtent_type signers v result k s fit =
    subst (λ (ss : List SignerValue). FitsSigners policy content v.encapsulated.content_type ss result) s
    (subst (λ (t : List ℕ). FitsSigners policy content t signers result) k fit)
