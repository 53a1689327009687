-- Records that are tested and put, one after the other.
use Rattle.std.proofs.Common.{◌≡◌, ◌⊎◌, ◌<◌, ◌+◌, ℕ, List, [], ◌∷◌, ◌++◌, Option, Some, None, refl, sym, ap, ◌∙◌, subst}
use Rattle.std.proofs.Common.{length, take, get_or, Result, Ok, Err, inl, inr}
use Rattle.std.specs.Prelude.{OnOk}
use Rattle.std.specs.List.{AllZip}
use Rattle.std.proofs.lemmas.List.{take_more}
use Rattle.cli_failures.specs.declared.failure.Failure.{Failure}
use Rattle.cli_failures.specs.declared.failure.Failure.TheVariants as failure
use Rattle.cli_failures.specs.Files.{IsUnread}
use Rattle.cli_making.specs.Adding.{Adds}
use Rattle.cli_making.proofs.Adding.{adds_more, adds_none, adds_nothing}
use Rattle.cli_renewing.specs.Keeping.{Kept, Ways, kept}
use Rattle.cli_renewing.specs.Records.{ArePut, AreTested, FailsAt, IsChangedAt, IsNewAt, IsPut, IsPutAt, IsTested}
use Rattle.cli_renewing.specs.Records.{IsUnputAt, IsUntested, IsUntestedAt, Renewal, StopsAtPut, puts_of}
use Rattle.cli_renewing.proofs.Zips.{all_push, split_at, zip_push}

abbrev News : Type 0
News = List (Option (List ℕ))

-- ---- what is put

puts_more : {A : Type 0} (path : A → List ℕ) (R : A → Option (List ℕ) → Type 0) (front : List A) (news : News) (x : A)
    (new : Option (List ℕ)) → AllZip R front news
    → puts_of path (front ++ x ∷ []) (news ++ new ∷ []) ≡ puts_of path front news ++ puts_of path (x ∷ []) (new ∷ [])
puts_more path R [] [] x new all = refl
puts_more path R [] (n ∷ news) x new all = absurd all
puts_more path R (y ∷ front) [] x new all = absurd all
puts_more path R (y ∷ front) (None ∷ news) x new all = puts_more path R front news x new all.1
puts_more path R (y ∷ front) (Some o ∷ news) x new all =
    ap (λ (l : List Kept). kept (path y) o ∷ l) (puts_more path R front news x new all.1)

module _ {A : Type 0} (ways : Ways) (r : Renewal A) where
  -- ---- one record, read from this path

  module _ (x : A) (path octets held : List ℕ) (its : path ≡ r.path x) (same : octets ≡ held)
      (read : ways.read (kept path held)) where
    pub read_there : ways.read (kept (r.path x) octets)
    read_there = subst (λ (p : List ℕ). ways.read (kept p octets)) its
        (subst (λ (os : List ℕ). ways.read (kept path os)) (sym same) read)

    new_at : (new : Option (List ℕ)) → r.Becomes x octets new → IsNewAt ways r x new
    new_at new becomes = record { octets = octets; read = read_there; becomes = becomes }

    pub stays : (put : Option (List Kept)) → r.Becomes x octets None → IsPutAt ways put put r x
    stays put becomes = record { new = None; is = (new_at None becomes, tt); put = adds_none put }

    pub put_if : {T E : Type 0} (res : Result T E) (before after : Option (List Kept)) (new given : List ℕ)
        → given ≡ new → r.Becomes x octets (Some new) → OnOk res (ways.did (kept path given))
        → OnOk res (Adds before after (kept path given ∷ [])) → OnOk res (IsPutAt ways before after r x)
    put_if (Err e) before after new given is becomes did adds = tt
    put_if (Ok t) before after new given is becomes did adds = record {
      new = Some new;
      is = (new_at (Some new) becomes, subst (λ (k : Kept). ways.did k) there did);
      put = subst (λ (k : Kept). Adds before after (k ∷ [])) there adds;
    }
      where
        there : kept path given ≡ kept (r.path x) new
        there = ap (λ (p : List ℕ). kept p given) its ∙ ap (λ (os : List ℕ). kept (r.path x) os) is

    -- the failure of a file that doesn't hold any more what it held
    pub changed_at : (Other : A → List ℕ → Type 0) → Other x octets → (f : Failure)
        → (f ≡ failure.Memory) ⊎ IsUnread path f → IsChangedAt ways r Other x f ⊎ FailsAt ways (r.path x) f
    changed_at Other is f (inl m) = inr (inl m)
    changed_at Other is f (inr unread) =
        inl (subst (λ (p : List ℕ). IsUnread p f) its unread, (octets, read_there, is))

  -- ---- all, of which these are at the front

  pub one_tested : (front : List A) (x : A) → AreTested ways r front → IsTested ways r x
      → AreTested ways r (front ++ x ∷ [])
  one_tested front x all is = all_push (λ (y : A). IsTested ways r y) front x all is

  pub none_put : (put : Option (List Kept)) → ArePut ways put put r [] []
  none_put put = record { each = tt; put = adds_none put }

  pub one_put : (before mid after : Option (List Kept)) (front : List A) (news : News) (x : A)
      → ArePut ways before mid r front news → (h : IsPutAt ways mid after r x)
      → ArePut ways before after r (front ++ x ∷ []) (news ++ h.new ∷ [])
  one_put before mid after front news x are h = record {
    each = zip_push (λ (y : A) (new : Option (List ℕ)). IsPut ways r y new) front news x h.new are.each h.is;
    put = subst (λ (l : List Kept). Adds before after l)
        (sym (puts_more r.path (λ (y : A) (new : Option (List ℕ)). IsPut ways r y new) front news x h.new are.each))
        (adds_more before mid after (puts_of r.path front news) (puts_of r.path (x ∷ []) (h.new ∷ [])) are.put h.put);
  }

  module _ (xs front : List A) (x : A) (others : List A) (all : xs ≡ front ++ x ∷ others) (f : Failure) where
    pub untested_at : AreTested ways r front → IsUntestedAt ways r x f → IsUntested ways r xs f
    untested_at tested why =
        record { front = front; x = x; others = others; all = all; tested = tested; why = why }

    pub stops_at : (before mid after : Option (List Kept)) (news : News) → ArePut ways before mid r front news
        → Adds mid after [] → IsUnputAt ways r x f → StopsAtPut ways before after r xs f
    stops_at before mid after news are none why =
        let made : ArePut ways before after r front news =
        record { each = are.each; put = adds_nothing before mid after (puts_of r.path front news) are.put none } in
        record { front = front; x = x; others = others; all = all; news = news; made = made; why = why }

  -- ---- the same of so many of a list

  module _ (xs : List A) (i : ℕ) (d : A) (within : i < length xs) where
    pub tested_next : AreTested ways r (take i xs) → IsTested ways r (get_or xs i d)
        → AreTested ways r (take (i + 1) xs)
    tested_next all is = subst (λ (ys : List A). AreTested ways r ys) (sym (take_more xs i d within))
        (one_tested (take i xs) (get_or xs i d) all is)

    pub put_next : (before mid after : Option (List Kept)) (news : News) → ArePut ways before mid r (take i xs) news
        → (h : IsPutAt ways mid after r (get_or xs i d))
        → ArePut ways before after r (take (i + 1) xs) (news ++ h.new ∷ [])
    put_next before mid after news are h =
        subst (λ (ys : List A). ArePut ways before after r ys (news ++ h.new ∷ [])) (sym (take_more xs i d within))
        (one_put before mid after (take i xs) news (get_or xs i d) are h)

    pub untested_next : (f : Failure) → AreTested ways r (take i xs) → IsUntestedAt ways r (get_or xs i d) f
        → IsUntested ways r xs f
    untested_next f tested why =
        let split = split_at xs i d within in
        untested_at xs (take i xs) (get_or xs i d) split.0 split.1 f tested why

    pub stops_next : (f : Failure) (before mid after : Option (List Kept)) (news : News)
        → ArePut ways before mid r (take i xs) news → Adds mid after [] → IsUnputAt ways r (get_or xs i d) f
        → StopsAtPut ways before after r xs f
    stops_next f before mid after news are none why =
        let split = split_at xs i d within in
        stops_at xs (take i xs) (get_or xs i d) split.0 split.1 f before mid after news are none why
