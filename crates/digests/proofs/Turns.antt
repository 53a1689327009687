-- One pass of the loop that reads a source.
use Rattle.std.proofs.Common.{◌≡◌, ◌<◌, ◌^◌, List, ℕ, [], ◌++◌, length, ◌+◌, ◌≤◌, refl, sym, ap, subst, ◌∙◌}
use Rattle.std.proofs.Common.{append_assoc, arith, length-append}
use Rattle.std.proofs.lemmas.List.{append-nil, nil_from_length}
use Rattle.devices.specs.Device.{Hands}
use Rattle.digests.specs.Reading.{AtEnd, Feeds}

-- what was fed so far, and what the source still has
pub record SoFar {H : Type 0} (fed : H → List ℕ → Type 0) (before after : H) (tells : Type 0) (rest left : List ℕ)
    (total : ℕ) (given : List ℕ) : Type 0 where
  pub feeds : (m : List ℕ) → fed before m → fed after (m ++ given)
  pub parts : tells → rest ≡ given ++ left
  pub count : total ≡ length given

-- one turn: of what was still to come, the source handed out a piece of n octets, and they were fed
pub record Turn {H : Type 0} (fed : H → List ℕ → Type 0) (middle after : H) (tells : Type 0) (left then : List ℕ)
    (n room : ℕ) (piece : List ℕ) : Type 0 where
  pub hands : tells → Hands left then piece room
  pub size : n ≡ length piece
  pub feeds : (m : List ℕ) → fed middle m → fed after (m ++ piece)

-- from hashers `before` on, of a source from which `rest` was to come
module _ {H : Type 0} (fed : H → List ℕ → Type 0) (before : H) (tells : Type 0) (rest : List ℕ) where
  pub SoFar-none : SoFar fed before before tells rest rest 0 []
  SoFar-none = record {
    feeds = λ m f. subst (fed before) (sym (append-nil m)) f;
    parts = λ _. refl;
    count = refl;
  }

  pub SoFar-more : (middle after : H) (left then : List ℕ) (total n room : ℕ) (given piece : List ℕ)
      → SoFar fed before middle tells rest left total given → Turn fed middle after tells left then n room piece
      → SoFar fed before after tells rest then (total + n) (given ++ piece)
  SoFar-more middle after left then total n room given piece so_far turn = record {
    feeds = λ m g. subst (fed after) (append_assoc m given piece) (turn.feeds (m ++ given) (so_far.feeds m g));
    parts = λ t. so_far.parts t ∙ ap (λ (x : List ℕ). given ++ x) (turn.hands t).front
        ∙ sym (append_assoc given piece then);
    count = omega (arith, so_far.count, turn.size, length-append given piece);
  }

  pub SoFar-reads : (after : H) (left : List ℕ) (total : ℕ) (given : List ℕ)
      → SoFar fed before after tells rest left total given
      → Feeds fed before after tells rest given
  SoFar-reads after left total given so_far = record { feeds = so_far.feeds; front = λ t. (left, so_far.parts t) }

  pub SoFar-ends : (after : H) (left then : List ℕ) (total room : ℕ) (given piece : List ℕ)
      → SoFar fed before after tells rest left total given
      → (tells → Hands left then piece room) → length piece ≡ 0 → 0 < room → total ≤ 2 ^ 40
      → AtEnd tells rest then given total
  SoFar-ends after left then total room given piece so_far hands none some short =
      let nothing : piece ≡ [] = nil_from_length piece none in
      record {
        count = so_far.count;
        short = short;
        whole = λ t. so_far.parts t ∙ ap (λ (x : List ℕ). given ++ x)
            ((hands t).front ∙ ap (λ (x : List ℕ). x ++ then) nothing ∙ (hands t).end none some) ∙ append-nil given;
        end = λ t. (hands t).end none some;
      }
