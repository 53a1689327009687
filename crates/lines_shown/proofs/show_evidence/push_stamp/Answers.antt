use Rattle.std.proofs.Common.{◌≡◌, ◌++◌, ◌∷◌, []}
use Rattle.std.specs.Prelude.{OnOk}
use Rattle.std.specs.String.{string_bytes}
use Rattle.lines_shown.specs.EvidenceLines.{stated_text, counts_text}
use Rattle.lines_shown.proofs.StampLines.{time_formed, line_added}
use Rattle.lines_shown.proofs.show_evidence.push_stamp.Goals as goal

pub push_stated-requires : goal.push_stated-requires
push_stated-requires c =
    rw c.as_ref.ensures.value (time_formed c.stamp.result.now c.stated_by-stated.result c.stated_by-stated.ensures)

pub returns : goal.returns
returns c =
    let told : string_bytes c.push_stated.new.text
    ≡ string_bytes c.push_place.new.text ++ stated_text c.args.stamp.now.algorithm c.stated_by-stated.result =
    rw c.algorithm.ensures at (rw c.as_ref.ensures.value at c.in_ok-push_stated.ensures) in
    let counted : OnOk c.push_counts.result (string_bytes c.push_counts.new.text
    ≡ string_bytes c.push_stated.new.text ++ counts_text c.args.stamp.now.lists ++ (10 ∷ [])) =
    rw c.lists.ensures at c.push_counts.ensures in
    line_added c.args.chain c.args.number c.args.stamp.now c.stated_by-stated.result c.push_counts.result
    (string_bytes c.args.text.now) (string_bytes c.push_place.new.text) (string_bytes c.push_stated.new.text)
    (string_bytes c.push_counts.new.text) (rw c.stamp.ensures at c.stated_by-stated.ensures)
    c.in_ok-push_place.ensures told counted
