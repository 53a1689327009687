use Rattle.std.proofs.Common.{◌≡◌, ◌∙◌, [], ◌++◌, ◌∷◌, ap, sym}
use Rattle.digests.specs.Messages.{digest_of}
use Rattle.check_evidence.specs.Joining.{put_in}
use Rattle.check_evidence.proofs.Sorted.{concat_put_in}
use Rattle.check_evidence.proofs.sorting.hashed_with.Goals as goal

pub returns-clause-octets : goal.returns-clause-octets
returns-clause-octets c =
    let node = c.args.node.now in
    let before = c.split_at.result.0.now in
    let after = c.split_at.result.1.now in
    let all : put_in node c.args.values.now ≡ before ++ node ∷ after =
    rw (c.split_at.ensures.front, c.split_at.ensures.back) c.place_of.ensures.place in
    let fed = c.feed-2.ensures.fed _ (c.update.ensures.fed _ (c.feed.ensures.fed [] c.new-hashers.ensures.fed)) in
    c.finish.ensures.octets _ fed
    ∙ ap (digest_of c.args.alg) (sym (concat_put_in node before after (put_in node c.args.values.now) all))
