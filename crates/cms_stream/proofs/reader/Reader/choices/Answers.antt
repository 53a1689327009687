use Rattle.std.proofs.Common.{ℕ, List, refl}
use Rattle.cms_stream_laws.specs.OpenReading.{OpenBody, tagged_openly, many_openly, maybe_openly}
use Rattle.cms_stream.proofs.Moments.{optional_read, optional_absent}
use Rattle.cms_stream.proofs.Standing.{maybe_stands, maybe_absent}
use Rattle.cms_stream.proofs.reader.Reader.choices.Goals as goal

pub returns-then-not-branch : goal.returns-then-not-branch
returns-then-not-branch g c =
    let openly : OpenBody (List (List ℕ)) = λ w. many_openly (tagged_openly c.args.tags.now) w in
    optional_absent c.args.tag (maybe_openly c.args.tag openly) (maybe_absent c.args.tag openly) c.args.end _ _
    c.in_ok-has_tag.ensures c.if-not-branch.true c.requires.inside refl

pub returns : goal.returns
returns g c =
    let openly : OpenBody (List (List ℕ)) = λ w. many_openly (tagged_openly c.args.tags.now) w in
    optional_read c.args.tag openly (maybe_openly c.args.tag openly) (maybe_stands c.args.tag openly) c.args.end
    c.in_ok-inner.inner _ _ _ _ c.in_ok-has_tag.ensures c.if-not-branch.false c.in_ok-inner.ensures
    c.in_ok-tagged_list.ensures (λ y q. refl)
