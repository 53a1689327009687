use Rattle.std.proofs.Common.{◌≡◌, length, rules}
use Rattle.library_records.proofs.DataObjects.{all_digests, nil_of}
use Rattle.library_records.proofs.data_objects.digests_of.Goals as goal

pub returns-clause-of_data : goal.returns-clause-of_data
returns-clause-of_data c =
    let none : length c.loop-length.left.now ≡ 0 = search rules in
    all_digests c.args.wanted c.args.lengths.now c.args.joined.now c.loop-length.left.now c.loop-length.octets.now
    c.loop-length.digests.items (nil_of c.loop-length.left.now none) c.loop-length.invariant
