use Rattle.std.proofs.Common.{rules, sym, ap, length, ◌∙◌}
use Rattle.der_core.proofs.ReadLengths.{ok_is}
use Rattle.cms_types.proofs.AttributeReaders.{signed_list, tested}
use Rattle.cms_types.proofs.attributes.Attributes.read_signed.Goals.{then-this-ne0, else-this-ne0+in_ok-count}
use Rattle.cms_types.proofs.attributes.Attributes.read_signed.Goals as goal

pub count_of-count-requires : goal.count_of-count-requires
count_of-count-requires g c =
    let again = c.if-this-ne0.true in
    let read = c.requires in
    (signed_list c.args.list c.rest-rest.ensures.octets (search rules)).0

pub invariant_of-result : goal.invariant_of-result
invariant_of-result g c =
    elim c.if-this-ne0.branch [
      | then-this-ne0 w ↦
          let again = w.if-this-ne0.true in
          let read = c.requires in
          ((signed_list c.args.list c.rest-rest.ensures.octets (search rules)).0, w.count-is ∙ w.count_of-count.ensures)
      | else-this-ne0+in_ok-count w ↦
          let scanned = w.in_ok-count.ensures in
          let listed = signed_list c.args.list c.rest-rest.ensures.octets (tested scanned.1) in
          (listed.0, w.count-is ∙ scanned.0.1 ∙ ap length (ok_is _ _ (sym scanned.1 ∙ listed.1)))
    ]

pub returns : goal.returns
returns g c =
    elim c.if-this-ne0.branch [
      | then-this-ne0 w ↦
          let again = w.if-this-ne0.true in
          let read = c.requires in
          (signed_list c.args.list c.rest-rest.ensures.octets (search rules)).1
      | else-this-ne0+in_ok-count w ↦
          (signed_list c.args.list c.rest-rest.ensures.octets (tested w.in_ok-count.ensures.1)).1
    ]
