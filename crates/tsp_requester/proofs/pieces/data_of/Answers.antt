use Rattle.std.proofs.Common.{[], refl, sym, append-nil, ◌∙◌, arith}
use Rattle.der_core.specs.Element.{el}
use Rattle.der_grammar.specs.Table.{id_signed_data}
use Rattle.cms_types.specs.SignedDataValue.{SignedContent, signed_data_parts, content_info_parts}
use Rattle.tsp_requester.proofs.pieces.data_of.Goals as goal

pub returns : goal.returns
returns c = λ v h.
    let content = el 0x30 (signed_data_parts v) in
    let a = c.first.ensures 48 (content_info_parts (SignedContent v)) [] (record { identifier = refl; size = h.1.2 })
    (h.0 ∙ sym (append-nil (el 0x30 (content_info_parts (SignedContent v))))) in
    let b =
    c.first-2.ensures 6 id_signed_data (el 0xa0 content) (record { identifier = refl; size = omega arith }) a.0 in
    let d = c.first-3.ensures 160 content [] (record { identifier = refl; size = h.1.1 })
    (b.1 ∙ sym (append-nil (el 0xa0 content))) in
    (c.first-4.ensures 48 (signed_data_parts v) [] (record { identifier = refl; size = h.1.0.size })
    (d.0 ∙ sym (append-nil content))).0
