use Rattle.std.proofs.Common.{◌∙◌}
use Rattle.der_core.specs.AlgorithmFields.{fields_value}
use Rattle.der_core.proofs.AlgorithmReader.{algorithm_whole}
use Rattle.der_core.proofs.cursor.Cursor.algorithm.Goals as goal

pub invariant_of-result : goal.invariant_of-result
invariant_of-result c =
    let k = algorithm_whole c.in_ok-element.inside c.again-ahead.result c.open.new.self
    (fields_value c.in_ok-fields.fields) c.in_ok-element.ensures.found c.in_ok-fields.ensures in
    (c.in_ok-element.ensures.whole ∙ k.0, k.1)
