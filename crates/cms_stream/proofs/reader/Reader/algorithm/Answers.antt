use Rattle.std.proofs.Common.{◌∙◌, arith}
use Rattle.std.proofs.lemmas.Grind.{common_steps}
use Rattle.der_core.specs.AlgorithmReading.{algorithm_from}
use Rattle.cms_stream.specs.Passing.{body_to}
use Rattle.cms_stream.specs.Readers.{seen}
use Rattle.cms_stream.proofs.Sequences.{found_at, algorithm_is}
use Rattle.cms_stream.proofs.reader.Reader.algorithm.Goals as goal

pub returns : goal.returns
returns g c = record {
  exact =
      let e = c.in_ok-next_oid.ensures in
      let f = c.in_ok-parameters.ensures in
      let d = c.in_ok-ended.ensures in (
        d.exact.0 ∙ f.exact.0 ∙ e.exact.0,
        λ t.
            let (id, reads, behind) = e.exact.1 t in
            let (parameters, is, rest) = f.exact.1 (e.telling t) in (
              algorithm_from (id.0, parameters.0),
              algorithm_is _ _ _ id.0 parameters.0
                  (found_at _ id (body_to c.args.end (seen c.next_oid.new.self (g.S.Source.rest c.next_oid.new.source)))
                  reads behind)
                  (found_at _ parameters (body_to c.args.end
                  (seen c.parameters.new.self (g.S.Source.rest c.parameters.new.source))) is rest)
                  (d.exact.1 (f.telling (e.telling t))),
              tt,
            ),
      );
  telling = grind (arith, common_steps);
  at = grind (arith, common_steps);
  moved = grind (arith, common_steps);
}
