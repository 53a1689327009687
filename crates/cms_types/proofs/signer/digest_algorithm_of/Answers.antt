use Rattle.std.proofs.Common.{Ok, sym, ap, ◌∙◌}
use Rattle.der_core.specs.Seen.{seen}
use Rattle.der_core.specs.Values.{AlgorithmValue}
use Rattle.der_core.proofs.ReadLengths.{ok_fst}
use Rattle.cms_types.proofs.DigestAlgorithm.{no_version, no_sid, algorithm_there}
use Rattle.cms_types.proofs.signer.digest_algorithm_of.Goals as goal

pub returns-in_err-_version : goal.returns-in_err-_version
returns-in_err-_version c =
    λ s read. absurd (no_version c.args.parts s c.in_err-_version.field-0.0 read c.in_err-_version.ensures.exact.0)

pub returns-in_err-_sid : goal.returns-in_err-_sid
returns-in_err-_sid c = λ s read.
    absurd (no_sid c.args.parts s (seen c.in_ok-_version._version, c.expect.new.self) c.in_err-_sid.field-0.0 read
    c.in_ok-_version.ensures.exact c.in_err-_sid.ensures.exact.0)

pub returns-in_err-algorithm : goal.returns-in_err-algorithm
returns-in_err-algorithm c = λ s read.
    let at = algorithm_there c.args.parts s (seen c.in_ok-_version._version, c.expect.new.self)
    (seen c.in_ok-_sid._sid, c.next.new.self) read
    c.in_ok-_version.ensures.exact c.in_ok-_sid.ensures.exact in
    absurd (let z = sym c.in_err-algorithm.ensures.0 ∙ at.1 in cc)

pub returns : goal.returns
returns c = λ s read.
    let at = algorithm_there c.args.parts s (seen c.in_ok-_version._version, c.expect.new.self)
    (seen c.in_ok-_sid._sid, c.next.new.self) read
    c.in_ok-_version.ensures.exact c.in_ok-_sid.ensures.exact in
    ap (λ (a : AlgorithmValue). Ok a)
    (ok_fst (c.in_ok-algorithm.algorithm, c.algorithm.new.self) (s.digest_algorithm, at.0)
    (sym c.in_ok-algorithm.ensures ∙ at.1))
