use Rattle.std.proofs.Common.{◌≡◌, ◌&&◌, List, ℕ, drop, ◌++◌}
use Rattle.der_core.specs.Lists.{is_same}
use Rattle.cms_stream.proofs.type_test.SignedDataTestTaker.take.Given as goal

abbrev pub invariant-loop-octet : goal.invariant-loop-octet
invariant-loop-octet l =
    (zs : List ℕ) → (l.initial.self.same && is_same l.initial.self.left.now (l.octets ++ zs))
    ≡ (l.self.same && is_same l.self.left.now (drop l.octet-index l.octets ++ zs))
