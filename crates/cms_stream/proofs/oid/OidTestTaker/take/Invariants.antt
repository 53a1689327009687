use Rattle.std.proofs.Common.{◌≡◌, ◌&&◌, List, ℕ, drop, ◌++◌}
use Rattle.cms_stream.specs.Oids.{oid_from}
use Rattle.cms_stream.proofs.oid.OidTestTaker.take.Given as goal

abbrev pub invariant-loop-octet : goal.invariant-loop-octet
invariant-loop-octet l =
    (zs : List ℕ) → (l.initial.self.sound && oid_from l.initial.self.started l.initial.self.begins (l.octets ++ zs))
    ≡ (l.self.sound && oid_from l.self.started l.self.begins (drop l.octet-index l.octets ++ zs))
