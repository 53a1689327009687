use Rattle.std.proofs.Common.{◌≡◌, ℕ, List, [], take, Option, Some, None, refl, subst}
use Rattle.std.specs.Prelude.{IsSome, unwrap_or}
use Rattle.devices.specs.Device.{AreOctets}
use Rattle.devices.proofs.Left.{left_of}
use Rattle.cli_commands.proofs.rereading.RereadableSource.fill.Goals as goal

pub returns-in-Ok-clause-telling : goal.returns-in-Ok-clause-telling
returns-in-Ok-clause-telling g c t =
    by_cases (g.F.Read.remaining c.args.self.now.file) (g.F.Read.remaining c.read.new.self) refl refl
  where
    by_cases : (o n : Option (List ℕ)) → g.F.Read.remaining c.args.self.now.file ≡ o
        → g.F.Read.remaining c.read.new.self ≡ n
        → IsSome (g.F.Read.remaining c.read.new.self) × AreOctets (unwrap_or (g.F.Read.remaining c.read.new.self) [])
    by_cases None n e f = absurd (let z = subst (λ (o : Option (List ℕ)). IsSome o) e t.0 in cc)
    by_cases (Some xs) None e f = absurd (let h = rw (e, f) at c.in-Ok.ensures.bytes in h.0)
    by_cases (Some xs) (Some ys) e f =
        let h = rw (e, f) at c.in-Ok.ensures.bytes in
        let all : AreOctets xs = subst (λ (o : Option (List ℕ)). AreOctets (unwrap_or o [])) e t.1 in
        rw f (refl, left_of (take c.in-Ok.count c.read.new.buf) ys xs h.0 all)
