use Rattle.std.proofs.Common.{◌≡◌, ◌≤◌, ℕ, Bool, List, Option, Bor, option_map, IfOk, arith, subst}
use Rattle.trust_lists.specs.Asking.{Asked, is_among}
use Rattle.check_under.specs.Given.{grounds_under}
use Rattle.cli_evidence.specs.UnderVerdicts.{IsVerdictWithin}
use Rattle.cli_evidence.proofs.UnderLimits.{within_any}
use Rattle.cli_evidence.proofs.under.verdict_within.Goals as goal
use Rattle.cli_evidence.proofs.under.verdict_within.Goals.{else-room-limit-via-then-room-limit+else-is_too_long}
use Rattle.cli_evidence.proofs.under.verdict_within.Goals.{else-room-limit-via-else-room-limit}

pub returns-then-is_too_long : goal.returns-then-is_too_long
returns-then-is_too_long c =
    subst (λ (vouches : Asked → Bool). IfOk c.verdict_in-then-is_too_long.result (IsVerdictWithin
    (grounds_under c.args.under.now vouches) c.args.under.now.octets.now c.args.file.now
    (option_map (λ (s : Bor (List ℕ)). s.now) c.args.handed) c.args.limit))
    c.in_ok-verdict.ensures.same c.verdict_in-then-is_too_long.ensures.verdict

pub returns : goal.returns
returns c =
    let handed : Option (List ℕ) = option_map (λ (s : Bor (List ℕ)). s.now) c.args.handed in
    elim c.else-room-limit.branch [
      | else-room-limit-via-then-room-limit+else-is_too_long w ↦
          within_any (grounds_under c.args.under.now (λ q. is_among c.args.answers.now q))
          c.args.under.now.octets.now c.args.file.now handed c.min-room.result c.args.limit c.in_ok-verdict.verdict
          w.if-is_too_long.ensures c.in_ok-verdict.ensures.verdict
      | else-room-limit-via-else-room-limit w ↦
          let all : c.args.limit ≤ c.min-room.result = w.if-room-limit.false in
          let same : c.min-room.result ≡ c.args.limit = omega arith in
          subst (λ (n : ℕ). IsVerdictWithin (grounds_under c.args.under.now (λ q. is_among c.args.answers.now q))
          c.args.under.now.octets.now c.args.file.now handed n c.in_ok-verdict.verdict) same
          c.in_ok-verdict.ensures.verdict
    ]
