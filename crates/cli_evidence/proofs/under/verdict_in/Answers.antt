use Rattle.std.proofs.Common.{◌≡◌, ℕ, List, Bor, length, option_map, refl, arith, rules}
use Rattle.trust_lists.specs.Asking.{is_among}
use Rattle.check_under.specs.Given.{grounds_under}
use Rattle.cli_evidence.proofs.UnderLimits.{within_room}
use Rattle.cli_evidence.proofs.under.verdict_in.Goals as goal

pub returns-clause-verdict : goal.returns-clause-verdict
returns-clause-verdict c =
    let room : length c.as_mut_slice.result.now ≡ c.args.room = first_of (omega arith, (cc), search rules) in
    within_room _ _ c.source_of-content.result c.check_under.new.content
    (grounds_under c.args.under.now (λ q. is_among c.args.answers.now q)) c.args.under.now.octets.now
    c.args.file.now (option_map (λ (s : Bor (List ℕ)). s.now) c.args.handed) c.args.room
    c.args.under.now.digests.now (λ s. refl) c.new-file.ensures.tells c.new-file.ensures.rest room refl refl
    c.source_of-content.ensures.known c.source_of-content.ensures.rest c.requires.short c.check_under.result
    c.requires.are c.check_under.ensures.verdict c.check_under.ensures.judged c.check_under.ensures.count
    c.check_under.ensures.memory
