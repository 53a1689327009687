use Rattle.std.proofs.Common.{◌≡◌, ℕ, List, Bool, true, Option, Some, None}
use Rattle.std.specs.List.{list_all}
use Rattle.std.specs.Option.{option_copied}
use Rattle.list_answers.specs.Texts.{parts}
use Rattle.list_answers.specs.TextSteps.{room_of}
use Rattle.evidence_sums.specs.Names.{is_part}
use Rattle.evidence_sums.proofs.names.are_parts.Given as goal

-- whether the parts of what is left name something; if nothing is left they do
abbrev pub are_left : Option (List ℕ) → Bool
are_left None = true
are_left (Some octets) = list_all is_part (parts 47 octets)

abbrev pub invariant-loop-rest : goal.invariant-loop-rest
invariant-loop-rest l = are_left (option_copied l.rest) ≡ list_all is_part (parts 47 l.name)

abbrev pub decreases-loop-rest : goal.decreases-loop-rest
decreases-loop-rest l = room_of (option_copied l.rest)
