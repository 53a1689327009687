use Rattle.std.proofs.Common.{◌≡◌, ◌≤◌, map, take}
use Rattle.cli_words.specs.Inputs.{inputs_among}
use Rattle.cli_words.proofs.inputs.inputs_among.Given as goal

-- how many of the paths so far name standard input
abbrev pub invariant-loop-path : goal.invariant-loop-path
invariant-loop-path l =
    (l.count ≡ inputs_among (map (λ p. p.now) (take l.path-index l.paths))) × (l.count ≤ l.path-index)
