-- A verdict has one line.
use Rattle.std.proofs.Common.{ℕ, List, [], ◌∷◌, ◌++◌, Ok, Err, sym, ap, ◌∙◌}
use Rattle.std.specs.Prelude.{codes}
use Rattle.der_time.proofs.Unique.{texts_are_unique}
use Rattle.lines_report.specs.VerdictLine.{LinesAreUnique}

pub lines_are_unique : LinesAreUnique
lines_are_unique (Ok m) a b p q =
    p.2 ∙ ap (λ (t : List ℕ). codes "accepted " ++ t ++ 10 ∷ [])
    (texts_are_unique p.0 q.0 p.1.formed q.1.formed (p.1.denotes ∙ sym q.1.denotes)) ∙ sym q.2
lines_are_unique (Err refused) a b p q = p ∙ sym q
