use Rattle.lines_shown.proofs.show_evidence.push_crypto_infos.Goals as goal

pub returns-in-Some : goal.returns-in-Some
returns-in-Some c = rw c.in-Some.is (rw c.len.ensures at c.push_count.ensures)
