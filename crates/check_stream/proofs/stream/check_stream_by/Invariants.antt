use Rattle.check_stream.proofs.stream.check_stream_by.Given as goal

-- the pass hashes by the algorithms that were given
abbrev pub ghosts-pass_over : goal.ghosts-pass_over
ghosts-pass_over g a = record { chosen = a.algorithms }
