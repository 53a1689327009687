use Rattle.std.proofs.lemmas.Result.{err_from_is_err_and}
use Rattle.cli_commands.proofs.Attached.{attached_when, not_attached}
use Rattle.cli_values.proofs.Held.{held_as}
use Rattle.cli_commands.proofs.attaching.attach.Goals as goal

pub returns-clause-attached : goal.returns-clause-attached
returns-clause-attached g c =
    attached_when _ _ c.args.words.now.signer _ _ c.as_slice-3.ensures.value
    (record {
      file = c.as_slice.result.now;
      token = c.as_slice-2.result.now;
      read_file = held_as _ _ _ c.as_slice.ensures.value c.in_ok-file.ensures.whole;
      read_token = held_as _ _ _ c.as_slice-2.ensures.value c.in_ok-token.ensures.whole;
      is = c.in_ok-octets.ensures.found;
    })
    c.in_ok-write_whole.ensures.whole

pub returns-in_err-octets-clause-refused : goal.returns-in_err-octets-clause-refused
returns-in_err-octets-clause-refused g c =
    let p = err_from_is_err_and c.from_residual-in_err-octets.result c.from_residual-in_err-octets.ensures.1 in
    rw (p.1, p.2)
    (not_attached _ c.args.words.now _ _ _ (held_as _ _ _ c.as_slice.ensures.value c.in_ok-file.ensures.whole)
    (held_as _ _ _ c.as_slice-2.ensures.value c.in_ok-token.ensures.whole) c.in_err-octets.ensures.refused)
