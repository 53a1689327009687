use Rattle.std.proofs.Common.{subst, sym}
use Rattle.trust_lists.specs.Written.{IsMomentWord}
use Rattle.trust_lists.proofs.EntryLines.{four_words, entry_line}
use Rattle.trust_lists.proofs.written.put_entry.Goals as goal

pub returns-clause-wrote : goal.returns-clause-wrote
returns-clause-wrote g c = (
  four_words c.role_word.result.now c.moment_word.result.now c.moment_word-2.result.now c.deref.result.now,
  entry_line c.args.entry.now c.entry.inside.role c.entry.inside.from c.entry.inside.until c.entry.inside.octets.items
      c.role_word.result.now c.moment_word.result.now c.moment_word-2.result.now c.deref.result.now c.entry.view_is
      (record {
        role_is = c.role_word.ensures;
        from_is = subst (IsMomentWord c.entry.inside.from) (sym c.moment_word.ensures) c.text_of-from.ensures;
        until_is = subst (IsMomentWord c.entry.inside.until) (sym c.moment_word-2.ensures) c.text_of-until.ensures;
        octets_are = c.deref.ensures.value;
        encoded = c.entry.invariant.0.0;
      }),
  c.put_words.ensures.wrote,
)
