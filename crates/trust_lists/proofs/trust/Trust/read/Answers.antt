use Rattle.std.proofs.Common.{List, subst}
use Rattle.trust_lists.specs.declared.marks.MarkBy.TheVariants.{Serial, KeyId}
use Rattle.trust_lists.specs.Entries.{EntryValue}
use Rattle.trust_lists.specs.Marks.{AreMarked}
use Rattle.trust_lists.proofs.ReadBack.{said_is_good}
use Rattle.trust_lists.proofs.trust.Trust.read.Goals as goal

pub invariant_of-result : goal.invariant_of-result
invariant_of-result c = (
  said_is_good c.args.text.now c.in_ok-entries.entries.items c.in_ok-entries.ensures.found,
  subst (λ (es : List EntryValue). AreMarked Serial es c.in_ok-serials.serials) c.deref.ensures.value
      c.in_ok-serials.ensures.found,
  subst (λ (es : List EntryValue). AreMarked KeyId es c.in_ok-key_ids.key_ids) c.deref-2.ensures.value
      c.in_ok-key_ids.ensures.found,
)
