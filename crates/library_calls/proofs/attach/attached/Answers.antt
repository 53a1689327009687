use Rattle.std.proofs.Common.{◌++◌, ◌∙◌, List, ℕ, ap, refl}
use Rattle.cms_types.specs.SignedDataValue.{SignedContent, encoding}
use Rattle.library_calls.proofs.Told.{put_only}
use Rattle.library_calls.proofs.attach.attached.Goals as goal

pub returns-in-Ok-clause-only : goal.returns-in-Ok-clause-only
returns-in-Ok-clause-only c = λ w a. c.into_inner.ensures.taken ∙ ((c.in-Ok.ensures.only w a).0 refl
    ∙ ap (λ (x : List ℕ). x ++ encoding (SignedContent w)) (c.new-octets.ensures.taken ∙ c.new.ensures.items))

pub returns-in-Err-clause-only : goal.returns-in-Err-clause-only
returns-in-Err-clause-only c = λ w a. put_only _ c.in-Err.fault _ _ _ _ _ (c.in-Err.ensures.only w a)
