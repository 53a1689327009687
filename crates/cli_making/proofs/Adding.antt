-- What was put, and what was put after that.
use Rattle.std.proofs.Common.{List, [], ◌++◌, Option, Some, None, sym, ap, ◌∙◌, subst, append_assoc, append-nil}
use Rattle.cli_making.specs.Adding.{Adds}

pub adds_none : {A : Type 0} (put : Option (List A)) → Adds put put []
adds_none None = tt
adds_none (Some put) = sym (append-nil put)

pub adds_more : {A : Type 0} (before mid after : Option (List A)) (xs ys : List A) → Adds before mid xs
    → Adds mid after ys → Adds before after (xs ++ ys)
adds_more None mid after xs ys h k = tt
adds_more (Some b) None after xs ys h k = absurd h
adds_more (Some b) (Some m) None xs ys h k = absurd k
adds_more {A} (Some b) (Some m) (Some a) xs ys h k = k ∙ ap (λ (l : List A). l ++ ys) h ∙ append_assoc b xs ys

pub adds_nothing : {A : Type 0} (before mid after : Option (List A)) (xs : List A) → Adds before mid xs
    → Adds mid after [] → Adds before after xs
adds_nothing {A} before mid after xs h k =
    subst (λ (l : List A). Adds before after l) (append-nil xs) (adds_more before mid after xs [] h k)
