-- What holds of the definitions of comparing.
use Rattle.std.specs.Prelude.{◌≡◌, ◌⊎◌, ℕ, List}
use Rattle.der_core.specs.Element.{IsBytes}
use Rattle.cms_types.specs.declared.fault.CmsFault.TheVariants as cms
use Rattle.cms_types.specs.SignerValue.{SignerValue}
use Rattle.cms_compare.specs.declared.compared.Compared.{Compared}
use Rattle.cms_compare.specs.declared.fault.CompareFault.{CompareFault}
use Rattle.cms_compare.specs.declared.fault.CompareRule.{CompareRule}
use Rattle.cms_compare.specs.declared.fault.CompareRule.TheVariants as rule
use Rattle.cms_compare.specs.Comparing.{IsSignedBy, SignAlike, HaveOneDigest, Compares, RefusesToCompare}

-- signers that fit and sign alike have equal contents, or two contents with one digest
abbrev pub SignaturesBindContents : Type 0
SignaturesBindContents = (a : List ℕ) (i : ℕ) (content : List ℕ) (s : SignerValue) → IsSignedBy a i content s
    → (b : List ℕ) (j : ℕ) (content' : List ℕ) (s' : SignerValue) → IsSignedBy b j content' s'
    → SignAlike s s' → HaveOneDigest s content content'

-- two files are compared or refused
abbrev pub FilesAreCompared : Type 0
FilesAreCompared = (a : List ℕ) (i : ℕ) (b : List ℕ) (j : ℕ) → IsBytes a → IsBytes b
    → ((answer : Compared) × Compares a i b j answer) ⊎ ((fault : CompareFault) × RefusesToCompare a i b j fault)

-- and never both
abbrev pub NeverBoth : Type 0
NeverBoth = (a : List ℕ) (i : ℕ) (b : List ℕ) (j : ℕ) (answer : Compared) (fault : CompareFault)
    → Compares a i b j answer → RefusesToCompare a i b j fault → ⊥

-- with one answer
abbrev pub OneAnswer : Type 0
OneAnswer = (a : List ℕ) (i : ℕ) (b : List ℕ) (j : ℕ) (answer answer' : Compared) → Compares a i b j answer
    → Compares a i b j answer' → answer ≡ answer'

-- the same rule, up to the fault of form
abbrev pub IsAlike : CompareRule → CompareRule → Type 0
IsAlike (rule.Malformed (cms.Malformed f)) (rule.Malformed (cms.Malformed g)) = Unit {0}
IsAlike r s = r ≡ s

-- or one refusal, up to the fault of form
abbrev pub OneRefusal : Type 0
OneRefusal = (a : List ℕ) (i : ℕ) (b : List ℕ) (j : ℕ) (f g : CompareFault) → RefusesToCompare a i b j f
    → RefusesToCompare a i b j g → (f.which ≡ g.which) × IsAlike f.rule g.rule
