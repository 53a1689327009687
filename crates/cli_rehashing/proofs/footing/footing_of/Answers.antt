use Rattle.std.proofs.Common.{◌≡◌, ◌⊎◌, ℕ, List, sym, ◌∙◌, subst, inl, inr}
use Rattle.std.specs.Option.{option_copied}
use Rattle.std.proofs.lemmas.Result.{err_from_is_err_and}
use Rattle.digests.specs.declared.value.Digest.{Digest}
use Rattle.evidence_sums.specs.Records.{RecordValue}
use Rattle.cli_failures.specs.declared.failure.Failure.{Failure}
use Rattle.cli_failures.specs.declared.failure.Failure.TheVariants as failure
use Rattle.cli_failures.specs.Files.{path_below}
use Rattle.cli_renewing.specs.Keeping.{Ways, kept}
use Rattle.cli_rehashing.specs.declared.folder.RecordFolder.{RecordFolder}
use Rattle.cli_rehashing.specs.Standing.{HasNoLeaf}
use Rattle.cli_rehashing.specs.Unrehashed.{RefusesRecord}
use Rattle.cli_rehashing.proofs.Lines.{line_footing}
use Rattle.cli_rehashing.proofs.footing.footing_of.Goals as goal

-- why the record has no leaf, of the octets and the digests that are lent
line_refused : (ways : Ways) (folder : RecordFolder) (s : RecordValue) (name octets held : List ℕ)
    (lent digests : List Digest) (f : Failure) → name ≡ s.name → octets ≡ held → lent ≡ digests → digests ≡ s.digests
    → ways.read (kept (path_below folder.path.now name) held)
    → (f ≡ failure.Memory) ⊎ HasNoLeaf octets folder.alone lent f
    → (f ≡ failure.Memory) ⊎ RefusesRecord ways folder s f
line_refused ways folder s name octets held lent digests f named same lends are read (inl memory) = inl memory
line_refused ways folder s name octets held lent digests f named same lends are read (inr none) = inr (inr (
  octets,
  subst (λ (n : List ℕ). ways.read (kept (path_below folder.path.now n) octets)) named
      (subst (λ (os : List ℕ). ways.read (kept (path_below folder.path.now name) os)) (sym same) read),
  subst (λ (ds : List Digest). HasNoLeaf octets folder.alone ds f) (lends ∙ are) none,
))

pub returns-clause-found : goal.returns-clause-found
returns-clause-found g c =
    line_footing g.K.KeepsBelow.ways (option_copied c.args.token) c.args.folder.now c.args.sum.now c.text_of.result.now
    c.as_slice-octets.result.now c.in_ok-octets.octets.items c.alg.result c.as_slice-digests.result.now
    c.in_ok-digests.digests.items c.in_ok-standing.standing.done c.in_ok-standing.standing.leaf.group
    c.in_ok-standing.standing.leaf.after c.footing_on.result
    (c.text_of.ensures ∙ c.as_slice.ensures.value ∙ c.in_ok-name.ensures) c.as_slice-octets.ensures.value c.alg.ensures
    c.as_slice-digests.ensures.value c.in_ok-digests.ensures.found c.in_ok-octets.ensures.read
    c.in_ok-standing.ensures.found c.footing_on.ensures.node c.footing_on.ensures.after

pub returns-in_err-standing-clause-refused : goal.returns-in_err-standing-clause-refused
returns-in_err-standing-clause-refused g c =
    let p = err_from_is_err_and c.from_residual-in_err-standing.result c.from_residual-in_err-standing.ensures.1 in
    rw (p.1, p.2)
    (line_refused g.K.KeepsBelow.ways c.args.folder.now c.args.sum.now c.text_of.result.now
    c.as_slice-octets.result.now c.in_ok-octets.octets.items c.as_slice-digests.result.now
    c.in_ok-digests.digests.items _ (c.text_of.ensures ∙ c.as_slice.ensures.value ∙ c.in_ok-name.ensures)
    c.as_slice-octets.ensures.value c.as_slice-digests.ensures.value c.in_ok-digests.ensures.found
    c.in_ok-octets.ensures.read c.in_err-standing.ensures.refused)
