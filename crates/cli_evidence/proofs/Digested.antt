-- What the digests of files of data are digests of.
use Rattle.std.proofs.Common.{◌≡◌, ◌<◌, ◌+◌, ◌^◌, ℕ, true, List, []}
use Rattle.std.proofs.Common.{◌∷◌, ◌++◌, Option, Some, None, Result, Ok, Err, IsSome}
use Rattle.std.proofs.Common.{length, take, unwrap_or, refl, subst, ap, ◌∙◌}
use Rattle.std.specs.Borrow.{Bor}
use Rattle.std.specs.List.{AllByRecursion}
use Rattle.devices.specs.Device.{AreOctets}
use Rattle.check_fit.specs.declared.rules.DeviceFault.{DeviceFault}
use Rattle.check_fit.specs.declared.rules.DeviceFault.TheVariants as device
use Rattle.check_fit.specs.FileFitting.{HashesSource}
use Rattle.digests.specs.Selection.{AreOfWanted, set_given}
use Rattle.digests.specs.Sets.{is_in}
use Rattle.digests.specs.declared.algorithm.Alg.{Alg}
use Rattle.digests.specs.declared.selection.WantedDigests.{WantedDigests}
use Rattle.digests.specs.declared.set.Algs.{Algs}
use Rattle.evidence_types.specs.EvidenceValue.{EvidenceValue, EncodesEvidence}
use Rattle.evidence_types.proofs.EvidenceReaders.{evidence_unique}
use Rattle.judge_evidence.specs.Data.{HaveAlg, HaveWanted}
use Rattle.judge_evidence.specs.RecordVerdicts.{IsWanted}
use Rattle.cli_commands.specs.Checking.{IfKnown}
use Rattle.cli_commands.specs.Judging.{IsContentHeld}
use Rattle.cli_commands.specs.Stamping.{IsUnread}
use Rattle.cli_commands.proofs.JudgedFiles.{given_by}
use Rattle.cli_evidence.specs.Digesting.{AreDigested, IsDigested}
use Rattle.cli_renewing.proofs.Zips.{all_push, zip_more, zip_push}

-- ---- of one file

module _ {F : Type 0} (holds : F → Option (List ℕ)) (wanted : Algs) (file : F) (rest' : List ℕ) (count count' : ℕ) where
  abbrev Hashed : Result WantedDigests DeviceFault → Type 0
  Hashed result = HashesSource wanted (IsSome (holds file) × AreOctets (unwrap_or (holds file) []))
      (unwrap_or (holds file) []) rest' count count' result

  pub digested : (digests : WantedDigests) → Hashed (Ok digests) → IsDigested holds wanted digests
  digested digests h = record {
    given = h.1;
    octets = h.2;
    held = given_by holds file h.2 h.4;
    are = h.6;
  }

  -- more than 2^40 octets
  too_long : (o : Option (List ℕ)) → (IsSome o × AreOctets (unwrap_or o []) → 2 ^ 40 < length (unwrap_or o []))
      → IfKnown o (λ octets. 2 ^ 40 < length octets)
  too_long None more = tt
  too_long (Some octets) more = λ are. more (refl, are)

  pub undigested : (fault : DeviceFault) → Hashed (Err fault) → IsUnread holds fault
  undigested device.ReadFailed h = tt
  undigested device.ContentTooLong h = (file, too_long (holds file) h.1)
  undigested device.AskFailed h = absurd h
  undigested device.TooLong h = absurd h
  undigested device.OutOfMemory h = absurd h

-- ---- of several

module _ {F : Type 0} (holds : F → Option (List ℕ)) (wanted : Algs) (paths : List (Bor (List ℕ))) where
  pub none_digested : AreDigested holds wanted (take 0 paths) []
  none_digested = record { given = tt; data_objects = []; held = tt; are = tt }

  pub one_more : (lent : List (Bor (List ℕ))) (digests : List WantedDigests) (d : WantedDigests) (i : ℕ)
      (path : Bor (List ℕ)) → lent ≡ paths → i < length lent
      → AreDigested holds wanted (take i paths) digests → IsDigested holds wanted d
      → AreDigested holds wanted (take (i + 1) paths) (digests ++ d ∷ [])
  one_more lent digests d i path same within are is = record {
    given = all_push (λ (x : WantedDigests). set_given x ≡ wanted) digests d are.given is.given;
    data_objects = are.data_objects ++ is.octets ∷ [];
    held = zip_more (λ (p : Bor (List ℕ)) (octets : List ℕ). IsContentHeld holds octets) paths lent are.data_objects i
        path is.octets same within are.held is.held;
    are = zip_push AreOfWanted digests are.data_objects d is.octets are.are is.are;
  }

-- ---- what the record wants

have_alg : (wanted : Algs) (alg : Alg) → is_in alg wanted ≡ true → (digests : List WantedDigests)
    → AllByRecursion (λ d. set_given d ≡ wanted) digests → HaveAlg alg digests
have_alg wanted alg within [] given = tt
have_alg wanted alg within (d ∷ ds) given =
    (ap (is_in alg) given.0 ∙ within, have_alg wanted alg within ds given.1)

pub have_wanted : (octets : List ℕ) (wanted : Algs) (digests : List WantedDigests) → IsWanted octets (Ok wanted)
    → AllByRecursion (λ d. set_given d ≡ wanted) digests
    → (v : EvidenceValue) → EncodesEvidence octets v → HaveWanted v.chains digests
have_wanted octets wanted digests (w, encodes, open_data, firsts) given v its =
    subst (λ (x : EvidenceValue). HaveWanted x.chains digests) (evidence_unique octets w v encodes its)
    (λ alg is. have_alg wanted alg ((firsts alg).1 is) digests given)
