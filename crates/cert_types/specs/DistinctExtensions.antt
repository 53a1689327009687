-- The extensions of a certificate: two kinds of them may occur at most once each (RFC 5280, 4.2).
use Rattle.std.specs.Prelude.{ℕ, zero, suc, ◌≤◌, Bool, false, ◌&&◌, ◌||◌, List, [], ◌∷◌, length, count_by, Result, Ok}
use Rattle.std.specs.Prelude.{Err, ◌==◌, if◌then◌else◌}
use Rattle.der_core.specs.declared.fault.Fault.{Fault}
use Rattle.der_core.specs.declared.fault.Kind.TheVariants.{Value}
use Rattle.der_core.specs.Lists.{is_same}
use Rattle.der_grammar.specs.Table.{id_subject_key_identifier, id_ext_key_usage}
use Rattle.der_core.specs.Reading.{fault, Spot, within}
use Rattle.der_core.specs.Results.{◌>>=◌}
use Rattle.cert_types.specs.ExtensionValue.{ExtensionValue, GoodExtensions}
use Rattle.cert_types.specs.ExtensionReading.{extension_in}

-- subjectKeyIdentifier (4.2.1.2) and extendedKeyUsage (4.2.1.12)
abbrev pub is_subject_key_identifier : ExtensionValue → Bool
is_subject_key_identifier e = is_same e.id id_subject_key_identifier

abbrev pub is_ext_key_usage : ExtensionValue → Bool
is_ext_key_usage e = is_same e.id id_ext_key_usage

-- good extensions with at most one of each of these kinds
pub record GoodDistinct (es : List ExtensionValue) : Type 0 where
  pub good : GoodExtensions es
  pub identifiers : count_by is_subject_key_identifier es ≤ 1
  pub usages : count_by is_ext_key_usage es ≤ 1

-- whether it is the second of its kind, if one of the first kind was seen, and if one of the second was
abbrev pub is_again : Bool → Bool → ExtensionValue → Bool
is_again seen seen' e = (seen && is_subject_key_identifier e) || (seen' && is_ext_key_usage e)

-- reading them from the left; the number is a bound on how many
unfoldable pub distinct_from : ℕ → Bool → Bool → Spot → Result (List ExtensionValue) Fault
distinct_from zero seen seen' s = Ok []
distinct_from (suc k) seen seen' s = if length s.rest == 0 then Ok [] else (within 0x30 extension_in s >>= λ x.
    if is_again seen seen' x.0 then Err (fault Value s.pos)
    else (distinct_from k (seen || is_subject_key_identifier x.0) (seen' || is_ext_key_usage x.0) x.1
    >>= λ es. Ok (x.0 ∷ es)))

-- to the end of the body, with none of either kind seen before
abbrev pub distinct_at : Bool → Bool → Spot → Result (List ExtensionValue) Fault
distinct_at seen seen' s = distinct_from (length s.rest) seen seen' s

abbrev pub distinct_in : Spot → Result (List ExtensionValue) Fault
distinct_in s = distinct_at false false s
