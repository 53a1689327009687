-- Reading a ContentInfo whose end may be missing: the reading of `cms_types`, part by part. A part that is `kept` is
-- read as a slice once all of it is present; the content's octets pass.
use Rattle.std.specs.Prelude.{ℕ, ◌+◌, List, [], ◌∷◌, length, drop, Result, Ok, Err, ◌==◌, if◌then◌else◌}
use Rattle.der_core.specs.declared.fault.Fault.{Fault}
use Rattle.der_core.specs.declared.fault.Kind.TheVariants.{Tag, Trailing}
use Rattle.der_core.specs.declared.tags.TheConstants.{INTEGER, OBJECT_IDENTIFIER, OCTET_STRING, SEQUENCE, SET}
use Rattle.der_core.specs.AlgorithmReading.{algorithm_from}
use Rattle.der_grammar.specs.Table.{id_signed_data}
use Rattle.der_core.specs.Values.{AlgorithmValue}
use Rattle.der_core.specs.Reading.{fault, any_at, oid_in, version_in, is_other}
use Rattle.der_core.specs.Results.{◌>>=◌}
use Rattle.cms_types.specs.SignedDataValue.{EncapsulatedValue, SignedDataValue, ContentInfoValue, certificate_tags}
use Rattle.cms_types.specs.SignedDataValue.{crl_tags}
use Rattle.cms_types.specs.SignedDataReading.{encapsulated_from, signers_in, signed_data_from, content_info_from}
use Rattle.cms_stream_laws.specs.Tags.{CONTENT, CERTIFICATES, CRLS}
use Rattle.cms_stream_laws.specs.OpenReading.{OpenSpot, open_spot, OpenBody, heading, length_in, within_openly}
use Rattle.cms_stream_laws.specs.OpenReading.{◌then_openly◌, whole_openly, made_openly, maybe_openly, last_openly}
use Rattle.cms_stream_laws.specs.OpenReading.{switched_openly, opaque_openly, optional_opaque_openly, tagged_openly}
use Rattle.cms_stream_laws.specs.OpenReading.{kept}
use Rattle.cms_stream_laws.specs.OpenReading.{many_openly}

unfoldable pub explicit_octets_openly : OpenBody (List ℕ)
explicit_octets_openly w = whole_openly (within_openly OCTET_STRING (kept any_at)) w

unfoldable pub encapsulated_openly : OpenBody EncapsulatedValue
encapsulated_openly w =
    made_openly encapsulated_from
    (whole_openly (within_openly OBJECT_IDENTIFIER (kept oid_in)
    then_openly last_openly CONTENT explicit_octets_openly)) w

unfoldable pub algorithm_openly : OpenBody AlgorithmValue
algorithm_openly w =
    made_openly algorithm_from
    (whole_openly (within_openly OBJECT_IDENTIFIER (kept oid_in) then_openly optional_opaque_openly)) w

abbrev pub algorithms_openly : OpenBody (List AlgorithmValue)
algorithms_openly w = many_openly (within_openly SEQUENCE algorithm_openly) w

-- certificates and crls, as whole elements
abbrev pub certificates_openly : OpenBody (List (List ℕ))
certificates_openly w = many_openly (tagged_openly certificate_tags) w

abbrev pub crls_openly : OpenBody (List (List ℕ))
crls_openly w = many_openly (tagged_openly crl_tags) w

unfoldable pub signed_data_openly : OpenBody SignedDataValue
signed_data_openly w =
    made_openly signed_data_from
    (whole_openly (within_openly INTEGER (kept (version_in (1 ∷ 3 ∷ 4 ∷ 5 ∷ [])))
    then_openly within_openly SET algorithms_openly then_openly within_openly SEQUENCE encapsulated_openly
    then_openly maybe_openly CERTIFICATES certificates_openly then_openly maybe_openly CRLS crls_openly
    then_openly within_openly SET (kept signers_in))) w

unfoldable pub explicit_signed_data_openly : OpenBody SignedDataValue
explicit_signed_data_openly w = whole_openly (within_openly SEQUENCE signed_data_openly) w

unfoldable pub signed_content_openly : OpenBody SignedDataValue
signed_content_openly w = whole_openly (within_openly CONTENT explicit_signed_data_openly) w

unfoldable pub explicit_opaque_openly : OpenBody (List ℕ)
explicit_opaque_openly w = whole_openly opaque_openly w

unfoldable pub other_content_openly : OpenBody (List ℕ)
other_content_openly w = whole_openly (within_openly CONTENT explicit_opaque_openly) w

unfoldable pub content_info_openly : OpenBody ContentInfoValue
content_info_openly w =
    made_openly content_info_from
    (switched_openly OBJECT_IDENTIFIER (kept oid_in) id_signed_data signed_content_openly other_content_openly) w

-- a whole file: nothing states its end
abbrev pub contents_of : List ℕ → ℕ → OpenSpot
contents_of bytes l = open_spot l (heading l) (drop (heading l) bytes)

abbrev pub file_end : List ℕ → ℕ → ContentInfoValue → Result ContentInfoValue Fault
file_end bytes l c = if length bytes == heading l + l then Ok c else Err (fault Trailing (heading l + l))

unfoldable pub file_openly : List ℕ → Result ContentInfoValue Fault
file_openly bytes =
    if is_other SEQUENCE bytes then Err (fault Tag 0)
    else (length_in (open_spot 0 0 bytes) bytes
    >>= λ l. content_info_openly (contents_of bytes l) >>= file_end bytes l)
