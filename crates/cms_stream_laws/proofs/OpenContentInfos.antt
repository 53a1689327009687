-- The open reading of a ContentInfo is that of a slice where the body is whole, and steady.
use Rattle.std.proofs.Common.{[], ◌∷◌}
use Rattle.der_grammar.specs.Table.{id_signed_data}
use Rattle.der_core.specs.AlgorithmReading.{algorithm_from, algorithm_in}
use Rattle.der_core.specs.Reading.{any_at, oid_in, version_in}
use Rattle.cms_types.specs.SignedDataValue.{certificate_tags, crl_tags}
use Rattle.cms_types.specs.SignedDataReading.{explicit_octets_in, encapsulated_from, encapsulated_in, algorithms_in}
use Rattle.cms_types.specs.SignedDataReading.{signers_in, signed_data_from}
use Rattle.cms_types.specs.SignedDataReading.{signed_data_in, explicit_signed_data_in, signed_content_in}
use Rattle.cms_types.specs.SignedDataReading.{other_content_in, content_info_from, content_info_in}
use Rattle.der_lists.specs.Items.{explicit_opaque_in}
use Rattle.cms_stream_laws.specs.OpenReading.{kept}
use Rattle.cms_stream_laws.specs.OpenContentInfo.{explicit_octets_openly, encapsulated_openly, algorithm_openly}
use Rattle.cms_stream_laws.specs.OpenContentInfo.{algorithms_openly, explicit_opaque_openly}
use Rattle.cms_stream_laws.specs.OpenContentInfo.{signed_data_openly, explicit_signed_data_openly}
use Rattle.cms_stream_laws.specs.OpenContentInfo.{signed_content_openly, other_content_openly}
use Rattle.cms_stream_laws.specs.OpenContentInfo.{content_info_openly}
use Rattle.cms_stream_laws.proofs.OpenLaws.{IsOpenBody, within_open, then_open, whole_open, made_open, kept_open}
use Rattle.cms_stream_laws.proofs.OpenParts.{maybe_open, last_open, within_goes_on, many_open, switched_open}
use Rattle.cms_stream_laws.proofs.Opaques.{opaque_open, opaque_steady, optional_open, optional_steady, tagged_list_open}
use Rattle.cms_stream_laws.proofs.Opaques.{tagged_list_steady}
use Rattle.cms_stream_laws.proofs.SteadyParts.{IsSteadyBody, within_steady, then_steady, whole_steady, made_steady}
use Rattle.cms_stream_laws.proofs.SteadyParts.{kept_steady, maybe_steady, last_steady}
use Rattle.cms_stream_laws.proofs.SteadyParts.{many_steady, switched_steady}

pub explicit_octets_open : IsOpenBody explicit_octets_in explicit_octets_openly
unfolding explicit_octets_in explicit_octets_openly
explicit_octets_open = whole_open _ _ (within_open 4 any_at (kept any_at) (kept_open any_at))

explicit_octets_steady : IsSteadyBody explicit_octets_openly
unfolding explicit_octets_openly
explicit_octets_steady = whole_steady _ (within_steady 4 any_at (kept any_at) (kept_open any_at) (kept_steady any_at))

pub oid_open : IsOpenBody oid_in (kept oid_in)
oid_open = kept_open oid_in

pub encapsulated_open : IsOpenBody encapsulated_in encapsulated_openly
unfolding encapsulated_in encapsulated_openly
encapsulated_open =
    made_open encapsulated_from _ _
    (whole_open _ _ (then_open _ _ (within_open 6 oid_in (kept oid_in) oid_open) _ _
    (last_open 160 explicit_octets_in explicit_octets_openly explicit_octets_open)))

encapsulated_steady : IsSteadyBody encapsulated_openly
unfolding encapsulated_openly
encapsulated_steady =
    made_steady encapsulated_from _
    (whole_steady _ (then_steady _ _ (within_open 6 oid_in (kept oid_in) oid_open)
    (within_steady 6 oid_in (kept oid_in) oid_open (kept_steady oid_in)) _
    (last_steady 160 explicit_octets_in explicit_octets_openly explicit_octets_open explicit_octets_steady)))

pub algorithm_open : IsOpenBody algorithm_in algorithm_openly
unfolding algorithm_in algorithm_openly
algorithm_open = made_open algorithm_from _ _
    (whole_open _ _ (then_open _ _ (within_open 6 oid_in (kept oid_in) oid_open) _ _ optional_open))

algorithm_steady : IsSteadyBody algorithm_openly
unfolding algorithm_openly
algorithm_steady =
    made_steady algorithm_from _
    (whole_steady _ (then_steady _ _ (within_open 6 oid_in (kept oid_in) oid_open)
    (within_steady 6 oid_in (kept oid_in) oid_open (kept_steady oid_in)) _
    optional_steady))

pub algorithms_open : IsOpenBody algorithms_in algorithms_openly
algorithms_open =
    many_open _ _ (within_open 48 algorithm_in algorithm_openly algorithm_open) (within_goes_on 48 algorithm_openly)

algorithms_steady : IsSteadyBody algorithms_openly
algorithms_steady =
    many_steady _ _ (within_open 48 algorithm_in algorithm_openly algorithm_open)
    (within_steady 48 algorithm_in algorithm_openly algorithm_open algorithm_steady)

pub explicit_opaque_open : IsOpenBody explicit_opaque_in explicit_opaque_openly
unfolding explicit_opaque_in explicit_opaque_openly
explicit_opaque_open = whole_open _ _ opaque_open

explicit_opaque_steady : IsSteadyBody explicit_opaque_openly
unfolding explicit_opaque_openly
explicit_opaque_steady = whole_steady _ opaque_steady

pub signed_data_open : IsOpenBody signed_data_in signed_data_openly
unfolding signed_data_in signed_data_openly
signed_data_open = made_open signed_data_from _ _ (whole_open _ _
    (then_open _ _ (within_open 2 _ _ (kept_open (version_in (1 ∷ 3 ∷ 4 ∷ 5 ∷ [])))) _ _
    (then_open _ _ (within_open 49 _ _ algorithms_open) _ _
    (then_open _ _ (within_open 48 _ _ encapsulated_open) _ _
    (then_open _ _ (maybe_open 160 _ _ (tagged_list_open certificate_tags)) _ _
    (then_open _ _ (maybe_open 161 _ _ (tagged_list_open crl_tags)) _ _
    (within_open 49 _ _ (kept_open signers_in))))))))

signed_data_steady : IsSteadyBody signed_data_openly
unfolding signed_data_openly
signed_data_steady = made_steady signed_data_from _ (whole_steady _
    (then_steady _ _ (within_open 2 _ _ (kept_open (version_in (1 ∷ 3 ∷ 4 ∷ 5 ∷ []))))
    (within_steady 2 _ _ (kept_open (version_in (1 ∷ 3 ∷ 4 ∷ 5 ∷ []))) (kept_steady (version_in (1 ∷ 3 ∷ 4 ∷ 5 ∷ []))))
    _
    (then_steady _ _ (within_open 49 _ _ algorithms_open) (within_steady 49 _ _ algorithms_open algorithms_steady) _
    (then_steady _ _ (within_open 48 _ _ encapsulated_open)
    (within_steady 48 _ _ encapsulated_open encapsulated_steady) _
    (then_steady _ _ (maybe_open 160 _ _ (tagged_list_open certificate_tags))
    (maybe_steady 160 _ _ (tagged_list_open certificate_tags) (tagged_list_steady certificate_tags)) _
    (then_steady _ _ (maybe_open 161 _ _ (tagged_list_open crl_tags))
    (maybe_steady 161 _ _ (tagged_list_open crl_tags) (tagged_list_steady crl_tags)) _
    (within_steady 49 _ _ (kept_open signers_in) (kept_steady signers_in))))))))

pub explicit_signed_data_open : IsOpenBody explicit_signed_data_in explicit_signed_data_openly
unfolding explicit_signed_data_in explicit_signed_data_openly
explicit_signed_data_open = whole_open _ _ (within_open 48 _ _ signed_data_open)

signed_content_open : IsOpenBody signed_content_in signed_content_openly
unfolding signed_content_in signed_content_openly
signed_content_open = whole_open _ _ (within_open 160 _ _ explicit_signed_data_open)

other_content_open : IsOpenBody other_content_in other_content_openly
unfolding other_content_in other_content_openly
other_content_open = whole_open _ _ (within_open 160 _ _ explicit_opaque_open)

explicit_signed_data_steady : IsSteadyBody explicit_signed_data_openly
unfolding explicit_signed_data_openly
explicit_signed_data_steady = whole_steady _ (within_steady 48 _ _ signed_data_open signed_data_steady)

signed_content_steady : IsSteadyBody signed_content_openly
unfolding signed_content_openly
signed_content_steady = whole_steady _ (within_steady 160 _ _ explicit_signed_data_open explicit_signed_data_steady)

other_content_steady : IsSteadyBody other_content_openly
unfolding other_content_openly
other_content_steady = whole_steady _ (within_steady 160 _ _ explicit_opaque_open explicit_opaque_steady)

-- the contents of a ContentInfo
pub content_info_open : IsOpenBody content_info_in content_info_openly
unfolding content_info_in content_info_openly
content_info_open = made_open content_info_from _ _
    (switched_open 6 _ _ oid_open id_signed_data _ _ signed_content_open _ _ other_content_open)

pub content_info_steady : IsSteadyBody content_info_openly
unfolding content_info_openly
content_info_steady =
    made_steady content_info_from _ (switched_steady 6 _ _ oid_open
    (kept_steady oid_in) id_signed_data _ signed_content_steady _ other_content_steady)
