-- The worked rows, computed.
use Rattle.std.proofs.Common.{rules}
use Rattle.std.specs.Int.Count.{count_leading_zeros}
use Rattle.der_core.specs.Reading.{next_at, length_at, further_at, expect_at, enter_at, end_at, none_at, opaque_at}
use Rattle.der_core.specs.AlgorithmReading.{algorithm_in}
use Rattle.rsa_keys.specs.KeyReading.{info_at, info_in, is_judged, key_in, key_numbers, numbers_at, numbers_in}
use Rattle.rsa_keys.specs.KeyReading.{scheme_of}
use Rattle.rsa_keys.specs.ParameterReading.{algorithm_at, explicit_algorithm_in, explicit_integer_in, parts_at}
use Rattle.rsa_keys.specs.ParameterReading.{parts_in, pss_in}
use Rattle.rsa_keys.specs.KeyRows.{KeyRows, ParameterRows, SchemeRows}

-- what the rows compute with
computing : Unit {0}
unfolding key_in info_at info_in is_judged key_numbers numbers_at numbers_in scheme_of count_leading_zeros algorithm_in
    next_at length_at further_at expect_at enter_at end_at none_at opaque_at algorithm_at explicit_algorithm_in
    explicit_integer_in parts_at parts_in pss_in
computing = tt

pub key_rows : KeyRows
unfolding computing
key_rows = search rules

pub parameter_rows : ParameterRows
unfolding computing
parameter_rows = search rules

pub scheme_rows : SchemeRows
scheme_rows = search rules
