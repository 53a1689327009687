-- Worked rows: the sizes of the vectors.
use Rattle.std.specs.Prelude.{◌≡◌, length}
use Rattle.der_grammar.specs.Vectors.{time_stamp_request, time_stamp, time_stamp_token, signer_certificate}
use Rattle.der_grammar.specs.Vectors.{stamping_certificate, stamping_certificate_with_two_usages, signed_file}
use Rattle.der_grammar.specs.Vectors.{exchanged_file, emptily_stamped_file, stamped_file}

-- how many octets the vectors have
pub record SizeRows : Type 0 where
  pub of_request : length time_stamp_request ≡ 59
  pub of_time_stamp : length time_stamp ≡ 81
  pub of_token : length time_stamp_token ≡ 331
  pub of_signer_certificate : length signer_certificate ≡ 98
  pub of_stamping_certificate : length stamping_certificate ≡ 132
  pub of_two_usages : length stamping_certificate_with_two_usages ≡ 157
  pub of_signed_file : length signed_file ≡ 186
  pub of_exchanged_file : length exchanged_file ≡ 186
  pub of_emptily_stamped_file : length emptily_stamped_file ≡ 189
  pub of_stamped_file : length stamped_file ≡ 549
