-- The table is clear, by computation.
use Rattle.std.proofs.Common.{◌≡◌, true, refl}
use Rattle.der_core.specs.Clear.{clear}
use Rattle.der_core.specs.Grammar.{file}
use Rattle.der_grammar.specs.Table.{content_info, certificate, tst_info, request, response, signing_certificate}
use Rattle.der_grammar.specs.Table.{signing_certificate_v2}

pub content_info_clear : clear (file content_info) ≡ true
content_info_clear = refl

pub certificate_clear : clear (file certificate) ≡ true
certificate_clear = refl

pub tst_info_clear : clear (file tst_info) ≡ true
tst_info_clear = refl

pub request_clear : clear (file request) ≡ true
request_clear = refl

pub response_clear : clear (file response) ≡ true
response_clear = refl

pub signing_certificate_clear : clear (file signing_certificate) ≡ true
signing_certificate_clear = refl

pub signing_certificate_v2_clear : clear (file signing_certificate_v2) ≡ true
signing_certificate_v2_clear = refl
