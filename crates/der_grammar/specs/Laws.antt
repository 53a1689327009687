-- What holds of the grammar.
use Rattle.std.specs.Prelude.{◌≡◌, true}
use Rattle.der_core.specs.Clear.{clear}
use Rattle.der_core.specs.Grammar.{file}
use Rattle.der_grammar.specs.Table.{content_info, certificate, tst_info, request, response, signing_certificate}
use Rattle.der_grammar.specs.Table.{signing_certificate_v2}

-- the whole table is clear
abbrev pub TableIsClear : Type 0
TableIsClear = (clear (file content_info) ≡ true) × (clear (file certificate) ≡ true) × (clear (file tst_info) ≡ true)
    × (clear (file request) ≡ true)
    × (clear (file response) ≡ true) × (clear (file signing_certificate) ≡ true)
    × (clear (file signing_certificate_v2) ≡ true)
