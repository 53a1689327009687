-- The worked rows, computed.
use Rattle.std.proofs.Common.{refl}
use Rattle.big_numbers.specs.NumberRows.{OctetRows, PowerRows, WordRows}

pub octet_rows : OctetRows
octet_rows = record { none = refl; three = refl; padded = refl; zero = refl; one_word = refl; two_words = refl }

pub word_rows : WordRows
word_rows = record { two = refl; padded = refl; three = refl }

pub power_rows : PowerRows
power_rows = record { small = refl; back = refl; square = refl }
