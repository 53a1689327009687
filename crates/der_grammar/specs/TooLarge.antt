-- When a SignedData is too large for a buffer.
use Rattle.std.specs.Prelude.{ℕ, ◌+◌, ◌<◌, ◌⊎◌, List}
use Rattle.der_core.specs.OpenFaults.{StatesAt}
use Rattle.der_core.specs.Grammar.{file}
use Rattle.der_grammar.specs.Table.{content_info, encap, signer_infos}

-- the header of the eContentType states a length greater than the buffer, or it and the header of signerInfos do
-- together
abbrev pub IsTooLarge : List ℕ → (buffer : ℕ) → Type 0
IsTooLarge bytes buffer = ((n : ℕ) × StatesAt (file content_info) bytes encap n × (buffer < n))
    ⊎ ((n m : ℕ) × StatesAt (file content_info) bytes encap n
    × StatesAt (file content_info) bytes signer_infos m × (buffer < n + m))
