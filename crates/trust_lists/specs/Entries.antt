-- Trusted certificates with the periods for which they are trusted.
use Rattle.std.specs.Prelude.{ℕ, Option}
use Rattle.cert_types.specs.CertificateValue.{CertificateValue}
use Rattle.trust_lists.specs.declared.role.Role.{Role}

-- an entry of a trust list: a certificate that is trusted in a role, from a moment and until a moment, each of which
-- may be absent; a moment counts nanoseconds from 0000-01-01 00:00:00
pub record EntryValue : Type 0 where
  pub role : Role
  pub from : Option ℕ
  pub until : Option ℕ
  pub certificate : CertificateValue
