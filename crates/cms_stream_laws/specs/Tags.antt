-- The identifier octets of the parts of a ContentInfo and of a SignedData that have context-specific tags (RFC 5652 3,
-- 5.1, 5.2).
use Rattle.std.specs.Prelude.{ℕ}

-- content and eContent, [0] EXPLICIT
abbrev pub CONTENT : ℕ
CONTENT = 0xa0

-- certificates, [0] IMPLICIT
abbrev pub CERTIFICATES : ℕ
CERTIFICATES = 0xa0

-- crls, [1] IMPLICIT
abbrev pub CRLS : ℕ
CRLS = 0xa1
