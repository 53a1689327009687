-- The grammar of the profile: one row for each part, in the order of the parts. `Grammar` of `der_core` has the words,
-- and says what the row above each form means.
use Rattle.std.specs.Prelude.{ℕ, ◌==◌, List, [], ◌∷◌, if◌then◌else◌}
use Rattle.der_core.specs.Form.{One, Many, Ordered, Distinct, Form, opaque, full, part, opaques, switch, filled}
use Rattle.der_core.specs.Grammar.{◌▸◌, one, opt, list, ordered, version, boolean, integer, bits, oid, generalized}
use Rattle.der_core.specs.Grammar.{algorithm, time}

-- ---- object identifiers

abbrev pub id_signed_data : List ℕ
id_signed_data = 0x2a ∷ 0x86 ∷ 0x48 ∷ 0x86 ∷ 0xf7 ∷ 0x0d ∷ 0x01 ∷ 0x07 ∷ 0x02 ∷ []

abbrev pub id_subject_key_identifier : List ℕ
id_subject_key_identifier = 0x55 ∷ 0x1d ∷ 0x0e ∷ []

abbrev pub id_ext_key_usage : List ℕ
id_ext_key_usage = 0x55 ∷ 0x1d ∷ 0x25 ∷ []

-- ---- parts of several

-- Extension: SEQ { OID, BOOLEAN three, OCTET STRING }
abbrev pub extension : Form
extension =
    one 0x06 oid ▸
    opt 0x01 boolean ▸
    one 0x04 opaque ▸
    full

-- IssuerSerial: SEQ { SEQ list opaque, INTEGER }
abbrev pub issuer_serial : Form
issuer_serial =
    one 0x30 (opaques Many full) ▸
    one 0x02 integer ▸
    full

-- ---- SignedData (RFC 5652, 3, 5, 10)

-- Attribute: SEQ { OID, SET of opaque }
abbrev pub signed_attribute : Form
signed_attribute =
    one 0x06 oid ▸
    one 0x31 (opaques Ordered full) ▸
    full

abbrev pub unsigned_attribute : Form
unsigned_attribute =
    one 0x06 oid ▸
    one 0x31 (opaques Many full) ▸
    full

-- Sid: SEQ { Name, INTEGER } or [0] OCTET STRING
abbrev pub sid : ℕ → Form
sid t = if t == 0x30 then (one 0x30 opaque ▸ one 0x02 integer ▸ full) else opaque

-- SignerInfo: SEQ { INTEGER 1 or 3; Sid; AlgId; [0] ordered Attribute opt, not empty; AlgId; OCTET STRING;
--   [1] list Attribute opt, not empty }
abbrev pub signer_info : Form
signer_info =
    one 0x02 (version (1 ∷ 3 ∷ [])) ▸
    part One (0x30 ∷ 0x80 ∷ []) sid ▸
    one 0x30 algorithm ▸
    opt 0xa0 (filled (ordered 0x30 signed_attribute)) ▸
    one 0x30 algorithm ▸
    one 0x04 opaque ▸
    opt 0xa1 (filled (list 0x30 unsigned_attribute)) ▸
    full

-- Encap: SEQ { OID, [0] EXPL OCTET STRING opt }
abbrev pub encap : Form
encap =
    one 0x06 oid ▸
    opt 0xa0 (one 0x04 opaque full) ▸
    full

-- CertChoice: opaque with tag 30, A0, A1, A2 or A3; CrlChoice: opaque with tag 30 or A1
abbrev pub cert_choices : Form
cert_choices = part Many (0x30 ∷ 0xa0 ∷ 0xa1 ∷ 0xa2 ∷ 0xa3 ∷ []) (λ _. opaque) full

abbrev pub crl_choices : Form
crl_choices = part Many (0x30 ∷ 0xa1 ∷ []) (λ _. opaque) full

-- SignedData: SEQ { INTEGER 1, 3, 4 or 5; SET list AlgId; Encap; [0] list CertChoice opt; [1] list CrlChoice opt;
--   SET list SignerInfo }
abbrev pub signer_infos : Form
signer_infos = one 0x31 (list 0x30 signer_info) full

abbrev pub signed_data : Form
signed_data =
    one 0x02 (version (1 ∷ 3 ∷ 4 ∷ 5 ∷ [])) ▸
    one 0x31 (list 0x30 algorithm) ▸
    one 0x30 encap ▸
    opt 0xa0 cert_choices ▸
    opt 0xa1 crl_choices ▸
    signer_infos

-- ContentInfo: SEQ { OID, [0] EXPL opaque }; for a SignedData the OID is id-signedData and the opaque is SignedData
abbrev pub content_info : Form
content_info =
    switch 0x06 oid id_signed_data
    (one 0xa0 (one 0x30 signed_data full) ▸ full)
    (one 0xa0 (opaques One full) ▸ full)

-- ---- Certificate (RFC 5280, 4.1)

abbrev pub validity : Form
validity =
    part One (0x17 ∷ 0x18 ∷ []) time ▸
    part One (0x17 ∷ 0x18 ∷ []) time ▸
    full

-- in a certificate 2.5.29.14 and 2.5.29.37 at most once each
abbrev pub certificate_extensions : Form
certificate_extensions = part (Distinct (id_subject_key_identifier ∷ id_ext_key_usage ∷ []))
    (0x30 ∷ []) (λ _. extension) full

-- Tbs: SEQ { [0] EXPL INTEGER 0, 1 or 2, three; INTEGER; AlgId; Name; SEQ { time, time }; Name; key opaque with tag 30;
--   [1] BIT STRING opt; [2] BIT STRING opt; [3] EXPL SEQ list Extension opt }
abbrev pub tbs_certificate : Form
tbs_certificate =
    opt 0xa0 (one 0x02 (version (0 ∷ 1 ∷ 2 ∷ [])) full) ▸
    one 0x02 integer ▸
    one 0x30 algorithm ▸
    one 0x30 opaque ▸
    one 0x30 validity ▸
    one 0x30 opaque ▸
    one 0x30 opaque ▸
    opt 0x81 bits ▸
    opt 0x82 bits ▸
    opt 0xa3 (one 0x30 certificate_extensions full) ▸
    full

-- Certificate: SEQ { Tbs, AlgId, BIT STRING }
abbrev pub certificate : Form
certificate =
    one 0x30 tbs_certificate ▸
    one 0x30 algorithm ▸
    one 0x03 bits ▸
    full

-- ---- time-stamps (RFC 3161, 2.4)

-- Accuracy: SEQ { INTEGER opt, [0] INTEGER opt, [1] INTEGER opt }
abbrev pub accuracy : Form
accuracy =
    opt 0x02 integer ▸
    opt 0x80 integer ▸
    opt 0x81 integer ▸
    full

-- Imprint: SEQ { AlgId, OCTET STRING }
abbrev pub imprint : Form
imprint =
    one 0x30 algorithm ▸
    one 0x04 opaque ▸
    full

-- TSTInfo: SEQ { INTEGER 1; OID; Imprint; INTEGER; GeneralizedTime; Accuracy opt; BOOLEAN three; INTEGER opt;
--   [0] EXPL opaque opt; [1] list Extension opt }
abbrev pub tst_info : Form
tst_info =
    one 0x02 (version (1 ∷ [])) ▸
    one 0x06 oid ▸
    one 0x30 imprint ▸
    one 0x02 integer ▸
    one 0x18 generalized ▸
    opt 0x30 accuracy ▸
    opt 0x01 boolean ▸
    opt 0x02 integer ▸
    opt 0xa0 (opaques One full) ▸
    opt 0xa1 (list 0x30 extension) ▸
    full

-- Request: SEQ { INTEGER 1; Imprint; OID opt; INTEGER opt; BOOLEAN three; [0] list Extension opt }
abbrev pub request : Form
request =
    one 0x02 (version (1 ∷ [])) ▸
    one 0x30 imprint ▸
    opt 0x06 oid ▸
    opt 0x02 integer ▸
    opt 0x01 boolean ▸
    opt 0xa0 (list 0x30 extension) ▸
    full

-- Status: SEQ { INTEGER; SEQ list UTF8String opt; BIT STRING opt }
abbrev pub status : Form
status =
    one 0x02 integer ▸
    opt 0x30 (list 0x0c opaque) ▸
    opt 0x03 bits ▸
    full

-- Response: SEQ { Status, opaque with tag 30 opt }
abbrev pub response : Form
response =
    one 0x30 status ▸
    opt 0x30 opaque ▸
    full

-- ---- signing certificates (RFC 2634, 5.4; RFC 5035, 3)

-- EssId: SEQ { OCTET STRING, IssuerSerial opt }
abbrev pub ess_id : Form
ess_id =
    one 0x04 opaque ▸
    opt 0x30 issuer_serial ▸
    full

-- EssIdV2: SEQ { AlgId three, OCTET STRING, IssuerSerial opt }
abbrev pub ess_id_v2 : Form
ess_id_v2 =
    opt 0x30 algorithm ▸
    one 0x04 opaque ▸
    opt 0x30 issuer_serial ▸
    full

-- SigningCertificate: SEQ { SEQ list EssId, opaque with tag 30 opt }
abbrev pub signing_certificate : Form
signing_certificate =
    one 0x30 (list 0x30 ess_id) ▸
    opt 0x30 opaque ▸
    full

-- SigningCertificateV2: SEQ { SEQ list EssIdV2, opaque with tag 30 opt }
abbrev pub signing_certificate_v2 : Form
signing_certificate_v2 =
    one 0x30 (list 0x30 ess_id_v2) ▸
    opt 0x30 opaque ▸
    full
