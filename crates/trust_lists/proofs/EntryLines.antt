-- Lines of entries that were put.
use Rattle.std.proofs.Common.{◌≡◌, ℕ, List, [], ◌∷◌, ◌++◌, Option, Err, refl, ap, subst, ◌∙◌, codes}
use Rattle.hex.specs.Hex.{encode_lower}
use Rattle.devices.specs.Device.{Wrote}
use Rattle.devices.specs.declared.sink.SinkFault.{SinkFault}
use Rattle.cert_types.specs.CertificateValue.{encoding}
use Rattle.trust_lists.specs.declared.role.Role.{Role}
use Rattle.trust_lists.specs.Certificates.{certificate_of}
use Rattle.trust_lists.specs.Entries.{EntryValue}
use Rattle.trust_lists.specs.Written.{role_word, IsMomentWord, IsEntryLine, PutsLines, Puts}
use Rattle.devices.proofs.Putting.{TwoPuts, FirstPut, wrote_next, wrote_part}

abbrev pub four_words : (role from until octets : List ℕ) → List ℕ
four_words role from until octets =
    (role ++ 32 ∷ []) ++ ((from ++ 32 ∷ []) ++ ((until ++ 32 ∷ []) ++ (encode_lower octets ++ 10 ∷ [])))

abbrev pub entry_with : Role → (from until : Option ℕ) → List ℕ → EntryValue
entry_with role from until octets =
    record { role = role; from = from; until = until; certificate = certificate_of octets }

-- the words of an entry: its role, its two moments and its octets, which are those of a certificate
pub record AreWords (role : Role) (from until : Option ℕ) (octets r f u o : List ℕ) : Type 0 where
  pub role_is : r ≡ role_word role
  pub from_is : IsMomentWord from f
  pub until_is : IsMomentWord until u
  pub octets_are : o ≡ octets
  pub encoded : octets ≡ encoding (certificate_of octets)

pub entry_line : (e : EntryValue) (role : Role) (from until : Option ℕ) (octets r f u o : List ℕ)
    → entry_with role from until octets ≡ e
    → AreWords role from until octets r f u o → IsEntryLine e (four_words r f u o)
entry_line e role from until octets r f u o view are =
    let here : IsEntryLine (entry_with role from until octets) (four_words r f u o) = record {
      from = f;
      until = u;
      from_word = are.from_is;
      until_word = are.until_is;
      is = λ i. four_words (are.role_is i) f u ((are.octets_are ∙ are.encoded) i);
    } in
    subst (λ (x : EntryValue). IsEntryLine x (four_words r f u o)) view here

-- a line was put whole, and then the lines of the others
pub lines_next : (p : TwoPuts) (left : List EntryValue) (e : EntryValue) (es : List EntryValue) → left ≡ e ∷ es
    → (line : List ℕ) × IsEntryLine e line × FirstPut p line
    → PutsLines es p.result p.tells_between p.between.taken p.after.taken p.between.failures p.after.failures
    → PutsLines left p.result p.tells p.before.taken p.after.taken p.before.failures p.after.failures
lines_next p left e es is put next = record {
  first = e ∷ next.first;
  others = next.others;
  parts = is ∙ ap (λ (x : List EntryValue). e ∷ x) next.parts;
  all = next.all;
  lines = put.0 ++ next.lines;
  are = (put.0, put.1, (next.lines, next.are, refl));
  wrote = wrote_next p put.0 next.lines put.2 next.wrote;
}

-- a line was not put whole
pub lines_part : (f : SinkFault) (tells : Type 0) (t0 t1 : List ℕ) (c0 c1 : ℕ) (left : List EntryValue) (e : EntryValue)
    (es : List EntryValue)
    → left ≡ e ∷ es → (line : List ℕ) × IsEntryLine e line × Wrote (Err f) tells t0 t1 c0 c1 line
    → PutsLines left (Err f) tells t0 t1 c0 c1
lines_part f tells t0 t1 c0 c1 left e es is put = record {
  first = e ∷ [];
  others = es;
  parts = is;
  all = tt;
  lines = put.0 ++ [];
  are = (put.0, put.1, ([], refl, refl));
  wrote = wrote_part f tells t0 t1 c0 c1 put.0 [] put.2;
}

-- the first line was put whole, and then those of entries
pub list_next : (p : TwoPuts) (entries : List EntryValue) → FirstPut p (codes "cmsproof trust 2" ++ 10 ∷ [])
    → PutsLines entries p.result p.tells_between p.between.taken p.after.taken p.between.failures p.after.failures
    → Puts entries p.result p.tells p.before.taken p.after.taken p.before.failures p.after.failures
list_next p entries first next = record {
  first = next.first;
  others = next.others;
  parts = next.parts;
  all = next.all;
  lines = next.lines;
  are = next.are;
  wrote = wrote_next p (codes "cmsproof trust 2" ++ 10 ∷ []) next.lines first next.wrote;
}

-- the first line was not put whole
pub list_part : (f : SinkFault) (tells : Type 0) (t0 t1 : List ℕ) (c0 c1 : ℕ) (entries : List EntryValue)
    → Wrote (Err f) tells t0 t1 c0 c1 (codes "cmsproof trust 2" ++ 10 ∷ []) → Puts entries (Err f) tells t0 t1 c0 c1
list_part f tells t0 t1 c0 c1 entries w = record {
  first = [];
  others = entries;
  parts = refl;
  all = tt;
  lines = [];
  are = refl;
  wrote = wrote_part f tells t0 t1 c0 c1 (codes "cmsproof trust 2" ++ 10 ∷ []) [] w;
}
