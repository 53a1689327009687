-- What is written of a trust list says that list, and no other text is written of it.
use Rattle.std.proofs.Common.{◌≡◌, ℕ, ◌+◌, true, false, List, [], ◌∷◌, ◌++◌, Option, Some, None, Result, Ok, Err, refl}
use Rattle.std.proofs.Common.{sym, ap, subst, ◌∙◌, inl, inr, codes}
use Rattle.std.proofs.Common.{append_assoc, append-nil, map}
use Rattle.std.specs.Prelude.{◌==◌, OnOk}
use Rattle.std.specs.Result.{result_ok}
use Rattle.std.proofs.lemmas.Bool.{and_right}
use Rattle.hex.specs.Hex.{IsBytes, decode_of, encode_lower}
use Rattle.hex.specs.declared.error.FromHexError.{FromHexError}
use Rattle.hex.proofs.HexLemmas.{decode_of-encode_lower, decode_of-ok}
use Rattle.devices.specs.declared.sink.SinkFault.{SinkFault}
use Rattle.der_core.specs.Lists.{is_same}
use Rattle.der_core.specs.Times.{is_generalized}
use Rattle.der_time.proofs.Unique.{texts_are_unique}
use Rattle.cert_types.specs.CertificateValue.{encoding}
use Rattle.trust_lists.specs.declared.role.Role.{Role}
use Rattle.trust_lists.specs.declared.role.Role.TheVariants.{Signer, Tsa}
use Rattle.trust_lists.specs.declared.trust_version.Version.{Version}
use Rattle.trust_lists.specs.declared.trust_version.Version.TheVariants.{First, Second}
use Rattle.trust_lists.specs.Entries.{EntryValue}
use Rattle.trust_lists.specs.Periods.{is_backwards}
use Rattle.list_answers.specs.Texts.{NumberedLine, trimmed, is_silent, lines_of, words_of, telling}
use Rattle.trust_lists.specs.TrustText.{LineFields, role_of, moment_in, fields_from, first_fields, second_fields}
use Rattle.trust_lists.specs.TrustText.{fields_of, SaysEntry, Answer, behind}
use Rattle.trust_lists.specs.TrustText.{IsOfLines, IsUnder, IsTrust}
use Rattle.trust_lists.specs.Written.{role_word, IsMomentWord, IsEntryLine, AreEntryLines, IsWrittenAs, Puts}
use Rattle.trust_lists.specs.ReadBack.{GoodEntry, AreGood, AddsText, SaidIsGood, WrittenIsSaid, WrittenOnce}
use Rattle.trust_lists.specs.ReadBack.{WrittenAgain}
use Rattle.trust_lists.proofs.EntryLines.{four_words}
use Rattle.trust_lists.proofs.TrustAnswers.{one_answer}
use Rattle.trust_lists.proofs.Visible.{Printed, role_visible, moment_visible, hex_visible, line_first, untrimmed, words}
use Rattle.trust_lists.proofs.Visible.{words_printed, words_split}

-- ---- the words of a line are read back

role_back : (r : Role) → role_of (role_word r) ≡ Some r
role_back Signer = refl
role_back Tsa = refl

no_dash : (w : List ℕ) → is_generalized w ≡ true → is_same w (codes "-") ≡ false
no_dash [] h = absurd cc
no_dash (x ∷ []) h = absurd cc
no_dash (x ∷ y ∷ ys) h = and_right (x == 45) false refl

moment_back : (m : Option ℕ) (w : List ℕ) → IsMomentWord m w → moment_in w ≡ Some m
unfolding IsMomentWord moment_in
moment_back None w h = ap moment_in h ∙ refl
moment_back (Some m) w h = rw (no_dash w h.0, h.0, h.1) refl

digits_back : (octets : List ℕ) → IsBytes octets → result_ok (decode_of (encode_lower octets)) ≡ Some octets
digits_back octets h = ap result_ok (decode_of-encode_lower octets h)

-- the words of an entry
abbrev entry_words : EntryValue → (from until : List ℕ) → List ℕ
entry_words e from until = words (role_word e.role) from until (encode_lower (encoding e.certificate))

abbrev fields_in : EntryValue → LineFields
fields_in e = record { role = e.role; from = e.from; until = e.until; octets = encoding e.certificate }

says : (e : EntryValue) (from until : List ℕ) → GoodEntry e → IsMomentWord e.from from → IsMomentWord e.until until
    → SaysEntry Second (entry_words e from until) e
says e from until good f u =
    let digits = encode_lower (encoding e.certificate) in
    let split = words_split (role_word e.role) from until digits (role_visible e.role) (moment_visible e.from from f)
    (moment_visible e.until until u)
    (hex_visible (encoding e.certificate) good.octets) in
    let r = role_back e.role in
    let b = moment_back e.from from f in
    let c = moment_back e.until until u in
    let d = digits_back (encoding e.certificate) good.octets in
    record {
      fields = fields_in e;
      says = ap second_fields split ∙ (λ i. fields_from (r i) (b i) (c i) (d i));
      forwards = good.forwards;
      encodes = good.encodes;
      is = refl;
    }

-- ---- the lines of entries are read back

-- a word goes to the text behind it
onto : (w x y : List ℕ) → (w ++ 32 ∷ []) ++ (x ++ y) ≡ (w ++ 32 ∷ x) ++ y
onto w x y = append_assoc w (32 ∷ []) (x ++ y) ∙ sym (append_assoc w (32 ∷ x) y)

line_is : (role from until octets : List ℕ)
    → four_words role from until octets ≡ words role from until (encode_lower octets) ++ 10 ∷ []
line_is role from until octets =
    let digits = encode_lower octets in
    ap (λ (x : List ℕ). (role ++ 32 ∷ []) ++ ((from ++ 32 ∷ []) ++ x)) (onto until digits (10 ∷ []))
    ∙ ap (λ (x : List ℕ). (role ++ 32 ∷ []) ++ x) (onto from (until ++ 32 ∷ digits) (10 ∷ []))
    ∙ onto role (from ++ 32 ∷ (until ++ 32 ∷ digits)) (10 ∷ [])

loud : (r : Role) (rest : List ℕ) → is_silent (role_word r ++ rest) ≡ false
loud Signer rest = refl
loud Tsa rest = refl

-- the first line of a text, with those behind it
tells_first : (before : ℕ) (line rest : List ℕ) → Printed line → is_silent line ≡ false
    → telling before (lines_of (line ++ 10 ∷ rest))
    ≡ record { number = before + 1; octets = line } ∷ telling (before + 1) (lines_of rest)
tells_first before line rest p loud =
    ap (λ (ls : List (List ℕ)). telling before (map trimmed ls)) (line_first line rest p)
    ∙ ap (λ (l : List ℕ). telling before (l ∷ lines_of rest)) (untrimmed line p)
    ∙ rw loud refl

lines_back : (before : ℕ) (es : List EntryValue) (text : List ℕ) → AreGood es → AreEntryLines es text
    → IsOfLines Second (telling before (lines_of text)) (Ok es)
lines_back before [] text good are =
    subst (λ (t : List ℕ). IsOfLines Second (telling before (lines_of t)) (Ok [])) (sym are) refl
lines_back before (e ∷ es) text good are =
    let line = are.1 in
    let rest = are.2.0 in
    let octets = encoding e.certificate in
    let w = entry_words e line.from line.until in
    let p = words_printed (role_word e.role) line.from line.until (encode_lower octets) (role_visible e.role)
    (moment_visible e.from line.from line.from_word) (moment_visible e.until line.until line.until_word)
    (hex_visible octets good.0.octets) in
    let whole : text ≡ w ++ 10 ∷ rest = are.2.2
    ∙ ap (λ (l : List ℕ). l ++ rest) (line.is ∙ line_is (role_word e.role) line.from line.until octets)
    ∙ append_assoc w (10 ∷ []) rest in
    let cut = tells_first before w rest p (loud e.role _) in
    let others = lines_back (before + 1) es rest good.1 are.2.1 in
    let here : IsOfLines Second (record { number = before + 1; octets = w } ∷ telling (before + 1) (lines_of rest))
    (Ok (e ∷ es)) =
    inl (e, says e line.from line.until good.0 line.from_word line.until_word, (Ok es, others, refl)) in
    subst (λ (ls : List NumberedLine). IsOfLines Second ls (Ok (e ∷ es)))
    (sym (ap (λ (t : List ℕ). telling before (lines_of t)) whole ∙ cut)) here

pub written_is_said : WrittenIsSaid
written_is_said es text good w =
    let under : IsTrust ((codes "cmsproof trust 2" ++ 10 ∷ []) ++ w.0) (Ok es) = lines_back 1 es w.0 good w.1 in
    subst (λ (t : List ℕ). IsTrust t (Ok es)) (sym w.2) under

-- ---- what a text says is good

octets_of_digits : (r : Result (List ℕ) FromHexError) (octets : List ℕ) → result_ok r ≡ Some octets → r ≡ Ok octets
octets_of_digits (Ok x) octets e = cc
octets_of_digits (Err x) octets e = absurd cc

from_fields : (r : Option Role) (from until : Option (Option ℕ)) (o : Option (List ℕ)) (f : LineFields)
    → fields_from r from until o ≡ Some f → o ≡ Some f.octets
from_fields (Some r) (Some from) (Some until) (Some o) f e = cc
from_fields None from until o f e = absurd cc
from_fields (Some r) None until o f e = absurd cc
from_fields (Some r) (Some from) None o f e = absurd cc
from_fields (Some r) (Some from) (Some until) None f e = absurd cc

are_bytes : (digits : List ℕ) (r : Option Role) (from until : Option (Option ℕ)) (f : LineFields)
    → fields_from r from until (result_ok (decode_of digits)) ≡ Some f → IsBytes f.octets
are_bytes digits r from until f e =
    (decode_of-ok digits f.octets
    (octets_of_digits (decode_of digits) f.octets (from_fields r from until (result_ok (decode_of digits)) f e))).3

first_bytes : (ws : List (List ℕ)) (f : LineFields) → first_fields ws ≡ Some f → IsBytes f.octets
first_bytes (role ∷ digits ∷ []) f e = are_bytes digits (role_of role) (Some None) (Some None) f e
first_bytes [] f e = absurd cc
first_bytes (a ∷ []) f e = absurd cc
first_bytes (a ∷ b ∷ c ∷ ws) f e = absurd cc

second_bytes : (ws : List (List ℕ)) (f : LineFields) → second_fields ws ≡ Some f → IsBytes f.octets
second_bytes (role ∷ from ∷ until ∷ digits ∷ []) f e =
    are_bytes digits (role_of role) (moment_in from) (moment_in until) f e
second_bytes [] f e = absurd cc
second_bytes (a ∷ []) f e = absurd cc
second_bytes (a ∷ b ∷ []) f e = absurd cc
second_bytes (a ∷ b ∷ c ∷ []) f e = absurd cc
second_bytes (a ∷ b ∷ c ∷ d ∷ g ∷ ws) f e = absurd cc

line_bytes : (version : Version) (line : List ℕ) (f : LineFields) → fields_of version line ≡ Some f → IsBytes f.octets
line_bytes First line f e = first_bytes (words_of line) f e
line_bytes Second line f e = second_bytes (words_of line) f e

good_entry : (version : Version) (line : List ℕ) (e : EntryValue) → SaysEntry version line e → GoodEntry e
good_entry version line e s = record {
  forwards = subst (λ (x : EntryValue). is_backwards x.from x.until ≡ false) (sym s.is) s.forwards;
  encodes = (refl, s.encodes.1);
  octets = subst IsBytes s.encodes.0 (line_bytes version line s.fields s.says);
}

-- a good entry in front of good ones
good_first : (e : EntryValue) → GoodEntry e → (others : Answer) → ((ds : List EntryValue) → others ≡ Ok ds → AreGood ds)
    → (es : List EntryValue)
    → behind (e ∷ []) others ≡ Ok es → AreGood es
good_first e good (Ok ds) goods es k = subst AreGood (let same : e ∷ ds ≡ es = cc in same) (good, goods ds refl)
good_first e good (Err f) goods es k = absurd cc

good_lines : (version : Version) (ls : List NumberedLine) (answer : Answer) (es : List EntryValue)
    → IsOfLines version ls answer → answer ≡ Ok es → AreGood es
good_lines version [] answer es h e =
    subst AreGood (let k : Ok [] ≡ Ok es = sym h ∙ e in let same : [] ≡ es = cc in same) tt
good_lines version (l ∷ ls) answer es (inr h) e = absurd (let k : Err _ ≡ Ok es = sym h.2 ∙ e in cc)
good_lines version (l ∷ ls) answer es (inl h) e = good_first h.0 (good_entry version l.octets h.0 h.1) h.2.0
    (λ ds k. good_lines version ls h.2.0 ds h.2.1 k) es (sym h.2.2 ∙ e)

good_under : (first second : Option (List NumberedLine)) (es : List EntryValue) → IsUnder first second (Ok es)
    → AreGood es
good_under (Some ls) second es h = good_lines First ls (Ok es) es h refl
good_under None (Some ls) es h = good_lines Second ls (Ok es) es h refl
good_under None None es h = absurd cc

pub said_is_good : SaidIsGood
said_is_good text es h = good_under _ _ es h

-- ---- entries are written as one text

one_word : (m : Option ℕ) (a b : List ℕ) → IsMomentWord m a → IsMomentWord m b → a ≡ b
unfolding IsMomentWord
one_word None a b p q = p ∙ sym q
one_word (Some m) a b p q = texts_are_unique a b p.0 q.0 (p.1 ∙ sym q.1)

one_line : (e : EntryValue) (a b : List ℕ) → IsEntryLine e a → IsEntryLine e b → a ≡ b
one_line e a b p q =
    let f = one_word e.from p.from q.from p.from_word q.from_word in
    let u = one_word e.until p.until q.until p.until_word q.until_word in
    p.is ∙ (λ i. four_words (role_word e.role) (f i) (u i) (encoding e.certificate)) ∙ sym q.is

one_text : (es : List EntryValue) (a b : List ℕ) → AreEntryLines es a → AreEntryLines es b → a ≡ b
one_text [] a b p q = p ∙ sym q
one_text (e ∷ es) a b p q =
    let l = one_line e p.0 q.0 p.1 q.1 in
    let o = one_text es p.2.0 q.2.0 p.2.1 q.2.1 in
    p.2.2 ∙ (λ i. l i ++ o i) ∙ sym q.2.2

pub written_once : WrittenOnce
written_once es a b p q =
    p.2 ∙ ap (λ (ls : List ℕ). (codes "cmsproof trust 2" ++ 10 ∷ []) ++ ls) (one_text es p.0 q.0 p.1 q.1) ∙ sym q.2

pub written_again : WrittenAgain
written_again first text again es ds said written read rewritten =
    let back = written_is_said es text (said_is_good first es said) written in
    let same : ds ≡ es = let k : Ok ds ≡ Ok es = one_answer text (Ok ds) (Ok es) read back in cc in
    written_once es again text (subst (λ (x : List EntryValue). IsWrittenAs x again) same rewritten) written

-- ---- what was put is read back

pub put_is_said : (entries : List EntryValue) (r : Result (Unit {0}) SinkFault) (tells : Type 0) (taken taken' : List ℕ)
    (count count' : ℕ)
    → Puts entries r tells taken taken' count count' → AreGood entries → OnOk r (tells → AddsText entries taken taken')
put_is_said entries (Err f) tells taken taken' count count' p good = tt
put_is_said entries (Ok u) tells taken taken' count count' p good = λ t.
    let whole : p.first ≡ entries =
    sym (p.parts ∙ ap (λ (es : List EntryValue). p.first ++ es) p.all ∙ append-nil p.first) in
    let text = (codes "cmsproof trust 2" ++ 10 ∷ []) ++ p.lines in
    let written : IsWrittenAs entries text =
    (p.lines, subst (λ (es : List EntryValue). AreEntryLines es p.lines) whole p.are, refl) in
    (text, written, written_is_said entries text good written, p.wrote.0 t)
