-- What is written of a frame is read again.
use Rattle.std.proofs.Common.{◌≡◌, ℕ, ◌<◌, ◌^◌, inl, inr, Bool, true, false, List, [], ◌∷◌, ◌++◌, length, refl, sym, ap, subst, ◌∙◌, arith, append_assoc, append-nil}
use Rattle.std.specs.Prelude.{Option, Some, None, IfSome, IsUtf8, codes, string_bytes, nat_eq, leb, if◌then◌else◌}
use Rattle.std.specs.Str.Lossy.{utf8_lossy}
use Rattle.std.specs.Fmt.{decimal}
use Rattle.std.specs.List.{AllByRecursion, concat}
use Rattle.std.proofs.lemmas.Bool.{lt-ltb}
use Rattle.std.proofs.lemmas.Option.{none-some, same_Some}
use Rattle.std.proofs.lemmas.Str.{utf8_lossy-IsUtf8}
use Rattle.sy_wire.specs.Characters.{IsPrintUsAscii}
use Rattle.sy_wire.specs.StructuredData.{IsParamValue, backslash, empty, escaped, ordinary}
use Rattle.sy_wire.specs.Messages.{IsHostname}
use Rattle.sy_wire.proofs.Numerals.{reads}
use Rattle.sy_unread.specs.Records as records
use Rattle.sy_unread.specs.Records.{head, hostname_of, length_text, value_of}
use Rattle.sy_unread.specs.Reading.{IsNoRecord, IsWellTyped, Says, share_text}
use Rattle.sy_unread.specs.internal.Fields.{◌>>=◌, GivenFields, GivenTexts, IsAlike, IsFoundOf, IsNoRecordOf, after, fields_at, length_at, length_of, number_at, param_at, port_at, share_at, texts_at, unescaped_at, value_at}
use Rattle.sy_unread.specs.Words.{IsWord, word_at}
use Rattle.sy_unread.specs.declared.record.About.{About}
use Rattle.sy_unread.specs.declared.reading.Found.{Found}
use Rattle.sy_unread.specs.declared.reading.Share.{Share}
use Rattle.sy_unread.specs.declared.reading.Share.TheVariants.{First, Second, Whole}
use Rattle.sy_unread.proofs.FieldTexts.{after_again, is_not}
use Rattle.sy_unread.proofs.Values.{decimal_value, hostname_is, is_escaped, none_of, value_is}

some_bind : {A B : Type 0} (o : Option A) (f : A → Option B) (x : A) → o ≡ Some x → (o >>= f) ≡ f x
some_bind o f x e = ap (λ o. o >>= f) e

-- ---- words and values

pub word_again : (text rest : List ℕ) → IsWord text → word_at (text ++ 32 ∷ rest) ≡ Some (text, rest)
unfolding word_at
word_again [] rest all = refl
word_again (b ∷ text) rest all = rw (is_not b 32 all.0, word_again text rest all.1) refl

no_space : (text : List ℕ) → AllByRecursion IsPrintUsAscii text → IsWord text
no_space [] all = tt
no_space (b ∷ text) all = (λ e. omega (arith, e, all.0.0), no_space text all.1)

host_by : (text : List ℕ) → IsHostname text → IsWord text
host_by text (inl dash) = subst IsWord (sym dash) (λ e. omega (arith, e), tt)
host_by text (inr run) = no_space text run.each

value_again : (text rest : List ℕ) → IsParamValue text → value_at false (text ++ 34 ∷ rest) ≡ Some (text, rest)
unfolding value_at
value_again _ rest empty = refl
value_again _ rest (ordinary {b} {text} plain v) = rw (is_not b 34 (λ e. plain (inl e)), is_not b 92 (λ e. plain (inr (inl e))), value_again text rest v) refl
value_again _ rest (escaped {b} {text} is v) = rw (value_again text rest v) refl
value_again _ rest (backslash {b} {text} plain v) = rw (value_again text rest v) refl

param_again : (name text rest : List ℕ) → IsParamValue text → param_at name (name ++ (text ++ 34 ∷ rest)) ≡ Some (text, rest)
unfolding param_at
param_again name text rest v = some_bind _ _ _ (after_again name (text ++ 34 ∷ rest)) ∙ value_again text rest v

-- ---- escapes

unescaped_by : (t : Bool) (b : ℕ) (rest text : List ℕ) → is_escaped b ≡ t → unescaped_at false rest ≡ text
    → unescaped_at false ((if t then (92 ∷ b ∷ []) else (b ∷ [])) ++ rest) ≡ b ∷ text
unfolding unescaped_at
unescaped_by true b rest text e below = ap (λ x. b ∷ x) below
unescaped_by false b rest text e below = rw ((none_of (nat_eq b 34) (nat_eq b 92) (nat_eq b 93) e).1.0) (ap (λ x. b ∷ x) below)

unescaped_again : (text : List ℕ) → unescaped_at false (records.escaped text) ≡ text
unfolding unescaped_at
unescaped_again [] = refl
unescaped_again (b ∷ text) = unescaped_by _ b _ text refl (unescaped_again text)

dash_utf8 : IsUtf8 (45 ∷ [])
unfolding lib.Utf8.encode
dash_utf8 = (45 ∷ [], (refl, refl))

-- what a value is read as
abbrev read_by : Bool → List ℕ → List ℕ
read_by short text = if short then text else 45 ∷ []

value_by : (short : Bool) (text : List ℕ) → leb (length text) 255 ≡ short → IsUtf8 text
    → (utf8_lossy (unescaped_at false (if short then records.escaped text else records.nil_value)) ≡ read_by short text) × (value_of (read_by short text) ≡ (if short then records.escaped text else records.nil_value))
unfolding unescaped_at
value_by true text e is = (ap utf8_lossy (unescaped_again text) ∙ utf8_lossy-IsUtf8 text is, rw e refl)
value_by false text e is = (utf8_lossy-IsUtf8 (45 ∷ []) dash_utf8, refl)

-- a value that was read is written alike
pub value_alike : (text read : List ℕ) → IsUtf8 text → read ≡ utf8_lossy (unescaped_at false (value_of text)) → value_of text ≡ value_of read
value_alike text read is same =
    let both = value_by (leb (length text) 255) text refl is in
    sym (ap value_of (same ∙ both.0) ∙ both.1)

host_again : (is : Bool) (name : List ℕ) → records.is_hostname name ≡ is → hostname_of (if is then name else records.nil_value) ≡ (if is then name else records.nil_value)
host_again true name e = rw e refl
host_again false name e = refl

pub host_alike : (name read : List ℕ) → read ≡ hostname_of name → hostname_of name ≡ hostname_of read
host_alike name read same = sym (ap hostname_of same ∙ host_again (records.is_hostname name) name refl)

-- ---- numbers

number_again : (n : ℕ) → n < 2 ^ 64 → number_at (decimal n) ≡ Some n
number_again n fits = reads (decimal n) 18446744073709551615 n (omega arith) (omega arith) refl

port_again : (n : ℕ) → n < 2 ^ 16 → port_at (decimal n) ≡ Some n
unfolding port_at
port_again n fits = some_bind _ _ _ (number_again n (omega arith)) ∙ rw (lt-ltb n 65536 (omega arith)) refl

length_again : (given : Option ℕ) (share : Share) (rest : List ℕ) → IfSome given (λ n. n < 2 ^ 64)
    → length_at (length_text given ++ (share_text share ++ (codes "] " ++ rest))) ≡ Some (given, share_text share ++ (codes "] " ++ rest))
unfolding length_at param_at after
length_again None First rest fits = refl
length_again None Second rest fits = refl
length_again None Whole rest fits = refl
length_again (Some n) share rest fits =
    let tail = share_text share ++ (codes "] " ++ rest) in
    ap length_at (append_assoc (codes " length=\"") (concat (decimal n ∷ codes "\"" ∷ [])) tail ∙ ap (λ x. codes " length=\"" ++ x) (append_assoc (decimal n) (codes "\"") tail))
    ∙ ap (length_of (codes " length=\"" ++ (decimal n ++ 34 ∷ tail))) (param_again (codes " length=\"") (decimal n) tail (decimal_value n fits))
    ∙ some_bind _ _ _ (number_again n fits)

share_again : (share : Share) (rest : List ℕ) → share_at (share_text share ++ (codes "] " ++ rest)) ≡ share
unfolding share_at after
share_again First rest = refl
share_again Second rest = refl
share_again Whole rest = refl

-- ---- fields

abbrev texts_of : About → List ℕ → List ℕ → GivenTexts
texts_of about part rest = record {
  relay = hostname_of about.relay.now;
  input = decimal about.input;
  peer = value_of about.peer.now;
  frame = decimal about.frame;
  fault = value_of about.fault.now;
  at = decimal about.at;
  rest = length_text about.length ++ (part ++ (codes "] " ++ rest));
}

joined : (p0 a p1 b p2 c p3 d p4 e p5 f p6 g h p7 rest : List ℕ)
    → concat (p0 ∷ a ∷ p1 ∷ b ∷ p2 ∷ c ∷ p3 ∷ d ∷ p4 ∷ e ∷ p5 ∷ f ∷ p6 ∷ g ∷ h ∷ p7 ∷ []) ++ rest
    ≡ p0 ++ (a ++ (p1 ++ (b ++ (p2 ++ (c ++ (p3 ++ (d ++ (p4 ++ (e ++ (p5 ++ (f ++ (p6 ++ (g ++ (h ++ (p7 ++ rest)))))))))))))))
joined p0 a p1 b p2 c p3 d p4 e p5 f p6 g h p7 rest = simp (append_assoc, append-nil)

texts_from : (a b c d e f rest : List ℕ) → IsWord a → IsParamValue b → IsParamValue c → IsParamValue d → IsParamValue e → IsParamValue f
    → texts_at (codes "<44>1 - " ++ (a ++ 32 ∷ (codes "syc - - [unread@32473 input=\"" ++ (b ++ 34 ∷ (codes " peer=\"" ++ (c ++ 34 ∷ (codes " frame=\"" ++ (d ++ 34
    ∷ (codes " fault=\"" ++ (e ++ 34 ∷ (codes " at=\"" ++ (f ++ 34 ∷ rest))))))))))))
    ≡ Some (record { relay = a; input = b; peer = c; frame = d; fault = e; at = f; rest = rest })
unfolding texts_at
texts_from a b c d e f rest is_a is_b is_c is_d is_e is_f =
    some_bind _ _ _ (after_again (codes "<44>1 - ") _) ∙ some_bind _ _ _ (word_again a _ is_a)
    ∙ some_bind _ _ _ (param_again (codes "syc - - [unread@32473 input=\"") b _ is_b) ∙ some_bind _ _ _ (param_again (codes " peer=\"") c _ is_c)
    ∙ some_bind _ _ _ (param_again (codes " frame=\"") d _ is_d) ∙ some_bind _ _ _ (param_again (codes " fault=\"") e _ is_e)
    ∙ some_bind _ _ _ (param_again (codes " at=\"") f _ is_f)

texts_again : (about : About) (part rest : List ℕ) → IsWellTyped about → texts_at (head about part ++ rest) ≡ Some (texts_of about part rest)
texts_again about part rest typed =
    ap texts_at (joined (codes "<44>1 - ") (hostname_of about.relay.now) (codes " syc - - [unread@32473 input=\"") (decimal about.input)
    (codes "\" peer=\"") (value_of about.peer.now) (codes "\" frame=\"") (decimal about.frame) (codes "\" fault=\"") (value_of about.fault.now)
    (codes "\" at=\"") (decimal about.at) (codes "\"") (length_text about.length) part (codes "] ") rest)
    ∙ texts_from (hostname_of about.relay.now) (decimal about.input) (value_of about.peer.now) (decimal about.frame) (value_of about.fault.now) (decimal about.at)
    (length_text about.length ++ (part ++ (codes "] " ++ rest)))
    (host_by _ (hostname_is about.relay.now)) (decimal_value about.input (omega (arith, typed.input))) (value_is about.peer.now) (decimal_value about.frame typed.frame)
    (value_is about.fault.now) (decimal_value about.at typed.at)

abbrev pub fields_of : About → Share → GivenFields
fields_of about share = record {
  relay = hostname_of about.relay.now;
  input = about.input;
  peer = value_of about.peer.now;
  frame = about.frame;
  fault = value_of about.fault.now;
  at = about.at;
  length = about.length;
  share = share;
}

pub fields_again : (about : About) (share : Share) (rest : List ℕ) → IsWellTyped about → fields_at (head about (share_text share) ++ rest) ≡ Some (fields_of about share)
unfolding fields_at
fields_again about share rest typed =
    some_bind _ _ _ (texts_again about (share_text share) rest typed) ∙ some_bind _ _ _ (length_again about.length share rest typed.length)
    ∙ some_bind _ _ _ (port_again about.input typed.input) ∙ some_bind _ _ _ (number_again about.frame typed.frame)
    ∙ some_bind _ _ _ (number_again about.at typed.at) ∙ ap (λ (s : Share). Some (record (fields_of about share) { share = s })) (share_again share rest)

-- ---- records

found_alike : (found : Found) (about : About) (share : Share) → IsWellTyped about → IsFoundOf (fields_of about share) found → IsAlike found about
found_alike found about share typed is = record {
  relay = host_alike about.relay.now found.relay.items is.relay;
  input = sym is.input;
  peer = value_alike about.peer.now (string_bytes found.peer) typed.peer is.peer;
  frame = sym is.frame;
  fault = value_alike about.fault.now (string_bytes found.fault) typed.fault is.fault;
  at = sym is.at;
  length = sym is.length;
}

pub no_record : (raw : List ℕ) (fields : GivenFields) (found : Found) → fields_at raw ≡ Some fields → IsFoundOf fields found
    → IsNoRecordOf found raw → IsNoRecord raw
no_record raw fields found given is never about share rest typed begins =
    let same : fields ≡ fields_of about share = same_Some fields (fields_of about share) (sym given ∙ ap fields_at begins ∙ fields_again about share rest typed) in
    let alike : IsFoundOf (fields_of about share) found = subst (λ (f : GivenFields). IsFoundOf f found) same is in
    never about rest (found_alike found about share typed alike) (begins ∙ ap (λ (s : Share). head about (share_text s) ++ rest) (sym alike.share))

pub no_fields : (raw : List ℕ) → fields_at raw ≡ None → IsNoRecord raw
no_fields raw nothing about share rest typed begins =
    none-some (fields_of about share) (sym nothing ∙ ap fields_at begins ∙ fields_again about share rest typed)

pub head_alike : (found : Found) (a b : About) (part : List ℕ) → Says found a → IsAlike found b → head b part ≡ head a part
head_alike found a b part says alike =
    let relay : hostname_of b.relay.now ≡ hostname_of a.relay.now = alike.relay ∙ sym (ap hostname_of says.relay) in
    let input : b.input ≡ a.input = alike.input ∙ sym says.input in
    let peer : value_of b.peer.now ≡ value_of a.peer.now = alike.peer ∙ sym (ap value_of says.peer) in
    let frame : b.frame ≡ a.frame = alike.frame ∙ sym says.frame in
    let fault : value_of b.fault.now ≡ value_of a.fault.now = alike.fault ∙ sym (ap value_of says.fault) in
    let at : b.at ≡ a.at = alike.at ∙ sym says.at in
    let length : b.length ≡ a.length = alike.length ∙ sym says.length in
    rw (relay, input, peer, frame, fault, at, length) refl
