-- The fields of a record, read from left to right.
use Rattle.std.specs.Prelude.{◌≡◌, ◌≢◌, ℕ, Bool, false, not, ◌&&◌, List, [], ◌∷◌, ◌++◌, Option, Some, None, codes, nat_eq, nat_lt, is_some, string_bytes, if◌then◌else◌}
use Rattle.std.specs.Str.Lossy.{utf8_lossy}
use Rattle.sy_wire.specs.Numbers.{number_up_to}
use Rattle.sy_unread.specs.Words.{with_byte, word_at}
use Rattle.sy_unread.specs.Reading.{share_text}
use Rattle.sy_unread.specs.declared.fields.Fields.{Fields}
use Rattle.sy_unread.specs.declared.fields.Texts.{Texts}
use Rattle.sy_unread.specs.Records.{head, hostname_of, value_of}
use Rattle.sy_unread.specs.declared.reading.Found.{Found}
use Rattle.sy_unread.specs.declared.reading.Share.{Share}
use Rattle.sy_unread.specs.declared.reading.Share.TheVariants.{First, Second, Whole}
use Rattle.sy_unread.specs.declared.record.About.{About}

infixl 10 ◌>>=◌
abbrev pub ◌>>=◌ : {A B : Type 0} → Option A → (A → Option B) → Option B
None >>= f = None
(Some x) >>= f = f x

-- What a function returned, seen by view, is what reading gives.
abbrev pub Gives : {X Y : Type 0} → (X → Y) → Option X → Option Y → Type 0
Gives view None read = read ≡ None
Gives view (Some x) read = read ≡ Some (view x)

-- the bytes behind a front
unfoldable pub after : List ℕ → List ℕ → Option (List ℕ)
after [] bytes = Some bytes
after (b ∷ front) [] = None
after (b ∷ front) (c ∷ bytes) = if nat_eq c b then after front bytes else None

-- whether a byte is this one, and no backslash escapes it
abbrev pub is_bare : Bool → ℕ → ℕ → Bool
is_bare is_escaped b this = not is_escaped && nat_eq b this

-- A value, escaped, and the bytes behind the double quote that ends it. A backslash may be before it.
unfoldable pub value_at : Bool → List ℕ → Option (List ℕ × List ℕ)
value_at is_escaped [] = None
value_at is_escaped (b ∷ bytes) =
    if is_bare is_escaped b 34 then Some ([], bytes) else with_byte b (value_at (is_bare is_escaped b 92) bytes)

-- the value of the parameter with this name
unfoldable pub param_at : List ℕ → List ℕ → Option (List ℕ × List ℕ)
param_at name bytes = do
  behind ← after name bytes
  value_at false behind

abbrev pub number_at : List ℕ → Option ℕ
number_at digits = number_up_to 18446744073709551615 digits

unfoldable pub port_at : List ℕ → Option ℕ
port_at digits = do
  number ← number_at digits
  if nat_lt number 65536 then Some number else None

-- the length that a parameter gives
abbrev pub length_of : List ℕ → Option (List ℕ × List ℕ) → Option (Option ℕ × List ℕ)
length_of bytes None = Some (None, bytes)
length_of bytes (Some param) = number_at param.0 >>= λ number. Some (Some number, param.1)

unfoldable pub length_at : List ℕ → Option (Option ℕ × List ℕ)
length_at bytes = length_of bytes (param_at (codes " length=\"") bytes)

unfoldable pub share_at : List ℕ → Share
share_at bytes =
    if is_some (after (codes " part=\"1/2\"] ") bytes) then First
    else if is_some (after (codes " part=\"2/2\"] ") bytes) then Second else Whole

-- the texts of the fields, and the bytes behind them
pub record GivenTexts : Type 0 where
  pub relay : List ℕ
  pub input : List ℕ
  pub peer : List ℕ
  pub frame : List ℕ
  pub fault : List ℕ
  pub at : List ℕ
  pub rest : List ℕ

abbrev pub given_texts : Texts → GivenTexts
given_texts texts = record {
  relay = texts.relay.now;
  input = texts.input.now;
  peer = texts.peer.now;
  frame = texts.frame.now;
  fault = texts.fault.now;
  at = texts.at.now;
  rest = texts.rest.now;
}

unfoldable pub texts_at : List ℕ → Option GivenTexts
texts_at raw = do
  behind ← after (codes "<44>1 - ") raw
  relay ← word_at behind
  input ← param_at (codes "syc - - [unread@32473 input=\"") relay.1
  peer ← param_at (codes " peer=\"") input.1
  frame ← param_at (codes " frame=\"") peer.1
  fault ← param_at (codes " fault=\"") frame.1
  at ← param_at (codes " at=\"") fault.1
  Some (record { relay = relay.0; input = input.0; peer = peer.0; frame = frame.0; fault = fault.0; at = at.0; rest = at.1 })

-- the fields
pub record GivenFields : Type 0 where
  pub relay : List ℕ
  pub input : ℕ
  pub peer : List ℕ
  pub frame : ℕ
  pub fault : List ℕ
  pub at : ℕ
  pub length : Option ℕ
  pub share : Share

abbrev pub given_fields : Fields → GivenFields
given_fields fields = record {
  relay = fields.relay.now;
  input = fields.input;
  peer = fields.peer.now;
  frame = fields.frame;
  fault = fields.fault.now;
  at = fields.at;
  length = fields.length;
  share = fields.share;
}

unfoldable pub fields_at : List ℕ → Option GivenFields
fields_at raw = do
  texts ← texts_at raw
  length ← length_at texts.rest
  input ← port_at texts.input
  frame ← number_at texts.frame
  at ← number_at texts.at
  Some (record { relay = texts.relay; input = input; peer = texts.peer; frame = frame; fault = texts.fault; at = at; length = length.0; share = share_at length.1 })

-- a byte that is no escape
abbrev pub bare_byte : Bool → ℕ → List ℕ
bare_byte is_escape b = if is_escape then [] else b ∷ []

-- A value without its escapes. A backslash may be before it.
unfoldable pub unescaped_at : Bool → List ℕ → List ℕ
unescaped_at is_escaped [] = []
unescaped_at is_escaped (b ∷ bytes) = bare_byte (is_bare is_escaped b 92) b ++ unescaped_at (is_bare is_escaped b 92) bytes

-- a record of these fields that was read
pub record IsFoundOf (fields : GivenFields) (found : Found) : Type 0 where
  pub relay : found.relay.items ≡ fields.relay
  pub input : found.input ≡ fields.input
  pub peer : string_bytes found.peer ≡ utf8_lossy (unescaped_at false fields.peer)
  pub frame : found.frame ≡ fields.frame
  pub fault : string_bytes found.fault ≡ utf8_lossy (unescaped_at false fields.fault)
  pub at : found.at ≡ fields.at
  pub length : found.length ≡ fields.length
  pub share : found.share ≡ fields.share

-- what is written alike in a record
pub record IsAlike (found : Found) (about : About) : Type 0 where
  pub relay : hostname_of about.relay.now ≡ hostname_of found.relay.items
  pub input : about.input ≡ found.input
  pub peer : value_of about.peer.now ≡ value_of (string_bytes found.peer)
  pub frame : about.frame ≡ found.frame
  pub fault : value_of about.fault.now ≡ value_of (string_bytes found.fault)
  pub at : about.at ≡ found.at
  pub length : about.length ≡ found.length

-- Whatever is written alike, the message doesn't begin as the record of that.
abbrev pub IsNoRecordOf : Found → List ℕ → Type 0
IsNoRecordOf found raw = (about : About) (rest : List ℕ) → IsAlike found about → raw ≢ head about (share_text found.share) ++ rest
