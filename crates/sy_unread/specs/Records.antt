-- Records of frames that carry no message: octet-counted frames of messages of RFC 5424 (this profile's own).
use Rattle.std.specs.Prelude.{ℕ, ◌+◌, ◌&&◌, ◌||◌, Bool, List, [], ◌∷◌, ◌++◌, Option, None, Some, codes, length, take, drop, nat_eq, leb, if◌then◌else◌}
use Rattle.std.specs.List.{concat, flat_map, list_all}
use Rattle.std.specs.Fmt.{decimal}
use Rattle.sy_wire.specs.Characters.{closing_bracket, dash, escape, quote}
use Rattle.sy_wire.specs.Frames.{MAX_FRAME}
use Rattle.sy_unread.specs.declared.record.About.{About}

-- ---- values

-- A double quote, a backslash and a closing bracket have a backslash before them (RFC 5424, section 6.3.3).
abbrev pub escaped_byte : ℕ → List ℕ
escaped_byte b = if nat_eq b quote || (nat_eq b escape || nat_eq b closing_bracket) then escape ∷ b ∷ [] else b ∷ []

abbrev pub escaped : List ℕ → List ℕ
escaped text = flat_map escaped_byte text

-- one dash
abbrev pub nil_value : List ℕ
nil_value = dash ∷ []

-- a text of at most 255 bytes, escaped, or a dash for a longer one
abbrev pub value_of : List ℕ → List ℕ
value_of text = if leb (length text) 255 then escaped text else nil_value

-- PRINTUSASCII = %d33-126
abbrev pub is_print_us_ascii : ℕ → Bool
is_print_us_ascii b = leb 33 b && leb b 126

-- 1*255PRINTUSASCII (section 6.2.4)
abbrev pub is_hostname : List ℕ → Bool
is_hostname text = leb 1 (length text) && (leb (length text) 255 && list_all is_print_us_ascii text)

-- a name that is a HOSTNAME, or NILVALUE
abbrev pub hostname_of : List ℕ → List ℕ
hostname_of name = if is_hostname name then name else nil_value

-- ---- a record

-- of a frame whose bytes are not all kept, the length that it gave
abbrev pub length_text : Option ℕ → List ℕ
length_text None = []
length_text (Some n) = concat (codes " length=\"" ∷ decimal n ∷ codes "\"" ∷ [])

-- What stands before the frame's bytes: facility 5 (syslog), severity 4 (warning), APP-NAME `syc`, and an element whose
-- SD-ID has the number that is kept for documentation (RFC 5612). The second argument is the last parameter.
abbrev pub head : About → List ℕ → List ℕ
head about part =
    concat (codes "<44>1 - " ∷ hostname_of about.relay.now ∷ codes " syc - - [unread@32473 input=\"" ∷ decimal about.input
    ∷ codes "\" peer=\"" ∷ value_of about.peer.now ∷ codes "\" frame=\"" ∷ decimal about.frame ∷ codes "\" fault=\"" ∷ value_of about.fault.now
    ∷ codes "\" at=\"" ∷ decimal about.at ∷ codes "\"" ∷ length_text about.length ∷ part ∷ codes "] " ∷ [])

-- where bytes are cut that have no room in one record
abbrev pub HALF : ℕ
HALF = 32768

-- The message of bytes, or of their two parts where it has more than 65,536.
abbrev pub records_of : About → List ℕ → List (List ℕ)
records_of about bytes =
    if leb (length (head about []) + length bytes) MAX_FRAME then (head about [] ++ bytes) ∷ []
    else (head about (codes " part=\"1/2\"") ++ take HALF bytes) ∷ (head about (codes " part=\"2/2\"") ++ drop HALF bytes) ∷ []

-- of a frame's bytes, at most 65,536 of which are kept
abbrev pub records : About → List ℕ → List (List ℕ)
records about bytes = records_of about (take MAX_FRAME bytes)
