-- What bytes that are no message begin like.
use Rattle.std.specs.Prelude.{ℕ, ◌+◌, ◌&&◌, ◌||◌, Bool, List, [], codes, nat_eq, leb, if◌then◌else◌}
use Rattle.std.specs.List.{slice_index, starts_with}
use Rattle.sy_wire.specs.Characters.{greater, less, space}
use Rattle.sy_unread.specs.declared.hint.Hint.{Hint}
use Rattle.sy_unread.specs.declared.hint.Hint.TheVariants.{Http, LineFeeds, Rfc3164, Tls, Unknown}

-- `0` to `9`
abbrev pub is_digit : ℕ → Bool
is_digit b = leb 48 b && leb b 57

-- how many bytes `<`, one to three digits and `>` are at the front, or 0 (RFC 3164, section 4.1.1, and RFC 5424, section 6.2.1)
abbrev pub pri_length : List ℕ → ℕ
pri_length bytes =
    if nat_eq (slice_index bytes 0) less && is_digit (slice_index bytes 1) then
    (if nat_eq (slice_index bytes 2) greater then 3
    else if is_digit (slice_index bytes 2) && nat_eq (slice_index bytes 3) greater then 4
    else if is_digit (slice_index bytes 2) && (is_digit (slice_index bytes 3) && nat_eq (slice_index bytes 4) greater) then 5
    else 0)
    else 0

-- the front of a handshake record of TLS (RFC 8446, section 5.1): its type and the major version
abbrev pub is_hello : List ℕ → Bool
is_hello bytes = nat_eq (slice_index bytes 0) 22 && nat_eq (slice_index bytes 1) 3

abbrev pub begins : List ℕ → List ℕ → Bool
begins bytes word = starts_with nat_eq bytes word

-- a method of HTTP and a space (RFC 9110, section 9.3)
abbrev pub is_request : List ℕ → Bool
is_request bytes =
    begins bytes (codes "GET ") || (begins bytes (codes "POST ") || (begins bytes (codes "PUT ") || (begins bytes (codes "HEAD ")
    || (begins bytes (codes "OPTIONS ") || (begins bytes (codes "CONNECT ") || (begins bytes (codes "DELETE ") || begins bytes (codes "TRACE ")))))))

-- After a priority of so many bytes: a digit and a space are a version (RFC 5424), and so a message without its length where
-- that is 1. Any other head is that of RFC 3164, which begins with the month.
abbrev pub head_hint : List ℕ → ℕ → Hint
head_hint bytes at =
    if nat_eq at 0 then Unknown
    else if is_digit (slice_index bytes at) && nat_eq (slice_index bytes (at + 1)) space then
    (if nat_eq (slice_index bytes at) 49 then LineFeeds else Unknown)
    else Rfc3164

-- what the bytes begin like
abbrev pub hint_of : List ℕ → Hint
hint_of bytes = if is_hello bytes then Tls else if is_request bytes then Http else head_hint bytes (pri_length bytes)

-- in a line
abbrev pub hint_words : Hint → List ℕ
hint_words Rfc3164 = codes "begins like RFC 3164"
hint_words Tls = codes "begins like a TLS hello"
hint_words Http = codes "begins like HTTP"
hint_words LineFeeds = codes "begins like messages framed by line feeds"
hint_words Unknown = []
