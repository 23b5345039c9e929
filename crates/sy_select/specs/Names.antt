-- The names of facilities and severities in a selector (rsyslog manual, "Filter Conditions", selectors), and their numbers (RFC 5424,
-- section 6.2.1). The facilities 12 to 15 have no name in this profile.
use Rattle.std.specs.Prelude.{ℕ, if◌then◌else◌, ◌==◌, List, [], ◌∷◌, Option, Some, None, codes, decimal}
use Rattle.std.specs.Str.{str_eq_ignore_ascii_case}

-- names, each with its number
abbrev pub Table : Type 0
Table = List (List ℕ × ℕ)

abbrev pub facilities : Table
facilities =
    (codes "kern", 0) ∷ (codes "user", 1) ∷ (codes "mail", 2) ∷ (codes "daemon", 3) ∷ (codes "auth", 4) ∷ (codes "security", 4)
    ∷ (codes "syslog", 5) ∷ (codes "lpr", 6) ∷ (codes "news", 7) ∷ (codes "uucp", 8) ∷ (codes "cron", 9) ∷ (codes "authpriv", 10)
    ∷ (codes "ftp", 11) ∷ (codes "local0", 16) ∷ (codes "local1", 17) ∷ (codes "local2", 18) ∷ (codes "local3", 19)
    ∷ (codes "local4", 20) ∷ (codes "local5", 21) ∷ (codes "local6", 22) ∷ (codes "local7", 23) ∷ []

abbrev pub severities : Table
severities =
    (codes "emerg", 0) ∷ (codes "panic", 0) ∷ (codes "alert", 1) ∷ (codes "crit", 2) ∷ (codes "err", 3) ∷ (codes "error", 3)
    ∷ (codes "warning", 4) ∷ (codes "warn", 4) ∷ (codes "notice", 5) ∷ (codes "info", 6) ∷ (codes "debug", 7) ∷ []

-- the number of a name, without regard to the case of its ASCII letters
abbrev pub number_of : Table → List ℕ → Option ℕ
number_of [] text = None
number_of (row ∷ rows) text = if str_eq_ignore_ascii_case row.0 text then Some row.1 else number_of rows text

unfoldable pub facility_of : List ℕ → Option ℕ
facility_of = number_of facilities

unfoldable pub severity_of : List ℕ → Option ℕ
severity_of = number_of severities

-- the first name of a number, or the number in decimal where it has none
abbrev pub name_of : Table → ℕ → List ℕ
name_of [] n = decimal n
name_of (row ∷ rows) n = if row.1 == n then row.0 else name_of rows n

-- the texts of a facility and of a severity
unfoldable pub facility_text : ℕ → List ℕ
facility_text = name_of facilities

unfoldable pub severity_text : ℕ → List ℕ
severity_text = name_of severities
