-- The modules of rsyslogd 8.2302: the flow class that the source of each input name gives its messages, and what outputs keep.
use Rattle.std.specs.Prelude.{ℕ, Bool, false, ◌||◌, ◌&&◌, ◌==◌, List, [], ◌∷◌, codes, if◌then◌else◌}
use Rattle.std.specs.Str.{str_eq_ignore_ascii_case}
use Rattle.sy_fleet.specs.declared.modules.Flow.{Flow}
use Rattle.sy_fleet.specs.declared.modules.Flow.TheVariants as flow
use Rattle.sy_fleet.specs.declared.modules.Output.{Output}
use Rattle.sy_fleet.specs.declared.modules.Output.TheVariants as output

-- eFLOWCTL_FULL_DELAY
abbrev pub is_full : List ℕ → Bool
is_full name =
    str_eq_ignore_ascii_case (codes "imfile") name || str_eq_ignore_ascii_case (codes "improg") name
    || str_eq_ignore_ascii_case (codes "im3195") name || str_eq_ignore_ascii_case (codes "imbatchreport") name

-- eFLOWCTL_LIGHT_DELAY
abbrev pub is_light : List ℕ → Bool
is_light name =
    str_eq_ignore_ascii_case (codes "imtcp") name || str_eq_ignore_ascii_case (codes "imptcp") name
    || str_eq_ignore_ascii_case (codes "imrelp") name || str_eq_ignore_ascii_case (codes "imjournal") name
    || str_eq_ignore_ascii_case (codes "imklog") name || str_eq_ignore_ascii_case (codes "imkmsg") name
    || str_eq_ignore_ascii_case (codes "imkafka") name || str_eq_ignore_ascii_case (codes "imdocker") name
    || str_eq_ignore_ascii_case (codes "imhiredis") name || str_eq_ignore_ascii_case (codes "imgssapi") name
    || str_eq_ignore_ascii_case (codes "imhttp") name

-- one that isn't known doesn't wait
abbrev pub flow_of : List ℕ → Flow
flow_of name = if is_full name then flow.Full else if is_light name then flow.Light else flow.NoWait

-- `mm` at the beginning
abbrev pub changes : List ℕ → Bool
changes [] = false
changes (first ∷ []) = false
changes (first ∷ second ∷ rest) = first == 109 && second == 109

-- what isn't known is no archive
abbrev pub output_of : List ℕ → Output
output_of name =
    if str_eq_ignore_ascii_case (codes "omfile") name then output.File else
    if str_eq_ignore_ascii_case (codes "omfwd") name || str_eq_ignore_ascii_case (codes "omrelp") name then output.Forward else
    if str_eq_ignore_ascii_case (codes "omudpspoof") name then output.Datagram else
    if str_eq_ignore_ascii_case (codes "omusrmsg") name then output.Shown else
    if changes name then output.Changed else
    output.Unknown
