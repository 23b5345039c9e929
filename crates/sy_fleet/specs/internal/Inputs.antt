-- How inputs wait, by their module and their parameter `flowControl` (rsyslogd 8.2302: plugins/imrelp, plugins/imptcp, plugins/imtcp).
use Rattle.std.specs.Prelude.{ℕ, Bool, false, true, ◌||◌, ◌&&◌, List, Option, None, Some, codes, if◌then◌else◌}
use Rattle.std.specs.Str.{str_eq_ignore_ascii_case}
use Rattle.sy_fleet.specs.declared.modules.Flow.{Flow}
use Rattle.sy_fleet.specs.declared.modules.Flow.TheVariants as flow
use Rattle.sy_fleet.specs.Modules.{flow_of}

abbrev pub is_no_wait : Flow → Bool
is_no_wait flow.NoWait = true
is_no_wait flow.Light = false
is_no_wait flow.Full = false

-- `full` is a word of imrelp's alone
abbrev pub flow_given : (name : List ℕ) → Option (List ℕ) → Flow
flow_given name None = flow_of name
flow_given name (Some value) =
    if str_eq_ignore_ascii_case (codes "imrelp") name && str_eq_ignore_ascii_case (codes "full") value then flow.Full else
    if str_eq_ignore_ascii_case (codes "none") value || str_eq_ignore_ascii_case (codes "off") value then flow.NoWait else
    if str_eq_ignore_ascii_case (codes "on") value && is_no_wait (flow_of name) then flow.Light else flow_of name

-- the parameter in the plan, behind the port
abbrev pub flow_text : Flow → List ℕ
flow_text flow.Full = codes "\" flowControl=\"full\""
flow_text flow.Light = codes "\" flowControl=\"on\""
flow_text flow.NoWait = codes "\" flowControl=\"off\""
