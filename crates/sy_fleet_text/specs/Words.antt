-- The words of the language (rsyslog 8.2302), without regard to the case of their ASCII letters.
use Rattle.std.specs.Prelude.{ℕ, List, Option, Some, None, codes, if◌then◌else◌}
use Rattle.std.specs.Str.{str_eq_ignore_ascii_case}
use Rattle.sy_fleet_text.specs.declared.piece.Object.{Object}
use Rattle.sy_fleet_text.specs.declared.piece.Object.TheVariants as object
use Rattle.sy_fleet_text.specs.declared.piece.Word.{Word}
use Rattle.sy_fleet_text.specs.declared.piece.Word.TheVariants as word

abbrev pub control_word : List ℕ → Option Word
control_word bytes =
    if str_eq_ignore_ascii_case (codes "if") bytes then Some word.If else
    if str_eq_ignore_ascii_case (codes "then") bytes then Some word.Then else
    if str_eq_ignore_ascii_case (codes "else") bytes then Some word.Else else
    if str_eq_ignore_ascii_case (codes "stop") bytes then Some word.Stop else
    if str_eq_ignore_ascii_case (codes "call") bytes then Some word.Call else
    if str_eq_ignore_ascii_case (codes "call_indirect") bytes then Some word.CallIndirect else
    None

-- the word that bytes are
abbrev pub word_of : List ℕ → Option Word
word_of bytes =
    if str_eq_ignore_ascii_case (codes "set") bytes then Some word.Set else
    if str_eq_ignore_ascii_case (codes "unset") bytes then Some word.Unset else
    if str_eq_ignore_ascii_case (codes "reset") bytes then Some word.Reset else
    if str_eq_ignore_ascii_case (codes "foreach") bytes then Some word.Foreach else
    if str_eq_ignore_ascii_case (codes "do") bytes then Some word.Do else
    if str_eq_ignore_ascii_case (codes "continue") bytes then Some word.Continue else
    control_word bytes

abbrev pub rare_object : List ℕ → Option Object
rare_object bytes =
    if str_eq_ignore_ascii_case (codes "parser") bytes then Some object.Parser else
    if str_eq_ignore_ascii_case (codes "timezone") bytes then Some object.Timezone else
    if str_eq_ignore_ascii_case (codes "lookup_table") bytes then Some object.LookupTable else
    if str_eq_ignore_ascii_case (codes "dyn_stats") bytes then Some object.DynStats else
    if str_eq_ignore_ascii_case (codes "percentile_stats") bytes then Some object.PercentileStats else
    if str_eq_ignore_ascii_case (codes "reload_lookup_table") bytes then Some object.ReloadLookupTable else
    None

abbrev pub common_object : List ℕ → Option Object
common_object bytes =
    if str_eq_ignore_ascii_case (codes "global") bytes then Some object.Global else
    if str_eq_ignore_ascii_case (codes "main_queue") bytes then Some object.MainQueue else
    if str_eq_ignore_ascii_case (codes "include") bytes then Some object.Include else
    if str_eq_ignore_ascii_case (codes "property") bytes then Some object.Property else
    if str_eq_ignore_ascii_case (codes "constant") bytes then Some object.Constant else
    rare_object bytes

-- the object that bytes name
abbrev pub object_of : List ℕ → Option Object
object_of bytes =
    if str_eq_ignore_ascii_case (codes "module") bytes then Some object.Module else
    if str_eq_ignore_ascii_case (codes "input") bytes then Some object.Input else
    if str_eq_ignore_ascii_case (codes "action") bytes then Some object.Action else
    if str_eq_ignore_ascii_case (codes "ruleset") bytes then Some object.Ruleset else
    if str_eq_ignore_ascii_case (codes "template") bytes then Some object.Template else
    common_object bytes
