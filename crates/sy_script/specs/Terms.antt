-- What tokens and the grammar are made of: classes of bytes, the kinds of words, the texts of words and strings, operators, objects, and the limits.
use Rattle.std.specs.Prelude.{ℕ, ◌-◌, Bool, true, false, ◌||◌, if◌then◌else◌, ◌==◌, List, [], ◌∷◌, drop, Option, Some, None, codes}
use Rattle.std.specs.Char.{is_ascii_digit, is_ascii_alphabetic}
use Rattle.std.specs.List.{slice_range}
use Rattle.std.specs.Str.{str_eq_ignore_ascii_case}
use Rattle.sy_script.specs.Bytes.{backslash, carriage_return, dash, dollar_sign, dot, double_quote, letter_n, letter_r, letter_t, line_feed, single_quote, space, tab, underscore}
use Rattle.sy_script.specs.declared.token.Kind.{Kind}
use Rattle.sy_script.specs.declared.token.Kind.TheVariants as k
use Rattle.sy_script.specs.declared.token.Token.{Token}
use Rattle.sy_script.specs.declared.tree.Span.{Span}
use Rattle.sy_script.specs.declared.tree.Word.{Word}
use Rattle.sy_script.specs.declared.tree.Text.{Text}
use Rattle.sy_script.specs.declared.tree.Operator.{Operator}
use Rattle.sy_script.specs.declared.tree.Operator.TheVariants as op
use Rattle.sy_script.specs.declared.tree.Operand.{Operand}
use Rattle.sy_script.specs.declared.tree.ExprTree.{ExprTree}
use Rattle.sy_script.specs.declared.tree.ExprTree.TheVariants as e
use Rattle.sy_script.specs.declared.tree.ObjectKind.{ObjectKind}
use Rattle.sy_script.specs.declared.tree.ObjectKind.TheVariants as object

-- ---- bytes

-- space, tab, CR and LF
abbrev pub is_blank : ℕ → Bool
is_blank b = b == space || b == tab || b == carriage_return || b == line_feed

-- a letter or `_`
abbrev pub starts_word : ℕ → Bool
starts_word b = is_ascii_alphabetic b || b == underscore

-- a letter, a digit, `_`, `.` or `-`
abbrev pub is_in_word : ℕ → Bool
is_in_word b = starts_word b || is_ascii_digit b || b == dot || b == dash

-- what may stand after a `\` in a string: `"`, `'`, `\`, `$`, `n`, `r`, `t`
abbrev pub is_escaped : ℕ → Bool
is_escaped b = b == double_quote || b == single_quote || b == backslash || b == dollar_sign || b == letter_n || b == letter_r || b == letter_t

-- ---- words

abbrev pub lookup : List (List ℕ × Kind) → List ℕ → Kind
lookup [] word = k.Name
lookup (row ∷ rows) word = if str_eq_ignore_ascii_case row.0 word then row.1 else lookup rows word

-- the words that the grammar knows
abbrev pub keywords : List (List ℕ × Kind)
keywords =
    (codes "module", k.Module) ∷ (codes "global", k.Global) ∷ (codes "main_queue", k.MainQueue) ∷ (codes "input", k.Input)
    ∷ (codes "ruleset", k.Ruleset) ∷ (codes "action", k.Action) ∷ (codes "call", k.Call) ∷ (codes "stop", k.Stop)
    ∷ (codes "if", k.If) ∷ (codes "then", k.Then) ∷ (codes "else", k.Else)
    ∷ (codes "or", k.Or) ∷ (codes "and", k.And) ∷ (codes "not", k.Not) ∷ (codes "prifilt", k.Prifilt)
    ∷ (codes "include", k.LeftOut) ∷ (codes "set", k.LeftOut) ∷ (codes "unset", k.LeftOut) ∷ (codes "reset", k.LeftOut)
    ∷ (codes "foreach", k.LeftOut) ∷ (codes "call_indirect", k.LeftOut) ∷ (codes "continue", k.LeftOut)
    ∷ (codes "template", k.LeftOut) ∷ (codes "lookup_table", k.LeftOut) ∷ []

-- The kind of a word, without regard to the case of its ASCII letters.
unfoldable pub word_kind : List ℕ → Kind
word_kind = lookup keywords

-- a word of the grammar is a word too
abbrev pub is_word : Kind → Bool
is_word k.Module = true
is_word k.Global = true
is_word k.MainQueue = true
is_word k.Input = true
is_word k.Ruleset = true
is_word k.Action = true
is_word k.Call = true
is_word k.Stop = true
is_word k.If = true
is_word k.Then = true
is_word k.Else = true
is_word k.Or = true
is_word k.And = true
is_word k.Not = true
is_word k.Prifilt = true
is_word k.LeftOut = true
is_word k.Name = true
is_word _ = false

abbrev pub word_of : List ℕ → Span → Word
word_of text span = record { text = slice_range text span.start span.end; span = span }

-- ---- strings

abbrev pub is_text : Kind → Bool
is_text k.Quoted = true
is_text k.SingleQuoted = true
is_text _ = false

-- what a byte after a `\` stands for
abbrev pub escaped : ℕ → ℕ
escaped b = if b == letter_n then line_feed else (if b == letter_r then carriage_return else (if b == letter_t then tab else b))

abbrev pub resolved : List ℕ → List ℕ
resolved [] = []
resolved (b ∷ []) = b ∷ []
resolved (b ∷ c ∷ bytes) = if b == backslash then escaped c ∷ resolved bytes else b ∷ resolved (c ∷ bytes)

-- the bytes between the quotes
abbrev pub unquoted : List ℕ → Span → List ℕ
unquoted text span = drop 1 (slice_range text span.start (span.end - 1))

abbrev pub text_of : List ℕ → Span → Text
text_of text span = record { bytes = resolved (unquoted text span); span = span }

-- ---- comparisons and objects

abbrev pub named_if : Bool → Option Operator
named_if is_named = if is_named then Some op.Named else None

abbrev pub operator_of : Kind → Option Operator
operator_of k.Equal = Some op.Equal
operator_of k.NotEqual = Some op.NotEqual
operator_of k.Less = Some op.Less
operator_of k.AtMost = Some op.AtMost
operator_of k.Greater = Some op.Greater
operator_of k.AtLeast = Some op.AtLeast
operator_of other = named_if (is_word other)

abbrev pub comparison_of : List ℕ → Token → Token → Operator → Operand → ExprTree
comparison_of bytes property sign operator against =
    e.Compare (record { property = word_of bytes property.span; operator = operator; spelling = word_of bytes sign.span; operand = against })

abbrev pub object_kind : Kind → Option ObjectKind
object_kind k.Module = Some object.Module
object_kind k.Global = Some object.Global
object_kind k.MainQueue = Some object.MainQueue
object_kind k.Input = Some object.Input
object_kind _ = None

-- ---- limits

-- how deep blocks, parentheses and `not` nest together
abbrev pub max_depth : ℕ
max_depth = 32

-- 1 MiB
abbrev pub max_text : ℕ
max_text = 1048576
