-- The tokens of a text, byte after byte. Places are counted from 0; a span is from its first byte up to, and without, its end.
use Rattle.std.specs.Prelude.{ℕ, ◌+◌, Bool, if◌then◌else◌, ◌==◌, List, [], ◌∷◌, ◌++◌, Option, Some, None, Result, Ok, Err}
use Rattle.std.specs.Char.{is_ascii_digit}
use Rattle.std.specs.List.{slice_range}
use Rattle.sy_script.specs.declared.token.Kind.{Kind}
use Rattle.sy_script.specs.declared.token.Kind.TheVariants as k
use Rattle.sy_script.specs.declared.token.Token.{Token}
use Rattle.sy_script.specs.declared.token.Ending.{Ending}
use Rattle.sy_script.specs.declared.token.Ending.TheVariants as ending
use Rattle.sy_script.specs.declared.lex.State.{State}
use Rattle.sy_script.specs.declared.lex.State.TheVariants as s
use Rattle.sy_script.specs.declared.lex.Quote.{Quote}
use Rattle.sy_script.specs.declared.lex.Quote.TheVariants as quote
use Rattle.sy_script.specs.declared.lex.Move.{Move}
use Rattle.sy_script.specs.declared.lex.Move.TheVariants as move
use Rattle.sy_script.specs.declared.lex.Step.{Step}
use Rattle.sy_script.specs.Terms.{is_blank, is_escaped, is_in_word, starts_word, word_kind}

-- ---- one byte

abbrev pub quoted : Quote → Kind
quoted quote.Double = k.Quoted
quoted quote.Single = k.SingleQuoted

abbrev pub closes : Quote → ℕ → Bool
closes quote.Double b = b == 34
closes quote.Single b = b == 39

abbrev pub begin_word : ℕ → ℕ → Result State Ending
begin_word at b = if starts_word b then Ok (s.Word at) else (if is_ascii_digit b then Ok (s.Number at) else Err (ending.Byte at))

-- what a byte begins where nothing goes on
unfoldable pub begin : ℕ → ℕ → Result State Ending
begin at b =
    if is_blank b then Ok s.Between else (if b == 35 then Ok s.LineComment else (if b == 47 then Ok (s.Slash at)
    else (if b == 34 then Ok (s.Text quote.Double at) else (if b == 39 then Ok (s.Text quote.Single at)
    else (if b == 36 then Ok (s.Dollar at)
    else (if b == 40 then Ok (s.Whole k.LeftParen at) else (if b == 41 then Ok (s.Whole k.RightParen at)
    else (if b == 123 then Ok (s.Whole k.LeftBrace at) else (if b == 125 then Ok (s.Whole k.RightBrace at)
    else (if b == 61 then Ok (s.Assign at) else (if b == 33 then Ok (s.Bang at)
    else (if b == 60 then Ok (s.Less at) else (if b == 62 then Ok (s.Greater at)
    else begin_word at b)))))))))))))

abbrev pub take_if : Bool → State → Move
take_if takes next = if takes then move.On next else move.Over

abbrev pub in_text : Quote → ℕ → ℕ → State
in_text q start b = if b == 92 then s.Escape q start else (if closes q b then s.Whole (quoted q) start else s.Text q start)

abbrev pub in_comment : ℕ → ℕ → State
in_comment start b = if b == 42 then s.Star start else s.BlockComment start

-- what a state does with the next byte
abbrev pub go_on : State → ℕ → Move
go_on s.Between b = move.Over
go_on s.LineComment b = if b == 10 then move.On s.Between else move.On s.LineComment
go_on (s.Slash start) b = take_if (b == 42) (s.BlockComment start)
go_on (s.BlockComment start) b = move.On (in_comment start b)
go_on (s.Star start) b = if b == 47 then move.On s.Between else move.On (in_comment start b)
go_on (s.Text q start) b = move.On (in_text q start b)
go_on (s.Escape q start) b = if is_escaped b then move.On (s.Text q start) else move.Wrong
go_on (s.Whole kind start) b = move.Over
go_on (s.Word start) b = take_if (is_in_word b) (s.Word start)
go_on (s.Number start) b = take_if (is_ascii_digit b) (s.Number start)
go_on (s.Dollar start) b = take_if (starts_word b) (s.Property start)
go_on (s.Property start) b = take_if (is_in_word b) (s.Property start)
go_on (s.Assign start) b = take_if (b == 61) (s.Whole k.Equal start)
go_on (s.Bang start) b = take_if (b == 61) (s.Whole k.NotEqual start)
go_on (s.Less start) b = take_if (b == 61) (s.Whole k.AtMost start)
go_on (s.Greater start) b = take_if (b == 61) (s.Whole k.AtLeast start)

abbrev pub token : Kind → ℕ → ℕ → Result (Option Token) Ending
token kind start end = Ok (Some (record { kind = kind; span = record { start = start; end = end } }))

-- the token that ends before the place, or why there is none
abbrev pub finish : List ℕ → State → ℕ → Result (Option Token) Ending
finish text s.Between end = Ok None
finish text s.LineComment end = Ok None
finish text (s.Slash start) end = Err (ending.Byte start)
finish text (s.BlockComment start) end = Err (ending.Open start)
finish text (s.Star start) end = Err (ending.Open start)
finish text (s.Text q start) end = Err (ending.Open start)
finish text (s.Escape q start) end = Err (ending.Open start)
finish text (s.Whole kind start) end = token kind start end
finish text (s.Word start) end = token (word_kind (slice_range text start end)) start end
finish text (s.Number start) end = token k.Number start end
finish text (s.Dollar start) end = Err (ending.Byte start)
finish text (s.Property start) end = token k.Property start end
finish text (s.Assign start) end = token k.Assign start end
finish text (s.Bang start) end = Err (ending.Byte start)
finish text (s.Less start) end = token k.Less start end
finish text (s.Greater start) end = token k.Greater start end

abbrev pub turn_with : Result (Option Token) Ending → Result State Ending → Step
turn_with (Err e) next = record { found = None; next = Err e }
turn_with (Ok found) next = record { found = found; next = next }

abbrev pub turn : List ℕ → State → ℕ → ℕ → Step
turn text state at b = turn_with (finish text state at) (begin at b)

abbrev pub step_by : Move → Step → ℕ → Step
step_by (move.On next) turned at = record { found = None; next = Ok next }
step_by move.Over turned at = turned
step_by move.Wrong turned at = record { found = None; next = Err (ending.Byte at) }

unfoldable pub step : List ℕ → State → ℕ → ℕ → Step
step text state at b = step_by (go_on state b) (turn text state at b) at

-- ---- all bytes

-- tokens, and how they end
abbrev pub Lexing : Type 0
Lexing = List Token × Ending

abbrev pub with_found : List Token → Option Token → List Token
with_found front None = front
with_found front (Some t) = front ++ t ∷ []

abbrev pub with_front : List Token → Lexing → Lexing
with_front front rest = (front ++ rest.0, rest.1)

abbrev pub end_by : Result (Option Token) Ending → Lexing
end_by (Ok found) = (with_found [] found, ending.Complete)
end_by (Err e) = ([], e)

abbrev pub end : List ℕ → State → ℕ → Lexing
end text state at = end_by (finish text state at)

abbrev pub follow : Option Token → Lexing → Lexing
follow found rest = with_front (with_found [] found) rest

abbrev pub and_on : Result State Ending → (State → Lexing) → Lexing
and_on (Ok next) go = go next
and_on (Err e) go = ([], e)

-- the tokens of the bytes from a place on
unfoldable pub tokens_from : List ℕ → State → ℕ → List ℕ → Lexing
tokens_from text state at [] = end text state at
tokens_from text state at (b ∷ bytes) =
    let done = step text state at b in
    follow done.found (and_on done.next (λ next. tokens_from text next (at + 1) bytes))

abbrev pub tokens : List ℕ → Lexing
tokens text = tokens_from text s.Between 0 text
