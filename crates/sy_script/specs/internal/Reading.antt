-- What reading a script gives, rule by rule, or where it stops.
use Rattle.std.specs.Prelude.{◌≡◌, ◌≢◌, ℕ, zero, suc, Bool, if◌then◌else◌, List, [], ◌∷◌, ◌++◌, length, Option, Some, None, Result, Ok, Err}
use denote.Enum.Bare.{sameb}
use denote.Ref.{Bor}
use Rattle.sy_script.specs.contracts.token.Kind.{the_type}
use Rattle.sy_script.specs.declared.token.Kind.{Kind}
use Rattle.sy_script.specs.declared.token.Kind.TheVariants as k
use Rattle.sy_script.specs.declared.token.Token.{Token}
use Rattle.sy_script.specs.declared.halt.Halt.{Halt}
use Rattle.sy_script.specs.declared.halt.Halt.TheVariants as halt
use Rattle.sy_script.specs.declared.tree.Word.{Word}
use Rattle.sy_script.specs.declared.tree.Text.{Text}
use Rattle.sy_script.specs.declared.tree.Param.{Param}
use Rattle.sy_script.specs.Terms.{is_text, is_word, text_of, word_of}

-- ---- what a function that reads ensures

-- It gives what reading gives, seen by view, unless memory runs out.
abbrev pub Gives : {X A : Type 0} → (X → A) → Result X Halt → Result A Halt → Type 0
Gives view (Ok x) read = read ≡ Ok (view x)
Gives view (Err e) read = e ≢ halt.Memory → read ≡ Err e

-- ---- steps

abbrev pub Outcome : Type 0 → Type 0
Outcome A = Result (A × List Token) Halt

abbrev pub Parser : Type 0 → Type 0
Parser A = List Token → Outcome A

-- where the innermost parenthesis or brace that is open begins
abbrev pub Open : Type 0
Open = Option ℕ

abbrev pub and_then : {A B : Type 0} → Outcome A → (A → Parser B) → Outcome B
and_then (Ok p) f = f p.0 p.1
and_then (Err e) f = Err e

infixl 10 ◌>>=◌
abbrev pub ◌>>=◌ : {A B : Type 0} → Parser A → (A → Parser B) → Parser B
p >>= f = λ ts. and_then (p ts) f

infixl 10 ◌>>◌
abbrev pub ◌>>◌ : {A B : Type 0} → Parser A → Parser B → Parser B
p >> q = p >>= (λ _. q)

abbrev pub pure : {A : Type 0} → A → Parser A
pure a = λ ts. Ok (a, ts)

abbrev pub refuse : {A : Type 0} → Halt → Parser A
refuse e = λ ts. Err e

-- ---- one token

-- `==` on kinds
unfoldable pub same_kind : Kind → Kind → Bool
same_kind = sameb the_type

abbrev pub first : Open → Parser Token
first opened [] = Err (halt.End opened)
first opened (t ∷ ts) = Ok (t, ts)

abbrev pub that : Bool → Token → Parser Token
that wanted t = if wanted then pure t else refuse (halt.Unexpected t.span)

unfoldable pub expect : Kind → Open → Parser Token
expect kind opened = first opened >>= (λ t. that (same_kind t.kind kind) t)

-- the tokens after the next one, if that is of this kind
unfoldable pub behind : Kind → List Token → Option (List Token)
behind kind [] = None
behind kind (t ∷ ts) = if same_kind t.kind kind then Some ts else None

abbrev pub view_rest : Option (Bor (List Token)) → Option (List Token)
view_rest None = None
view_rest (Some r) = Some r.now

-- ---- words and strings

unfoldable pub word : List ℕ → Open → Parser Word
word text opened = do
  t ← first opened
  if is_word t.kind then pure (word_of text t.span) else refuse (halt.Unexpected t.span)

unfoldable pub text : List ℕ → Open → Parser Text
text bytes opened = do
  t ← first opened
  if is_text t.kind then pure (text_of bytes t.span) else refuse (halt.Unexpected t.span)

-- ---- parameters

unfoldable pub param : List ℕ → Open → Parser Param
param text opened = do
  name ← word text opened
  expect k.Assign opened
  t ← expect k.Quoted opened
  pure (record { name = name; value = text_of text t.span })

-- Items up to a closing token. The number bounds the turns, and each turn takes a token.
abbrev pub turn : {A : Type 0} → Option (List Token) → List A → Outcome (List A) → Outcome (List A)
turn (Some after) found more = Ok (found, after)
turn None found more = more

unfoldable pub items_from : {A : Type 0} → Kind → Open → Parser A → ℕ → List A → Parser (List A)
items_from close opened item zero found ts = Err (halt.End opened)
items_from close opened item (suc n) found ts =
    turn (behind close ts) found (and_then (item ts) (λ x. items_from close opened item n (found ++ x ∷ [])))

abbrev pub items : {A : Type 0} → Kind → Open → Parser A → Parser (List A)
items close opened item = λ ts. items_from close opened item (length ts) [] ts

unfoldable pub params_in : List ℕ → Open → Parser (List Param)
params_in text opened = items k.RightParen opened (param text opened)

unfoldable pub params : List ℕ → Open → Parser (List Param)
params text opened = expect k.LeftParen opened >>= (λ t. params_in text (Some t.span.start))
