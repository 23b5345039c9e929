-- Which parentheses and braces are open.
use Rattle.std.specs.Prelude.{◌≡◌, Bool, true, false, List, ◌∷◌, ◌++◌}
use Rattle.sy_script.specs.declared.token.Kind.{Kind}
use Rattle.sy_script.specs.declared.token.Kind.TheVariants as k
use Rattle.sy_script.specs.declared.token.Token.{Token}

abbrev pub opens : Kind → Bool
opens k.LeftParen = true
opens k.LeftBrace = true
opens _ = false

abbrev pub is_bracket : Kind → Bool
is_bracket k.RightParen = true
is_bracket k.RightBrace = true
is_bracket kind = opens kind

-- In the tokens ts, up to what is left of them, each parenthesis and each brace is closed by its own kind.
pub data Balanced : List Token → List Token → Type 0 where
  none : {rest : List Token} → Balanced rest rest
  other : {t : Token} {ts rest : List Token} → is_bracket t.kind ≡ false → Balanced ts rest → Balanced (t ∷ ts) rest
  parens : {o c : Token} {ts us rest : List Token} → o.kind ≡ k.LeftParen → Balanced ts (c ∷ us) → c.kind ≡ k.RightParen → Balanced us rest → Balanced (o ∷ ts) rest
  braces : {o c : Token} {ts us rest : List Token} → o.kind ≡ k.LeftBrace → Balanced ts (c ∷ us) → c.kind ≡ k.RightBrace → Balanced us rest → Balanced (o ∷ ts) rest

-- this token is the innermost parenthesis or brace that the tokens, up to what is left of them, leave open
pub record IsInnermost (ts : List Token) (o : Token) (rest : List Token) : Type 0 where
  pub front : List Token
  pub inside : List Token
  pub is_ts : ts ≡ front ++ o ∷ inside
  pub is_opening : opens o.kind ≡ true
  pub is_closed : Balanced inside rest
