-- What reading an expression gives. The first number says how much deeper the text may nest.
use Rattle.std.specs.Prelude.{ℕ, zero, suc, Bool, true, false, is_some, List, [], ◌∷◌, ◌++◌, length, Option, Some, None, Ok}
use Rattle.sy_script.specs.declared.token.Kind.{Kind}
use Rattle.sy_script.specs.declared.token.Kind.TheVariants as k
use Rattle.sy_script.specs.declared.token.Token.{Token}
use Rattle.sy_script.specs.declared.halt.Halt.TheVariants as halt
use Rattle.sy_script.specs.declared.tree.Operator.{Operator}
use Rattle.sy_script.specs.declared.tree.Operand.{Operand}
use Rattle.sy_script.specs.declared.tree.Operand.TheVariants as value
use Rattle.sy_script.specs.declared.tree.ExprTree.{ExprTree}
use Rattle.sy_script.specs.declared.tree.ExprTree.TheVariants as e
use Rattle.sy_script.specs.Terms.{comparison_of, operator_of, text_of, word_of}
use Rattle.sy_script.specs.internal.Reading.{Outcome, Parser, Open, and_then, ◌>>=◌, ◌>>◌, pure, refuse, first, expect, behind, text}

-- a token that is a number or a string
abbrev pub operand_by : List ℕ → Kind → Token → Parser Operand
operand_by bytes k.Number t = pure (value.Number (word_of bytes t.span))
operand_by bytes k.Quoted t = pure (value.Text (text_of bytes t.span))
operand_by bytes k.SingleQuoted t = pure (value.Text (text_of bytes t.span))
operand_by bytes _ t = refuse (halt.Unexpected t.span)

unfoldable pub operand : List ℕ → Open → Parser Operand
operand bytes opened = first opened >>= (λ t. operand_by bytes t.kind t)

abbrev pub compared_by : List ℕ → Token → Open → Token → Option Operator → Parser ExprTree
compared_by bytes property opened sign None = refuse (halt.Unexpected sign.span)
compared_by bytes property opened sign (Some operator) = operand bytes opened >>= (λ against. pure (comparison_of bytes property sign operator against))

-- after a property
unfoldable pub comparison : List ℕ → Token → Open → Parser ExprTree
comparison bytes property opened = first opened >>= (λ sign. compared_by bytes property opened sign (operator_of sign.kind))

-- after `prifilt`
unfoldable pub prifilt : List ℕ → Open → Parser ExprTree
prifilt bytes opened = do
  paren ← expect k.LeftParen opened
  selector ← text bytes (Some paren.span.start)
  expect k.RightParen (Some paren.span.start)
  pure (e.Prifilt selector)

-- an expression, where a token of this kind stands after it
unfoldable pub followed : Kind → Open → ExprTree → Parser ExprTree
followed kind opened inner = expect kind opened >> pure inner

-- what reads after a parenthesis and after `not`
pub record Level : Type 0 where
  pub group : Token → Parser ExprTree
  pub negation : Open → Token → Parser ExprTree

abbrev pub unit_by : List ℕ → Level → Open → Kind → Token → Parser ExprTree
unit_by bytes l opened k.LeftParen t = l.group t
unit_by bytes l opened k.Not t = l.negation opened t
unit_by bytes l opened k.Prifilt t = prifilt bytes opened
unit_by bytes l opened k.Property t = comparison bytes t opened
unit_by bytes l opened _ t = refuse (halt.Unexpected t.span)

abbrev pub unit_at : List ℕ → Level → Open → Parser ExprTree
unit_at bytes l opened = first opened >>= (λ t. unit_by bytes l opened t.kind t)

-- The parts of a chain. The number bounds the turns, and each turn takes a token.
abbrev pub part_behind : Option (List Token) → Parser ExprTree → List ExprTree → List Token → (ExprTree → Parser (List ExprTree)) → Outcome (List ExprTree)
part_behind None part found ts more = Ok (found, ts)
part_behind (Some after) part found ts more = and_then (part after) more

unfoldable pub chain_from : Kind → Parser ExprTree → ℕ → List ExprTree → Parser (List ExprTree)
chain_from joint part zero found ts = Ok (found, ts)
chain_from joint part (suc n) found ts = part_behind (behind joint ts) part found ts (λ x. chain_from joint part n (found ++ x ∷ []))

abbrev pub chain_at : List ℕ → Level → Open → Kind → ExprTree → Parser (List ExprTree)
chain_at bytes l opened joint start = λ ts. chain_from joint (unit_at bytes l opened) (length ts) (start ∷ []) ts

-- after the first part
abbrev pub joined_by : List ℕ → Level → Open → ExprTree → Bool → Bool → Parser ExprTree
joined_by bytes l opened start true is_and = chain_at bytes l opened k.Or start >>= (λ parts. pure (e.Or parts))
joined_by bytes l opened start false true = chain_at bytes l opened k.And start >>= (λ parts. pure (e.And parts))
joined_by bytes l opened start false false = pure start

abbrev pub expr_at : List ℕ → Level → Open → Parser ExprTree
expr_at bytes l opened = unit_at bytes l opened >>= (λ start ts. joined_by bytes l opened start (is_some (behind k.Or ts)) (is_some (behind k.And ts)) ts)

-- one level up: a parenthesis round an expression
abbrev pub group_at : List ℕ → Level → Token → Parser ExprTree
group_at bytes l paren = do
  inner ← expr_at bytes l (Some paren.span.start)
  expect k.RightParen (Some paren.span.start)
  pure (e.Group inner)

abbrev pub negated_by : List ℕ → Level → Open → Kind → Token → Parser ExprTree
negated_by bytes l opened k.LeftParen t = l.group t
negated_by bytes l opened k.Prifilt t = prifilt bytes opened
negated_by bytes l opened _ t = refuse (halt.Unexpected t.span)

abbrev pub negation_at : List ℕ → Level → Open → Parser ExprTree
negation_at bytes l opened = do
  t ← first opened
  inner ← negated_by bytes l opened t.kind t
  pure (e.Not inner)

unfoldable pub level : List ℕ → ℕ → Level
level bytes zero = record { group = λ paren. refuse (halt.TooDeep paren.span); negation = λ opened word. refuse (halt.TooDeep word.span) }
level bytes (suc left) = record { group = group_at bytes (level bytes left); negation = λ opened word. negation_at bytes (level bytes left) opened }

abbrev pub group : List ℕ → ℕ → Token → Parser ExprTree
group bytes left = (level bytes left).group

abbrev pub negation : List ℕ → ℕ → Open → Token → Parser ExprTree
negation bytes left = (level bytes left).negation

unfoldable pub unit : List ℕ → ℕ → Open → Parser ExprTree
unit bytes left opened = unit_at bytes (level bytes left) opened

unfoldable pub chain : List ℕ → ℕ → Open → Kind → ExprTree → Parser (List ExprTree)
chain bytes left opened joint start = chain_at bytes (level bytes left) opened joint start

unfoldable pub expr : List ℕ → ℕ → Open → Parser ExprTree
expr bytes left opened = expr_at bytes (level bytes left) opened
