-- What reading statements and the top of a file gives. The first number says how much deeper the text may nest.
use Rattle.std.specs.Prelude.{ℕ, zero, suc, Bool, true, false, List, [], ◌∷◌, ◌++◌, length, Option, Some, None, Result, Ok, Err}
use Rattle.sy_script.specs.declared.token.Kind.{Kind}
use Rattle.sy_script.specs.declared.token.Kind.TheVariants as k
use Rattle.sy_script.specs.declared.token.Token.{Token}
use Rattle.sy_script.specs.declared.halt.Halt.{Halt}
use Rattle.sy_script.specs.declared.halt.Halt.TheVariants as halt
use Rattle.sy_script.specs.declared.tree.ExprTree.{ExprTree}
use Rattle.sy_script.specs.declared.tree.ObjectKind.{ObjectKind}
use Rattle.sy_script.specs.declared.tree.Ruleset.{Ruleset}
use Rattle.sy_script.specs.declared.tree.Block.{Block}
use Rattle.sy_script.specs.declared.tree.Block.TheVariants as b
use Rattle.sy_script.specs.declared.tree.Stmt.{Stmt}
use Rattle.sy_script.specs.declared.tree.Stmt.TheVariants as s
use Rattle.sy_script.specs.declared.tree.Top.{Top}
use Rattle.sy_script.specs.declared.tree.Top.TheVariants as t
use Rattle.sy_script.specs.Terms.{object_kind}
use Rattle.sy_script.specs.internal.Reading.{Outcome, Parser, Open, and_then, ◌>>=◌, ◌>>◌, pure, refuse, first, expect, behind, same_kind, items, word, params}
use Rattle.sy_script.specs.internal.ReadingExpr.{expr}

-- why a token begins no statement
abbrev pub refusal_by : Kind → Token → Halt
refusal_by k.LeftOut token = halt.LeftOut token.span
refusal_by k.Property token = halt.LeftOut token.span
refusal_by _ token = halt.Unexpected token.span

abbrev pub refusal : Token → Halt
refusal token = refusal_by token.kind token

-- why no block begins with a token, where none may nest deeper
abbrev pub too_deep_by : Kind → Token → Halt
too_deep_by k.LeftBrace token = halt.TooDeep token.span
too_deep_by k.Action token = halt.TooDeep token.span
too_deep_by k.Call token = halt.TooDeep token.span
too_deep_by k.Stop token = halt.TooDeep token.span
too_deep_by k.If token = halt.TooDeep token.span
too_deep_by _ token = refusal token

abbrev pub too_deep : Token → Halt
too_deep token = too_deep_by token.kind token

-- ---- statements, by what reads a block in them

abbrev pub otherwise_by : (Open → Parser Block) → Open → ExprTree → Block → Option (List Token) → Parser Stmt
otherwise_by block opened test done None = pure (s.If test done None)
otherwise_by block opened test done (Some after) = λ _. and_then (block opened after) (λ otherwise. pure (s.If test done (Some otherwise)))

-- after `if`
abbrev pub choice_at : List ℕ → ℕ → (Open → Parser Block) → Open → Parser Stmt
choice_at bytes left block opened = do
  test ← expr bytes left opened
  expect k.Then opened
  done ← block opened
  (λ ts. otherwise_by block opened test done (behind k.Else ts) ts)

abbrev pub stmt_by : List ℕ → ℕ → (Open → Parser Block) → Open → Kind → Token → Parser Stmt
stmt_by bytes left block opened k.Action token = params bytes opened >>= (λ found. pure (s.Action token.span found))
stmt_by bytes left block opened k.Call token = word bytes opened >>= (λ name. pure (s.Call name))
stmt_by bytes left block opened k.Stop token = pure (s.Stop token.span)
stmt_by bytes left block opened k.If token = choice_at bytes left block opened
stmt_by bytes left block opened _ token = refuse (refusal token)

abbrev pub stmt_at : List ℕ → ℕ → (Open → Parser Block) → Open → Parser Stmt
stmt_at bytes left block opened = first opened >>= (λ token. stmt_by bytes left block opened token.kind token)

-- after a brace
abbrev pub body_at : List ℕ → ℕ → (Open → Parser Block) → Open → Parser (List Stmt)
body_at bytes left block opened = items k.RightBrace opened (stmt_at bytes left block opened)

abbrev pub block_by : List ℕ → ℕ → (Open → Parser Block) → Open → Bool → Token → List Token → List Token → Outcome Block
block_by bytes left block opened true token after ts = and_then (body_at bytes left block (Some token.span.start) after) (λ body. pure (b.Braced body))
block_by bytes left block opened false token after ts = and_then (stmt_at bytes left block opened ts) (λ stmt. pure (b.Single stmt))

unfoldable pub block : List ℕ → ℕ → Open → Parser Block
block bytes zero opened = first opened >>= (λ token. refuse (too_deep token))
block bytes (suc left) opened = λ ts. and_then (first opened ts) (λ token after. block_by bytes left (block bytes left) opened (same_kind token.kind k.LeftBrace) token after ts)

unfoldable pub stmt : List ℕ → ℕ → Open → Parser Stmt
stmt bytes left opened = stmt_at bytes left (block bytes left) opened

unfoldable pub choice : List ℕ → ℕ → Open → Parser Stmt
choice bytes left opened = choice_at bytes left (block bytes left) opened

-- after `if`, up to `then`
unfoldable pub condition : List ℕ → ℕ → Open → Parser ExprTree
condition bytes left opened = do
  x ← expr bytes left opened
  expect k.Then opened
  pure x

abbrev pub branches_by : (Open → Parser Block) → Open → Block → Option (List Token) → Parser (Block × Option Block)
branches_by block opened done None = pure (done, None)
branches_by block opened done (Some after) = λ _. and_then (block opened after) (λ otherwise. pure (done, Some otherwise))

-- after `then`
unfoldable pub branches : List ℕ → ℕ → Open → Parser (Block × Option Block)
branches bytes left opened = do
  done ← block bytes left opened
  (λ ts. branches_by (block bytes left) opened done (behind k.Else ts) ts)

unfoldable pub body : List ℕ → ℕ → Open → Parser (List Stmt)
body bytes left opened = body_at bytes left (block bytes left) opened

-- ---- the top of a file

unfoldable pub rules : List ℕ → ℕ → Token → Parser Ruleset
rules bytes left token = do
  found ← params bytes None
  brace ← expect k.LeftBrace None
  stmts ← body bytes left (Some brace.span.start)
  pure (record { span = token.span; params = found; body = stmts })

abbrev pub other_top : List ℕ → ℕ → Bool → Token → List Token → List Token → Outcome Top
other_top bytes left true token after ts = and_then (rules bytes left token after) (λ found. pure (t.Ruleset found))
other_top bytes left false token after ts = and_then (stmt bytes left None ts) (λ found. pure (t.Stmt found))

abbrev pub top_by : List ℕ → ℕ → Option ObjectKind → Token → List Token → List Token → Outcome Top
top_by bytes left (Some kind) token after ts = and_then (params bytes None after) (λ found. pure (t.Object (record { kind = kind; span = token.span; params = found })))
top_by bytes left None token after ts = other_top bytes left (same_kind token.kind k.Ruleset) token after ts

unfoldable pub top : List ℕ → ℕ → Parser Top
top bytes left = λ ts. and_then (first None ts) (λ token after. top_by bytes left (object_kind token.kind) token after ts)

-- All that stands there. The number bounds the turns, and each turn takes a token.
abbrev pub tops_then : Outcome Top → (Top → List Token → Result (List Top) Halt) → Result (List Top) Halt
tops_then (Ok p) more = more p.0 p.1
tops_then (Err e) more = Err e

unfoldable pub tops_from : List ℕ → ℕ → ℕ → List Top → List Token → Result (List Top) Halt
tops_from bytes left zero found ts = Ok found
tops_from bytes left (suc n) found [] = Ok found
tops_from bytes left (suc n) found (x ∷ ts) = tops_then (top bytes left (x ∷ ts)) (λ one after. tops_from bytes left n (found ++ one ∷ []) after)

unfoldable pub tops : List ℕ → ℕ → List Token → Result (List Top) Halt
tops bytes left ts = tops_from bytes left (length ts) [] ts
