-- The grammar of scripts: which tokens a tree has. `XAt .. x ts rest` says that the tokens ts are those of x, and then rest.
-- One rule of the grammar is one constructor; words in double quotes in the comments are tokens. A tree keeps its spans.
use Rattle.std.specs.Prelude.{◌≡◌, ◌≢◌, ◌≤◌, ℕ, suc, true, List, [], ◌∷◌, ◌++◌, length, Some, None}
use Rattle.sy_script.specs.declared.token.Kind.{Kind}
use Rattle.sy_script.specs.declared.token.Kind.TheVariants as k
use Rattle.sy_script.specs.declared.token.Token.{Token}
use Rattle.sy_script.specs.declared.tree.Param.{Param}
use Rattle.sy_script.specs.declared.tree.Operator.{Operator}
use Rattle.sy_script.specs.declared.tree.Operand.{Operand}
use Rattle.sy_script.specs.declared.tree.Operand.TheVariants as value
use Rattle.sy_script.specs.declared.tree.ExprTree.{ExprTree}
use Rattle.sy_script.specs.declared.tree.ExprTree.TheVariants as e
use Rattle.sy_script.specs.declared.tree.ObjectKind.{ObjectKind}
use Rattle.sy_script.specs.declared.tree.Block.{Block}
use Rattle.sy_script.specs.declared.tree.Block.TheVariants as b
use Rattle.sy_script.specs.declared.tree.Stmt.{Stmt}
use Rattle.sy_script.specs.declared.tree.Stmt.TheVariants as s
use Rattle.sy_script.specs.declared.tree.Top.{Top}
use Rattle.sy_script.specs.declared.tree.Top.TheVariants as t
use Rattle.sy_script.specs.declared.tree.Script.{Script}
use Rattle.sy_script.specs.Terms.{comparison_of, is_text, is_word, max_depth, max_text, object_kind, operator_of, text_of, word_of}
use Rattle.sy_script.specs.Tokens.{AreTokens}

-- ---- "(" *(word "=" string) ")"

-- after the parenthesis
pub data ParamsIn (text : List ℕ) : List Param → List Token → List Token → Type 0 where
  close : {c : Token} {rest : List Token} → c.kind ≡ k.RightParen → ParamsIn text [] (c ∷ rest) rest
  param : {n a v : Token} {ps : List Param} {ts rest : List Token} → is_word n.kind ≡ true → a.kind ≡ k.Assign → v.kind ≡ k.Quoted → ParamsIn text ps ts rest
      → ParamsIn text (record { name = word_of text n.span; value = text_of text v.span } ∷ ps) (n ∷ a ∷ v ∷ ts) rest

pub data ParamsAt (text : List ℕ) : List Param → List Token → List Token → Type 0 where
  params : {o : Token} {ps : List Param} {ts rest : List Token} → o.kind ≡ k.LeftParen → ParamsIn text ps ts rest → ParamsAt text ps (o ∷ ts) rest

-- ---- expressions. The number says how much deeper they may nest: each parenthesis round an expression and each `not` takes one.

-- number | string
pub data OperandAt (text : List ℕ) : Operand → List Token → List Token → Type 0 where
  number : {n : Token} {rest : List Token} → n.kind ≡ k.Number → OperandAt text (value.Number (word_of text n.span)) (n ∷ rest) rest
  string : {v : Token} {rest : List Token} → is_text v.kind ≡ true → OperandAt text (value.Text (text_of text v.span)) (v ∷ rest) rest

-- "prifilt" "(" string ")"
pub data PrifiltAt (text : List ℕ) : ExprTree → List Token → List Token → Type 0 where
  prifilt : {w o v c : Token} {rest : List Token} → w.kind ≡ k.Prifilt → o.kind ≡ k.LeftParen → is_text v.kind ≡ true → c.kind ≡ k.RightParen
      → PrifiltAt text (e.Prifilt (text_of text v.span)) (w ∷ o ∷ v ∷ c ∷ rest) rest

mutual
  -- "(" expr ")"
  pub data GroupAt (text : List ℕ) : ℕ → ExprTree → List Token → List Token → Type 0 where
    group : {left : ℕ} {o c : Token} {x : ExprTree} {ts rest : List Token} → o.kind ≡ k.LeftParen → ExprAt text left x ts (c ∷ rest) → c.kind ≡ k.RightParen
        → GroupAt text (suc left) (e.Group x) (o ∷ ts) rest

  -- "(" expr ")" | "not" "(" expr ")" | ["not"] "prifilt" "(" string ")" | property operator (string | number)
  pub data UnitAt (text : List ℕ) : ℕ → ExprTree → List Token → List Token → Type 0 where
    grouped : {left : ℕ} {x : ExprTree} {ts rest : List Token} → GroupAt text left x ts rest → UnitAt text left x ts rest
    not_grouped : {left : ℕ} {n : Token} {x : ExprTree} {ts rest : List Token} → n.kind ≡ k.Not → GroupAt text left x ts rest → UnitAt text (suc left) (e.Not x) (n ∷ ts) rest
    selected : {left : ℕ} {x : ExprTree} {ts rest : List Token} → PrifiltAt text x ts rest → UnitAt text left x ts rest
    not_selected : {left : ℕ} {n : Token} {x : ExprTree} {ts rest : List Token} → n.kind ≡ k.Not → PrifiltAt text x ts rest → UnitAt text (suc left) (e.Not x) (n ∷ ts) rest
    compared : {left : ℕ} {p o : Token} {operator : Operator} {operand : Operand} {ts rest : List Token} → p.kind ≡ k.Property → operator_of o.kind ≡ Some operator → OperandAt text operand ts rest
        → UnitAt text left (comparison_of text p o operator operand) (p ∷ o ∷ ts) rest

  -- *("or" unit), or *("and" unit)
  pub data MoreAt (text : List ℕ) : ℕ → Kind → List ExprTree → List Token → List Token → Type 0 where
    none : {left : ℕ} {joint : Kind} {rest : List Token} → MoreAt text left joint [] rest rest
    more : {left : ℕ} {joint : Kind} {j : Token} {x : ExprTree} {xs : List ExprTree} {ts mid rest : List Token} → j.kind ≡ joint → UnitAt text left x ts mid → MoreAt text left joint xs mid rest
        → MoreAt text left joint (x ∷ xs) (j ∷ ts) rest

  -- unit *("or" unit) | unit *("and" unit)
  pub data ExprAt (text : List ℕ) : ℕ → ExprTree → List Token → List Token → Type 0 where
    alone : {left : ℕ} {x : ExprTree} {ts rest : List Token} → UnitAt text left x ts rest → ExprAt text left x ts rest
    any : {left : ℕ} {x y : ExprTree} {xs : List ExprTree} {ts mid rest : List Token} → UnitAt text left x ts mid → MoreAt text left k.Or (y ∷ xs) mid rest → ExprAt text left (e.Or (x ∷ y ∷ xs)) ts rest
    all : {left : ℕ} {x y : ExprTree} {xs : List ExprTree} {ts mid rest : List Token} → UnitAt text left x ts mid → MoreAt text left k.And (y ∷ xs) mid rest → ExprAt text left (e.And (x ∷ y ∷ xs)) ts rest

-- ---- statements. Each block takes one from how much deeper they may nest.

-- no `else` comes next
abbrev pub NoElse : List Token → Type 0
NoElse [] = Unit {0}
NoElse (t ∷ ts) = t.kind ≢ k.Else

mutual
  -- "action" params | "call" word | "stop" | "if" expr "then" block ["else" block]
  pub data StmtAt (text : List ℕ) : ℕ → Stmt → List Token → List Token → Type 0 where
    action : {left : ℕ} {a : Token} {ps : List Param} {ts rest : List Token} → a.kind ≡ k.Action → ParamsAt text ps ts rest → StmtAt text left (s.Action a.span ps) (a ∷ ts) rest
    call : {left : ℕ} {c n : Token} {rest : List Token} → c.kind ≡ k.Call → is_word n.kind ≡ true → StmtAt text left (s.Call (word_of text n.span)) (c ∷ n ∷ rest) rest
    stop : {left : ℕ} {w : Token} {rest : List Token} → w.kind ≡ k.Stop → StmtAt text left (s.Stop w.span) (w ∷ rest) rest
    -- An `else` belongs to the nearest `if`: after one without it, none stands.
    one_way : {left : ℕ} {i w : Token} {x : ExprTree} {done : Block} {ts us rest : List Token} → i.kind ≡ k.If → ExprAt text left x ts (w ∷ us) → w.kind ≡ k.Then → BlockAt text left done us rest
        → NoElse rest → StmtAt text left (s.If x done None) (i ∷ ts) rest
    two_ways : {left : ℕ} {i w o : Token} {x : ExprTree} {done other : Block} {ts us vs rest : List Token} → i.kind ≡ k.If → ExprAt text left x ts (w ∷ us) → w.kind ≡ k.Then → BlockAt text left done us (o ∷ vs)
        → o.kind ≡ k.Else → BlockAt text left other vs rest → StmtAt text left (s.If x done (Some other)) (i ∷ ts) rest

  -- stmt | "{" *stmt "}"
  pub data BlockAt (text : List ℕ) : ℕ → Block → List Token → List Token → Type 0 where
    single : {left : ℕ} {x : Stmt} {ts rest : List Token} → StmtAt text left x ts rest → BlockAt text (suc left) (b.Single x) ts rest
    braced : {left : ℕ} {o : Token} {xs : List Stmt} {ts rest : List Token} → o.kind ≡ k.LeftBrace → BodyAt text left xs ts rest → BlockAt text (suc left) (b.Braced xs) (o ∷ ts) rest

  -- *stmt "}"
  pub data BodyAt (text : List ℕ) : ℕ → List Stmt → List Token → List Token → Type 0 where
    close : {left : ℕ} {c : Token} {rest : List Token} → c.kind ≡ k.RightBrace → BodyAt text left [] (c ∷ rest) rest
    stmt : {left : ℕ} {x : Stmt} {xs : List Stmt} {ts mid rest : List Token} → StmtAt text left x ts mid → BodyAt text left xs mid rest → BodyAt text left (x ∷ xs) ts rest

-- ---- the top of a file. The number says how deep it may nest.

-- ("module" | "global" | "main_queue" | "input") params | "ruleset" params "{" *stmt "}" | stmt
pub data TopAt (text : List ℕ) (left : ℕ) : Top → List Token → List Token → Type 0 where
  object : {w : Token} {kind : ObjectKind} {ps : List Param} {ts rest : List Token} → object_kind w.kind ≡ Some kind → ParamsAt text ps ts rest
      → TopAt text left (t.Object (record { kind = kind; span = w.span; params = ps })) (w ∷ ts) rest
  rules : {w o : Token} {ps : List Param} {xs : List Stmt} {ts us rest : List Token} → w.kind ≡ k.Ruleset → ParamsAt text ps ts (o ∷ us) → o.kind ≡ k.LeftBrace → BodyAt text left xs us rest
      → TopAt text left (t.Ruleset (record { span = w.span; params = ps; body = xs })) (w ∷ ts) rest
  stmt : {x : Stmt} {ts rest : List Token} → StmtAt text left x ts rest → TopAt text left (t.Stmt x) ts rest

pub data TopsAt (text : List ℕ) (left : ℕ) : List Top → List Token → Type 0 where
  none : TopsAt text left [] []
  more : {x : Top} {xs : List Top} {ts mid : List Token} → TopAt text left x ts mid → TopsAt text left xs mid → TopsAt text left (x ∷ xs) ts

-- the tokens are the beginning of a script, however deep it nests
abbrev pub Begins : List ℕ → List Token → Type 0
Begins text ts = (left : ℕ) × (tree : List Top) × (more : List Token) × TopsAt text left tree (ts ++ more)

-- the text is a script, with this tree: it has at most 1 MiB, it is cut into tokens to its end, and the tree has those
pub record IsScript (text : List ℕ) (script : Script) : Type 0 where
  pub small : length text ≤ max_text
  pub tokens : List Token
  pub are_tokens : AreTokens text tokens
  pub tree : TopsAt text max_depth script.tops tokens
