-- Where a rule of the grammar may begin in the tokens of a text. `XPlace .. ts left rest` says that the tokens ts, up to what is left of them, may be
-- followed by an X, and how much deeper it may nest: of the 32 levels, each block, each parenthesis round an expression and each `not` takes one.
use Rattle.std.specs.Prelude.{◌≡◌, ℕ, suc, Bool, true, false, List, ◌∷◌}
use Rattle.sy_script.specs.declared.token.Kind.{Kind}
use Rattle.sy_script.specs.declared.token.Kind.TheVariants as k
use Rattle.sy_script.specs.declared.token.Token.{Token}
use Rattle.sy_script.specs.declared.tree.Param.{Param}
use Rattle.sy_script.specs.declared.tree.ExprTree.{ExprTree}
use Rattle.sy_script.specs.declared.tree.Block.{Block}
use Rattle.sy_script.specs.declared.tree.Stmt.{Stmt}
use Rattle.sy_script.specs.declared.tree.Top.{Top}
use Rattle.sy_script.specs.Terms.{max_depth}
use Rattle.sy_script.specs.Grammar.{ParamsAt, ExprAt, UnitAt, StmtAt, BlockAt, TopAt}

-- after whole objects, rulesets and statements
pub data TopPlace (text : List ℕ) (ts : List Token) : List Token → Type 0 where
  start : TopPlace text ts ts
  next : {x : Top} {us rest : List Token} → TopPlace text ts us → TopAt text max_depth x us rest → TopPlace text ts rest

mutual
  pub data StmtPlace (text : List ℕ) (ts : List Token) : ℕ → List Token → Type 0 where
    top : {rest : List Token} → TopPlace text ts rest → StmtPlace text ts max_depth rest
    in_body : {left : ℕ} {rest : List Token} → BodyPlace text ts left rest → StmtPlace text ts left rest
    -- a block without braces
    single : {left : ℕ} {rest : List Token} → BlockPlace text ts (suc left) rest → StmtPlace text ts left rest

  -- after a brace, and the statements that follow it
  pub data BodyPlace (text : List ℕ) (ts : List Token) : ℕ → List Token → Type 0 where
    rules : {w o : Token} {ps : List Param} {us rest : List Token} → TopPlace text ts (w ∷ us) → w.kind ≡ k.Ruleset → ParamsAt text ps us (o ∷ rest) → o.kind ≡ k.LeftBrace → BodyPlace text ts max_depth rest
    braced : {left : ℕ} {o : Token} {rest : List Token} → BlockPlace text ts (suc left) (o ∷ rest) → o.kind ≡ k.LeftBrace → BodyPlace text ts left rest
    next : {left : ℕ} {x : Stmt} {us rest : List Token} → BodyPlace text ts left us → StmtAt text left x us rest → BodyPlace text ts left rest

  -- after `then`, and after `else`
  pub data BlockPlace (text : List ℕ) (ts : List Token) : ℕ → List Token → Type 0 where
    done : {left : ℕ} {i w : Token} {x : ExprTree} {us rest : List Token} → StmtPlace text ts left (i ∷ us) → i.kind ≡ k.If → ExprAt text left x us (w ∷ rest) → w.kind ≡ k.Then → BlockPlace text ts left rest
    otherwise : {left : ℕ} {i w o : Token} {x : ExprTree} {done : Block} {us vs rest : List Token} → StmtPlace text ts left (i ∷ us) → i.kind ≡ k.If → ExprAt text left x us (w ∷ vs) → w.kind ≡ k.Then
        → BlockAt text left done vs (o ∷ rest) → o.kind ≡ k.Else → BlockPlace text ts left rest

-- `or` and `and`
abbrev pub is_joint : Kind → Bool
is_joint k.Or = true
is_joint k.And = true
is_joint _ = false

mutual
  -- after `if`, and after a parenthesis
  pub data ExprPlace (text : List ℕ) (ts : List Token) : ℕ → List Token → Type 0 where
    test : {left : ℕ} {i : Token} {rest : List Token} → StmtPlace text ts left (i ∷ rest) → i.kind ≡ k.If → ExprPlace text ts left rest
    group : {left : ℕ} {o : Token} {rest : List Token} → GroupPlace text ts (suc left) (o ∷ rest) → o.kind ≡ k.LeftParen → ExprPlace text ts left rest

  pub data UnitPlace (text : List ℕ) (ts : List Token) : ℕ → List Token → Type 0 where
    start : {left : ℕ} {rest : List Token} → ExprPlace text ts left rest → UnitPlace text ts left rest
    next : {left : ℕ} {joint : Kind} {rest : List Token} → JointPlace text ts left joint rest → UnitPlace text ts left rest

  -- after `or`s, or after `and`s, that join units
  pub data JointPlace (text : List ℕ) (ts : List Token) : ℕ → Kind → List Token → Type 0 where
    one : {left : ℕ} {joint : Kind} {x : ExprTree} {j : Token} {us rest : List Token} → ExprPlace text ts left us → UnitAt text left x us (j ∷ rest) → j.kind ≡ joint → is_joint joint ≡ true → JointPlace text ts left joint rest
    more : {left : ℕ} {joint : Kind} {x : ExprTree} {j : Token} {us rest : List Token} → JointPlace text ts left joint us → UnitAt text left x us (j ∷ rest) → j.kind ≡ joint → JointPlace text ts left joint rest

  -- where a parenthesis round an expression may stand: as a unit, or after `not`
  pub data GroupPlace (text : List ℕ) (ts : List Token) : ℕ → List Token → Type 0 where
    unit : {left : ℕ} {rest : List Token} → UnitPlace text ts left rest → GroupPlace text ts left rest
    negated : {left : ℕ} {n : Token} {rest : List Token} → UnitPlace text ts (suc left) (n ∷ rest) → n.kind ≡ k.Not → GroupPlace text ts left rest
