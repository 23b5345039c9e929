-- A token that may not stand where it stands: no script begins with the tokens up to it.
use Rattle.std.specs.Prelude.{◌≡◌, ℕ, List, ◌∷◌, ◌++◌}
use Rattle.sy_script.specs.declared.token.Token.{Token}
use Rattle.sy_script.specs.declared.halt.Halt.{Halt}
use Rattle.sy_script.specs.declared.halt.Halt.TheVariants as halt
use Rattle.sy_script.specs.declared.tree.Top.{Top}
use Rattle.sy_script.specs.Terms.{max_depth}
use Rattle.sy_script.specs.Grammar.{TopsAt}

-- the token at which reading stops
abbrev pub StopsAt : Halt → Token → Type 0
StopsAt halt.Memory t = ⊥
StopsAt (halt.Unexpected span) t = t.span ≡ span
StopsAt (halt.LeftOut span) t = t.span ≡ span
StopsAt (halt.TooDeep span) t = t.span ≡ span
StopsAt (halt.End opened) t = ⊥

-- reading stops at a token, and not at the end
abbrev pub AtToken : Halt → Type 0
AtToken halt.Memory = ⊥
AtToken (halt.Unexpected span) = Unit {0}
AtToken (halt.LeftOut span) = Unit {0}
AtToken (halt.TooDeep span) = Unit {0}
AtToken (halt.End opened) = ⊥

-- one of the tokens is where reading stops, and whatever comes after it, no tree has the tokens up to it
pub record IsDeadEnd (text : List ℕ) (ts : List Token) (h : Halt) : Type 0 where
  pub front : List Token
  pub t : Token
  pub rest : List Token
  pub is_ts : ts ≡ front ++ t ∷ rest
  pub stops : StopsAt h t
  pub none : (tree : List Top) (more : List Token) → TopsAt text max_depth tree (front ++ t ∷ more) → ⊥
