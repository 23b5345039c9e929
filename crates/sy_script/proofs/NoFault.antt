-- A script has no fault.
use Rattle.std.proofs.Common.{◌≡◌, ℕ, List, [], ◌∷◌, ◌++◌, Result, Ok, Err, refl, sym, ap, ◌∙◌, subst, append_assoc, arith}
use Rattle.sy_script.specs.declared.token.Token.{Token}
use Rattle.sy_script.specs.declared.halt.Halt.{Halt}
use Rattle.sy_script.specs.declared.halt.Halt.TheVariants as halt
use Rattle.sy_script.specs.declared.fault.FaultCode.{FaultCode}
use Rattle.sy_script.specs.declared.fault.FaultCode.TheVariants as code
use Rattle.sy_script.specs.declared.fault.ScriptFault.{ScriptFault}
use Rattle.sy_script.specs.declared.tree.Top.{Top}
use Rattle.sy_script.specs.declared.tree.Script.{Script}
use Rattle.sy_script.specs.Terms.{max_depth}
use Rattle.sy_script.specs.internal.ReadingStmt.{tops}
use Rattle.sy_script.specs.Grammar as g
use Rattle.sy_script.specs.Brackets.{Balanced}
use Rattle.sy_script.specs.Tokens.{Cut}
use Rattle.sy_script.proofs.DeadEnd.{AtToken}
use Rattle.sy_script.specs.Faults.{IsBadByte, IsUnclosed, IsUnexpected, IsTooDeep, IsLeftOut, IsFault, Stands}
use Rattle.sy_script.proofs.Balance.{balanced_on, top_balanced}
use Rattle.sy_script.proofs.Cuts.{BadAt, OpenAt, one_cutting, cut_front, no_bad, no_open}
use Rattle.sy_script.proofs.Even.{none_open}
use Rattle.sy_script.proofs.ReadBackStmt.{tops_reads}
use Rattle.sy_script.proofs.LocalStmt.{top_stop}
use Rattle.sy_script.proofs.Reaches.{deepens_reads, left_out_reads}

tops_balanced : {text : List ℕ} {left : ℕ} {x : List Top} {ts : List Token} → g.TopsAt text left x ts → Balanced ts []
tops_balanced g.TopsAt.none = Balanced.none
tops_balanced (g.TopsAt.more a b) = balanced_on (top_balanced a) (tops_balanced b)

module _ (text : List ℕ) (script : Script) (is : g.IsScript text script) where
  no_byte : (n : ℕ) → IsBadByte text n → ⊥
  no_byte n (IsBadByte.begins_none c h) = no_bad text n c is.are_tokens (BadAt.begins_none h)
  no_byte n (IsBadByte.no_escape b rest c q h e) = no_bad text n c is.are_tokens (BadAt.no_escape b rest q h e)

  no_unclosed : (n : ℕ) → IsUnclosed text n → ⊥
  no_unclosed n (IsUnclosed.string c q h) = no_open text n c is.are_tokens (OpenAt.string q h)
  no_unclosed n (IsUnclosed.escape c q h) = no_open text n c is.are_tokens (OpenAt.escape q h)
  no_unclosed n (IsUnclosed.comment c h) = no_open text n c is.are_tokens (OpenAt.comment h)
  no_unclosed n (IsUnclosed.bracket {ts = ts} {o = o} are i) =
      let P : List Token → Type 0 = λ v. Balanced v [] in
      none_open ts o (subst P (one_cutting text is.tokens ts is.are_tokens are) (tops_balanced is.tree)) i

  no_unexpected : (n : ℕ) → IsUnexpected text n → ⊥
  no_unexpected n (IsUnexpected.token front rest t c is_ts refused begins none) =
      let m = cut_front text c is.are_tokens in
      let P : List Token → Type 0 = λ v. g.TopsAt text max_depth script.tops v in
      let whole : is.tokens ≡ (front ++ t ∷ []) ++ (rest ++ m.0) = m.1 ∙ (ap (λ v. v ++ m.0) is_ts ∙ (append_assoc front (t ∷ rest) m.0 ∙ sym (append_assoc front (t ∷ []) (rest ++ m.0)))) in
      none (max_depth, script.tops, rest ++ m.0, subst P whole is.tree)
  no_unexpected n (IsUnexpected.end {ts = ts} are refused closed begins none) =
      let P : List Token → Type 0 = λ v. g.TopsAt text max_depth script.tops v in
      none max_depth script.tops (subst P (one_cutting text is.tokens ts is.are_tokens are) is.tree)

  -- what stops reading in a prefix of the text stops it in the whole
  no_halt : (h : Halt) {ts : List Token} {end : ℕ} {left : List ℕ} → AtToken h → Cut 0 text ts end left → tops text max_depth ts ≡ Err h → ⊥
  no_halt h {ts = ts} hard c e =
      let m = cut_front text c is.are_tokens in
      let s = top_stop text ts h hard e in
      let whole : is.tokens ≡ s.front ++ s.t ∷ (s.rest ++ m.0) = m.1 ∙ (ap (λ v. v ++ m.0) s.is_ts ∙ append_assoc s.front (s.t ∷ s.rest) m.0) in
      let stopped : tops text max_depth is.tokens ≡ Err h = ap (tops text max_depth) whole ∙ s.again (s.rest ++ m.0) in
      let no : (let r : Result (List Top) Halt = Ok script.tops in r) ≡ Err h = sym (tops_reads is.tree) ∙ stopped in
      cc

  no_deep : (n : ℕ) → IsTooDeep text n → ⊥
  no_deep n (IsTooDeep.token {ts = ts} {t = t} c d) = no_halt (halt.TooDeep t.span) tt c (deepens_reads text ts t d)

  no_left_out : (n : ℕ) (word : List ℕ) → IsLeftOut text n word → ⊥
  no_left_out n word (IsLeftOut.token {ts = ts} {t = t} c d) = no_halt (halt.LeftOut t.span) tt c (left_out_reads text ts t d)

  by_code : (c : FaultCode) (line column : ℕ) (word : List ℕ) → IsFault text c line column word → c ≡ code.NoMemory
  by_code code.Byte line column word f = absurd (no_byte f.0.0 f.0.1)
  by_code code.Unclosed line column word f = absurd (no_unclosed f.0.0 f.0.1)
  by_code code.Unexpected line column word f = absurd (no_unexpected f.0.0 f.0.1)
  by_code code.TooDeep line column word f = absurd (no_deep f.0.0 f.0.1)
  by_code code.TooLarge line column word f = absurd (omega (arith, f.0.is_large, is.small))
  by_code code.LeftOut line column word f = absurd (no_left_out f.0 word f.1)
  by_code code.NoMemory line column word f = refl

pub no_fault : (text : List ℕ) (script : Script) (f : ScriptFault) → g.IsScript text script → Stands text f → f.code ≡ code.NoMemory
no_fault text script f is stands = by_code text script is f.code f.line f.column f.word stands
