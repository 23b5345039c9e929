-- Expressions look at no token after the one that they stop at.
use Rattle.std.proofs.Common.{◌≡◌, ◌⊎◌, inl, inr, ◌<◌, ◌≤◌, ℕ, zero, suc, Bool, true, false, cond, List, [], ◌∷◌, ◌++◌, length, Option, Some, None, Ok, Err, refl, sym, ap, ◌∙◌, subst, append_assoc, arith}
use Rattle.std.specs.Prelude.{is_some}
use Rattle.sy_script.specs.declared.token.Kind.{Kind}
use Rattle.sy_script.specs.declared.token.Kind.TheVariants as k
use Rattle.sy_script.specs.declared.token.Token.{Token}
use Rattle.sy_script.specs.declared.halt.Halt.{Halt}
use Rattle.sy_script.specs.declared.halt.Halt.TheVariants as halt
use Rattle.sy_script.specs.declared.tree.Operator.{Operator}
use Rattle.sy_script.specs.declared.tree.ExprTree.{ExprTree}
use Rattle.sy_script.specs.Terms.{operator_of}
use Rattle.sy_script.specs.internal.Reading.{Outcome, Parser, Open, and_then, same_kind, behind}
use Rattle.sy_script.specs.internal.ReadingExpr.{operand_by, operand, compared_by, comparison, prifilt, Level, unit_by, unit_at, part_behind, chain_from, chain_at, joined_by, expr_at, group_at, negated_by, negation_at, level, expr}
use Rattle.sy_script.proofs.DeadEnd.{StopsAt, AtToken}
use Rattle.sy_script.proofs.Takes.{unit_takes}
use Rattle.sy_script.proofs.Sound.{bind_ok, ok_is, behind_ok}
use Rattle.sy_script.proofs.SoundExpr.{unit_ok, level_ok}
use Rattle.sy_script.proofs.ReadBack.{then_reads, behind_reads}
use Rattle.sy_script.proofs.Local.{Alike, alike_front, behind_alike, Local, After, bind_err, local_bind, after_bind, local_pure, after_local, after_refuse, first_then, expect_local, text_local}

operand_after : (bytes : List ℕ) (kind : Kind) (t : Token) → After t (operand_by bytes kind t)
operand_after bytes k.Number t = after_local t _ (local_pure _)
operand_after bytes k.Quoted t = after_local t _ (local_pure _)
operand_after bytes k.SingleQuoted t = after_local t _ (local_pure _)
operand_after bytes _ t = after_refuse t (halt.Unexpected t.span) refl

operand_local : (bytes : List ℕ) (o : Open) → Local (operand bytes o)
unfolding operand
operand_local bytes o = first_then o _ (λ t. operand_after bytes t.kind t)

compared_after : (bytes : List ℕ) (p : Token) (o : Open) (sign : Token) (operator : Option Operator) → After sign (compared_by bytes p o sign operator)
compared_after bytes p o sign None = after_refuse sign (halt.Unexpected sign.span) refl
compared_after bytes p o sign (Some operator) = after_local sign _ (local_bind (operand bytes o) _ (operand_local bytes o) (λ against. local_pure _))

comparison_local : (bytes : List ℕ) (p : Token) (o : Open) → Local (comparison bytes p o)
unfolding comparison
comparison_local bytes p o = first_then o _ (λ sign. compared_after bytes p o sign (operator_of sign.kind))

prifilt_local : (bytes : List ℕ) (o : Open) → Local (prifilt bytes o)
unfolding prifilt
prifilt_local bytes o =
    local_bind _ _ (expect_local k.LeftParen o) (λ p. local_bind _ _ (text_local bytes (Some p.span.start)) (λ s. local_bind _ _ (expect_local k.RightParen (Some p.span.start)) (λ c. local_pure _)))

pub some_alike : (kind : Kind) (ts us : List Token) → Alike ts us → is_some (behind kind us) ≡ is_some (behind kind ts)
unfolding behind
some_alike kind [] [] a = refl
some_alike kind [] (u ∷ us) a = absurd a
some_alike kind (t ∷ ts) [] a = absurd a
some_alike kind (t ∷ ts) (u ∷ us) a = same (same_kind u.kind kind) (same_kind t.kind kind) (ap (λ (t : Token). same_kind t.kind kind) (sym a)) where
  same : (b c : Bool) → b ≡ c → is_some (cond b (Some us) None) ≡ is_some (cond c (Some ts) None)
  same true true h = refl
  same true false h = absurd cc
  same false true h = absurd cc
  same false false h = refl

pub alike_to : (ts front mid more : List Token) → ts ≡ front ++ mid → Alike mid more → Alike ts (front ++ more)
alike_to ts front mid more is same = let Q : List Token → Type 0 = λ v. Alike v (front ++ more) in subst Q (sym is) (alike_front front mid more same)

-- a parser that first looks whether an `or` or an `and` follows
local_peek : {A : Type 0} (body : Bool → Bool → Parser A) → ((b c : Bool) → Local (body b c)) → Local (λ ts. body (is_some (behind k.Or ts)) (is_some (behind k.And ts)) ts)
local_peek {A} body each = record {
  goes = λ ts y rest e.
      let a = (each (is_some (behind k.Or ts)) (is_some (behind k.And ts))).goes ts y rest e in
      record {
        front = a.front;
        is_ts = a.is_ts;
        again = λ more same.
            let us : List Token = a.front ++ more in
            let head : Alike ts us = alike_to ts a.front rest more a.is_ts same in
            ap (λ b. body b (is_some (behind k.And us)) us) (some_alike k.Or ts us head) ∙ (ap (λ c. body (is_some (behind k.Or ts)) c us) (some_alike k.And ts us head) ∙ a.again more same);
      };
  stops = λ ts h hard e.
      let a = (each (is_some (behind k.Or ts)) (is_some (behind k.And ts))).stops ts h hard e in
      record {
        front = a.front;
        t = a.t;
        rest = a.rest;
        is_ts = a.is_ts;
        spot = a.spot;
        again = λ more.
            let us : List Token = a.front ++ a.t ∷ more in
            let head : Alike ts us = alike_to ts a.front (a.t ∷ a.rest) (a.t ∷ more) a.is_ts refl in
            ap (λ b. body b (is_some (behind k.And us)) us) (some_alike k.Or ts us head) ∙ (ap (λ c. body (is_some (behind k.Or ts)) c us) (some_alike k.And ts us head) ∙ a.again more);
      };
}

part_cases : (b : Option (List Token)) (part : Parser ExprTree) (found : List ExprTree) (ts : List Token) (more : ExprTree → Parser (List ExprTree)) (r : Outcome (List ExprTree)) → part_behind b part found ts more ≡ r →
    ((b ≡ None) × (Ok (found, ts) ≡ r)) ⊎ ((after : List Token) × (b ≡ Some after) × (and_then (part after) more ≡ r))
part_cases None part found ts more r h = inl (refl, h)
part_cases (Some after) part found ts more r h = inr (after, refl, h)

module _ (joint : Kind) (part : Parser ExprTree) (l : Local part) (takes : (us : List Token) (x : ExprTree) (mid : List Token) → part us ≡ Ok (x, mid) → length mid < length us) where
  record Go (found : List ExprTree) (ts : List Token) (y : List ExprTree) (rest : List Token) : Type 0 where
    front : List Token
    is_ts : ts ≡ front ++ rest
    again : (more : List Token) (m : ℕ) → length (front ++ more) ≤ m → Alike rest more → chain_from joint part m found (front ++ more) ≡ Ok (y, more)

  record Stop (found : List ExprTree) (ts : List Token) (h : Halt) : Type 0 where
    front : List Token
    t : Token
    rest : List Token
    is_ts : ts ≡ front ++ t ∷ rest
    spot : StopsAt h t
    again : (more : List Token) (m : ℕ) → length (front ++ t ∷ more) ≤ m → chain_from joint part m found (front ++ t ∷ more) ≡ Err h

  none_reads : (m : ℕ) (found : List ExprTree) (ts : List Token) → behind joint ts ≡ None → chain_from joint part m found ts ≡ Ok (found, ts)
  unfolding chain_from
  none_reads zero found ts h = refl
  none_reads (suc m) found ts h = ap (λ b. part_behind b part found ts (λ x. chain_from joint part m (found ++ x ∷ []))) h

  more_reads : (m : ℕ) (found : List ExprTree) (j : Token) (us : List Token) (x : ExprTree) (mid : List Token) (r : Outcome (List ExprTree)) → j.kind ≡ joint → part us ≡ Ok (x, mid) → length mid < length us → length us < m →
      ((m' : ℕ) → length mid ≤ m' → chain_from joint part m' (found ++ x ∷ []) mid ≡ r) → chain_from joint part m found (j ∷ us) ≡ r
  unfolding chain_from
  more_reads zero found j us x mid r is one less small more = absurd (omega arith)
  more_reads (suc m) found j us x mid r is one less small more =
      ap (λ b. part_behind b part found (j ∷ us) (λ x. chain_from joint part m (found ++ x ∷ []))) (behind_reads joint j us is) ∙ then_reads (part us) _ x mid r one (more m (omega arith))

  more_stops : (m : ℕ) (found : List ExprTree) (j : Token) (us : List Token) (h : Halt) → j.kind ≡ joint → part us ≡ Err h → 0 < m → chain_from joint part m found (j ∷ us) ≡ Err h
  unfolding chain_from
  more_stops zero found j us h is one some = absurd (omega arith)
  more_stops (suc m) found j us h is one some =
      ap (λ b. part_behind b part found (j ∷ us) (λ x. chain_from joint part m (found ++ x ∷ []))) (behind_reads joint j us is) ∙ ap (λ r. and_then r (λ x. chain_from joint part m (found ++ x ∷ []))) one

  nothing : (ts : List Token) → length ts ≤ 0 → behind joint ts ≡ None
  unfolding behind
  nothing [] h = refl
  nothing (t ∷ ts) h = absurd (omega arith)

  ended : (found : List ExprTree) (ts : List Token) (y : List ExprTree) (rest : List Token) → behind joint ts ≡ None → (let r : Outcome (List ExprTree) = Ok (found, ts) in r ≡ Ok (y, rest)) → Go found ts y rest
  ended found ts y rest none h =
      let e : (found, ts) ≡ (y, rest) = ok_is h in
      let to : ts ≡ rest = ap (λ (p : List ExprTree × List Token). p.1) e in
      record {
        front = [];
        is_ts = to;
        again = λ more m small same.
            let Q : List Token → Type 0 = λ v. Alike v more in
            none_reads m found more (behind_alike joint ts more (subst Q (sym to) same) none) ∙ ap (λ (p : List ExprTree × List Token). Ok (p.0, more)) e;
      }

  go : (n : ℕ) (found : List ExprTree) (ts : List Token) (y : List ExprTree) (rest : List Token) → length ts ≤ n → chain_from joint part n found ts ≡ Ok (y, rest) → Go found ts y rest
  unfolding chain_from
  go zero found ts y rest small h = ended found ts y rest (nothing ts small) h
  go (suc n) found ts y rest small h = elim (part_cases (behind joint ts) part found ts _ _ h) [
    | inl w ↦ ended found ts y rest w.0 w.1
    | inr w ↦
        let j = behind_ok joint ts w.0 w.1 in
        let s = bind_ok (part w.0) _ (y, rest) w.2 in
        let a = l.goes w.0 s.0.0 s.0.1 s.1 in
        let less : length s.0.1 < length w.0 = takes w.0 s.0.0 s.0.1 s.1 in
        let b = go n (found ++ s.0.0 ∷ []) s.0.1 y rest (omega (arith, ap length j.1, less, small)) s.2 in
        record {
          front = j.0 ∷ (a.front ++ b.front);
          is_ts = j.1 ∙ ap (λ r. j.0 ∷ r) (a.is_ts ∙ (ap (λ r. a.front ++ r) b.is_ts ∙ sym (append_assoc a.front b.front rest)));
          again = λ more m small' same.
              let us : List Token = a.front ++ (b.front ++ more) in
              let head : Alike s.0.1 (b.front ++ more) = alike_to s.0.1 b.front rest more b.is_ts same in
              let one : part us ≡ Ok (s.0.0, b.front ++ more) = a.again (b.front ++ more) head in
              ap (λ ts. chain_from joint part m found (j.0 ∷ ts)) (append_assoc a.front b.front more)
              ∙ more_reads m found j.0 us s.0.0 (b.front ++ more) _ j.2 one (takes us _ _ one) (omega (arith, ap length (append_assoc a.front b.front more), small')) (λ m' small''. b.again more m' small'' same);
        }
  ]

  stop : (n : ℕ) (found : List ExprTree) (ts : List Token) (h : Halt) → AtToken h → chain_from joint part n found ts ≡ Err h → Stop found ts h
  unfolding chain_from
  stop zero found ts h hard e = absurd cc
  stop (suc n) found ts h hard e = elim (part_cases (behind joint ts) part found ts _ _ e) [
    | inl w ↦ absurd (let no : Ok (found, ts) ≡ Err h = w.1 in cc)
    | inr w ↦
        let j = behind_ok joint ts w.0 w.1 in
        elim (bind_err (part w.0) _ h w.2) [
          | inl d ↦
              let a = l.stops w.0 h hard d in
              record {
                front = j.0 ∷ a.front;
                t = a.t;
                rest = a.rest;
                is_ts = j.1 ∙ ap (λ r. j.0 ∷ r) a.is_ts;
                spot = a.spot;
                again = λ more m small. more_stops m found j.0 (a.front ++ a.t ∷ more) h j.2 (a.again more) (omega (arith, small));
              }
          | inr s ↦
              let a = l.goes w.0 s.0.0 s.0.1 s.1 in
              let b = stop n (found ++ s.0.0 ∷ []) s.0.1 h hard s.2 in
              record {
                front = j.0 ∷ (a.front ++ b.front);
                t = b.t;
                rest = b.rest;
                is_ts = j.1 ∙ ap (λ r. j.0 ∷ r) (a.is_ts ∙ (ap (λ r. a.front ++ r) b.is_ts ∙ sym (append_assoc a.front b.front (b.t ∷ b.rest))));
                spot = b.spot;
                again = λ more m small.
                    let us : List Token = a.front ++ (b.front ++ b.t ∷ more) in
                    let head : Alike s.0.1 (b.front ++ b.t ∷ more) = alike_to s.0.1 b.front (b.t ∷ b.rest) (b.t ∷ more) b.is_ts refl in
                    let one : part us ≡ Ok (s.0.0, b.front ++ b.t ∷ more) = a.again (b.front ++ b.t ∷ more) head in
                    ap (λ ts. chain_from joint part m found (j.0 ∷ ts)) (append_assoc a.front b.front (b.t ∷ more))
                    ∙ more_reads m found j.0 us s.0.0 (b.front ++ b.t ∷ more) _ j.2 one (takes us _ _ one) (omega (arith, ap length (append_assoc a.front b.front (b.t ∷ more)), small)) (λ m' small'. b.again more m' small');
              }
        ]
  ]

  chain_local : (start : ExprTree) → Local (λ ts. chain_from joint part (length ts) (start ∷ []) ts)
  chain_local start = record {
    goes = λ ts y rest e. let a = go (length ts) (start ∷ []) ts y rest (omega arith) e in record { front = a.front; is_ts = a.is_ts; again = λ more same. a.again more (length (a.front ++ more)) (omega arith) same };
    stops = λ ts h hard e. let a = stop (length ts) (start ∷ []) ts h hard e in record { front = a.front; t = a.t; rest = a.rest; is_ts = a.is_ts; spot = a.spot; again = λ more. a.again more (length (a.front ++ a.t ∷ more)) (omega arith) };
  }

record Deep (l : Level) : Type 0 where
  groups : (t : Token) → After t (l.group t)
  negations : (o : Open) (t : Token) → After t (l.negation o t)

module _ (bytes : List ℕ) (left : ℕ) (deep : Deep (level bytes left)) where
  unit_after : (o : Open) (kind : Kind) (t : Token) → After t (unit_by bytes (level bytes left) o kind t)
  unit_after o k.LeftParen t = deep.groups t
  unit_after o k.Not t = deep.negations o t
  unit_after o k.Prifilt t = after_local t _ (prifilt_local bytes o)
  unit_after o k.Property t = after_local t _ (comparison_local bytes t o)
  unit_after o _ t = after_refuse t (halt.Unexpected t.span) refl

  unit_local : (o : Open) → Local (unit_at bytes (level bytes left) o)
  unit_local o = first_then o _ (λ t. unit_after o t.kind t)

  unit_less : (o : Open) (us : List Token) (x : ExprTree) (mid : List Token) → unit_at bytes (level bytes left) o us ≡ Ok (x, mid) → length mid < length us
  unit_less o us x mid h = unit_takes (unit_ok bytes left (level bytes left) (level_ok bytes left) o us (x, mid) h)

  joined_local : (o : Open) (start : ExprTree) (b c : Bool) → Local (joined_by bytes (level bytes left) o start b c)
  joined_local o start true c = local_bind (chain_at bytes (level bytes left) o k.Or start) _ (chain_local k.Or (unit_at bytes (level bytes left) o) (unit_local o) (unit_less o) start) (λ parts. local_pure _)
  joined_local o start false true = local_bind (chain_at bytes (level bytes left) o k.And start) _ (chain_local k.And (unit_at bytes (level bytes left) o) (unit_local o) (unit_less o) start) (λ parts. local_pure _)
  joined_local o start false false = local_pure start

  expr_at_local : (o : Open) → Local (expr_at bytes (level bytes left) o)
  expr_at_local o = local_bind (unit_at bytes (level bytes left) o) _ (unit_local o) (λ start. local_peek (joined_by bytes (level bytes left) o start) (joined_local o start))

  group_local : (t : Token) → Local (group_at bytes (level bytes left) t)
  group_local t = local_bind _ _ (expr_at_local (Some t.span.start)) (λ x. local_bind _ _ (expect_local k.RightParen (Some t.span.start)) (λ c. local_pure _))

  negated_after : (o : Open) (kind : Kind) (t : Token) → After t (negated_by bytes (level bytes left) o kind t)
  negated_after o k.LeftParen t = deep.groups t
  negated_after o k.Prifilt t = after_local t _ (prifilt_local bytes o)
  negated_after o _ t = after_refuse t (halt.Unexpected t.span) refl

  negation_local : (o : Open) → Local (negation_at bytes (level bytes left) o)
  negation_local o = first_then o _ (λ t. after_bind _ _ t (negated_after o t.kind t) (λ x. local_pure _))

level_local : (bytes : List ℕ) (left : ℕ) → Deep (level bytes left)
unfolding level
level_local bytes zero = record { groups = λ t. after_refuse t (halt.TooDeep t.span) refl; negations = λ o t. after_refuse t (halt.TooDeep t.span) refl }
level_local bytes (suc left) = record {
  groups = λ t. after_local t _ (group_local bytes left (level_local bytes left) t);
  negations = λ o t. after_local t _ (negation_local bytes left (level_local bytes left) o);
}

pub expr_local : (bytes : List ℕ) (left : ℕ) (o : Open) → Local (expr bytes left o)
unfolding expr
expr_local bytes left o = expr_at_local bytes left (level_local bytes left) o
