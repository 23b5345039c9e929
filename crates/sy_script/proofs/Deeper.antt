-- Where more may nest, reading gives the same, but where it was too deep.
use Rattle.std.proofs.Common.{◌≡◌, ◌⊎◌, inl, inr, ◌≤◌, ℕ, zero, suc, Bool, true, false, List, [], ◌∷◌, ◌++◌, length, Option, Some, None, Result, Ok, Err, refl, ap, subst, arith}
use Rattle.std.specs.Prelude.{is_some}
use Rattle.sy_script.specs.declared.token.Kind.{Kind}
use Rattle.sy_script.specs.declared.token.Kind.TheVariants as k
use Rattle.sy_script.specs.declared.token.Token.{Token}
use Rattle.sy_script.specs.declared.halt.Halt.{Halt}
use Rattle.sy_script.specs.declared.halt.Halt.TheVariants as halt
use Rattle.sy_script.specs.declared.tree.Span.{Span}
use Rattle.sy_script.specs.declared.tree.ExprTree.{ExprTree}
use Rattle.sy_script.specs.declared.tree.ObjectKind.{ObjectKind}
use Rattle.sy_script.specs.declared.tree.Block.{Block}
use Rattle.sy_script.specs.declared.tree.Top.{Top}
use Rattle.sy_script.specs.Terms.{object_kind}
use Rattle.sy_script.specs.internal.Reading.{Outcome, Parser, Open, and_then, same_kind, first, expect, behind, turn, items_from, params}
use Rattle.sy_script.specs.internal.ReadingExpr.{Level, unit_by, unit_at, part_behind, chain_from, joined_by, expr_at, negated_by, level, expr}
use Rattle.sy_script.specs.internal.ReadingStmt.{otherwise_by, choice_at, stmt_by, stmt_at, body_at, block_by, block, stmt, body, rules, other_top, top_by, top, tops_then, tops_from, tops}

-- the first is the second, or too deep
abbrev pub Within : {A : Type 0} → Result A Halt → Result A Halt → Type 0
Within p q = ((span : Span) × (p ≡ Err (halt.TooDeep span))) ⊎ (p ≡ q)

same_then : {A B : Type 0} (r : Outcome A) (f g : A → Parser B) → ((x : A) (us : List Token) → Within (f x us) (g x us)) → Within (and_then r f) (and_then r g)
same_then (Ok x) f g each = each x.0 x.1
same_then (Err e) f g each = inr refl

deep_then : {A B : Type 0} (p q : Outcome A) (f g : A → Parser B) → Within p q → ((x : A) (us : List Token) → Within (f x us) (g x us)) → Within (and_then p f) (and_then q g)
deep_then {A} p q f g w each = elim w [
  | inl d ↦ inl (d.0, ap (λ r. and_then r f) d.1)
  | inr is ↦ (let P : Outcome A → Type 0 = λ v. Within (and_then p f) (and_then v g) in subst P is (same_then p f g each))
]

-- ---- expressions

record Deeper (l m : Level) : Type 0 where
  groups : (t : Token) (us : List Token) → Within (l.group t us) (m.group t us)
  negations : (o : Open) (t : Token) (us : List Token) → Within (l.negation o t us) (m.negation o t us)

module _ (bytes : List ℕ) (l m : Level) (deep : Deeper l m) where
  unit_by_deep : (o : Open) (kind : Kind) (t : Token) (us : List Token) → Within (unit_by bytes l o kind t us) (unit_by bytes m o kind t us)
  unit_by_deep o k.LeftParen t us = deep.groups t us
  unit_by_deep o k.Not t us = deep.negations o t us
  unit_by_deep o _ t us = inr refl

  unit_deep : (o : Open) (us : List Token) → Within (unit_at bytes l o us) (unit_at bytes m o us)
  unit_deep o us = same_then (first o us) _ _ (λ t after. unit_by_deep o t.kind t after)

  part_deep : (o : Open) (b : Option (List Token)) (found : List ExprTree) (us : List Token) (f g : ExprTree → Parser (List ExprTree)) → ((x : ExprTree) (us : List Token) → Within (f x us) (g x us)) →
      Within (part_behind b (unit_at bytes l o) found us f) (part_behind b (unit_at bytes m o) found us g)
  part_deep o None found us f g each = inr refl
  part_deep o (Some after) found us f g each = deep_then (unit_at bytes l o after) (unit_at bytes m o after) f g (unit_deep o after) each

  chain_deep : (o : Open) (joint : Kind) (n : ℕ) (found : List ExprTree) (us : List Token) → Within (chain_from joint (unit_at bytes l o) n found us) (chain_from joint (unit_at bytes m o) n found us)
  unfolding chain_from
  chain_deep o joint zero found us = inr refl
  chain_deep o joint (suc n) found us =
      part_deep o (behind joint us) found us (λ x. chain_from joint (unit_at bytes l o) n (found ++ x ∷ [])) (λ x. chain_from joint (unit_at bytes m o) n (found ++ x ∷ [])) (λ x after. chain_deep o joint n (found ++ x ∷ []) after)

  joined_deep : (o : Open) (start : ExprTree) (b c : Bool) (us : List Token) → Within (joined_by bytes l o start b c us) (joined_by bytes m o start b c us)
  joined_deep o start true c us = deep_then _ _ _ _ (chain_deep o k.Or (length us) (start ∷ []) us) (λ x after. inr refl)
  joined_deep o start false true us = deep_then _ _ _ _ (chain_deep o k.And (length us) (start ∷ []) us) (λ x after. inr refl)
  joined_deep o start false false us = inr refl

  expr_deep : (o : Open) (us : List Token) → Within (expr_at bytes l o us) (expr_at bytes m o us)
  expr_deep o us = deep_then _ _ _ _ (unit_deep o us) (λ start after. joined_deep o start (is_some (behind k.Or after)) (is_some (behind k.And after)) after)

  negated_deep : (o : Open) (kind : Kind) (t : Token) (us : List Token) → Within (negated_by bytes l o kind t us) (negated_by bytes m o kind t us)
  negated_deep o k.LeftParen t us = deep.groups t us
  negated_deep o _ t us = inr refl

level_deep : (bytes : List ℕ) (n m : ℕ) → n ≤ m → Deeper (level bytes n) (level bytes m)
unfolding level
level_deep bytes zero m small = record { groups = λ t us. inl (t.span, refl); negations = λ o t us. inl (t.span, refl) }
level_deep bytes (suc n) zero small = absurd (omega arith)
level_deep bytes (suc n) (suc m) small =
    let deep : Deeper (level bytes n) (level bytes m) = level_deep bytes n m (omega arith) in
    record {
      groups = λ t us. deep_then _ _ _ _ (expr_deep bytes (level bytes n) (level bytes m) deep (Some t.span.start) us) (λ x after. inr refl);
      negations = λ o t us. same_then (first o us) _ _ (λ u after. deep_then _ _ _ _ (negated_deep bytes (level bytes n) (level bytes m) deep o u.kind u after) (λ x rest. inr refl));
    }

whole_expr_deep : (bytes : List ℕ) (n m : ℕ) (o : Open) (us : List Token) → n ≤ m → Within (expr bytes n o us) (expr bytes m o us)
unfolding expr
whole_expr_deep bytes n m o us small = expr_deep bytes (level bytes n) (level bytes m) (level_deep bytes n m small) o us

-- ---- statements

turn_deep : {A : Type 0} (b : Option (List Token)) (found : List A) (p q : Outcome (List A)) → Within p q → Within (turn b found p) (turn b found q)
turn_deep (Some after) found p q w = inr refl
turn_deep None found p q w = w

items_deep : {A : Type 0} (close : Kind) (o : Open) (p q : Parser A) → ((us : List Token) → Within (p us) (q us)) → (n : ℕ) (found : List A) (us : List Token) → Within (items_from close o p n found us) (items_from close o q n found us)
unfolding items_from
items_deep close o p q each zero found us = inr refl
items_deep close o p q each (suc n) found us =
    turn_deep (behind close us) found (and_then (p us) (λ x. items_from close o p n (found ++ x ∷ []))) (and_then (q us) (λ x. items_from close o q n (found ++ x ∷ [])))
    (deep_then (p us) (q us) (λ x. items_from close o p n (found ++ x ∷ [])) (λ x. items_from close o q n (found ++ x ∷ [])) (each us) (λ x after. items_deep close o p q each n (found ++ x ∷ []) after))

module _ (bytes : List ℕ) (n m : ℕ) (small : n ≤ m) (deep : (o : Open) (us : List Token) → Within (block bytes n o us) (block bytes m o us)) where
  otherwise_deep : (o : Open) (x : ExprTree) (done : Block) (b : Option (List Token)) (us : List Token) → Within (otherwise_by (block bytes n) o x done b us) (otherwise_by (block bytes m) o x done b us)
  otherwise_deep o x done None us = inr refl
  otherwise_deep o x done (Some after) us = deep_then (block bytes n o after) (block bytes m o after) _ _ (deep o after) (λ y rest. inr refl)

  choice_deep : (o : Open) (us : List Token) → Within (choice_at bytes n (block bytes n) o us) (choice_at bytes m (block bytes m) o us)
  choice_deep o us =
      deep_then (expr bytes n o us) (expr bytes m o us) _ _ (whole_expr_deep bytes n m o us small) (λ x after.
      same_then (expect k.Then o after) _ _ (λ w more.
      deep_then (block bytes n o more) (block bytes m o more) _ _ (deep o more) (λ done rest. otherwise_deep o x done (behind k.Else rest) rest)))

  stmt_by_deep : (o : Open) (kind : Kind) (t : Token) (us : List Token) → Within (stmt_by bytes n (block bytes n) o kind t us) (stmt_by bytes m (block bytes m) o kind t us)
  stmt_by_deep o k.If t us = choice_deep o us
  stmt_by_deep o _ t us = inr refl

  stmt_deep : (o : Open) (us : List Token) → Within (stmt_at bytes n (block bytes n) o us) (stmt_at bytes m (block bytes m) o us)
  stmt_deep o us = same_then (first o us) _ _ (λ t after. stmt_by_deep o t.kind t after)

  body_deep : (o : Open) (us : List Token) → Within (body_at bytes n (block bytes n) o us) (body_at bytes m (block bytes m) o us)
  body_deep o us = items_deep k.RightBrace o (stmt_at bytes n (block bytes n) o) (stmt_at bytes m (block bytes m) o) (stmt_deep o) (length us) [] us

  block_by_deep : (o : Open) (b : Bool) (t : Token) (after us : List Token) → Within (block_by bytes n (block bytes n) o b t after us) (block_by bytes m (block bytes m) o b t after us)
  block_by_deep o true t after us = deep_then _ _ _ _ (body_deep (Some t.span.start) after) (λ x rest. inr refl)
  block_by_deep o false t after us = deep_then _ _ _ _ (stmt_deep o us) (λ x rest. inr refl)

-- where no block may nest deeper
last_deep : (bytes : List ℕ) (m : ℕ) (o : Open) (kind : Kind) (span : Span) (us : List Token) → (let t : Token = record { kind = kind; span = span } in Within (block bytes 0 o (t ∷ us)) (block bytes (suc m) o (t ∷ us)))
unfolding block same_kind
last_deep bytes m o k.LeftBrace span us = inl (span, refl)
last_deep bytes m o k.Action span us = inl (span, refl)
last_deep bytes m o k.Call span us = inl (span, refl)
last_deep bytes m o k.Stop span us = inl (span, refl)
last_deep bytes m o k.If span us = inl (span, refl)
last_deep bytes m o _ span us = inr refl

block_deep : (bytes : List ℕ) (n m : ℕ) → n ≤ m → (o : Open) (us : List Token) → Within (block bytes n o us) (block bytes m o us)
unfolding block
block_deep bytes zero zero small o us = inr refl
block_deep bytes zero (suc m) small o [] = inr refl
block_deep bytes zero (suc m) small o (t ∷ us) = last_deep bytes m o t.kind t.span us
block_deep bytes (suc n) zero small o us = absurd (omega arith)
block_deep bytes (suc n) (suc m) small o us =
    same_then (first o us) _ _ (λ t after. block_by_deep bytes n m (omega arith) (block_deep bytes n m (omega arith)) o (same_kind t.kind k.LeftBrace) t after us)

-- ---- the top of a file

module _ (bytes : List ℕ) (n m : ℕ) (small : n ≤ m) where
  whole_stmt_deep : (o : Open) (us : List Token) → Within (stmt bytes n o us) (stmt bytes m o us)
  unfolding stmt
  whole_stmt_deep o us = stmt_deep bytes n m small (block_deep bytes n m small) o us

  whole_body_deep : (o : Open) (us : List Token) → Within (body bytes n o us) (body bytes m o us)
  unfolding body
  whole_body_deep o us = body_deep bytes n m small (block_deep bytes n m small) o us

  rules_deep : (t : Token) (us : List Token) → Within (rules bytes n t us) (rules bytes m t us)
  unfolding rules
  rules_deep t us =
      same_then (params bytes None us) _ _ (λ ps after.
      same_then (expect k.LeftBrace None after) _ _ (λ o more.
      deep_then (body bytes n (Some o.span.start) more) (body bytes m (Some o.span.start) more) _ _ (whole_body_deep (Some o.span.start) more) (λ x rest. inr refl)))

  other_deep : (b : Bool) (t : Token) (after us : List Token) → Within (other_top bytes n b t after us) (other_top bytes m b t after us)
  other_deep true t after us = deep_then (rules bytes n t after) (rules bytes m t after) _ _ (rules_deep t after) (λ x rest. inr refl)
  other_deep false t after us = deep_then (stmt bytes n None us) (stmt bytes m None us) _ _ (whole_stmt_deep None us) (λ x rest. inr refl)

  top_by_deep : (kind : Option ObjectKind) (t : Token) (after us : List Token) → Within (top_by bytes n kind t after us) (top_by bytes m kind t after us)
  top_by_deep (Some kind) t after us = inr refl
  top_by_deep None t after us = other_deep (same_kind t.kind k.Ruleset) t after us

  top_deep : (us : List Token) → Within (top bytes n us) (top bytes m us)
  unfolding top
  top_deep us = same_then (first None us) _ _ (λ t after. top_by_deep (object_kind t.kind) t after us)

  same_tops : (r : Outcome Top) (f g : Top → List Token → Result (List Top) Halt) → ((x : Top) (us : List Token) → Within (f x us) (g x us)) → Within (tops_then r f) (tops_then r g)
  same_tops (Ok x) f g each = each x.0 x.1
  same_tops (Err e) f g each = inr refl

  deep_tops : (p q : Outcome Top) (f g : Top → List Token → Result (List Top) Halt) → Within p q → ((x : Top) (us : List Token) → Within (f x us) (g x us)) → Within (tops_then p f) (tops_then q g)
  deep_tops p q f g w each = elim w [
    | inl d ↦ inl (d.0, ap (λ r. tops_then r f) d.1)
    | inr is ↦ (let P : Outcome Top → Type 0 = λ v. Within (tops_then p f) (tops_then v g) in subst P is (same_tops p f g each))
  ]

  tops_from_deep : (turns : ℕ) (found : List Top) (us : List Token) → Within (tops_from bytes n turns found us) (tops_from bytes m turns found us)
  unfolding tops_from
  tops_from_deep zero found us = inr refl
  tops_from_deep (suc turns) found [] = inr refl
  tops_from_deep (suc turns) found (t ∷ us) =
      deep_tops (top bytes n (t ∷ us)) (top bytes m (t ∷ us)) (λ x. tops_from bytes n turns (found ++ x ∷ [])) (λ x. tops_from bytes m turns (found ++ x ∷ [])) (top_deep (t ∷ us)) (λ x after. tops_from_deep turns (found ++ x ∷ []) after)

  pub tops_deep : (us : List Token) → Within (tops bytes n us) (tops bytes m us)
  unfolding tops
  tops_deep us = tops_from_deep (length us) [] us
