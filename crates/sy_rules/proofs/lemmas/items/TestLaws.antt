-- The tests, actions and calls of the parts of a file are those of its items, in their order.
use Rattle.std.proofs.Common.{◌≡◌, ◌++◌, ℕ, List, [], ◌∷◌, Option, Some, None, filter_map, map, length, refl, sym, ap, ◌∙◌, subst, append_assoc, append-nil, arith}
use Rattle.std.proofs.lemmas.List.{map-append}
use Rattle.std.proofs.lemmas.List.Elements.{filter_map-append}
use Rattle.sy_script.specs.declared.tree.ExprTree.{ExprTree}
use Rattle.sy_script.specs.declared.tree.Block.{Block, roll-Block, map-Block}
use Rattle.sy_script.specs.declared.tree.Block.TheOpen.{Block-F, Stmt-F}
use Rattle.sy_script.specs.declared.tree.Block.TheFolds.{ind-Stmt, fold-roll-Block, fold-roll-Stmt}
use Rattle.sy_script.specs.declared.tree.Param.{Param}
use Rattle.sy_script.specs.declared.tree.Stmt.{Stmt, roll-Stmt, map-Stmt}
use Rattle.sy_script.specs.declared.tree.Top.{Top}
use Rattle.sy_script.specs.declared.tree.Top.TheVariants as top
use Rattle.sy_rules.specs.declared.parameters.objects.RulesetParameters.{RulesetParameters}
use Rattle.sy_rules.specs.items.Outline as outline
use Rattle.sy_rules.specs.items.Outline.{Item, Placed, joined, placed, placed_in_stmt, placed_in_body, placed_in_tops, items_of, items_of_tops}
use Rattle.sy_rules.specs.internal.Outline.{placed_in_block}
use Rattle.sy_rules.specs.internal.Texts.{front_of_block}
use Rattle.sy_rules.specs.Faults.{nowhere}
use Rattle.sy_rules.specs.items.Expressions.{trees_of}
use Rattle.sy_rules.specs.items.PartItems.{actions_of_parts, calls, calls_of_parts, name_of_call, names_of_calls, params_of, params_of_item, rulesets_in, tests_of_parts}
use Rattle.sy_rules.specs.parts.Plans.{ruleset_at, rulesets_of}
use Rattle.sy_rules.specs.PlanValue.{test_of_item}
use Rattle.sy_rules.specs.lists.Texts as text
use Rattle.sy_rules.specs.lists.Texts.{Text, Front, Part, together, tests, actions, front_of_stmt, front_of_body, part_of, parts}

-- what these items have

abbrev trees_in : List Placed → List ExprTree
trees_in xs = trees_of (items_of xs)

abbrev params_in : List Placed → List (List Param)
params_in xs = params_of (items_of xs)

abbrev calls_in : List Placed → List (List ℕ)
calls_in xs = names_of_calls (items_of xs)

abbrev heads_in : List Placed → List RulesetParameters
heads_in xs = rulesets_of (items_of xs)

-- what is put before a text has the tests, actions and calls of these items, in their order
pub record Agrees (f : Front) (xs : List Placed) : Type 0 where
  pub tests : (rest : Text) → tests (f rest) ≡ trees_in xs ++ tests rest
  pub actions : (rest : Text) → actions (f rest) ≡ params_in xs ++ actions rest
  pub calls : (rest : Text) → calls (f rest) ≡ calls_in xs ++ calls rest
  -- none of them is the head of a ruleset
  pub heads : heads_in xs ≡ []

agrees_as : (f g : Front) (xs ys : List Placed) → f ≡ g → xs ≡ ys → Agrees g ys → Agrees f xs
agrees_as f g xs ys e h a = rw (e, h) a

-- ---- one after another

made-append : {B : Type 0} (h : Item → Option B) (xs ys : List Placed) → filter_map h (items_of (xs ++ ys)) ≡ filter_map h (items_of xs) ++ filter_map h (items_of ys)
made-append h xs ys = ap (filter_map h) (map-append (λ (x : Placed). x.item) xs ys) ∙ filter_map-append h (items_of xs) (items_of ys)

trees-append : (xs ys : List Placed) → trees_in (xs ++ ys) ≡ trees_in xs ++ trees_in ys
trees-append xs ys = made-append test_of_item xs ys

params-append : (xs ys : List Placed) → params_in (xs ++ ys) ≡ params_in xs ++ params_in ys
params-append xs ys = made-append params_of_item xs ys

calls-append : (xs ys : List Placed) → calls_in (xs ++ ys) ≡ calls_in xs ++ calls_in ys
calls-append xs ys = made-append name_of_call xs ys

heads-append : (xs ys : List Placed) → heads_in (xs ++ ys) ≡ heads_in xs ++ heads_in ys
heads-append xs ys = made-append ruleset_at xs ys

nothing_agrees : Agrees (λ rest. rest) []
nothing_agrees = record { tests = λ rest. refl; actions = λ rest. refl; calls = λ rest. refl; heads = refl }

both_agree : (f g : Front) (xs ys : List Placed) → Agrees f xs → Agrees g ys → Agrees (λ rest. f (g rest)) (xs ++ ys)
both_agree f g xs ys a b = record {
  tests = λ rest. a.tests (g rest) ∙ rw (b.tests rest, trees-append xs ys) (sym (append_assoc (trees_in xs) (trees_in ys) (tests rest)));
  actions = λ rest. a.actions (g rest) ∙ rw (b.actions rest, params-append xs ys) (sym (append_assoc (params_in xs) (params_in ys) (actions rest)));
  calls = λ rest. a.calls (g rest) ∙ rw (b.calls rest, calls-append xs ys) (sym (append_assoc (calls_in xs) (calls_in ys) (calls rest)));
  heads = rw (heads-append xs ys, a.heads, b.heads) refl;
}

if_agrees : (x : ExprTree) (done otherwise : Front) (xs ys : List Placed) → Agrees done xs → Agrees otherwise ys → Agrees (λ rest. Text.If x (done Text.End) (otherwise Text.End) rest) (placed nowhere (Item.Test x) ∷ (xs ++ ys))
if_agrees x done otherwise xs ys a b = record {
  tests = λ rest. rw (a.tests Text.End, b.tests Text.End, append-nil (trees_in xs), append-nil (trees_in ys), trees-append xs ys, append_assoc (trees_in xs) (trees_in ys) (tests rest)) refl;
  actions = λ rest. rw (a.actions Text.End, b.actions Text.End, append-nil (params_in xs), append-nil (params_in ys), params-append xs ys, append_assoc (params_in xs) (params_in ys) (actions rest)) refl;
  calls = λ rest. rw (a.calls Text.End, b.calls Text.End, append-nil (calls_in xs), append-nil (calls_in ys), calls-append xs ys, append_assoc (calls_in xs) (calls_in ys) (calls rest)) refl;
  heads = rw (heads-append xs ys, a.heads, b.heads) refl;
}

-- ---- statements and blocks

abbrev BlockAgrees : Block → Type 0
BlockAgrees x = Agrees (front_of_block x) (placed_in_block x)

abbrev StmtAgrees : Stmt → Type 0
StmtAgrees x = Agrees (front_of_stmt x) (placed_in_stmt x)

abbrev Known : Type 0
Known = (s : Stmt) × StmtAgrees s

abbrev KnownBlock : Type 0
KnownBlock = (b : Block) × BlockAgrees b

known_body : (xs : List Known) → Agrees (together (map front_of_stmt (map (λ e. e.0) xs))) (joined (map placed_in_stmt (map (λ e. e.0) xs)))
known_body [] = nothing_agrees
known_body (x ∷ xs) = both_agree (front_of_stmt x.0) (together (map front_of_stmt (map (λ e. e.0) xs))) (placed_in_stmt x.0) (joined (map placed_in_stmt (map (λ e. e.0) xs))) x.1 (known_body xs)

block_agrees : (y : Block-F KnownBlock Known) → BlockAgrees (roll-Block (map-Block KnownBlock Known Block Stmt (λ e. e.0) (λ e. e.0) y))
block_agrees (Block-F.Single x) =
    agrees_as _ (front_of_stmt x.0) _ (placed_in_stmt x.0)
    (fold-roll-Block Front Front text.block_step text.stmt_step (Block-F.Single x.0))
    (fold-roll-Block (List Placed) (List Placed) outline.block_step outline.stmt_step (Block-F.Single x.0)) x.1
block_agrees (Block-F.Braced xs) =
    agrees_as _ (together (map front_of_stmt (map (λ e. e.0) xs))) _ (joined (map placed_in_stmt (map (λ e. e.0) xs)))
    (fold-roll-Block Front Front text.block_step text.stmt_step (Block-F.Braced (map (λ e. e.0) xs)))
    (fold-roll-Block (List Placed) (List Placed) outline.block_step outline.stmt_step (Block-F.Braced (map (λ e. e.0) xs))) (known_body xs)

stmt_agrees : (y : Stmt-F KnownBlock Known) → StmtAgrees (roll-Stmt (map-Stmt KnownBlock Known Block Stmt (λ e. e.0) (λ e. e.0) y))
stmt_agrees (Stmt-F.Action span ps) =
    agrees_as _ (Text.Action ps) _ (placed span (Item.Action ps) ∷ [])
    (fold-roll-Stmt Front Front text.block_step text.stmt_step (Stmt-F.Action span ps))
    (fold-roll-Stmt (List Placed) (List Placed) outline.block_step outline.stmt_step (Stmt-F.Action span ps))
    (record { tests = λ rest. refl; actions = λ rest. refl; calls = λ rest. refl; heads = refl })
stmt_agrees (Stmt-F.Call name) =
    agrees_as _ (Text.Call name.text) _ (placed name.span (Item.Call name.text) ∷ [])
    (fold-roll-Stmt Front Front text.block_step text.stmt_step (Stmt-F.Call name))
    (fold-roll-Stmt (List Placed) (List Placed) outline.block_step outline.stmt_step (Stmt-F.Call name))
    (record { tests = λ rest. refl; actions = λ rest. refl; calls = λ rest. refl; heads = refl })
stmt_agrees (Stmt-F.Stop span) =
    agrees_as _ Text.Stop _ []
    (fold-roll-Stmt Front Front text.block_step text.stmt_step (Stmt-F.Stop span))
    (fold-roll-Stmt (List Placed) (List Placed) outline.block_step outline.stmt_step (Stmt-F.Stop span))
    (record { tests = λ rest. refl; actions = λ rest. refl; calls = λ rest. refl; heads = refl })
stmt_agrees (Stmt-F.If x done None) =
    agrees_as _ (λ rest. Text.If x (front_of_block done.0 Text.End) Text.End rest) _ (placed nowhere (Item.Test x) ∷ (placed_in_block done.0 ++ []))
    (fold-roll-Stmt Front Front text.block_step text.stmt_step (Stmt-F.If x done.0 None))
    (fold-roll-Stmt (List Placed) (List Placed) outline.block_step outline.stmt_step (Stmt-F.If x done.0 None) ∙ ap (λ xs. placed nowhere (Item.Test x) ∷ xs) (sym (append-nil (placed_in_block done.0))))
    (if_agrees x (front_of_block done.0) (λ rest. rest) (placed_in_block done.0) [] done.1 nothing_agrees)
stmt_agrees (Stmt-F.If x done (Some otherwise)) =
    agrees_as _ (λ rest. Text.If x (front_of_block done.0 Text.End) (front_of_block otherwise.0 Text.End) rest) _ (placed nowhere (Item.Test x) ∷ (placed_in_block done.0 ++ placed_in_block otherwise.0))
    (fold-roll-Stmt Front Front text.block_step text.stmt_step (Stmt-F.If x done.0 (Some otherwise.0)))
    (fold-roll-Stmt (List Placed) (List Placed) outline.block_step outline.stmt_step (Stmt-F.If x done.0 (Some otherwise.0)))
    (if_agrees x (front_of_block done.0) (front_of_block otherwise.0) (placed_in_block done.0) (placed_in_block otherwise.0) done.1 otherwise.1)

each_agrees : (x : Stmt) → StmtAgrees x
each_agrees = ind-Stmt BlockAgrees StmtAgrees
    (λ x y is. let P : Block-F Block Stmt → Type 0 = λ z. BlockAgrees (roll-Block z) in subst P is (block_agrees y))
    (λ x y is. let P : Stmt-F Block Stmt → Type 0 = λ z. StmtAgrees (roll-Stmt z) in subst P is (stmt_agrees y))

body_agrees : (xs : List Stmt) → Agrees (front_of_body xs) (placed_in_body xs)
body_agrees [] = nothing_agrees
body_agrees (x ∷ xs) = both_agree (front_of_stmt x) (front_of_body xs) (placed_in_stmt x) (placed_in_body xs) (each_agrees x) (body_agrees xs)

-- ---- files

pub tests_of_tops : (tops : List Top) → tests_of_parts (parts tops) ≡ trees_of (items_of_tops tops)
tests_of_tops [] = refl
tests_of_tops (top.Object found ∷ later) = tests_of_tops later
tests_of_tops (top.Ruleset found ∷ later) =
    rw ((body_agrees found.body).tests Text.End, append-nil (trees_in (placed_in_body found.body)), tests_of_tops later) (sym (trees-append (placed_in_body found.body) (placed_in_tops later)))
tests_of_tops (top.Stmt found ∷ later) =
    rw ((each_agrees found).tests Text.End, append-nil (trees_in (placed_in_stmt found)), tests_of_tops later) (sym (trees-append (placed_in_stmt found) (placed_in_tops later)))

pub actions_of_tops : (tops : List Top) → actions_of_parts (parts tops) ≡ params_of (items_of_tops tops)
actions_of_tops [] = refl
actions_of_tops (top.Object found ∷ later) = actions_of_tops later
actions_of_tops (top.Ruleset found ∷ later) =
    rw ((body_agrees found.body).actions Text.End, append-nil (params_in (placed_in_body found.body)), actions_of_tops later) (sym (params-append (placed_in_body found.body) (placed_in_tops later)))
actions_of_tops (top.Stmt found ∷ later) =
    rw ((each_agrees found).actions Text.End, append-nil (params_in (placed_in_stmt found)), actions_of_tops later) (sym (params-append (placed_in_stmt found) (placed_in_tops later)))

pub calls_of_tops : (tops : List Top) → calls_of_parts (parts tops) ≡ names_of_calls (items_of_tops tops)
calls_of_tops [] = refl
calls_of_tops (top.Object found ∷ later) = calls_of_tops later
calls_of_tops (top.Ruleset found ∷ later) =
    rw ((body_agrees found.body).calls Text.End, append-nil (calls_in (placed_in_body found.body)), calls_of_tops later) (sym (calls-append (placed_in_body found.body) (placed_in_tops later)))
calls_of_tops (top.Stmt found ∷ later) =
    rw ((each_agrees found).calls Text.End, append-nil (calls_in (placed_in_stmt found)), calls_of_tops later) (sym (calls-append (placed_in_stmt found) (placed_in_tops later)))

-- A file's parts are of as many rulesets as its items.
pub rulesets_of_tops : (tops : List Top) → rulesets_in (parts tops) ≡ length (rulesets_of (items_of_tops tops))
rulesets_of_tops [] = refl
rulesets_of_tops (top.Object found ∷ later) = rulesets_of_tops later
rulesets_of_tops (top.Ruleset found ∷ later) =
    rw (heads-append (placed_in_body found.body) (placed_in_tops later), (body_agrees found.body).heads) (omega (arith, rulesets_of_tops later))
rulesets_of_tops (top.Stmt found ∷ later) = rw (heads-append (placed_in_stmt found) (placed_in_tops later), (each_agrees found).heads) (rulesets_of_tops later)
