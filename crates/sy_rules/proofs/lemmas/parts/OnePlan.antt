-- A script has one plan.
use Rattle.std.proofs.Common.{◌≡◌, List, [], ◌∷◌, refl, sym, ap, ◌∙◌}
use Rattle.std.specs.List.{filter_map}
use Rattle.sy_script.specs.declared.tree.ExprTree.{ExprTree}
use Rattle.sy_script.specs.declared.tree.Script.{Script}
use Rattle.sy_select.specs.declared.condition.Test.{Test}
use Rattle.sy_select.specs.Trees.{written}
use Rattle.sy_select.specs.Truth.{Formula}
use Rattle.sy_select.proofs.OneExpr.{one_meaning}
use Rattle.sy_rules.specs.items.Outline.{items}
use Rattle.sy_rules.specs.PlanValue.{AreExprs, HasParts, IsPlan, Plan, lines_of, listed_from, test_of_item}
use Rattle.sy_rules.specs.parts.Plans.{list_queues}
use Rattle.sy_rules.proofs.lemmas.check.FaultLaws.{listed_parts}

pub one_list : (trees : List ExprTree) (xs ys : List (Formula Test)) → AreExprs trees xs → AreExprs trees ys → xs ≡ ys
one_list [] [] [] a b = refl
one_list [] (x ∷ xs) ys a b = absurd a
one_list [] [] (y ∷ ys) a b = absurd b
one_list (t ∷ trees) [] ys a b = absurd a
one_list (t ∷ trees) (x ∷ xs) [] a b = absurd b
one_list (t ∷ trees) (x ∷ xs) (y ∷ ys) a b = ap (λ z. z ∷ xs) (one_meaning (written t) x y a.0 b.0) ∙ ap (λ zs. y ∷ zs) (one_list trees xs ys a.1 b.1)

same_lists : (script : Script) (p q : Plan) (a : HasParts script p) (b : HasParts script q) → p.lists ≡ q.lists
same_lists script p q a b =
    a.lists
    ∙ ap (λ ts. listed_from (lines_of script ts) 0 (list_queues (items script))) (one_list (filter_map test_of_item (items script)) a.tests b.tests a.are_tests b.are_tests)
    ∙ sym b.lists

same_parts : (script : Script) (p q : Plan) → HasParts script p → HasParts script q → p ≡ q
same_parts script p q a b =
    ap (λ x. record p { inputs = x }) (a.inputs ∙ sym b.inputs)
    ∙ ap (λ x. record p { inputs = q.inputs; queues = x }) (a.queues ∙ sym b.queues)
    ∙ ap (λ x. record p { inputs = q.inputs; queues = q.queues; workers = x }) (a.workers ∙ sym b.workers)
    ∙ ap (λ x. record p { inputs = q.inputs; queues = q.queues; workers = q.workers; actions = x }) (a.actions ∙ sym b.actions)
    ∙ ap (λ x. record p { inputs = q.inputs; queues = q.queues; workers = q.workers; actions = q.actions; lists = x }) (same_lists script p q a b)
    ∙ ap (λ x. record p { inputs = q.inputs; queues = q.queues; workers = q.workers; actions = q.actions; lists = q.lists; rulesets = x }) (a.rulesets ∙ sym b.rulesets)
    ∙ ap (λ x. record p { inputs = q.inputs; queues = q.queues; workers = q.workers; actions = q.actions; lists = q.lists; rulesets = q.rulesets; names = x }) (a.names ∙ sym b.names)

pub one_plan : (script : Script) (p q : Plan) → IsPlan script p → IsPlan script q → p ≡ q
one_plan script p q a b = same_parts script p q (listed_parts script p a) (listed_parts script q b)
