-- The tables of actions with a queue, by the lines that they stand for: each runs its action alone.
use Rattle.std.proofs.Common.{◌≡◌, ℕ, ◌+◌, Bool, true, false, if◌then◌else◌, List, [], ◌∷◌, ◌++◌, length, drop, is_some, sym, ap, subst, ◌∙◌, arith}
use Rattle.std.proofs.lemmas.List.{drop-map}
use Rattle.std.proofs.Math.Seq.{drop-append_seam}
use Rattle.std.specs.List.{AllByRecursion}
use Rattle.sy_script.specs.declared.tree.Script.{Script}
use Rattle.sy_select.specs.declared.condition.Test.{Test}
use Rattle.sy_select.specs.Truth.{Formula}
use Rattle.sy_rules.specs.declared.parameters.objects.ActionParameters.{ActionParameters}
use Rattle.sy_rules.specs.declared.lists.statement.Statement.{Statement}
use Rattle.sy_rules.specs.declared.lists.statement.Statement.TheVariants as statement
use Rattle.sy_rules.specs.lists.Lines.{Lines, inside, outside, singles}
use Rattle.sy_rules.specs.internal.Numbering.{AreSingles}
use Rattle.sy_rules.specs.items.Outline.{items}
use Rattle.sy_rules.specs.parts.Plans.{rulesets_of}
use Rattle.sy_rules.specs.PlanValue.{file_of, lines_of}
use Rattle.sy_rules.specs.internal.Tables.{lines_of_table, lines_of_tables}
use Rattle.sy_rules.specs.lists.Texts.{parts}
use Rattle.sy_rules.proofs.lemmas.items.RulesetItems.{as_many_rulesets}

-- lines that run one action and no more
abbrev RunsOne : Lines → Type 0
RunsOne (Lines.Run a Lines.End) = Unit {0}
RunsOne _ = ⊥

if_one : (b : Bool) (number : ℕ) (rest : List Lines) → AllByRecursion RunsOne rest → AllByRecursion RunsOne (if b then Lines.Run number Lines.End ∷ rest else rest)
if_one true number rest p = (tt, p)
if_one false number rest p = p

singles_run_one : (number : ℕ) (actions : List ActionParameters) → AllByRecursion RunsOne (singles number actions)
singles_run_one number [] = tt
singles_run_one number (a ∷ later) = if_one (is_some a.queue) number (singles (number + 1) later) (singles_run_one (number + 1) later)

are_singles : (tests : List (Formula Test)) (tables : List (List Statement)) → AllByRecursion RunsOne (lines_of_tables tests tables) → AreSingles tables
are_singles tests [] p = tt
are_singles tests ((statement.Run a n ∷ []) ∷ tables) p = (tt, are_singles tests tables p.1)
are_singles tests ([] ∷ tables) p = absurd p.0
are_singles tests ((statement.Run a n ∷ statement.Run b m ∷ rest) ∷ tables) p = absurd p.0
are_singles tests ((statement.Run a n ∷ statement.Post b m ∷ rest) ∷ tables) p = absurd p.0
are_singles tests ((statement.Run a n ∷ statement.Call b m ∷ rest) ∷ tables) p = absurd p.0
are_singles tests ((statement.Run a n ∷ statement.Stop ∷ rest) ∷ tables) p = absurd p.0
are_singles tests ((statement.Run a n ∷ statement.If t d o ∷ rest) ∷ tables) p = absurd p.0
are_singles tests ((statement.Post a n ∷ rest) ∷ tables) p = absurd p.0
are_singles tests ((statement.Call a n ∷ rest) ∷ tables) p = absurd p.0
are_singles tests ((statement.Stop ∷ rest) ∷ tables) p = absurd p.0
are_singles tests ((statement.If t d o ∷ rest) ∷ tables) p = absurd p.0

-- after the tables of rulesets stand those of single actions
pub singles_behind : (script : Script) (tables : List (List Statement)) (n : ℕ) → n ≡ 1 + length (rulesets_of (items script)) → lines_of_tables [] tables ≡ lines_of script [] → AreSingles (drop n tables)
singles_behind script tables n e is =
    let file = file_of (items script) [] in
    let front = outside file 0 0 (parts script.tops) ∷ inside file 0 0 (parts script.tops) in
    let rear = singles 0 file.actions in
    let same : n ≡ length front = omega (arith, e, as_many_rulesets file 0 0 script.tops) in
    let behind : lines_of_tables [] (drop n tables) ≡ rear =
    sym (drop-map (lines_of_table []) n tables) ∙ (ap (drop n) is ∙ (ap (λ k. drop k (front ++ rear)) same ∙ drop-append_seam front rear)) in
    are_singles [] (drop n tables) (subst (AllByRecursion RunsOne) (sym behind) (singles_run_one 0 file.actions))
