use Rattle.std.proofs.Common.{◌≡◌, [], ◌++◌, map, subst}
use Rattle.std.proofs.lemmas.Result.{err_from_is_err_and}
use Rattle.sy_rules.specs.Faults.{IsAnswered}
use Rattle.sy_rules.specs.items.ItemViews.{item, placed}
use Rattle.sy_rules.specs.internal.Loading.{faults_of_its_lists}
use Rattle.sy_rules.specs.items.Outline.{items, placed_items}
use Rattle.sy_rules.specs.check.ScriptFaults.{faults_in_text, too_many_workers}
use Rattle.sy_rules.specs.internal.Checking.{faults_after}
use Rattle.sy_rules.proofs.lemmas.check.ItemsThere.{clean_in_text}
use Rattle.sy_rules.proofs.lemmas.parameters.Fits.{no_front}
use Rattle.sy_rules.proofs.lemmas.plan.Loads.{answered_front}
use Rattle.sy_rules.proofs.plan.load_items.Goals as goal

pub assemble-requires-clause-clean : goal.assemble-requires-clause-clean
assemble-requires-clause-clean c =
    let all = map item c.args.found.now in
    let none = no_front (faults_in_text all [] (map placed c.args.found.now)) (too_many_workers all) c.in_ok-check_script.ensures.ok in
    subst (λ xs. faults_after xs [] xs ≡ []) c.requires.items (clean_in_text c.args.found.now none)

pub returns-in_err-check_script-clause-err : goal.returns-in_err-check_script-clause-err
returns-in_err-check_script-clause-err c =
    let p = err_from_is_err_and c.from_residual.result c.from_residual.ensures.1 in
    let all = items c.args.script.now in
    let ps = placed_items c.args.script.now in
    let f = c.in_err-check_script.field-0.0 in
    let own = subst (λ x. IsAnswered (faults_in_text x [] (map placed c.args.found.now) ++ too_many_workers x) f) c.requires.items c.in_err-check_script.ensures.err in
    let found = subst (λ xs. IsAnswered (faults_in_text all [] xs ++ too_many_workers all) f) c.requires.placed own in
    rw (p.1, p.2) (answered_front (faults_in_text all [] ps) (too_many_workers all) (faults_of_its_lists c.args.script.now) _ found)
