use Rattle.std.proofs.Common.{◌≡◌, ◌≤◌, length, sum_by, take, drop, rules, if◌then◌else◌, refl, sym, ap, ◌∙◌}
use Rattle.sy_select.specs.Properties.{says}
use Rattle.sy_rules.specs.internal.TableWalk as spec
use Rattle.sy_rules.proofs.lemmas.lists.TableLaws.{falls_by_depth, finish, first_and_rest, more, no_rest, run_met, table_length}
use Rattle.sy_rules.proofs.lists.walk.Walker.+walk.Goals as goal
use Rattle.sy_rules.proofs.lists.walk.Walker.+walk.Goals.{statement-then-meets, statement-else-meets}

pub list-statements-requires : goal.list-statements-requires
list-statements-requires t c =
    let short = table_length c.args.self.tables.now c.args.list in
    let long : length c.table_at.result.now ≤ sum_by length c.args.self.tables.now = rw c.table_at.ensures short in
    let falls = falls_by_depth c.args.depth (sum_by length c.args.self.tables.now) (length c.table_at.result.now) c.if-depth-eq0.false long in
    search (rules, falls)

pub statement-returns-after-meets-clause-reached : goal.statement-returns-after-meets-clause-reached
statement-returns-after-meets-clause-reached t c =
    let met = spec.meets (says c.args.self.message.now) c.args.self.tests.now in
    let block : (if met c.in-If.test then take c.in-If.done c.args.after.now else take c.in-If.otherwise (drop c.in-If.done c.args.after.now)) ≡ c.if-meets.block.now =
    elim c.if-meets.branch [
      | statement-then-meets w ↦ rw (← c.meets.ensures, w.if-meets.true, w.block-is, c.split.ensures.front) refl
      | statement-else-meets w ↦ rw (← c.meets.ensures, w.if-meets.false, w.block-is, c.split-in-If.ensures.front, c.split.ensures.behind) refl
    ] in
    let rest : drop c.in-If.otherwise (drop c.in-If.done c.args.after.now) ≡ c.split-in-If.result.1.now = rw (c.split-in-If.ensures.behind, c.split.ensures.behind) refl in
    rw (c.in-If.is, c.statements.ensures) (run_met met c.args.self.tables.now c.args.depth c.in-If.test c.in-If.done c.in-If.otherwise c.args.after.now c.if-meets.block.now c.split-in-If.result.1.now c.args.base block rest)

pub statements-loop-rest-preserved : goal.statements-loop-rest-preserved
statements-loop-rest-preserved t c =
    let walked = spec.work_of_statements (says c.args.self.message.now) c.args.self.tests.now c.args.self.tables.now c.args.depth in
    let w = walked c.statement.result.1.now c.args.base in
    let whole = walked c.args.statements.now c.args.base in
    let same = more c.loop-rest.reached c.statement.result.0 c.followed_by-reached.result w (walked c.loop-rest.rest.now c.args.base) whole c.followed_by-reached.ensures (sym (ap (λ r. walked r c.args.base) (first_and_rest _ c.loop-rest.rest.now _ c.in-len1-up.len_at_least)) ∙ c.statement.ensures.reached) c.loop-rest.invariant.same in
    search (rules, same)

pub statements-returns : goal.statements-returns
statements-returns t c =
    let walked = spec.work_of_statements (says c.args.self.message.now) c.args.self.tests.now c.args.self.tables.now c.args.depth in
    finish c.loop-rest.reached (walked c.args.statements.now c.args.base)
    (ap (λ r. spec.followed_by c.loop-rest.reached (walked r c.args.base)) (sym (no_rest _ c.loop-rest.rest.now c.in_default.len_below)) ∙ c.loop-rest.invariant.same)
