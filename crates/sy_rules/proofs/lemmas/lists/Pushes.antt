-- What is put into a table, and what is left to put.
use Rattle.std.proofs.Common.{◌≡◌, ℕ, ◌+◌, ◌-◌, List, [], ◌∷◌, ◌++◌, length, Option, Some, None, refl, sym, ap, ◌∙◌, append_assoc, append-nil, length-append, set, subst, ◌≤◌, Result, Ok, Err, OnOk, arith}
use Rattle.std.proofs.Math.Seq.{set-append_seam}
use Rattle.sy_script.specs.declared.tree.ExprTree.{ExprTree}
use Rattle.sy_script.specs.declared.tree.Param.{Param}
use Rattle.sy_rules.specs.declared.lists.build.count.Counts.{Counts}
use Rattle.sy_rules.specs.declared.parameters.objects.RulesetParameters.{RulesetParameters}
use Rattle.sy_rules.specs.declared.lists.statement.Statement.{Statement}
use Rattle.sy_rules.specs.declared.lists.statement.Statement.TheVariants as statement
use Rattle.sy_rules.specs.parts.Plans.{names_of, place_of}
use Rattle.sy_rules.specs.lists.Texts.{Text, Front, actions, tests}
use Rattle.sy_rules.specs.internal.TextTables.{action_statement, in_front, call_statement, table_of, IsPush}

-- what was put is the beginning of the whole, and this is what is left of it
pub record IsLeft (rulesets : List RulesetParameters) (statements : List Statement) (whole left : Front) (before after : Counts) (old new : List Statement) : Type 0 where
  pub table : (rest : Text) → new ++ table_of rulesets statements after.actions after.tests (left rest) ≡ old ++ table_of rulesets statements before.actions before.tests (whole rest)
  pub actions : (rest : Text) → after.actions + length (actions (left rest)) ≡ before.actions + length (actions (whole rest))
  pub tests : (rest : Text) → after.tests + length (tests (left rest)) ≡ before.tests + length (tests (whole rest))

pub all_left : (rulesets : List RulesetParameters) (statements : List Statement) (whole : Front) (before : Counts) (old : List Statement) → IsLeft rulesets statements whole whole before before old old
all_left rulesets statements whole before old = record { table = λ rest. refl; actions = λ rest. refl; tests = λ rest. refl }

-- one more is put
pub less_left : (rulesets : List RulesetParameters) (statements : List Statement) (whole left f next : Front) (before between after : Counts) (old middle new : List Statement) → left ≡ (λ rest. f (next rest)) → IsLeft rulesets statements whole left before between old middle → IsPush rulesets statements f between after middle new → IsLeft rulesets statements whole next before after old new
less_left rulesets statements whole left f next before between after old middle new e l p =
    let at : (rest : Text) → left rest ≡ f (next rest) = λ rest. ap (λ (g : Front). g rest) e in
    record {
      table = λ rest. p.table (next rest) ∙ (ap (λ x. middle ++ table_of rulesets statements between.actions between.tests x) (sym (at rest)) ∙ l.table rest);
      actions = λ rest. p.actions (next rest) ∙ (ap (λ x. between.actions + length (actions x)) (sym (at rest)) ∙ l.actions rest);
      tests = λ rest. p.tests (next rest) ∙ (ap (λ x. between.tests + length (tests x)) (sym (at rest)) ∙ l.tests rest);
    }

pub none_left : (rulesets : List RulesetParameters) (statements : List Statement) (whole left : Front) (before after : Counts) (old new : List Statement) → left ≡ (λ rest. rest) → IsLeft rulesets statements whole left before after old new → IsPush rulesets statements whole before after old new
none_left rulesets statements whole left before after old new e l =
    let at : (rest : Text) → left rest ≡ rest = λ rest. ap (λ (g : Front). g rest) e in
    record {
      table = λ rest. ap (λ x. new ++ table_of rulesets statements after.actions after.tests x) (sym (at rest)) ∙ l.table rest;
      actions = λ rest. ap (λ x. after.actions + length (actions x)) (sym (at rest)) ∙ l.actions rest;
      tests = λ rest. ap (λ x. after.tests + length (tests x)) (sym (at rest)) ∙ l.tests rest;
    }

-- ---- single statements

pub action_push : (rulesets : List RulesetParameters) (statements : List Statement) (params : List Param) (before after : Counts) (old new : List Statement) → new ≡ old ++ action_statement statements before.actions ∷ [] → after.actions ≡ before.actions + 1 → after.tests ≡ before.tests → IsPush rulesets statements (Text.Action params) before after old new
action_push rulesets statements params before after old new e a t = record {
  table = λ rest. rw (e, a, t, append_assoc) refl;
  actions = λ rest. rw a (omega arith);
  tests = λ rest. rw t refl;
}

one_in_front : (s : Option Statement) (old rest : List Statement) → (old ++ in_front s []) ++ rest ≡ old ++ in_front s rest
one_in_front None old rest = rw append-nil refl
one_in_front (Some s) old rest = append_assoc old (s ∷ []) rest

pub call_push : (rulesets : List RulesetParameters) (statements : List Statement) (name : List ℕ) (s : Option Statement) (before : Counts) (old new : List Statement) → s ≡ call_statement rulesets (place_of name (names_of rulesets)) → new ≡ old ++ in_front s [] → IsPush rulesets statements (Text.Call name) before before old new
call_push rulesets statements name s before old new is e = record {
  table = λ rest. rw (e, is) (one_in_front (call_statement rulesets (place_of name (names_of rulesets))) old (table_of rulesets statements before.actions before.tests rest));
  actions = λ rest. refl;
  tests = λ rest. refl;
}

pub stop_push : (rulesets : List RulesetParameters) (statements : List Statement) (before : Counts) (old new : List Statement) → new ≡ old ++ statement.Stop ∷ [] → IsPush rulesets statements Text.Stop before before old new
stop_push rulesets statements before old new e = record {
  table = λ rest. rw (e, append_assoc) refl;
  actions = λ rest. refl;
  tests = λ rest. refl;
}

-- ---- an `if`

pub no_otherwise_push : (rulesets : List RulesetParameters) (statements : List Statement) (counts : Counts) (table : List Statement) → IsPush rulesets statements (λ rest. rest) counts counts table table
no_otherwise_push rulesets statements counts table = record { table = λ rest. refl; actions = λ rest. refl; tests = λ rest. refl }

-- the statement of an `if` is set before its blocks
seam : (old done otherwise rest : List Statement) (a b : Statement) → set (((old ++ a ∷ []) ++ done) ++ otherwise) (length old) b ++ rest ≡ old ++ b ∷ (done ++ (otherwise ++ rest))
seam old done otherwise rest a b = rw (append_assoc old (a ∷ []) done, append_assoc old (a ∷ done) otherwise, set-append_seam old a (done ++ otherwise) b) (simp append_assoc)

push_alone : (rulesets : List RulesetParameters) (statements : List Statement) (f : Front) (before after : Counts) (old new : List Statement) → IsPush rulesets statements f before after old new → new ≡ old ++ table_of rulesets statements before.actions before.tests (f Text.End)
push_alone rulesets statements f before after old new p = sym (append-nil new) ∙ p.table Text.End

length_behind : (xs ys zs : List Statement) → zs ≡ xs ++ ys → length zs - length xs ≡ length ys
length_behind xs ys zs e = rw e (omega (arith, length-append xs ys))

length_behind_if : (old done zs : List Statement) (a : Statement) → zs ≡ (old ++ a ∷ []) ++ done → length zs - (length old + 1) ≡ length done
length_behind_if old done zs a e = rw e (omega (arith, length-append (old ++ a ∷ []) done, length-append old (a ∷ [])))

pub if_push :
    (rulesets : List RulesetParameters) (statements : List Statement) (x : ExprTree) (done otherwise : Front) (before between middle after : Counts) (old opened first second new : List Statement) →
    between.actions ≡ before.actions → between.tests ≡ before.tests + 1 → opened ≡ old ++ statement.If before.tests 0 0 ∷ [] →
    IsPush rulesets statements done between middle opened first → IsPush rulesets statements otherwise middle after first second →
    new ≡ set second (length old) (statement.If before.tests (length first - (length old + 1)) (length second - length first)) →
    IsPush rulesets statements (λ rest. Text.If x (done Text.End) (otherwise Text.End) rest) before after old new
if_push rulesets statements x done otherwise before between middle after old opened first second new ba bt is d o e =
    let a1 : middle.actions ≡ before.actions + length (actions (done Text.End)) = omega (arith, d.actions Text.End) in
    let t1 : middle.tests ≡ before.tests + 1 + length (tests (done Text.End)) = omega (arith, d.tests Text.End) in
    let a2 : after.actions ≡ before.actions + length (actions (done Text.End)) + length (actions (otherwise Text.End)) = omega (arith, o.actions Text.End) in
    let t2 : after.tests ≡ before.tests + 1 + length (tests (done Text.End)) + length (tests (otherwise Text.End)) = omega (arith, o.tests Text.End) in
    let td : List Statement = table_of rulesets statements before.actions (before.tests + 1) (done Text.End) in
    let to : List Statement = table_of rulesets statements (before.actions + length (actions (done Text.End))) (before.tests + 1 + length (tests (done Text.End))) (otherwise Text.End) in
    let one : first ≡ (old ++ statement.If before.tests 0 0 ∷ []) ++ td = push_alone rulesets statements done between middle opened first d ∙ rw (is, ba, bt) refl in
    let two : second ≡ first ++ to = push_alone rulesets statements otherwise middle after first second o ∙ rw (a1, t1) refl in
    let head : statement.If before.tests (length first - (length old + 1)) (length second - length first) ≡ statement.If before.tests (length td) (length to) =
    rw (length_behind_if old td first (statement.If before.tests 0 0) one, length_behind first to second two) refl in
    record {
      table = λ rest. rw (e, head, two, one, a2, t2) (seam old td to (table_of rulesets statements (before.actions + length (actions (done Text.End)) + length (actions (otherwise Text.End))) (before.tests + 1 + length (tests (done Text.End)) + length (tests (otherwise Text.End))) rest) (statement.If before.tests 0 0) (statement.If before.tests (length td) (length to)));
      actions = λ rest. omega (arith, a2, length-append (actions (done Text.End)) (actions (otherwise Text.End) ++ actions rest), length-append (actions (otherwise Text.End)) (actions rest));
      tests = λ rest. omega (arith, t2, length-append (tests (done Text.End)) (tests (otherwise Text.End) ++ tests rest), length-append (tests (otherwise Text.End)) (tests rest));
    }

pub same_front : (rulesets : List RulesetParameters) (statements : List Statement) (f g : Front) (before after : Counts) (old new : List Statement) → f ≡ g → IsPush rulesets statements g before after old new → IsPush rulesets statements f before after old new
same_front rulesets statements f g before after old new e p = let P : Front → Type 0 = λ h. IsPush rulesets statements h before after old new in subst P (sym e) p

-- what is put makes the table no shorter
pub longer : (rulesets : List RulesetParameters) (statements : List Statement) (f : Front) (before after : Counts) (old new : List Statement) → IsPush rulesets statements f before after old new → length old ≤ length new
longer rulesets statements f before after old new p = rw (push_alone rulesets statements f before after old new p) (omega (arith, length-append old (table_of rulesets statements before.actions before.tests (f Text.End))))

-- three facts of what a call gave
pub all_three : {E P Q R S : Type 0} (r : Result (Unit {0}) E) → (P → Q → R → S) → OnOk r P → OnOk r Q → OnOk r R → OnOk r S
all_three (Ok x) f p q r = f p q r
all_three (Err e) f p q r = tt

-- the same statement is set at the same place
pub set_by : (table : List Statement) (at at' test test' middle middle' end : ℕ) → at ≡ at' → test ≡ test' → middle ≡ middle' → set table at (statement.If test (middle - (at + 1)) (end - middle)) ≡ set table at' (statement.If test' (middle' - (at' + 1)) (end - middle'))
set_by table at at' test test' middle middle' end a t m = rw (a, t, m) refl
