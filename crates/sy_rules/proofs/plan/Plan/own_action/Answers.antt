use Rattle.std.proofs.Common.{◌≤◌, ◌<◌, length, get_or, sym, subst, ap, ◌∙◌, arith, ◌≡◌}
use Rattle.sy_rules.specs.Whole.{owner_at}
use Rattle.sy_rules.proofs.lemmas.plan.OwnLists.{no_owner, owner_found}
use Rattle.sy_rules.proofs.plan.Plan.own_action.Goals as goal

pub returns-in-None : goal.returns-in-None
returns-in-None c =
    let p = c.self.inside in
    let past = subst (λ xs. length xs ≤ c.args.list) c.deref.ensures.value c.in-None.ensures.lookup.3 in
    sym (ap (λ v. owner_at v c.args.list) (sym c.self.view_is) ∙ no_owner p c.self.invariant c.args.list c.if-list-self.false past)

pub returns-in-Some : goal.returns-in-Some
returns-in-Some c =
    let p = c.self.inside in
    let os = c.as_slice.result.now in
    let lookup = c.in-Some.ensures.lookup in
    let there = subst (λ xs. c.args.list < length xs) c.deref.ensures.value lookup.3.0 in
    let is = subst (λ xs. os ≡ get_or xs c.args.list os) c.deref.ensures.value
    (subst (λ o. o ≡ get_or c.deref.result.now c.args.list o) (sym c.as_slice.ensures) lookup.1) in
    owner_found p c.self.invariant c.args.list c.if-list-self.false os there is c.run_alone.result c.run_alone.ensures.some c.run_alone.ensures.none
    ∙ ap (λ v. owner_at v c.args.list) c.self.view_is
