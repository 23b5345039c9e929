use Rattle.std.proofs.Common.{◌≡◌, ◌∙◌, Some, sym, subst}
use Rattle.std.proofs.lemmas.Bool.{false≢true}
use Rattle.sy_warnings.specs.internal.Following.{IsInScope}
use Rattle.sy_warnings.proofs.Arriving.{one_value}
use Rattle.sy_warnings.proofs.following.if_executed.Goals as goal

pub returns-then-not-has : goal.returns-then-not-has
returns-then-not-has c = λ is does. false≢true (sym c.if-not-has.true ∙ c.has.ensures.1 ((c.may_of.ensures c.args.number).1 does.may))

pub returns-then-not-is_in_scope : goal.returns-then-not-is_in_scope
returns-then-not-is_in_scope c = λ is does.
    (let same : is ≡ c.args.is = one_value (sym does.found ∙ c.requires.stands) in
    false≢true (sym c.if-not-is_in_scope.true
    ∙ c.is_in_scope.ensures.1 (subst (IsInScope c.args.site.now c.args.by c.args.at.relay) same does.in_scope)))

pub returns : goal.returns
returns c = record {
  may = (c.may_of.ensures c.args.number).0 (c.has.ensures.0 c.if-not-has.false);
  found = c.requires.stands;
  in_scope = c.is_in_scope.ensures.0 c.if-not-is_in_scope.false;
}
