use Rattle.std.proofs.Common.{◌≡◌, ◌+◌, arith, get_or, inl, inr, subst, sym, take}
use Rattle.std.specs.Prelude.{Contains}
use Rattle.std.proofs.lemmas.List.{take_all, take_more}
use Rattle.std.proofs.lemmas.List.Elements.{Contains-get_or, Contains-push_cases}
use Rattle.sy_warnings.specs.Following.{Comes, list_at, starts}
use Rattle.sy_warnings.proofs.Arriving.{kept_more}
use Rattle.sy_warnings.proofs.coming.add_inputs.Goals as goal

pub loop-input-init : goal.loop-input-init
loop-input-init c = record { found = c.requires.found; has = λ x has. (let low = has.1 in absurd (omega (arith, low))) }

pub list_at-requires : goal.list_at-requires
list_at-requires c = record {
  there = c.requires.there (get_or c.args.inputs.now c.loop-input.input-index (record { relay = 0; input = 0 }))
      (Contains-get_or c.args.inputs.now c.loop-input.input-index (record { relay = 0; input = 0 }) c.loop-input-test.true);
}

pub add-requires : goal.add-requires
add-requires c =
    let x = get_or c.args.inputs.now c.loop-input.input-index (record { relay = 0; input = 0 }) in
    record {
      found = c.loop-input.invariant.found;
      there = c.list_at.ensures.there;
      comes = subst (Comes c.args.site.now c.args.class c.args.by) (sym c.list_at.ensures.list)
          (starts x (c.requires.starts x (Contains-get_or c.args.inputs.now c.loop-input.input-index (record { relay = 0; input = 0 })
          c.loop-input-test.true)));
    }

pub loop-input-preserved : goal.loop-input-preserved
loop-input-preserved c =
    let inputs = c.args.inputs.now in
    let k = c.loop-input.input-index in
    let x = get_or inputs k (record { relay = 0; input = 0 }) in
    record {
      found = c.in_ok-add.ensures.found;
      has = λ y there. elim (Contains-push_cases (take k inputs) x y
          (subst (λ l. Contains l y) (take_more inputs k (record { relay = 0; input = 0 }) c.loop-input-test.true) there)) [
            | inl before ↦ kept_more c.loop-input.found.lists.items c.add.new.found.lists.items c.in_ok-add.ensures.more (list_at c.args.site.now y)
                (c.loop-input.invariant.has y before)
            | inr here ↦ subst (λ z. Contains c.add.new.found.lists.items (list_at c.args.site.now z)) here
                (subst (Contains c.add.new.found.lists.items) c.list_at.ensures.list c.in_ok-add.ensures.has)
          ];
    }

pub returns-clause-has : goal.returns-clause-has
returns-clause-has c = λ x there.
    c.loop-input.invariant.has x
    (subst (λ l. Contains l x) (sym (take_all c.loop-input.input-index c.args.inputs.now c.loop-input-test.false)) there)
