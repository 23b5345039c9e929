use Rattle.std.proofs.Common.{◌≡◌, get_or, subst, sym}
use Rattle.std.proofs.lemmas.Option.{slice_get-get_or}
use Rattle.sy_site.specs.declared.site.SiteInput.{SiteInput}
use Rattle.sy_checker.specs.internal.Inner.{HasNoNumbers}
use Rattle.sy_checker.proofs.Numbering.{all_first, all_more, all_numbered, ended_at}
use Rattle.sy_checker.proofs.site_numbers.number_inputs.Goals as goal

abbrev no_input : SiteInput
no_input = record { relay = 0; input = 0 }

pub loop-place-init : goal.loop-place-init
loop-place-init c = record { are = c.requires.done; all = all_first c.args.site.now c.args.class c.args.numbers.now.items }

pub loop-place-preserved : goal.loop-place-preserved
loop-place-preserved c = record {
  are = c.in_default.ensures.done;
  all = all_more c.args.site.now c.args.class c.args.inputs.now c.loop-place.place no_input c.loop-place.numbers.items c.number_input.new.numbers.items
      c.loop-place-test.true c.in_default.ensures.kept c.loop-place.invariant.all c.in_default.ensures.posted;
}

pub returns-in-Err-clause-none : goal.returns-in-Err-clause-none
returns-in-Err-clause-none c =
    subst (HasNoNumbers c.args.site.now c.args.class c.args.inputs.now) (sym c.ended.ensures)
    (ended_at c.args.site.now c.args.class c.args.inputs.now c.loop-place.place (get_or c.args.inputs.now c.loop-place.place no_input) c.in-Err.halt
    (slice_get-get_or c.args.inputs.now c.loop-place.place no_input c.loop-place-test.true) c.in-Err.ensures.halted)

pub returns-clause-all : goal.returns-clause-all
returns-clause-all c =
    all_numbered c.args.site.now c.args.class c.args.inputs.now c.loop-place.place c.loop-place.numbers.items c.loop-place-test.false
    c.loop-place.invariant.all
