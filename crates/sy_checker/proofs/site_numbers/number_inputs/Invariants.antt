use Rattle.std.proofs.Common.{take}
use Rattle.std.specs.Prelude.{Contains}
use Rattle.sy_site.specs.declared.site.SiteInput.{SiteInput}
use Rattle.sy_checker.specs.internal.Inner.{AreNumbered, HasNumbers}
use Rattle.sy_checker.proofs.site_numbers.number_inputs.Given as goal

abbrev pub invariant-loop-place : goal.invariant-loop-place
invariant-loop-place l = record {
  are : AreNumbered l.fn.site l.fn.class l.numbers.items;
  all : (x : SiteInput) → Contains (take l.place l.inputs) x → HasNumbers l.fn.site l.fn.class l.numbers.items x;
}
