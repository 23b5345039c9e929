use Rattle.std.proofs.Common.{subst, sym}
use Rattle.sy_warnings.specs.internal.Following.{AreFound}
use Rattle.sy_warnings.proofs.Arriving.{found_first}
use Rattle.sy_warnings.proofs.coming.nothing_found.Goals as goal

pub returns : goal.returns
returns c =
    subst (λ l. AreFound c.args.site.now c.args.class c.args.by l c.in_ok-vec.field-0.items) (sym c.new.ensures.items)
    (found_first c.args.site.now c.is_lawful.ensures c.args.class c.args.by c.in_ok-vec.field-0.items
    (c.in_ok-vec.ensures.items_if_clones_equal (λ y is. is)))
