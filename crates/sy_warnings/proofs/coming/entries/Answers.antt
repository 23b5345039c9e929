use Rattle.std.proofs.Common.{◌∙◌, subst, sym}
use Rattle.sy_warnings.specs.declared.following.Following.TheVariants as following
use Rattle.sy_warnings.specs.internal.Following.{AreStarts}
use Rattle.sy_warnings.proofs.Starting.{entries_begin}
use Rattle.sy_warnings.proofs.coming.entries.Goals as goal

pub returns : goal.returns
returns c =
    subst (AreStarts c.args.site.now following.Firm) (sym (c.in_ok-found.ensures ∙ c.entries.ensures))
    (entries_begin c.args.site.now c.is_lawful.ensures)
