use Rattle.std.proofs.Common.{◌∙◌, refl, sym}
use Rattle.sy_fit.proofs.Lower.{lower_none}
use Rattle.sy_fit.proofs.numbers.is_lower_by.Goals as goal

pub is_lower_post-requires : goal.is_lower_post-requires
is_lower_post-requires c = record {
  wanted = c.requires.wanted;
  there = c.requires.there;
  does = c.requires.set.sound c.args.post c.in-Some.it c.requires.member (sym c.occurrence_at.ensures ∙ c.in-Some.is);
}

pub returns-in-None : goal.returns-in-None
returns-in-None c = (
  λ yes. lower_none c.args.site.now c.args.class c.args.part.now c.args.rows.now c.args.inner c.args.number c.args.post
      (sym c.occurrence_at.ensures ∙ c.in-None.is),
  λ all. refl,
)
