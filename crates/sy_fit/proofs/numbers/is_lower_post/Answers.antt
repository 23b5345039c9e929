use Rattle.std.proofs.Common.{refl, subst}
use Rattle.sy_board.specs.relay.Spares.{Scope}
use Rattle.sy_site.specs.machine.Reach.{MayDo}
use Rattle.sy_fit.proofs.Lower.{lower_by, lower_run}
use Rattle.sy_fit.proofs.numbers.is_lower_post.Goals as goal

pub returns-in-Post : goal.returns-in-Post
returns-in-Post c =
    lower_by c.args.site.now c.args.class c.args.part.now c.args.rows.now c.args.inner c.args.number c.args.post c.in-Post.list
    (subst (MayDo c.args.site.now c.args.class Scope.Firm c.args.inner.relay c.args.inner.list c.args.post) c.in-Post.is c.requires.does)
    c.is_lower.result c.is_lower.ensures

pub returns-in-Run : goal.returns-in-Run
returns-in-Run c = (
  λ yes. lower_run c.args.site.now c.args.class c.args.part.now c.args.rows.now c.args.inner c.args.number c.args.post c.in-Run.field-0
      (subst (MayDo c.args.site.now c.args.class Scope.Firm c.args.inner.relay c.args.inner.list c.args.post) c.in-Run.is c.requires.does),
  λ all. refl,
)
