use Rattle.std.proofs.Common.{refl, sym, ◌∙◌}
use Rattle.std.proofs.lemmas.Bool.{false≢true}
use Rattle.sy_flows.proofs.Written.{never_written, none_written, not_written, own_relay, written}
use Rattle.sy_flows.proofs.lists.leads.must_write.Goals as goal

pub returns-then-at-archive : goal.returns-then-at-archive
returns-then-at-archive c = (
  λ no. absurd (false≢true no),
  λ w. absurd (c.if-at-archive.true (own_relay c.args.site.now c.args.class c.args.archive c.args.at w)),
)

pub loop-number-init : goal.loop-number-init
loop-number-init c = none_written c.args.site.now c.args.class c.args.archive c.args.at

pub loop-number-preserved : goal.loop-number-preserved
loop-number-preserved c =
    not_written c.args.site.now c.args.class c.args.archive c.args.at c.set_at-must.result c.set_at-must.ensures c.in-Some.number c.loop-number.from
    c.in-Some.ensures.some (λ member writes. false≢true (sym c.if-writes.false ∙ c.writes.ensures.1 (member, writes))) c.loop-number.invariant

pub returns-then-writes : goal.returns-then-writes
returns-then-writes c =
    let it = c.writes.ensures.0 c.if-writes.true in (
      λ yes. written c.args.site.now c.args.class c.args.archive c.args.at c.set_at-must.result c.set_at-must.ensures c.in-Some.number it.0 it.1,
      λ w. refl,
    )

pub returns : goal.returns
returns c = (
  λ no. absurd (false≢true no),
  λ w. absurd (never_written c.args.site.now c.args.class c.args.archive c.args.at c.set_at-must.result c.set_at-must.ensures c.loop-number.from
      c.in_default.ensures.none c.loop-number.invariant w),
)
