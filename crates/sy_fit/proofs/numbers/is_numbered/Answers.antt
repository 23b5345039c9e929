use Rattle.std.proofs.Common.{◌∙◌, arith, refl, sym}
use Rattle.std.proofs.lemmas.Bool.{false≢true}
use Rattle.sy_fit.proofs.Lower.{lower_every, lower_more, numbered_by}
use Rattle.sy_fit.proofs.numbers.is_numbered.Goals as goal

pub loop-post-init : goal.loop-post-init
loop-post-init c = λ k low. absurd (omega (arith, low))

pub loop-post-preserved : goal.loop-post-preserved
loop-post-preserved c =
    lower_more c.args.site.now c.args.class c.args.part.now c.args.rows.now c.args.inner c.args.number c.set_at-set.result c.set_at-set.ensures
    c.loop-post.next c.in-Some.post c.in-Some.ensures.some (c.is_lower_by.ensures.0 c.if-not-is_lower_by.false) c.loop-post.invariant

pub is_lower_by-requires : goal.is_lower_by-requires
is_lower_by-requires c =
    record { wanted = c.requires.wanted; there = c.requires.there; set = c.set_at-set.ensures; member = c.in-Some.ensures.some.member }

pub returns-then-not-is_lower_by : goal.returns-then-not-is_lower_by
returns-then-not-is_lower_by c = (
  λ no. absurd (false≢true no),
  λ all. absurd (false≢true (sym c.if-not-is_lower_by.true
      ∙ c.is_lower_by.ensures.1 (numbered_by c.args.site.now c.args.class c.args.part.now c.args.rows.now c.args.inner c.args.number c.in-Some.post all))),
)

pub returns : goal.returns
returns c = (
  λ yes. lower_every c.args.site.now c.args.class c.args.part.now c.args.rows.now c.args.inner c.args.number c.set_at-set.result c.set_at-set.ensures
      c.loop-post.next c.in_default.ensures.none c.loop-post.invariant,
  λ all. refl,
)
