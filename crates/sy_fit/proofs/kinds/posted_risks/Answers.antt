use Rattle.std.proofs.Common.{get_or, refl, sym, ◌∙◌}
use Rattle.std.specs.Prelude.{Contains}
use Rattle.std.proofs.lemmas.Bool.{false≢true}
use Rattle.std.proofs.lemmas.List.Elements.{Contains-get_or}
use Rattle.sy_board.specs.relay.Spares.{Scope}
use Rattle.sy_fit.proofs.Followed.{posts_used}
use Rattle.sy_fit.proofs.Risky.{more_safe, posts_safe}
use Rattle.sy_flows.proofs.There.{relay_there}
use Rattle.sy_fit.proofs.kinds.posted_risks.Goals as goal

pub list_risks-requires : goal.list_risks-requires
list_risks-requires c =
    let lists = c.lists_at-list-items.result.now in
    let list = get_or lists c.loop-list.list-index 0 in
    let there : Contains lists list = Contains-get_or lists c.loop-list.list-index 0 c.loop-list-test.true in
    record {
      relay = relay_there c.args.site.now c.args.input c.requires.there;
      there = c.lists_at-list-items.ensures.apart.there list there;
      used = posts_used c.args.site.now c.args.class Scope.Firm c.is_lawful.ensures c.args.input.relay
          ((c.lists_at-list-items.ensures.each list).0 there);
      flows = c.requires.flows.lists;
    }

pub loop-list-preserved : goal.loop-list-preserved
loop-list-preserved c =
    more_safe c.args.site.now c.args.class c.args.input.relay c.args.risk c.lists_at-list-items.result.now c.loop-list.list-index 0
    c.loop-list-test.true c.loop-list.invariant (λ r. false≢true (sym c.if-list_risks.false ∙ c.list_risks.ensures.1 r))

pub returns-then-list_risks : goal.returns-then-list_risks
returns-then-list_risks c =
    let lists = c.lists_at-list-items.result.now in
    let list = get_or lists c.loop-list.list-index 0 in (
      λ yes. record {
        list = list;
        posted = (c.lists_at-list-items.ensures.each list).0 (Contains-get_or lists c.loop-list.list-index 0 c.loop-list-test.true);
        risky = c.list_risks.ensures.0 c.if-list_risks.true;
      },
      λ h. refl,
    )

pub returns : goal.returns
returns c = (
  λ no. absurd (false≢true no),
  λ r. absurd (posts_safe c.args.site.now c.args.class c.args.input c.args.risk c.lists_at-list-items.result.now c.loop-list.list-index
      c.lists_at-list-items.ensures c.loop-list-test.false c.loop-list.invariant r),
)
