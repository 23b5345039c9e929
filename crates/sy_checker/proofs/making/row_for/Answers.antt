use Rattle.std.proofs.Common.{ap, subst}
use Rattle.std.specs.Prelude.{Contains}
use Rattle.sy_fit.specs.declared.rows.wanted.Wanted.TheVariants as wanted
use Rattle.sy_fit.specs.internal.Ranked.{input_in}
use Rattle.sy_fit.proofs.Comparing.{input_there, meant}
use Rattle.sy_fit.proofs.Meant.{end_there, entry_there, inner_there, rank_there}
use Rattle.sy_flows.proofs.There.{relay_there}
use Rattle.sy_checker.proofs.making.row_for.Goals as goal

pub reach_row-requires : goal.reach_row-requires
reach_row-requires c =
    let it = input_there c.args.site.now c.args.class c.args.part.now c.requires.wanted c.is_lawful.ensures c.args.is c.requires.member c.in-Reach.input
    (ap input_in c.in-Reach.is) in
    record {
      there = it;
      relay = relay_there c.args.site.now c.in-Reach.input it;
      clean = c.requires.clean c.in-Reach.input
          (meant c.args.site.now c.args.class c.args.part.now c.requires.wanted (wanted.Reach c.in-Reach.input)
          (subst (Contains c.args.part.now) c.in-Reach.is c.requires.member));
    }

pub branch_row-requires : goal.branch_row-requires
branch_row-requires c =
    let it = input_there c.args.site.now c.args.class c.args.part.now c.requires.wanted c.is_lawful.ensures c.args.is c.requires.member c.in-Branch.input
    (ap input_in c.in-Branch.is) in
    record { there = it; relay = relay_there c.args.site.now c.in-Branch.input it }

pub rank_row-requires : goal.rank_row-requires
rank_row-requires c = record {
  relay = rank_there c.args.site.now c.is_lawful.ensures c.args.class c.args.part.now c.requires.wanted c.in-Rank.of
      (subst (Contains c.args.part.now) c.in-Rank.is c.requires.member);
  many = c.requires.many;
}

pub inner_row-requires : goal.inner_row-requires
inner_row-requires c = record {
  relay = (inner_there c.args.site.now c.is_lawful.ensures c.args.class c.args.part.now c.requires.wanted c.in-Inner.inner
      (subst (Contains c.args.part.now) c.in-Inner.is c.requires.member)).relay;
}

pub path_row-requires : goal.path_row-requires
path_row-requires c =
    let member = subst (Contains c.args.part.now) c.in-Path.is c.requires.member in
    let it = entry_there c.args.site.now c.is_lawful.ensures c.args.class c.args.part.now c.requires.wanted c.in-Path.entry c.in-Path.archive member in
    let is = meant c.args.site.now c.args.class c.args.part.now c.requires.wanted (wanted.Path c.in-Path.entry c.in-Path.archive) member in
    record {
      flows = c.requires.flows;
      leads = c.requires.leads;
      protected = c.requires.protected;
      entry = is.0;
      named = is.1;
      there = it;
      relay = relay_there c.args.site.now c.in-Path.entry it;
      archive = end_there c.args.site.now c.is_lawful.ensures c.args.class c.args.part.now c.requires.wanted
          (c.archives_are_those_named.ensures.named c.args.site.now c.args.class) c.in-Path.entry c.in-Path.archive member;
    }
