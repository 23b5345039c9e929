use Rattle.std.proofs.Common.{ap, subst}
use Rattle.std.specs.Prelude.{Contains}
use Rattle.sy_fit.specs.internal.Ranked.{input_in}
use Rattle.sy_fit.proofs.Comparing.{input_there}
use Rattle.sy_fit.proofs.Meant.{end_there, entry_there, inner_there, rank_there}
use Rattle.sy_flows.proofs.There.{relay_there}
use Rattle.sy_fit.proofs.rows.is_right.Goals as goal

pub is_reach_row-requires : goal.is_reach_row-requires
is_reach_row-requires c =
    let it = input_there c.args.site.now c.args.class c.args.part.now c.requires.wanted c.is_lawful.ensures c.args.is c.requires.member c.in-Reach.input
    (ap input_in c.in-Reach.is) in
    record { flows = c.requires.flows; there = it; relay = relay_there c.args.site.now c.in-Reach.input it }

pub is_branch_row-requires : goal.is_branch_row-requires
is_branch_row-requires c =
    let it = input_there c.args.site.now c.args.class c.args.part.now c.requires.wanted c.is_lawful.ensures c.args.is c.requires.member c.in-Branch.input
    (ap input_in c.in-Branch.is) in
    record { there = it; relay = relay_there c.args.site.now c.in-Branch.input it }

pub is_rank_row-requires : goal.is_rank_row-requires
is_rank_row-requires c = record {
  flows = c.requires.flows;
  wanted = c.requires.wanted;
  relay = rank_there c.args.site.now c.is_lawful.ensures c.args.class c.args.part.now c.requires.wanted c.in-Rank.of
      (subst (Contains c.args.part.now) c.in-Rank.is c.requires.member);
}

pub is_inner_row-requires : goal.is_inner_row-requires
is_inner_row-requires c = record {
  wanted = c.requires.wanted;
  there = inner_there c.args.site.now c.is_lawful.ensures c.args.class c.args.part.now c.requires.wanted c.in-Inner.inner
      (subst (Contains c.args.part.now) c.in-Inner.is c.requires.member);
  flows = c.requires.flows;
}

pub is_path_row-requires : goal.is_path_row-requires
is_path_row-requires c =
    let member = subst (Contains c.args.part.now) c.in-Path.is c.requires.member in
    let it = entry_there c.args.site.now c.is_lawful.ensures c.args.class c.args.part.now c.requires.wanted c.in-Path.entry c.in-Path.archive member in
    record {
      flows = c.requires.flows;
      there = it;
      relay = relay_there c.args.site.now c.in-Path.entry it;
      archive = end_there c.args.site.now c.is_lawful.ensures c.args.class c.args.part.now c.requires.wanted
          (c.archives_are_those_named.ensures.named c.args.site.now c.args.class) c.in-Path.entry c.in-Path.archive member;
    }
