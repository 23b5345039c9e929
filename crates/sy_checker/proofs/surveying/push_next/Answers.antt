use Rattle.sy_flows.proofs.Walked.{walk_read}
use Rattle.sy_checker.proofs.surveying.push_next.Goals as goal

pub push_all-requires : goal.push_all-requires
push_all-requires c = record {
  protected = c.requires.protected;
  walk = walk_read c.args.site.now c.args.class c.walk_for.new.walks.items c.in_ok-place.place c.index-walk.result.now c.in_ok-place.ensures.at
      c.index-walk.ensures;
}
