use Rattle.sy_flows.proofs.Marked.{marked_at}
use Rattle.sy_flows.proofs.marks.mark.Goals as goal

pub returns : goal.returns
returns c =
    marked_at c.args.marks.now.items c.cover.new.marks.items c.set_mark.new.marks.items c.args.place c.in_ok-cover.ensures.there
    c.in_ok-cover.ensures.same c.set_mark.ensures
