use Rattle.std.proofs.Common.{rules, ◌≡◌, ◌++◌, List, ℕ, length, drop, ap}
use Rattle.sy_journal.specs.Frames.{zero_count}
use Rattle.sy_journal.specs.Packing.{digits}
use Rattle.sy_journal.proofs.Packs.{sealed}
use Rattle.sy_journal.proofs.batch.frame_of.Goals as goal

pub returns : goal.returns
returns c =
    let content = c.args.content.now in
    let is : c.extend_from_slice-3.new.self.items ≡ digits (length content) ++ digits (zero_count content) ++ content = search rules in
    (ap (λ (l : List ℕ). drop 8 l) is, sealed content c.extend_from_slice-3.new.self.items c.requires is)
