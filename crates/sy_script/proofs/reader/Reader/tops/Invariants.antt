use Rattle.std.proofs.Common.{◌≡◌, ◌-◌}
use Rattle.sy_script.specs.Terms.{max_depth}
use Rattle.sy_script.specs.internal.ReadingStmt.{tops, tops_from}
use Rattle.sy_script.proofs.reader.Reader.tops.Given as goal

abbrev pub invariant-loop-turn : goal.invariant-loop-turn
invariant-loop-turn l = tops l.self.text.now max_depth l.tokens ≡ tops_from l.self.text.now max_depth (l._turn-end - l._turn) l.found l.rest
