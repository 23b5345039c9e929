use Rattle.std.proofs.Common.{take}
use Rattle.sy_checker.specs.internal.Survey.{Among, IsUnmetBy, Reports}
use Rattle.sy_checker.proofs.surveying.push_archives.Given as goal

abbrev pub invariant-loop-archive : goal.invariant-loop-archive
invariant-loop-archive l = Reports l.site l.fn.class
    (λ i j. Among (take l.archive-index l.archives) (λ archive. IsUnmetBy l.site l.fn.class l.fn.entry archive i j))
    l.initial.found.groups.items l.found.groups.items
