use Rattle.std.proofs.Common.{take}
use Rattle.sy_checker.specs.internal.Survey.{Among, IsUnmetBy, Reports}
use Rattle.sy_checker.proofs.surveying.push_entries.Given as goal

abbrev pub invariant-loop-entry : goal.invariant-loop-entry
invariant-loop-entry l = Reports l.site l.fn.class
    (λ i j. Among (take l.entry-index l.entries) (λ entry. Among l.archives (λ archive. IsUnmetBy l.site l.fn.class entry archive i j)))
    l.initial.found.groups.items l.found.groups.items
