use Rattle.std.proofs.Common.{◌≡◌, drop}
use Rattle.sy_diff.specs.Changes as spec
use Rattle.sy_diff.proofs.same.renamed.Given as goal

abbrev pub invariant-loop-rename : goal.invariant-loop-rename
invariant-loop-rename l = spec.renamed (drop l.rename-index l.renames) l.name ≡ spec.renamed l.renames l.name
