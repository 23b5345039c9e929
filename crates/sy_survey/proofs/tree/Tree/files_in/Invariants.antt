use Rattle.sy_survey.specs.Together as spec
use Rattle.sy_survey.proofs.tree.Tree.files_in.Given as goal

abbrev pub invariant-loop-name : goal.invariant-loop-name
invariant-loop-name g l = spec.AreRead g.F.Files.bytes_of l.self.files.now l.found.items
