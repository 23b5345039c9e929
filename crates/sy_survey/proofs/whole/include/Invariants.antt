use Rattle.sy_survey.specs.Together as spec
use Rattle.sy_survey.proofs.whole.include.Given as goal

abbrev pub invariant-loop : goal.invariant-loop
invariant-loop g l = spec.Together g.F.Files.bytes_of l.tree.files.now l.initial.whole.text.items l.whole.text.items
