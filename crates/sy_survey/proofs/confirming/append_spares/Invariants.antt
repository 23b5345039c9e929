use Rattle.sy_survey.specs.internal.SiteTexts as spec
use Rattle.sy_survey.proofs.confirming.append_spares.Given as goal

abbrev pub invariant-loop-other : goal.invariant-loop-other
invariant-loop-other l = spec.AddsSpares l.initial.text.items l.text.items
