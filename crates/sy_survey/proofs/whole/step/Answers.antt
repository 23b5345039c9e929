use Rattle.std.proofs.Common.{subst}
use Rattle.std.specs.Prelude.{IfSome}
use Rattle.sy_survey.specs.Together as spec
use Rattle.sy_survey.proofs.whole.step.Goals as goal

pub returns-in_default : goal.returns-in_default
returns-in_default g c = spec.Steps.stays

pub returns-in_ok-put-in-Some-2 : goal.returns-in_ok-put-in-Some-2
returns-in_ok-put-in-Some-2 g c =
    let includes = subst (λ found. IfSome found (λ it. spec.IncludesIn c.as_slice.result.now it.start it.end)) c.in-Some.is c.in_ok-include.ensures in
    let are_read = subst (λ found. IfSome found (λ it. spec.AreRead g.F.Files.bytes_of c.args.tree.now.files.now it.items)) c.in-Some-2.is c.in_ok-sources.ensures in
    rw (c.in_ok-put-in-Some-2.ensures, ← c.as_slice.ensures.value)
    (spec.Steps.splices c.in-Some.include.start c.in-Some.include.end c.in-Some-2.sources.items includes are_read)

pub returns-in-None : goal.returns-in-None
returns-in-None g c = spec.Steps.stays
