use Rattle.std.proofs.Common.{inl, inr, map}
use Rattle.sy_site.specs.texts.Describes.{file}
use Rattle.sy_site.proofs.lemmas.texts.NoFault.{no_fault}
use Rattle.sy_site.proofs.site.Site.read.Goals as goal

pub returns-in-Err-clause-only : goal.returns-in-Err-clause-only
returns-in-Err-clause-only c = λ site described.
    elim c.in-Err.ensures.err [
      | inl full ↦ full
      | inr there ↦ absurd (no_fault c.args.text.now (map (λ f. file f.0.now f.1.now) c.args.files.now) site c.in-Err.fault described there)
    ]
