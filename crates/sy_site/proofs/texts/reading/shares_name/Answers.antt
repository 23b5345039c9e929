use Rattle.std.proofs.Common.{◌≡◌, true, ap, sym, ◌∙◌}
use Rattle.sy_site.specs.internal.Lines.{line_of}
use Rattle.sy_site.specs.internal.Reading.{is_naming, kind}
use Rattle.sy_site.specs.texts.Lines.{words}
use Rattle.sy_site.proofs.lemmas.texts.Again.{shares_again, shares_alike}
use Rattle.sy_site.proofs.texts.reading.shares_name.Goals as goal

pub returns-clause-again : goal.returns-clause-again
returns-clause-again c = λ e differ.
    let earlier = c.args.earlier.now in
    let line = c.args.line.now in
    shares_again (kind (line_of earlier.line)) (kind (line_of line.line)) (words earlier.behind.now) (words line.behind.now)
    (ap is_naming (sym c.kind.ensures) ∙ sym c.is_naming.ensures ∙ c.if-not-is_naming.false)
    (ap is_naming (sym c.kind-2.ensures) ∙ sym c.is_naming-2.ensures ∙ c.if-not-is_naming-2.false)
    (c.same_first_word.ensures.same e) differ

pub returns-clause-apart : goal.returns-clause-apart
returns-clause-apart c = λ e differ r.
    let earlier = c.args.earlier.now in
    let line = c.args.line.now in
    shares_alike (kind (line_of earlier.line)) (kind (line_of line.line)) (words earlier.behind.now) (words line.behind.now)
    (c.same_first_word.ensures.apart e) differ r
