use Rattle.std.proofs.Common.{◌∙◌, subst, sym, false}
use Rattle.std.specs.Prelude.{Decides}
use Rattle.std.proofs.lemmas.Bool.{false≢true}
use Rattle.sy_fit.specs.Fit.{IsInnerRow}
use Rattle.sy_fit.specs.internal.Judging.{NamesInner}
use Rattle.sy_fit.proofs.rows.is_inner_row.Goals as goal

pub returns-then-not-names_inner : goal.returns-then-not-names_inner
returns-then-not-names_inner c =
    let named = subst (λ l. Decides c.names_inner.result (NamesInner c.args.site.now c.args.inner l c.in-Inner.list)) c.as_slice.ensures
    c.names_inner.ensures in
    subst (λ r. Decides false (IsInnerRow c.args.site.now c.args.class c.args.part.now c.args.rows.now c.args.inner r)) (sym c.in-Inner.is)
    (λ no. absurd (false≢true no), λ h. absurd (false≢true (sym c.if-not-names_inner.true ∙ named.1 (h.0, h.1))))

pub returns-else-not-names_inner : goal.returns-else-not-names_inner
returns-else-not-names_inner c =
    let named = subst (λ l. Decides c.names_inner.result (NamesInner c.args.site.now c.args.inner l c.in-Inner.list)) c.as_slice.ensures
    c.names_inner.ensures in
    let names = named.0 c.if-not-names_inner.false in
    subst (λ r. Decides c.is_numbered.result (IsInnerRow c.args.site.now c.args.class c.args.part.now c.args.rows.now c.args.inner r))
    (sym c.in-Inner.is)
    (λ yes. (names.0, names.1, c.is_numbered.ensures.0 yes), λ h. c.is_numbered.ensures.1 h.2)
