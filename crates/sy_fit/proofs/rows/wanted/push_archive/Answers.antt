use Rattle.std.proofs.Common.{◌∙◌, ap, sym, subst}
use Rattle.std.specs.List.{list_any}
use Rattle.sy_site.specs.Sites.{same_action}
use Rattle.sy_fit.specs.internal.Order.{AddsArchive}
use Rattle.sy_fit.proofs.Named.{had_before, not_asked, push_behind}
use Rattle.sy_fit.proofs.rows.wanted.push_archive.Goals as goal

pub returns-then-not-matches : goal.returns-then-not-matches
returns-then-not-matches c =
    not_asked c.args.protection.now c.args.class c.args.found.now.items (sym c.matches.ensures ∙ c.if-not-matches.true)

pub returns-then-is_among : goal.returns-then-is_among
returns-then-is_among c =
    had_before c.args.protection.now c.args.class c.args.found.now.items
    (ap (list_any (same_action c.args.protection.now.archive)) (sym c.as_slice.ensures.value) ∙ sym c.is_among.ensures ∙ c.if-is_among.true)

pub returns : goal.returns
returns c =
    subst (AddsArchive c.args.protection.now c.args.class c.args.found.now.items) (sym c.in_ok-push.ensures.items)
    (push_behind c.args.protection.now c.args.class c.args.found.now.items (sym c.matches.ensures ∙ c.if-not-matches.false)
    (ap (list_any (same_action c.args.protection.now.archive)) (sym c.as_slice.ensures.value) ∙ sym c.is_among.ensures ∙ c.if-is_among.false))
