use Rattle.std.proofs.Common.{◌∙◌, subst, sym, false}
use Rattle.std.specs.Prelude.{Decides}
use Rattle.std.proofs.lemmas.Bool.{false≢true}
use Rattle.sy_site.specs.machine.Reach.{list_of}
use Rattle.sy_fit.specs.Fit.{IsPath, IsPathRow}
use Rattle.sy_fit.specs.internal.Judging.{NamesPath}
use Rattle.sy_fit.proofs.rows.is_path_row.Goals as goal

pub returns-then-not-names_path : goal.returns-then-not-names_path
returns-then-not-names_path c =
    let first = subst (λ l. Decides c.names_path.result (NamesPath c.args.site.now c.args.entry c.args.archive l c.in-Path.port c.as_slice-archive_relay.result.now c.as_slice-action.result.now))
    c.as_slice-relay.ensures c.names_path.ensures in
    let second = subst (λ l. Decides c.names_path.result (NamesPath c.args.site.now c.args.entry c.args.archive c.in-Path.relay c.in-Path.port l c.as_slice-action.result.now))
    c.as_slice-archive_relay.ensures first in
    let named = subst (λ l. Decides c.names_path.result (NamesPath c.args.site.now c.args.entry c.args.archive c.in-Path.relay c.in-Path.port c.in-Path.archive_relay l))
    c.as_slice-action.ensures second in
    subst (λ r. Decides false (IsPathRow c.args.site.now c.args.class c.args.entry c.args.archive r)) (sym c.in-Path.is)
    (λ no. absurd (false≢true no), λ h. absurd (false≢true (sym c.if-not-names_path.true ∙ named.1 (h.0, h.1, h.2, h.3))))

pub returns-else-not-names_path : goal.returns-else-not-names_path
returns-else-not-names_path c =
    let first = subst (λ l. Decides c.names_path.result (NamesPath c.args.site.now c.args.entry c.args.archive l c.in-Path.port c.as_slice-archive_relay.result.now c.as_slice-action.result.now))
    c.as_slice-relay.ensures c.names_path.ensures in
    let second = subst (λ l. Decides c.names_path.result (NamesPath c.args.site.now c.args.entry c.args.archive c.in-Path.relay c.in-Path.port l c.as_slice-action.result.now))
    c.as_slice-archive_relay.ensures first in
    let named = subst (λ l. Decides c.names_path.result (NamesPath c.args.site.now c.args.entry c.args.archive c.in-Path.relay c.in-Path.port c.in-Path.archive_relay l))
    c.as_slice-action.ensures second in
    let path = subst (λ l. Decides c.is_path.result (IsPath c.args.site.now c.args.class c.args.archive c.args.entry.relay (list_of c.args.site.now c.args.entry) l)) c.as_slice-occurrences.ensures
    c.is_path.ensures in
    let names = named.0 c.if-not-names_path.false in
    subst (λ r. Decides c.is_path.result (IsPathRow c.args.site.now c.args.class c.args.entry c.args.archive r)) (sym c.in-Path.is)
    (λ yes. (names.0, names.1, names.2, names.3, path.0 yes), λ h. path.1 h.4)
