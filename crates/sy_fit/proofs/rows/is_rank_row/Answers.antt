use Rattle.std.proofs.Common.{◌∙◌, ap, subst, sym, false}
use Rattle.std.specs.Prelude.{Decides}
use Rattle.std.specs.Str.{bytes_eq}
use Rattle.std.proofs.lemmas.Bool.{false≢true}
use Rattle.sy_fit.specs.Fit.{IsRankRow}
use Rattle.sy_site.specs.Names.{name_of}
use Rattle.sy_fit.proofs.Judged.{same_bytes}
use Rattle.sy_fit.proofs.rows.is_rank_row.Goals as goal

pub returns-then-not-is_name : goal.returns-then-not-is_name
returns-then-not-is_name c =
    let named = same_bytes c.in-Rank.relay (name_of c.args.site.now c.args.of) c.is_name.result
    (c.is_name.ensures ∙ ap (λ l. bytes_eq l (name_of c.args.site.now c.args.of)) c.as_slice.ensures) in
    subst (λ r. Decides false (IsRankRow c.args.site.now c.args.class c.args.part.now c.args.rows.now c.args.of r)) (sym c.in-Rank.is)
    (λ no. absurd (false≢true no), λ h. absurd (false≢true (sym c.if-not-is_name.true ∙ named.1 h.0)))

pub returns-else-not-is_name : goal.returns-else-not-is_name
returns-else-not-is_name c =
    let named = same_bytes c.in-Rank.relay (name_of c.args.site.now c.args.of) c.is_name.result
    (c.is_name.ensures ∙ ap (λ l. bytes_eq l (name_of c.args.site.now c.args.of)) c.as_slice.ensures) in
    subst (λ r. Decides c.is_above.result (IsRankRow c.args.site.now c.args.class c.args.part.now c.args.rows.now c.args.of r)) (sym c.in-Rank.is)
    (λ yes. (named.0 c.if-not-is_name.false, c.is_above.ensures.0 yes), λ h. c.is_above.ensures.1 h.1)
