use Rattle.std.proofs.Common.{◌∙◌, length, refl, subst, sym}
use Rattle.std.proofs.lemmas.Bool.{false≢true}
use Rattle.std.proofs.lemmas.Option.{slice_get_past, slice_get_read}
use Rattle.sy_fit.specs.Fit.{IsRight}
use Rattle.sy_fit.proofs.Comparing.{no_value, one_value}
use Rattle.sy_fit.proofs.rows.part.is_right_at.Goals as goal

pub returns-in-Some : goal.returns-in-Some
returns-in-Some c =
    let at = slice_get_read c.args.rows.now (length c.args.rows.now) c.args.place c.in-Some.row.now refl c.in-Some.ensures.lookup.3.0
    c.in-Some.ensures.lookup.1 in (
      λ yes. record { stands = c.in-Some.row.now; there = at; right = c.is_right.ensures.0 yes },
      λ h. c.is_right.ensures.1
          (subst (IsRight c.args.site.now c.args.class c.args.part.now c.args.rows.now c.args.is) (one_value (sym h.there ∙ at)) h.right),
    )

pub returns-in-None : goal.returns-in-None
returns-in-None c = (
  λ no. absurd (false≢true no),
  λ h. absurd (no_value (sym (slice_get_past c.args.rows.now c.args.place c.in-None.ensures.lookup.3) ∙ h.there)),
)
