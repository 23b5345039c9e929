use Rattle.std.proofs.Common.{◌≡◌, ◌≢◌, ◌++◌, ◌∙◌, ℕ, List, ap}
use Rattle.std.specs.Prelude.{Option, Some, None, MatchOption}
use Rattle.std.specs.Borrow.{Bor}
use Rattle.std.proofs.lemmas.Bool.Decides.{Decides-eqb}
use Rattle.std.proofs.lemmas.Slice.Eq.{strip_prefix_is}
use Rattle.sy_unread.specs.internal.Fields.{Gives, after}
use Rattle.sy_unread.proofs.FieldTexts.{after_again, never_after}
use Rattle.sy_unread.proofs.fields.after.Goals as goal

stripped : (front bytes : List ℕ) (r : Option (Bor (List ℕ))) → MatchOption r ((rest : List ℕ) → bytes ≢ front ++ rest) (λ x. bytes ≡ front ++ x.now)
    → Gives (λ x. x.now) r (after front bytes)
stripped front bytes None never = never_after front bytes never
stripped front bytes (Some x) is = ap (after front) is ∙ after_again front x.now

pub returns : goal.returns
returns c = stripped c.args.front.now c.args.bytes.now c.strip_prefix.result
    (strip_prefix_is Decides-eqb c.args.bytes.now c.args.front.now c.strip_prefix.result c.strip_prefix.ensures.cases)
