-- Lines of spare actions behind a text.
use Rattle.std.proofs.Common.{ℕ, List, [], ◌∷◌, ◌++◌, sym, ◌∙◌, ap}
use Rattle.std.specs.Prelude.{flat_map}
use Rattle.std.proofs.lemmas.Grind.{flat_map-append}
use Rattle.std.proofs.lemmas.List.{append-nil, append_assoc}
use Rattle.sy_survey.specs.Surveys.{spare_line}
use Rattle.sy_survey.specs.internal.SiteTexts.{AddsSpares}

pub none_added : (text : List ℕ) → AddsSpares text text
none_added text = record { spares = []; after_is = sym (append-nil text) }

pub one_added : (text : List ℕ) (action : ℕ) → AddsSpares text (text ++ spare_line action)
one_added text action = record { spares = action ∷ []; after_is = ap (λ line. text ++ line) (sym (append-nil (spare_line action))) }

pub more_added : {first text last : List ℕ} → AddsSpares first text → AddsSpares text last → AddsSpares first last
more_added {first = first} a b = record {
  spares = a.spares ++ b.spares;
  after_is =
      b.after_is ∙ ap (λ text. text ++ flat_map spare_line b.spares) a.after_is
      ∙ append_assoc first (flat_map spare_line a.spares) (flat_map spare_line b.spares)
      ∙ ap (λ lines. first ++ lines) (sym (flat_map-append spare_line a.spares b.spares));
}
