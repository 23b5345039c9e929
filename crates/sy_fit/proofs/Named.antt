-- The archives that are named for a class, line by line.
use Rattle.std.proofs.Common.{◌≡◌, Bool, true, false, not, ◌&&◌, if◌then◌else◌, List, [], ◌∷◌, ◌++◌, reverse, refl, sym, ap, ◌∙◌, append_assoc}
use Rattle.std.specs.List.{list_any}
use Rattle.std.proofs.lemmas.List.{reverse-append}
use Rattle.std.proofs.lemmas.List.Sorted.{IsPermutation-reverse, list_any-IsPermutation}
use Rattle.sy_wire.specs.declared.class.Class.{Class}
use Rattle.sy_site.specs.declared.site.Protection.{Protection}
use Rattle.sy_site.specs.declared.site.SiteAction.{SiteAction}
use Rattle.sy_site.specs.Sites.{archives_from, asks_for, same_action}
use Rattle.sy_fit.specs.internal.Order.{AddsArchive}

chosen : {A : Type 0} (b : Bool) (x y : A) → b ≡ true → x ≡ (if b then x else y)
chosen true x y e = refl
chosen false x y e = cc

not_chosen : {A : Type 0} (b : Bool) (x y : A) → b ≡ false → y ≡ (if b then x else y)
not_chosen true x y e = cc
not_chosen false x y e = refl

module _ (p : Protection) (class : Class) (old : List SiteAction) where
  abbrev is_new : Bool
  is_new = asks_for p class && not (list_any (same_action p.archive) (reverse old))

  unasked : asks_for p class ≡ false → is_new ≡ false
  unasked e = ap (λ b. b && not (list_any (same_action p.archive) (reverse old))) e

  same_there : list_any (same_action p.archive) (reverse old) ≡ list_any (same_action p.archive) old
  same_there = sym (list_any-IsPermutation (same_action p.archive) old (reverse old) (IsPermutation-reverse old))

  never : (b : Bool) → (b && false) ≡ false
  never true = refl
  never false = refl

  pub not_asked : asks_for p class ≡ false → AddsArchive p class old old
  not_asked e later =
      ap (λ l. old ++ l)
      (not_chosen is_new (p.archive ∷ archives_from (p.archive ∷ reverse old) later class) (archives_from (reverse old) later class) (unasked e))

  pub had_before : list_any (same_action p.archive) old ≡ true → AddsArchive p class old old
  had_before e later =
      ap (λ l. old ++ l)
      (not_chosen is_new (p.archive ∷ archives_from (p.archive ∷ reverse old) later class) (archives_from (reverse old) later class)
      (ap (λ b. asks_for p class && not b) (same_there ∙ e) ∙ never (asks_for p class)))

  pub push_behind : asks_for p class ≡ true → list_any (same_action p.archive) old ≡ false → AddsArchive p class old (old ++ p.archive ∷ [])
  push_behind asks fresh later =
      ap (λ l. (old ++ p.archive ∷ []) ++ archives_from l later class) (reverse-append old (p.archive ∷ []))
      ∙ append_assoc old (p.archive ∷ []) (archives_from (p.archive ∷ reverse old) later class)
      ∙ ap (λ l. old ++ l)
      (chosen is_new (p.archive ∷ archives_from (p.archive ∷ reverse old) later class) (archives_from (reverse old) later class)
      (ap (λ b. b && not (list_any (same_action p.archive) (reverse old))) asks ∙ ap not (same_there ∙ fresh)))
