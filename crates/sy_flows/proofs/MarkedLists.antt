-- Marks of lists of relays.
use Rattle.std.proofs.Common.{◌≡◌, ℕ, ◌<◌, ◌≤◌, ◌+◌, ◌*◌, ◌==◌, ◌&&◌, ◌||◌, Bool, true, false, List, [], ◌∷◌, ◌++◌, get_or, refl, sym, ap, ◌∙◌, arith, inl, inr, eq-eqb}
use Rattle.std.specs.List.{list_any}
use Rattle.std.proofs.lemmas.Bool.{and_from, cases_eq, false_from_ne_true}
use Rattle.std.proofs.lemmas.List.Recursion.{or_push}
use Rattle.sy_flows.specs.declared.lists.InnerList.{InnerList}
use Rattle.sy_flows.specs.Leads.{same_list}
use Rattle.sy_flows.specs.internal.Marks.{AreListsMarked, IsMarkedMore, list_place}
use Rattle.sy_flows.proofs.Led.{same_list_is}
use Rattle.sy_flows.proofs.Marked.{or_false, or_true}

any_more : (lists : List InnerList) (x y : InnerList) → list_any (same_list y) (lists ++ x ∷ []) ≡ (list_any (same_list y) lists || same_list y x)
any_more lists x y = or_push (λ l. list_any (same_list y) l) (same_list y) refl (λ _ _. refl) lists x

same_place : (x y : InnerList) → x.relay < 64 → y.relay < 64 → list_place y ≡ list_place x → same_list y x ≡ true
same_place x y low small same =
    and_from (y.relay == x.relay) (y.list == x.list) (eq-eqb y.relay x.relay (omega (arith, low, small, same)))
    (eq-eqb y.list x.list (omega (arith, low, small, same)))

pub no_lists_marked : AreListsMarked [] []
no_lists_marked = λ x low. refl

module _ (lists : List InnerList) (x : InnerList) (marks : List Bool) (are : AreListsMarked lists marks) where
  -- it has a place
  pub list_marked_more : (new : List Bool) → x.relay < 64 → IsMarkedMore marks (list_place x) new → AreListsMarked (lists ++ x ∷ []) new
  list_marked_more new low is y small = elim (cases_eq (list_place y) (list_place x)) [
    | inl same ↦
        ap (λ p. get_or new p false) same ∙ is.has
        ∙ sym (any_more lists x y ∙ ap (λ b. list_any (same_list y) lists || b) (same_place x y low small same)
        ∙ or_true (list_any (same_list y) lists))
    | inr apart ↦
        is.rest (list_place y) apart ∙ are y small
        ∙ sym (any_more lists x y
        ∙ ap (λ b. list_any (same_list y) lists || b) (false_from_ne_true (same_list y x) (λ e. apart (ap list_place (same_list_is y x e))))
        ∙ or_false (list_any (same_list y) lists))
  ]

  -- it has none
  pub list_behind : 64 ≤ x.relay → AreListsMarked (lists ++ x ∷ []) marks
  list_behind high y small =
      are y small
      ∙ sym (any_more lists x y
      ∙ ap (λ b. list_any (same_list y) lists || b)
      (false_from_ne_true (same_list y x) (λ e. (let same = ap (λ (z : InnerList). z.relay) (same_list_is y x e) in omega (arith, same, small, high))))
      ∙ or_false (list_any (same_list y) lists))
