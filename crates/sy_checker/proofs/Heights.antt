-- The greatest rank that hops ask for, one after another.
use Rattle.std.proofs.Common.{◌≡◌, ℕ, ◌<◌, ◌≤◌, ◌+◌, List, [], ◌∷◌, ◌++◌, length, take, get_or, refl, sym, subst, ◌∙◌, arith, inl, inr}
use Rattle.std.specs.Prelude.{Contains, ◌⊎◌}
use Rattle.std.proofs.lemmas.List.{take_all, take_more}
use Rattle.std.proofs.lemmas.List.Elements.{Contains-append_left, Contains-push, Contains-push_cases}
use Rattle.sy_wire.specs.declared.class.Class.{Class}
use Rattle.sy_site.specs.declared.site.SiteInput.{SiteInput}
use Rattle.sy_site.specs.Sites.{Site}
use Rattle.sy_site.specs.machine.Reach.{list_of}
use Rattle.sy_flows.specs.declared.flows.executed.Executed.TheVariants as executed
use Rattle.sy_flows.specs.declared.flows.Hop.{Hop}
use Rattle.sy_flows.specs.Hops.{AreHops}
use Rattle.sy_checker.specs.internal.Loops.{IsHeight, IsHeightOf, rank_at}

pub height_none : (ranks : List ℕ) (hops : List Hop) → IsHeightOf ranks (take 0 hops) 0
height_none ranks hops = record {
  above = λ hop (k, low, is). absurd (omega (arith, low));
  least = inl refl;
}

module _ (ranks : List ℕ) (hops : List Hop) (hop : Hop) (most next : ℕ) (so_far : IsHeightOf ranks hops most)
    (one : next ≡ rank_at ranks hop.to.relay + 1) where
  keeps : next ≤ most → IsHeightOf ranks (hops ++ hop ∷ []) most
  keeps low = record {
    above = λ x there. elim (Contains-push_cases hops hop x there) [
      | inl before ↦ so_far.above x before
      | inr here ↦ subst (λ (h : Hop). rank_at ranks h.to.relay < most) here (omega (arith, one, low))
    ];
    least = elim so_far.least [
      | inl none ↦ inl none
      | inr some ↦ inr (some.0, Contains-append_left hops (hop ∷ []) some.0 some.1, some.2)
    ];
  }

  takes : most < next → IsHeightOf ranks (hops ++ hop ∷ []) next
  takes up = record {
    above = λ x there. elim (Contains-push_cases hops hop x there) [
      | inl before ↦ (let is = so_far.above x before in omega (arith, is, up))
      | inr here ↦ subst (λ (h : Hop). rank_at ranks h.to.relay < next) here (omega (arith, one))
    ];
    least = inr (hop, Contains-push hops hop, one);
  }

module _ (ranks : List ℕ) (hops : List Hop) (k : ℕ) (hop : Hop) (low : k < length hops) (is : hop ≡ get_or hops k hop) (most next : ℕ)
    (so_far : IsHeightOf ranks (take k hops) most) (one : next ≡ rank_at ranks hop.to.relay + 1) where
  one_more : take (k + 1) hops ≡ take k hops ++ hop ∷ []
  one_more = subst (λ x. take (k + 1) hops ≡ take k hops ++ x ∷ []) (sym is) (take_more hops k hop low)

  pub still_most : next ≤ most → IsHeightOf ranks (take (k + 1) hops) most
  still_most low = subst (λ l. IsHeightOf ranks l most) (sym one_more) (keeps ranks (take k hops) hop most next so_far one low)

  pub new_most : most < next → IsHeightOf ranks (take (k + 1) hops) next
  new_most up = subst (λ l. IsHeightOf ranks l next) (sym one_more) (takes ranks (take k hops) hop most next so_far one up)

pub height_of_all : (ranks : List ℕ) (hops : List Hop) (k most : ℕ) → length hops ≤ k → IsHeightOf ranks (take k hops) most
    → IsHeightOf ranks hops most
height_of_all ranks hops k most all is = subst (λ l. IsHeightOf ranks l most) (take_all k hops all) is

pub height_by_hops : (site : Site) (class : Class) (ranks : List ℕ) (from : SiteInput) (hops : List Hop) (height : ℕ)
    → AreHops site class executed.Every from.relay (list_of site from) hops → IsHeightOf ranks hops height → IsHeight site class ranks from height
height_by_hops site class ranks from hops height are is = record {
  above = λ to number goes.
      (let hop = are.whole number to goes in
      subst (λ (x : SiteInput). rank_at ranks x.relay < height) hop.2 (is.above hop.0 hop.1));
  least = elim is.least [
    | inl none ↦ inl none
    | inr some ↦ inr (some.0.to, some.0.number, (are.sound some.0 some.1).1, some.2)
  ];
}
