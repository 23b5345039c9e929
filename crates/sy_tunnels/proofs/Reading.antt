-- Tunnel lines one after the other.
use Rattle.std.proofs.Common.{◌≡◌, ℕ, ◌+◌, ◌<◌, List, [], ◌∷◌, ◌++◌, drop, get_or, length, map, take, sym, ap, subst, ◌∙◌, arith}
use Rattle.std.specs.Prelude.{Option}
use Rattle.std.proofs.lemmas.List.{drop_more, length-map, length-take-le, map-append, take-append-drop}
use Rattle.sy_site.specs.Sites.{Site}
use Rattle.sy_site.specs.declared.fault.SiteFault.{SiteFault}
use Rattle.sy_tunnels.specs.Lines.{lines_of, words_of}
use Rattle.sy_tunnels.specs.Tunnels.{AreTunnels, HasTunnelFault, IsFaulty, Says, Tunnel, with_tunnel}
use Rattle.sy_tunnels.proofs.Joining.{map_take_next}
use Rattle.std.proofs.lemmas.List.{map_push}

module _ {A : Type 0} (f : A → List ℕ) (items : List A) where
  -- the words of the lines before a place
  abbrev before : ℕ → List (List (List ℕ))
  before k = map words_of (map f (take k items))

  how_many : (k : ℕ) → k < length items → length (before k) ≡ k
  how_many k within =
      length-map (map f (take k items)) words_of ∙ length-map (take k items) f ∙ length-take-le k items (omega (arith, within))

  one_more : (k : ℕ) (x : A) → k < length items → get_or items k x ≡ x → before (k + 1) ≡ before k ++ words_of (f x) ∷ []
  one_more k x within is = ap (map words_of) (map_take_next f items k x within is) ∙ map_push words_of (map f (take k items)) (f x)

  pub tunnels_next : (site : Site) (k : ℕ) (x : A) (tunnels new : List Tunnel) → k < length items → get_or items k x ≡ x → AreTunnels site (before k) tunnels
      → ((it : Option Tunnel) × Says site tunnels (k + 1) (words_of (f x)) it × (new ≡ with_tunnel tunnels it)) → AreTunnels site (before (k + 1)) new
  tunnels_next site k x tunnels new within is so (it, says, whole) =
      subst (λ lines. AreTunnels site lines new) (sym (one_more k x within is))
      (subst (AreTunnels site (before k ++ words_of (f x) ∷ [])) (sym whole)
      (AreTunnels.more (before k) tunnels (words_of (f x)) it so
      (subst (λ n. Says site tunnels (n + 1) (words_of (f x)) it) (sym (how_many k within)) says)))

  split_at : (k : ℕ) (x : A) → k < length items → get_or items k x ≡ x → items ≡ take k items ++ x ∷ drop (k + 1) items
  split_at k x within is = sym (take-append-drop k items) ∙ ap (λ rest. take k items ++ rest) (drop_more items k x within ∙ ap (λ y. y ∷ drop (k + 1) items) is)

  pub fault_here : (site : Site) (text : List ℕ) (k : ℕ) (x : A) (tunnels : List Tunnel) (fault : SiteFault) → k < length items → get_or items k x ≡ x
      → map f items ≡ lines_of text → AreTunnels site (before k) tunnels → IsFaulty site tunnels (k + 1) (words_of (f x)) fault
      → HasTunnelFault site text fault
  fault_here site text k x tunnels fault within is lines so faulty = record {
    before = before k;
    line = words_of (f x);
    later = map words_of (map f (drop (k + 1) items));
    whole =
        ap (map words_of) (sym lines ∙ ap (map f) (split_at k x within is) ∙ map-append f (take k items) (x ∷ drop (k + 1) items))
        ∙ map-append words_of (map f (take k items)) (f x ∷ map f (drop (k + 1) items));
    tunnels = tunnels;
    are_tunnels = so;
    faulty = subst (λ n. IsFaulty site tunnels (n + 1) (words_of (f x)) fault) (sym (how_many k within)) faulty;
  }
