-- Whether posts lead to a list: those that they lead to are gathered until none is new.
use Rattle.std.proofs.Common.{◌≡◌, ℕ, suc, ◌<◌, ◌≤◌, ◌+◌, ◌==◌, ◌&&◌, Bool, true, false, not, List, [], ◌∷◌, ◌++◌, length, refl, sym, ap, subst, ◌∙◌, arith, inl, inr, eqb, eqb-true, eq-eqb}
use Rattle.std.specs.Prelude.{Contains, ◌⊎◌, ◌↔◌}
use Rattle.std.specs.List.{list_any}
use Rattle.std.proofs.lemmas.Bool.{false≢true}
use Rattle.std.proofs.lemmas.Cmp.{nat_eq_equiv}
use Rattle.std.proofs.lemmas.List.{length_push}
use Rattle.std.proofs.lemmas.List.Elements.{Contains-push_cases}
use Rattle.std.proofs.lemmas.Map.Views.{Contains-from_any, list_any-from_Contains}
use Rattle.sy_wire.specs.declared.class.Class.{Class}
use Rattle.sy_rules.specs.declared.lists.occurrence.Occurrence.TheVariants as occurrence
use Rattle.sy_board.specs.relay.Spares.{Scope, more, once}
use Rattle.sy_site.specs.declared.site.SiteInput.{SiteInput}
use Rattle.sy_site.specs.Sites.{Site, plan_at}
use Rattle.sy_site.specs.machine.Lawful.{IsLawful}
use Rattle.sy_site.specs.machine.Reach.{PostsOn, Reach, list_of}
use Rattle.sy_fit.specs.Fit.{IsInner}
use Rattle.sy_flows.specs.Hops.{AreApart}
use Rattle.sy_checker.specs.internal.Inner.{PostsTo}
use Rattle.sy_fit.proofs.InnerLists.{on, posts_join}
use Rattle.sy_checker.proofs.Leading.{executes, executes_has, executes_is, inners, inners_has, inners_is}
use Rattle.sy_fit.proofs.Listing.{In, and_first, and_second, both_true, flat, flat_has, flat_is, in_cases, in_left, in_list, in_right, of_list, some, some_has, some_is}
use Rattle.sy_flows.proofs.Used.{posted_there}
use Rattle.sy_flows.proofs.Walking.{apart_room, more_apart, none_apart}

-- ---- where the posts of a list lead

module _ (site : Site) (class : Class) (relay : ℕ) where
  abbrev pub next : ℕ → List ℕ
  next list = inners site class relay (executes site class relay Scope.Firm list)

  pub next_has : (list to : ℕ) → PostsTo site class relay list to → In to (next list)
  next_has list to posts =
      inners_has site class relay (executes site class relay Scope.Firm list) to
      (executes_has site class relay Scope.Firm list posts.0 (occurrence.Post to) posts.1)

  pub next_is : (list to : ℕ) → In to (next list) → PostsTo site class relay list to
  next_is list to i =
      executes_is site class relay Scope.Firm list (occurrence.Post to) (inners_is site class relay (executes site class relay Scope.Firm list) to i)

not_false : (b : Bool) → not b ≡ true → b ≡ false
not_false true e = absurd (false≢true e)
not_false false e = refl

-- ---- where they lead on

module _ (site : Site) (law : IsLawful site) (class : Class) (relay from : ℕ) where
  abbrev many : ℕ
  many = length (plan_at site relay).lists

  abbrev step : ℕ → List ℕ
  step list = next site class relay list

  record Seen (lists : List ℕ) : Type 0 where
    pub apart : AreApart many lists
    pub sound : (x : ℕ) → Contains lists x → PostsOn site class Scope.Firm relay from x

  record Closed : Type 0 where
    pub lists : List ℕ
    pub sound : (x : ℕ) → Contains lists x → PostsOn site class Scope.Firm relay from x
    pub first : (x : ℕ) → In x (step from) → Contains lists x
    pub closed : (x y : ℕ) → Contains lists x → In y (step x) → Contains lists y

  record Longer (lists : List ℕ) : Type 0 where
    pub new : ℕ
    pub room : length lists < many
    pub seen : Seen (lists ++ new ∷ [])

  abbrev is_new : List ℕ → ℕ → Bool
  is_new lists y = not (list_any (eqb y) lists)

  abbrev further : List ℕ → List ℕ
  further lists = step from ++ flat step lists

  had : (lists : List ℕ) (y : ℕ) → (b : Bool) → list_any (eqb y) lists ≡ b → (is_new lists y ≡ true → ⊥) → Contains lists y
  had lists y true is none = Contains-from_any (λ a b e. eqb-true a b e) y lists is
  had lists y false is none = absurd (none (ap not is))

  fresh : (lists : List ℕ) (y : ℕ) → is_new lists y ≡ true → Contains lists y → ⊥
  fresh lists y new there = false≢true (sym (not_false (list_any (eqb y) lists) new) ∙ list_any-from_Contains nat_eq_equiv y lists there)

  more_seen : (lists : List ℕ) → Seen lists → (x y : ℕ) → PostsTo site class relay x y → PostsOn site class Scope.Firm relay from y
      → (Contains lists y → ⊥) → Longer lists
  more_seen lists seen x y posts leads none =
      let below = posted_there site law relay x posts.0 y posts.1.found in
      record {
        new = y;
        room = apart_room many lists y seen.apart none below;
        seen = record {
          apart = more_apart many lists y seen.apart none below;
          sound = λ z is. elim (Contains-push_cases lists y z is) [
            | inl before ↦ seen.sound z before
            | inr here ↦ subst (PostsOn site class Scope.Firm relay from) here leads
          ];
        };
      }

  look : (lists : List ℕ) → Seen lists → (b : Bool) → some (is_new lists) (further lists) ≡ b → Closed ⊎ Longer lists
  look lists seen true e =
      let f = some_is (is_new lists) (further lists) e in
      inr (elim (in_cases (step from) (flat step lists) f.0 f.1) [
        | inl at_once ↦
            let posts = next_is site class relay from f.0 at_once in
            more_seen lists seen from f.0 posts (once posts.0 posts.1) (fresh lists f.0 f.2)
        | inr later ↦
            let g = flat_is step lists f.0 later in
            let posts = next_is site class relay g.0 f.0 g.2 in
            more_seen lists seen g.0 f.0 posts
            (posts_join site class relay from g.0 f.0 (seen.sound g.0 (of_list lists g.0 g.1)) (once posts.0 posts.1)) (fresh lists f.0 f.2)
      ])
  look lists seen false e = inl (record {
    lists = lists;
    sound = seen.sound;
    first = λ x i. had lists x (list_any (eqb x) lists) refl
        (λ new. false≢true (sym e ∙ some_has (is_new lists) (further lists) x (in_left (step from) (flat step lists) x i) new));
    closed = λ x y there i. had lists y (list_any (eqb y) lists) refl
        (λ new. false≢true (sym e ∙ some_has (is_new lists) (further lists) y
        (in_right (step from) (flat step lists) y (flat_has step lists x y (in_list lists x there.0 there.1 there.2) i)) new));
  })

  close : (n : ℕ) (lists : List ℕ) → Seen lists → many ≤ length lists + n → Closed
  close ℕ.zero lists seen most = elim (look lists seen (some (is_new lists) (further lists)) refl) [
    | inl c ↦ c
    | inr longer ↦ let room = longer.room in absurd (omega (arith, most, room))
  ]
  close (ℕ.suc n) lists seen most = elim (look lists seen (some (is_new lists) (further lists)) refl) [
    | inl c ↦ c
    | inr longer ↦ let l = length_push lists longer.new in close n (lists ++ longer.new ∷ []) longer.seen (omega (arith, most, l))
  ]

  all : Closed
  all = close many [] (record { apart = none_apart many; sound = λ x there. (let (k, below, same) = there in absurd (omega (arith, below))) }) (omega arith)

  reaches : (c : Closed) (x y : ℕ) → PostsOn site class Scope.Firm relay x y → ((to : ℕ) → In to (step x) → Contains c.lists to) → Contains c.lists y
  reaches c x y (once number does) each = each y (next_has site class relay x y (number, does))
  reaches c x y (more {mid = mid} number does later) each =
      reaches c mid y later (λ to i. c.closed mid to (each mid (next_has site class relay x mid (number, does))) i)

  pub record Posted : Type 0 where
    pub lists : List ℕ
    pub each : (to : ℕ) → Contains lists to ↔ PostsOn site class Scope.Firm relay from to

  pub posted_lists : Posted
  posted_lists = record {
    lists = all.lists;
    each = λ to. (λ there. all.sound to there, λ posts. reaches all from to posts all.first);
  }

-- ---- from the inputs that are reached

module _ (site : Site) (law : IsLawful site) (class : Class) (found : List SiteInput)
    (firm : (x : SiteInput) → Contains found x ↔ Reach site class Scope.Firm x) (relay list : ℕ) where
  abbrev leads : SiteInput → Bool
  leads x = list_any (eqb list) (posted_lists site law class relay (list_of site x)).lists

  abbrev is_one : SiteInput → Bool
  is_one x = (x.relay == relay) && leads x

  pub is_inner : IsInner site class (on relay list) ⊎ (IsInner site class (on relay list) → ⊥)
  is_inner = by (some is_one found) refl
    where
      by : (b : Bool) → some is_one found ≡ b → IsInner site class (on relay list) ⊎ (IsInner site class (on relay list) → ⊥)
      by true e =
          let f = some_is is_one found e in
          let p = posted_lists site law class relay (list_of site f.0) in
          inl (record {
            input = f.0;
            at = eqb-true f.0.relay relay (and_first (f.0.relay == relay) (leads f.0) f.2);
            reached = (firm f.0).0 (of_list found f.0 f.1);
            posted = (p.each list).0 (Contains-from_any (λ a b e. eqb-true a b e) list p.lists (and_second (f.0.relay == relay) (leads f.0) f.2));
          })
      by false e = inr (λ is.
          (let x = is.input in
          let there = (firm x).1 is.reached in
          let p = posted_lists site law class relay (list_of site x) in
          false≢true (sym e ∙ some_has is_one found x (in_list found x there.0 there.1 there.2)
          (both_true (x.relay == relay) (leads x) (eq-eqb x.relay relay is.at)
          (list_any-from_Contains nat_eq_equiv list p.lists ((p.each list).1 is.posted))))))
