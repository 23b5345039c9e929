-- Inputs that are found, one after another.
use Rattle.std.proofs.Common.{◌≡◌, ℕ, ◌<◌, ◌≤◌, ◌+◌, Bool, true, false, ◌&&◌, ◌==◌, List, [], ◌∷◌, ◌++◌, length, take, get_or, refl, sym, ap, subst, ◌∙◌, arith, inl, inr, eqb-true, eq-eqb, append-nil, append_assoc}
use Rattle.std.specs.Prelude.{Contains, ◌⊎◌, Result, Ok, Err, OnOk}
use Rattle.std.specs.Cmp.{IsEquivalence}
use Rattle.std.specs.List.{list_any}
use Rattle.std.proofs.lemmas.Bool.{false≢true}
use Rattle.std.proofs.lemmas.Cmp.{nat_eq_equiv}
use Rattle.std.proofs.lemmas.List.{take_all, take_more}
use Rattle.std.proofs.lemmas.List.Elements.{Contains-append_left, Contains-push, Contains-push_cases}
use Rattle.std.proofs.lemmas.Map.Keys.{IsDistinct-push}
use Rattle.std.proofs.lemmas.Map.Views.{Contains-from_any, list_any-from_Contains}
use Rattle.sy_wire.specs.declared.class.Class.{Class}
use Rattle.sy_site.specs.declared.site.SiteInput.{SiteInput}
use Rattle.sy_site.specs.Sites.{Site}
use Rattle.sy_site.specs.machine.Reach.{list_of}
use Rattle.sy_flows.specs.declared.flows.executed.Executed.{Executed}
use Rattle.sy_flows.specs.declared.flows.Hop.{Hop}
use Rattle.sy_flows.specs.Hops.{AreHops, LeadsBy}
use Rattle.sy_flows.specs.internal.Hops.{HasHop}
use Rattle.sy_flows.specs.internal.Found.{Adds}
use Rattle.sy_flows.specs.Members.{same_input}
use Rattle.sy_flows.specs.Search.{LeadsOn}

-- ---- inputs are the same by their numbers

first_true : (a b : Bool) → (a && b) ≡ true → a ≡ true
first_true true b e = refl
first_true false b e = e

second_true : (a b : Bool) → (a && b) ≡ true → b ≡ true
second_true true b e = e
second_true false b e = absurd (false≢true e)

pub same_is : (a b : SiteInput) → same_input a b ≡ true → a ≡ b
same_is a b e =
    let relay = eqb-true a.relay b.relay (first_true (a.relay == b.relay) (a.input == b.input) e) in
    let input = eqb-true a.input b.input (second_true (a.relay == b.relay) (a.input == b.input) e) in
    λ i. record { relay = relay i; input = input i }

pub same_laws : IsEquivalence same_input
same_laws = record {
  refl = λ a. rw (eq-eqb a.relay a.relay refl, eq-eqb a.input a.input refl) refl;
  symm = λ a b. ap (λ x. x && (a.input == b.input)) (nat_eq_equiv.symm a.relay b.relay)
      ∙ ap (λ x. (b.relay == a.relay) && x) (nat_eq_equiv.symm a.input b.input);
  congr = λ a b c e. ap (λ x. same_input x c) (same_is a b e);
}

-- ---- what is added

pub nothing_added : (P : SiteInput → Type 0) (old : List SiteInput) → ((x : SiteInput) → P x → ⊥) → Adds P old old
nothing_added P old none = record {
  more = [];
  whole = sym (append-nil old);
  all = λ x p. absurd (none x p);
  only = λ x there. inl there;
  distinct = λ d. d;
}

pub had : (old : List SiteInput) (x : SiteInput) → list_any (same_input x) old ≡ true → Adds (λ y. y ≡ x) old old
had old x among = record {
  more = [];
  whole = sym (append-nil old);
  all = λ y e. subst (Contains old) (sym e) (Contains-from_any same_is x old among);
  only = λ y there. inl there;
  distinct = λ d. d;
}

pub not_among : (found : List SiteInput) (x : SiteInput) → list_any (same_input x) found ≡ false → Contains found x → ⊥
not_among found x none there = false≢true (sym none ∙ list_any-from_Contains same_laws x found there)

pub on_ok : {A E : Type 0} (P Q : Type 0) → (P → Q) → (r : Result A E) → OnOk r P → OnOk r Q
on_ok P Q f (Ok x) p = f p
on_ok P Q f (Err e) p = p

pub pushed : (old : List SiteInput) (x : SiteInput) → list_any (same_input x) old ≡ false → Adds (λ y. y ≡ x) old (old ++ x ∷ [])
pushed old x fresh = record {
  more = x ∷ [];
  whole = refl;
  all = λ y e. subst (Contains (old ++ x ∷ [])) (sym e) (Contains-push old x);
  only = λ y there. elim (Contains-push_cases old x y there) [
    | inl before ↦ inl before
    | inr here ↦ inr (sym here)
  ];
  distinct = λ d. IsDistinct-push same_laws old x d fresh;
}

module _ (P Q R : SiteInput → Type 0) (old mid new : List SiteInput) (first : Adds P old mid) (second : Adds Q mid new) where
  kept : (x : SiteInput) → Contains mid x → Contains new x
  kept x there = subst (λ l. Contains l x) (sym second.whole) (Contains-append_left mid second.more x there)

  pub both_added : ((x : SiteInput) → R x → P x ⊎ Q x) → ((x : SiteInput) → P x → R x) → ((x : SiteInput) → Q x → R x) → Adds R old new
  both_added parts from_first from_second = record {
    more = first.more ++ second.more;
    whole = second.whole ∙ ap (λ l. l ++ second.more) first.whole ∙ append_assoc old first.more second.more;
    all = λ x r. elim (parts x r) [
      | inl p ↦ kept x (first.all x p)
      | inr q ↦ second.all x q
    ];
    only = λ x there. elim (second.only x there) [
      | inl before ↦ elim (first.only x before) [
        | inl had ↦ inl had
        | inr p ↦ inr (from_first x p)
      ]
      | inr q ↦ inr (from_second x q)
    ];
    distinct = λ d. second.distinct (first.distinct d);
  }

-- the same by another word
pub added_as : (P Q : SiteInput → Type 0) (old new : List SiteInput) → Adds P old new → ((x : SiteInput) → Q x → P x) → ((x : SiteInput) → P x → Q x)
    → Adds Q old new
added_as P Q old new a to from = record {
  more = a.more;
  whole = a.whole;
  all = λ x q. a.all x (to x q);
  only = λ x there. elim (a.only x there) [
    | inl had ↦ inl had
    | inr p ↦ inr (from x p)
  ];
  distinct = a.distinct;
}

-- ---- of a list, one after another

none_yet : (xs : List SiteInput) (x : SiteInput) → Contains (take 0 xs) x → ⊥
none_yet xs x (k, low, is) = absurd (omega (arith, low))

pub none_of : (xs old : List SiteInput) → Adds (Contains (take 0 xs)) old old
none_of xs old = nothing_added (Contains (take 0 xs)) old (none_yet xs)

pub one_more : (xs : List SiteInput) (k : ℕ) (d : SiteInput) (old mid new : List SiteInput) → k < length xs
    → Adds (Contains (take k xs)) old mid → Adds (λ y. y ≡ get_or xs k d) mid new → Adds (Contains (take (k + 1) xs)) old new
one_more xs k d old mid new low first second =
    let x = get_or xs k d in
    let split = take_more xs k d low in
    both_added (Contains (take k xs)) (λ y. y ≡ x) (Contains (take (k + 1) xs)) old mid new first second
    (λ y there. elim (Contains-push_cases (take k xs) x y (subst (λ l. Contains l y) split there)) [
      | inl before ↦ inl before
      | inr here ↦ inr (sym here)
    ])
    (λ y there. subst (λ l. Contains l y) (sym split) (Contains-append_left (take k xs) (x ∷ []) y there))
    (λ y e. subst (λ l. Contains l y) (sym split) (subst (Contains (take k xs ++ x ∷ [])) (sym e) (Contains-push (take k xs) x)))

-- ---- what hops lead to

pub none_hops : (hops : List Hop) (old : List SiteInput) → Adds (HasHop (take 0 hops)) old old
none_hops hops old = nothing_added (HasHop (take 0 hops)) old (λ x has. let (k, low, is) = has.there in absurd (omega (arith, low)))

pub more_hops : (hops : List Hop) (k : ℕ) (d : Hop) (old mid new : List SiteInput) → k < length hops
    → Adds (HasHop (take k hops)) old mid → Adds (λ y. y ≡ (get_or hops k d).to) mid new → Adds (HasHop (take (k + 1) hops)) old new
more_hops hops k d old mid new low first second =
    let hop = get_or hops k d in
    let split = take_more hops k d low in
    both_added (HasHop (take k hops)) (λ y. y ≡ hop.to) (HasHop (take (k + 1) hops)) old mid new first second
    (λ y has. elim (Contains-push_cases (take k hops) hop has.hop (subst (λ l. Contains l has.hop) split has.there)) [
      | inl before ↦ inl (record { hop = has.hop; there = before; leads = has.leads })
      | inr here ↦ inr (sym has.leads ∙ ap (λ (h : Hop). h.to) (sym here))
    ])
    (λ y has. record {
      hop = has.hop;
      there = subst (λ l. Contains l has.hop) (sym split) (Contains-append_left (take k hops) (hop ∷ []) has.hop has.there);
      leads = has.leads;
    })
    (λ y e. record {
      hop = hop;
      there = subst (λ l. Contains l hop) (sym split) (Contains-push (take k hops) hop);
      leads = sym e;
    })

pub all_hops : (site : Site) (class : Class) (which : Executed) (from : SiteInput) (hops : List Hop) (k : ℕ) (old new : List SiteInput)
    → AreHops site class which from.relay (list_of site from) hops → length hops ≤ k → Adds (HasHop (take k hops)) old new
    → Adds (LeadsOn site class which from) old new
all_hops site class which from hops k old new are all added =
    added_as (HasHop (take k hops)) (LeadsOn site class which from) old new added
    (λ x on.
    (let hop = are.whole on.number x on.leads in
    record { hop = hop.0; there = subst (λ l. Contains l hop.0) (sym (take_all k hops all)) hop.1; leads = hop.2 }))
    (λ x has.
    (let sound = are.sound has.hop (subst (λ l. Contains l has.hop) (take_all k hops all) has.there) in
    record { number = has.hop.number; leads = subst (LeadsBy site class which from has.hop.number) has.leads sound.1 }))
