-- Instances of what is found, and what is put to them.
use Rattle.std.proofs.Common.{◌≡◌, ℕ, ◌<◌, ◌≤◌, ◌+◌, List, [], ◌∷◌, ◌++◌, length, get_or, set, take, refl, sym, ap, subst, ◌∙◌, arith, inl, inr}
use Rattle.std.specs.Prelude.{Contains, ◌⊎◌}
use Rattle.std.proofs.lemmas.List.{take_all, take_more}
use Rattle.std.proofs.lemmas.List.Elements.{Contains-append_left, Contains-push, Contains-push_cases}
use Rattle.sy_wire.specs.declared.class.Class.{Class}
use Rattle.sy_site.specs.declared.site.SiteInput.{SiteInput}
use Rattle.sy_site.specs.declared.finding.Kind.{Kind}
use Rattle.sy_checker.specs.declared.kinds.groups.Group.{Group}
use Rattle.sy_checker.specs.Survey.{Names}
use Rattle.sy_checker.proofs.Grouping.{is_left, lone, new_there, none_there, same_subject, stands_there, was_there}
use Rattle.sy_findings.specs.declared.verdicts.instances.Instance.{Instance}
use Rattle.sy_findings.specs.Instances.{AreInstances, Tells, subject}
use Rattle.sy_findings.specs.internal.Instances.{Adds, IsAt}

-- ---- a class is put to an instance

module _ (xs : List Instance) (place : ℕ) (class : Class) (input : SiteInput) (k : Kind) (at : IsAt xs place input k) (new : Instance)
    (same : subject new ≡ subject at.instance) (classes : new.classes.items ≡ at.instance.classes.items ++ class ∷ []) where
  abbrev old : Instance
  old = at.instance

  has : (c : Class) → Contains (old.classes.items ++ class ∷ []) c → Contains new.classes.items c
  has c there = subst (λ l. Contains l c) (sym classes) there

  here : Contains (set xs place new) new
  here = new_there xs place old new at.stands

  kept : (c : Class) (i : SiteInput) (j : Kind) → Tells xs c i j → Tells (set xs place new) c i j
  kept c i j n = elim (is_left xs place old new n.instance at.stands n.there) [
    | inl there ↦ record { instance = n.instance; there = there; is_of = n.is_of; named = n.named }
    | inr is ↦ record {
      instance = new;
      there = here;
      is_of = same ∙ sym (ap subject is) ∙ n.is_of;
      named = has c (Contains-append_left old.classes.items (class ∷ []) c (subst (λ (g : Instance). Contains g.classes.items c) is n.named));
    }
  ]

  only : (c : Class) (i : SiteInput) (j : Kind) → Tells (set xs place new) c i j → Tells xs c i j ⊎ ((c ≡ class) × (i ≡ input) × (j ≡ k))
  only c i j n = elim (was_there xs place new n.instance n.there) [
    | inl there ↦ inl (record { instance = n.instance; there = there; is_of = n.is_of; named = n.named })
    | inr is ↦
        (let of_new : subject new ≡ (i, j) = sym (ap subject is) ∙ n.is_of in
        let listed : Contains (old.classes.items ++ class ∷ []) c =
        subst (λ l. Contains l c) classes (subst (λ (g : Instance). Contains g.classes.items c) is n.named) in
        elim (Contains-push_cases old.classes.items class c listed) [
          | inl before ↦ inl (record { instance = old; there = stands_there xs place old at.stands; is_of = sym same ∙ of_new; named = before })
          | inr it ↦
              (let one : (i, j) ≡ (input, k) = sym of_new ∙ same ∙ at.is_of in
              inr (sym it, ap (λ (p : SiteInput × Kind). p.0) one, ap (λ (p : SiteInput × Kind). p.1) one))
        ])
  ]

  told : Tells (set xs place new) class input k
  told = record { instance = new; there = here; is_of = same ∙ at.is_of; named = has class (Contains-push old.classes.items class) }

  pub joined : Adds (λ c. c ≡ class) input k xs (set xs place new)
  joined = record {
    kept = kept;
    all = λ c is. subst (λ z. Tells (set xs place new) z input k) (sym is) told;
    only = only;
  }

-- ---- an instance is begun

module _ (xs : List Instance) (class : Class) (input : SiteInput) (k : Kind) (new : Instance) (is : subject new ≡ (input, k))
    (classes : new.classes.items ≡ class ∷ []) where
  it : Contains new.classes.items class
  it = subst (λ l. Contains l class) (sym classes) (0, omega arith, refl)

  only_it : (c : Class) (i : SiteInput) (j : Kind) → Tells (xs ++ new ∷ []) c i j → Tells xs c i j ⊎ ((c ≡ class) × (i ≡ input) × (j ≡ k))
  only_it c i j n = elim (Contains-push_cases xs new n.instance n.there) [
    | inl before ↦ inl (record { instance = n.instance; there = before; is_of = n.is_of; named = n.named })
    | inr same ↦
        (let one : (i, j) ≡ (input, k) = sym n.is_of ∙ sym (ap subject same) ∙ is in
        let listed : Contains (class ∷ []) c = subst (λ l. Contains l c) classes (subst (λ (g : Instance). Contains g.classes.items c) (sym same) n.named) in
        inr (sym (lone class c listed), ap (λ (p : SiteInput × Kind). p.0) one, ap (λ (p : SiteInput × Kind). p.1) one))
  ]

  told_it : Tells (xs ++ new ∷ []) class input k
  told_it = record { instance = new; there = Contains-push xs new; is_of = is; named = it }

  pub begun : Adds (λ c. c ≡ class) input k xs (xs ++ new ∷ [])
  begun = record {
    kept = λ c i j n. record {
      instance = n.instance;
      there = Contains-append_left xs (new ∷ []) n.instance n.there;
      is_of = n.is_of;
      named = n.named;
    };
    all = λ c same. subst (λ z. Tells (xs ++ new ∷ []) z input k) (sym same) told_it;
    only = only_it;
  }

-- ---- one behind the other

pub none_added : (P : Class → Type 0) (input : SiteInput) (k : Kind) (xs : List Instance) → ((c : Class) → P c → ⊥) → Adds P input k xs xs
none_added P input k xs none = record {
  kept = λ c i j n. n;
  all = λ c p. absurd (none c p);
  only = λ c i j n. inl n;
}

pub both_added : (P Q R : Class → Type 0) (input : SiteInput) (k : Kind) (old mid new : List Instance) → Adds P input k old mid → Adds Q input k mid new
    → ((c : Class) → R c → P c ⊎ Q c) → ((c : Class) → P c → R c) → ((c : Class) → Q c → R c) → Adds R input k old new
both_added P Q R input k old mid new first second parts from_p from_q = record {
  kept = λ c i j n. second.kept c i j (first.kept c i j n);
  all = λ c r. elim (parts c r) [
    | inl p ↦ second.kept c input k (first.all c p)
    | inr q ↦ second.all c q
  ];
  only = λ c i j n. elim (second.only c i j n) [
    | inl between ↦ elim (first.only c i j between) [
      | inl before ↦ inl before
      | inr e ↦ inr (from_p c e.0, e.1, e.2)
    ]
    | inr e ↦ inr (from_q c e.0, e.1, e.2)
  ];
}

-- a class once more
pub again : (class : Class) (input : SiteInput) (k : Kind) (old mid new : List Instance) → Adds (λ c. c ≡ class) input k old mid
    → Adds (λ c. c ≡ class) input k mid new → Adds (λ c. c ≡ class) input k old new
again class input k old mid new first second =
    both_added (λ c. c ≡ class) (λ c. c ≡ class) (λ c. c ≡ class) input k old mid new first second (λ c r. inl r) (λ c p. p) (λ c q. q)

-- ---- for each class of a group

module _ (input : SiteInput) (k : Kind) (xs : List Class) where
  pub no_class : (all : List Instance) → Adds (λ c. Contains (take 0 xs) c) input k all all
  no_class all = none_added (λ c. Contains (take 0 xs) c) input k all (λ c there. none_there c there)

  pub more_classes : (n : ℕ) (class : Class) (old mid new : List Instance) → n < length xs → class ≡ get_or xs n class
      → Adds (λ c. Contains (take n xs) c) input k old mid → Adds (λ c. c ≡ class) input k mid new → Adds (λ c. Contains (take (n + 1) xs) c) input k old new
  more_classes n class old mid new low is before here =
      let cut : take (n + 1) xs ≡ take n xs ++ class ∷ [] = take_more xs n class low ∙ ap (λ z. take n xs ++ z ∷ []) (sym is) in
      both_added (λ c. Contains (take n xs) c) (λ c. c ≡ class) (λ c. Contains (take (n + 1) xs) c) input k old mid new before here
      (λ c r. elim (Contains-push_cases (take n xs) class c (subst (λ l. Contains l c) cut r)) [
        | inl earlier ↦ inl earlier
        | inr same ↦ inr (sym same)
      ])
      (λ c p. subst (λ l. Contains l c) (sym cut) (Contains-append_left (take n xs) (class ∷ []) c p))
      (λ c q. subst (λ l. Contains l c) (sym cut) (subst (λ z. Contains (take n xs ++ class ∷ []) z) (sym q) (Contains-push (take n xs) class)))

  pub all_classes : (n : ℕ) (old new : List Instance) → length xs ≤ n → Adds (λ c. Contains (take n xs) c) input k old new
      → Adds (λ c. Contains xs c) input k old new
  all_classes n old new all adds = subst (λ l. Adds (λ c. Contains l c) input k old new) (take_all n xs all) adds

-- ---- for each group

pub no_instances : (groups : List Group) → AreInstances (take 0 groups) []
no_instances groups = record {
  only = λ c i j n. absurd (none_there n.instance n.there);
  all = λ c i j n. absurd (none_there n.group n.there);
}

module _ (groups : List Group) where
  pub more_groups : (n : ℕ) (group : Group) (old new : List Instance) → n < length groups → group ≡ get_or groups n group
      → AreInstances (take n groups) old → Adds (λ c. Contains group.classes.items c) group.input group.kind old new
      → AreInstances (take (n + 1) groups) new
  more_groups n group old new low is before adds =
      let cut : take (n + 1) groups ≡ take n groups ++ group ∷ [] = take_more groups n group low ∙ ap (λ z. take n groups ++ z ∷ []) (sym is) in
      record {
        only = λ c i j t. subst (λ l. Names l c i j) (sym cut) (elim (adds.only c i j t) [
          | inl earlier ↦
              (let named = before.only c i j earlier in record {
                group = named.group;
                there = Contains-append_left (take n groups) (group ∷ []) named.group named.there;
                is_of = named.is_of;
                named = named.named;
              })
          | inr e ↦ record {
            group = group;
            there = Contains-push (take n groups) group;
            is_of = same_subject group i j (sym e.1) (sym e.2);
            named = e.0;
          }
        ]);
        all = λ c i j m.
            (let n1 : Names (take n groups ++ group ∷ []) c i j = subst (λ l. Names l c i j) cut m in
            elim (Contains-push_cases (take n groups) group n1.group n1.there) [
              | inl earlier ↦ adds.kept c i j (before.all c i j (record { group = n1.group; there = earlier; is_of = n1.is_of; named = n1.named }))
              | inr same ↦
                  (let one : (group.input, group.kind) ≡ (i, j) = ap (λ (g : Group). (g.input, g.kind)) same ∙ n1.is_of in
                  subst (λ (p : SiteInput × Kind). Tells new c p.0 p.1) one
                  (adds.all c (subst (λ (g : Group). Contains g.classes.items c) (sym same) n1.named)))
            ]);
      }

  pub all_groups : (n : ℕ) (instances : List Instance) → length groups ≤ n → AreInstances (take n groups) instances → AreInstances groups instances
  all_groups n instances all are = subst (λ l. AreInstances l instances) (take_all n groups all) are
