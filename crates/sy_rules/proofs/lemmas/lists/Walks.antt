-- The walk of a text under the valuation of a message is one by which tests hold; the walk of one text after another.
use Rattle.std.proofs.Common.{◌≡◌, ℕ, suc, ◌+◌, Bool, true, false, if◌then◌else◌, List, [], ◌++◌, length, refl, sym, ap, ◌∙◌, arith, append_assoc, append-nil}
use Rattle.std.proofs.lemmas.List.{map-append, length-map, drop_at}
use Rattle.sy_wire.specs.Messages.{Said}
use Rattle.sy_select.specs.declared.condition.Test.{Test}
use Rattle.sy_select.specs.Properties.{says}
use Rattle.sy_select.specs.Truth as truth
use Rattle.sy_select.specs.Truth.{Formula, Valuation, valuation}
use Rattle.sy_select.specs.internal.Walk.{holds}
use Rattle.sy_select.proofs.Verdicts.{truth_before}
use Rattle.sy_rules.specs.internal.Flow.{flow, work_flow}
use Rattle.sy_rules.specs.lists.Body.{Body, ◌⧺◌, Walk, ◌then◌, walk, tests, one, count}
use Rattle.sy_rules.specs.lists.Work.{work}
use Rattle.sy_rules.proofs.lemmas.lists.SizeLaws.{count-if}

-- ---- under a valuation

module _ (says : Test → Bool) where
  front : (ts us : List Test) (w : Valuation) → valuation says (ts ++ us) ++ w ≡ valuation says ts ++ (valuation says us ++ w)
  front ts us w = ap (λ v. v ++ w) (map-append says ts us) ∙ append_assoc (valuation says ts) (valuation says us) w

  skipped : (ts us : List Test) (w : Valuation) → truth.behind ts (valuation says (ts ++ us) ++ w) ≡ valuation says us ++ w
  skipped ts us w = ap (truth.behind ts) (front ts us w) ∙ drop_at (valuation says ts) (valuation says us ++ w) (length ts) (length-map ts says)

  regrouped : (ts us vs : List Test) (w : Valuation) → valuation says (ts ++ (us ++ vs)) ++ w ≡ valuation says ((ts ++ us) ++ vs) ++ w
  regrouped ts us vs w = ap (λ r. valuation says r ++ w) (sym (append_assoc ts us vs))

  pub walk_is : (s : Body) (number : ℕ) (w : Valuation) → walk s number (valuation says (tests s) ++ w) ≡ work_flow (holds says) s number
  walk_is Body.End number w = refl
  walk_is (Body.Run a rest) number w = ap (λ r. one number then r) (walk_is rest (number + 1) w)
  walk_is (Body.Post l rest) number w = ap (λ r. one number then r) (walk_is rest (number + 1) w)
  walk_is (Body.Stop rest) number w = refl
  walk_is (Body.If x done otherwise rest) number w =
      let ts = truth.occurrences x in
      let ds = tests done in
      let os = tests otherwise in
      let rs = tests rest in
      let v : Valuation = valuation says (ts ++ (ds ++ (os ++ rs))) ++ w in
      let first : walk done number (truth.behind ts v) ≡ work_flow (holds says) done number =
      ap (walk done number) (skipped ts (ds ++ (os ++ rs)) w ∙ front ds (os ++ rs) w) ∙ walk_is done number (valuation says (os ++ rs) ++ w) in
      let second : walk otherwise (number + count done) (truth.behind (ts ++ ds) v) ≡ work_flow (holds says) otherwise (number + count done) =
      ap (walk otherwise (number + count done)) (ap (truth.behind (ts ++ ds)) (regrouped ts ds (os ++ rs) w) ∙ skipped (ts ++ ds) (os ++ rs) w ∙ front os rs w)
      ∙ walk_is otherwise (number + count done) (valuation says rs ++ w) in
      let whole : valuation says (ts ++ (ds ++ (os ++ rs))) ++ w ≡ valuation says ((ts ++ (ds ++ os)) ++ rs) ++ w =
      ap (λ r. valuation says (ts ++ r) ++ w) (sym (append_assoc ds os rs)) ∙ regrouped ts (ds ++ os) rs w in
      let third : walk rest (number + count done + count otherwise) (truth.behind (ts ++ (ds ++ os)) v) ≡ work_flow (holds says) rest (number + count done + count otherwise) =
      ap (walk rest (number + count done + count otherwise)) (ap (truth.behind (ts ++ (ds ++ os))) whole ∙ skipped (ts ++ (ds ++ os)) rs w) ∙ walk_is rest (number + count done + count otherwise) w in
      let test : truth.truth x v ≡ holds says x = ap (truth.truth x) (front ts (ds ++ (os ++ rs)) w) ∙ sym (truth_before says x (valuation says (ds ++ (os ++ rs)) ++ w)) in
      rw (test, first, second, third) refl

-- what a message executes
pub work_is : (s : Body) (m : Said) → work s m ≡ (work_flow (holds (says m)) s 0).executed
work_is s m = ap (λ v. (walk s 0 v).executed) (sym (append-nil (valuation (says m) (tests s)))) ∙ ap (λ (w : Walk). w.executed) (walk_is (says m) s 0 [])

-- ---- one text after another

assoc : (xs ys zs : List ℕ) (p q r : Bool) → let a : Walk = record { executed = xs; goes_on = p } in let b : Walk = record { executed = ys; goes_on = q } in let c : Walk = record { executed = zs; goes_on = r } in
    (a then b) then c ≡ a then (b then c)
assoc xs ys zs true true r = ap (λ (l : List ℕ). record { executed = l; goes_on = r }) (append_assoc xs ys zs)
assoc xs ys zs true false r = refl
assoc xs ys zs false q r = refl

pub then_assoc : (a b c : Walk) → (a then b) then c ≡ a then (b then c)
then_assoc a b c = assoc a.executed b.executed c.executed a.goes_on b.goes_on c.goes_on

pub flow-⧺ : (choose : Formula Test → Walk → Walk → Walk) (s t : Body) (number : ℕ) → flow choose (s ⧺ t) number ≡ flow choose s number then flow choose t (number + count s)
flow-⧺ choose Body.End t number = ap (flow choose t) (omega arith)
flow-⧺ choose (Body.Run a s) t number =
    let e : number + 1 + count s ≡ number + suc (count s) = omega arith in
    ap (λ w. one number then w) (flow-⧺ choose s t (number + 1)) ∙ ap (λ n. one number then (flow choose s (number + 1) then flow choose t n)) e
    ∙ sym (then_assoc (one number) (flow choose s (number + 1)) (flow choose t (number + suc (count s))))
flow-⧺ choose (Body.Post l s) t number =
    let e : number + 1 + count s ≡ number + suc (count s) = omega arith in
    ap (λ w. one number then w) (flow-⧺ choose s t (number + 1)) ∙ ap (λ n. one number then (flow choose s (number + 1) then flow choose t n)) e
    ∙ sym (then_assoc (one number) (flow choose s (number + 1)) (flow choose t (number + suc (count s))))
flow-⧺ choose (Body.Stop s) t number = refl
flow-⧺ choose (Body.If x d o s) t number =
    let block = choose x (flow choose d number) (flow choose o (number + count d)) in
    let n = number + count d + count o in
    let c = count-if x d o s in
    let e : n + count s ≡ number + count (Body.If x d o s) = omega arith in
    ap (λ w. block then w) (flow-⧺ choose s t n ∙ ap (λ m. flow choose s n then flow choose t m) e)
    ∙ sym (then_assoc block (flow choose s n) (flow choose t (number + count (Body.If x d o s))))
