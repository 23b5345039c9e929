-- What a text executes: its own occurrences, and what stands after it.
use Rattle.std.proofs.Common.{◌≡◌, ◌⊎◌, inl, inr, ◌<◌, ◌≤◌, ◌+◌, ◌||◌, ◌==◌, if◌then◌else◌, ℕ, suc, Bool, true, false, List, [], ◌∷◌, ◌++◌, length, drop, refl, sym, ap, subst, ◌∙◌, arith}
use Rattle.std.proofs.lemmas.Bool.{eq-eqb, eqb-true, true≢false}
use Rattle.std.proofs.lemmas.List.{length-append, append_assoc, drop-drop}
use Rattle.std.proofs.lemmas.List.Folds.{list_any-append}
use Rattle.sy_wire.specs.declared.class.Class.{Class}
use Rattle.sy_wire.specs.Messages.{Said}
use Rattle.sy_select.specs.declared.condition.Test.{Test}
use Rattle.sy_select.specs.Properties.{known}
use Rattle.sy_select.specs.Truth as truth
use Rattle.sy_select.specs.Truth.{Valuation, Admits, behind}
use Rattle.sy_select.proofs.ExprLaws.{admitted, some_valuation}
use Rattle.sy_rules.specs.declared.lists.occurrence.Occurrence.TheVariants as occurrence
use Rattle.sy_rules.specs.lists.Laws.{IsRising}
use Rattle.sy_rules.specs.lists.Body.{Body, Walk, ◌⧺◌, ◌then◌, count, occurrences, tests, walk, executed, is_in, one}
use Rattle.sy_rules.specs.lists.Work.{Due, HasClass, IsAdmitted, May, Must, valuation_of}

-- ---- what a walk executes

-- these numbers
abbrev pub Within : ℕ → ℕ → Walk → Type 0
Within from upto w = (k : ℕ) → is_in k w.executed ≡ true → (from ≤ k) × (k < upto)

pub either : (a b : Bool) → (a || b) ≡ true → (a ≡ true) ⊎ (b ≡ true)
either true b h = inl refl
either false b h = inr h

in_either : (k : ℕ) (xs ys : List ℕ) → is_in k (xs ++ ys) ≡ true → (is_in k xs ≡ true) ⊎ (is_in k ys ≡ true)
in_either k xs ys h = either (is_in k xs) (is_in k ys) (sym (list_any-append (λ n. n == k) xs ys) ∙ h)

in_then : (k : ℕ) (xs : List ℕ) (goes_on : Bool) (b : Walk) → is_in k ((record { executed = xs; goes_on = goes_on }) then b).executed ≡ true → (is_in k xs ≡ true) ⊎ (is_in k b.executed ≡ true)
in_then k xs true b h = in_either k xs b.executed h
in_then k xs false b h = inl h

within_then : (f u v : ℕ) (a b : Walk) → Within f u a → Within u v b → f ≤ u → u ≤ v → Within f v (a then b)
within_then f u v a b ha hb fu uv k h =
    elim (in_then k a.executed a.goes_on b h) [
      | inl left ↦ (let p = ha k left in (p.0, omega arith))
      | inr right ↦ (let p = hb k right in (omega arith, p.1))
    ]

pub within_more : (f g u v : ℕ) (a : Walk) → Within g u a → f ≤ g → u ≤ v → Within f v a
within_more f g u v a h fg uv k is = let p = h k is in (omega arith, omega arith)

pub within_one : (n : ℕ) → Within n (n + 1) (one n)
within_one n k h =
    elim (either (n == k) false h) [
      | inl same ↦ (let e : n ≡ k = eqb-true n k same in (omega arith, omega arith))
      | inr apart ↦ absurd (true≢false (sym apart))
    ]

pub within_choice : (f u : ℕ) (b : Bool) (x y : Walk) → Within f u x → Within f u y → Within f u (if b then x else y)
within_choice f u true x y hx hy = hx
within_choice f u false x y hx hy = hy

none : (f u : ℕ) (k : ℕ) → false ≡ true → (f ≤ k) × (k < u)
none f u k h = absurd (true≢false (sym h))

pub within : (s : Body) (n : ℕ) (v : Valuation) → Within n (n + count s) (walk s n v)
within Body.End n v = none n (n + 0)
within (Body.Run a rest) n v = within_then n (n + 1) (n + suc (count rest)) (one n) (walk rest (n + 1) v) (within_one n) (within_more (n + 1) (n + 1) (n + 1 + count rest) (n + suc (count rest)) (walk rest (n + 1) v) (within rest (n + 1) v) (omega arith) (omega arith)) (omega arith) (omega arith)
within (Body.Post l rest) n v = within_then n (n + 1) (n + suc (count rest)) (one n) (walk rest (n + 1) v) (within_one n) (within_more (n + 1) (n + 1) (n + 1 + count rest) (n + suc (count rest)) (walk rest (n + 1) v) (within rest (n + 1) v) (omega arith) (omega arith)) (omega arith) (omega arith)
within (Body.Stop rest) n v = none n (n + count rest)
within (Body.If x done otherwise rest) n v =
    let b = truth.truth x v in
    let first = walk done n (behind (truth.occurrences x) v) in
    let second = walk otherwise (n + count done) (behind (truth.occurrences x ++ tests done) v) in
    let next = walk rest (n + count done + count otherwise) (behind (truth.occurrences x ++ (tests done ++ tests otherwise)) v) in
    let l = length-append (occurrences done) (occurrences otherwise ++ occurrences rest) in
    let m = length-append (occurrences otherwise) (occurrences rest) in
    let e : count (Body.If x done otherwise rest) ≡ count done + (count otherwise + count rest) = l ∙ ap (λ j. count done + j) m in
    let choice : Within n (n + count done + count otherwise) (if b then first else second)
    = within_choice n (n + count done + count otherwise) b first second
    (within_more n n (n + count done) (n + count done + count otherwise) first (within done n (behind (truth.occurrences x) v)) (omega arith) (omega arith))
    (within_more n (n + count done) (n + count done + count otherwise) (n + count done + count otherwise) second (within otherwise (n + count done) (behind (truth.occurrences x ++ tests done) v)) (omega arith) (omega arith)) in
    within_then n (n + count done + count otherwise) (n + count (Body.If x done otherwise rest)) (if b then first else second) next choice
    (within_more (n + count done + count otherwise) (n + count done + count otherwise) (n + count done + count otherwise + count rest) (n + count (Body.If x done otherwise rest)) next
    (within rest (n + count done + count otherwise) (behind (truth.occurrences x ++ (tests done ++ tests otherwise)) v)) (omega arith) (omega arith))
    (omega arith) (omega arith)

pub of_the_list : (s : Body) (v : Valuation) (k : ℕ) → is_in k (executed s v) ≡ true → k < count s
of_the_list s v k h = let p = within s 0 v k h in omega arith

-- ---- a class and its messages

admitted_by : (s : Body) (m : Said) (class : Class) → HasClass m class → IsAdmitted s class (valuation_of s m)
admitted_by s m class is = subst (λ (c : Class). Admits (known c) (tests s) (valuation_of s m)) is (admitted m (tests s))

pub must_work : (s : Body) (m : Said) (class : Class) (k : ℕ) → HasClass m class → Must s class k → Due s m k
must_work s m class k is must = must (valuation_of s m) (admitted_by s m class is)

pub work_may : (s : Body) (m : Said) (class : Class) (k : ℕ) → HasClass m class → Due s m k → May s class k
work_may s m class k is h = record { values = valuation_of s m; admitted = admitted_by s m class is; executes = h }

pub may_of_the_list : (s : Body) (class : Class) (k : ℕ) → May s class k → k < count s
may_of_the_list s class k may = of_the_list s may.values k may.executes

-- ---- a text after another

by_both : (goes_on : Bool) (xs ys : List ℕ) (c : Walk) → (record { executed = xs ++ ys; goes_on = goes_on }) then c ≡ (record { executed = xs; goes_on = true }) then ((record { executed = ys; goes_on = goes_on }) then c)
by_both true xs ys c = ap (λ zs. record { executed = zs; goes_on = c.goes_on }) (append_assoc xs ys c.executed)
by_both false xs ys c = refl

by_first : (goes_on : Bool) (xs : List ℕ) (b c : Walk) → ((record { executed = xs; goes_on = goes_on }) then b) then c ≡ (record { executed = xs; goes_on = goes_on }) then (b then c)
by_first true xs b c = by_both b.goes_on xs b.executed c
by_first false xs b c = refl

pub more_then : (a b c : Walk) → (a then b) then c ≡ a then (b then c)
more_then a b c = by_first a.goes_on a.executed b c

pub behind_behind : (xs ys : List Test) (v : Valuation) → behind ys (behind xs v) ≡ behind (xs ++ ys) v
behind_behind xs ys v = drop-drop (length ys) (length xs) v ∙ ap (λ k. drop k v) (sym (length-append xs ys))

statement : (a b : Walk) (s t : Body) (n m k : ℕ) (v w u : Valuation) → b ≡ walk s n v then walk t m w → m ≡ k → w ≡ u → a then b ≡ (a then walk s n v) then walk t k u
statement a b s t n m k v w u e f g = ap (λ r. a then r) e ∙ sym (more_then a (walk s n v) (walk t m w)) ∙ ap (λ j. (a then walk s n v) then walk t j w) f ∙ ap (λ x. (a then walk s n v) then walk t k x) g

pub follows : (s t : Body) (n : ℕ) (v : Valuation) → walk (s ⧺ t) n v ≡ walk s n v then walk t (n + count s) (behind (tests s) v)
follows Body.End t n v = ap (λ k. walk t k v) {x = n} {y = n + 0} (omega arith)
follows (Body.Run a rest) t n v = statement (one n) (walk (rest ⧺ t) (n + 1) v) rest t (n + 1) (n + 1 + count rest) (n + suc (count rest)) v (behind (tests rest) v) (behind (tests rest) v) (follows rest t (n + 1) v) (omega arith) refl
follows (Body.Post l rest) t n v = statement (one n) (walk (rest ⧺ t) (n + 1) v) rest t (n + 1) (n + 1 + count rest) (n + suc (count rest)) v (behind (tests rest) v) (behind (tests rest) v) (follows rest t (n + 1) v) (omega arith) refl
follows (Body.Stop rest) t n v = refl
follows (Body.If x done otherwise rest) t n v =
    let next = n + count done + count otherwise in
    let seen = truth.occurrences x ++ (tests done ++ tests otherwise) in
    let chosen = (if truth.truth x v then walk done n (behind (truth.occurrences x) v) else walk otherwise (n + count done) (behind (truth.occurrences x ++ tests done) v)) in
    let l = length-append (occurrences done) (occurrences otherwise ++ occurrences rest) in
    let m = length-append (occurrences otherwise) (occurrences rest) in
    let e : count (Body.If x done otherwise rest) ≡ count done + (count otherwise + count rest) = l ∙ ap (λ j. count done + j) m in
    let numbers : next + count rest ≡ n + count (Body.If x done otherwise rest) = omega arith in
    let joined : seen ++ tests rest ≡ truth.occurrences x ++ (tests done ++ (tests otherwise ++ tests rest))
    = append_assoc (truth.occurrences x) (tests done ++ tests otherwise) (tests rest) ∙ ap (λ ts. truth.occurrences x ++ ts) (append_assoc (tests done) (tests otherwise) (tests rest)) in
    let values : behind (tests rest) (behind seen v) ≡ behind (truth.occurrences x ++ (tests done ++ (tests otherwise ++ tests rest))) v
    = behind_behind seen (tests rest) v ∙ ap (λ ts. behind ts v) joined in
    statement chosen (walk (rest ⧺ t) next (behind seen v)) rest t next (next + count rest) (n + count (Body.If x done otherwise rest)) (behind seen v) (behind (tests rest) (behind seen v)) (behind (truth.occurrences x ++ (tests done ++ (tests otherwise ++ tests rest))) v)
    (follows rest t next (behind seen v)) numbers values

-- where a text stops, nothing after it is executed
stops : (xs : List ℕ) (goes_on : Bool) (b : Walk) → goes_on ≡ false → (record { executed = xs; goes_on = goes_on }) then b ≡ record { executed = xs; goes_on = goes_on }
stops xs true b h = absurd (true≢false h)
stops xs false b h = refl

pub stopped_there : (s t : Body) (n : ℕ) (v : Valuation) → (walk s n v).goes_on ≡ false → walk (s ⧺ t) n v ≡ walk s n v
stopped_there s t n v h = follows s t n v ∙ stops (walk s n v).executed (walk s n v).goes_on (walk t (n + count s) (behind (tests s) v)) h

-- ---- what stands in a text and in one after it

pub joined_occurrences : (s t : Body) → occurrences (s ⧺ t) ≡ occurrences s ++ occurrences t
joined_occurrences Body.End t = refl
joined_occurrences (Body.Run a rest) t = ap (λ os. occurrence.Run a ∷ os) (joined_occurrences rest t)
joined_occurrences (Body.Post l rest) t = ap (λ os. occurrence.Post l ∷ os) (joined_occurrences rest t)
joined_occurrences (Body.Stop rest) t = joined_occurrences rest t
joined_occurrences (Body.If x done otherwise rest) t =
    ap (λ os. occurrences done ++ (occurrences otherwise ++ os)) (joined_occurrences rest t)
    ∙ ap (λ os. occurrences done ++ os) (sym (append_assoc (occurrences otherwise) (occurrences rest) (occurrences t)))
    ∙ sym (append_assoc (occurrences done) (occurrences otherwise ++ occurrences rest) (occurrences t))

pub joined_tests : (s t : Body) → tests (s ⧺ t) ≡ tests s ++ tests t
joined_tests Body.End t = refl
joined_tests (Body.Run a rest) t = joined_tests rest t
joined_tests (Body.Post l rest) t = joined_tests rest t
joined_tests (Body.Stop rest) t = joined_tests rest t
joined_tests (Body.If x done otherwise rest) t =
    ap (λ ts. truth.occurrences x ++ (tests done ++ (tests otherwise ++ ts))) (joined_tests rest t)
    ∙ ap (λ ts. truth.occurrences x ++ (tests done ++ ts)) (sym (append_assoc (tests otherwise) (tests rest) (tests t)))
    ∙ ap (λ ts. truth.occurrences x ++ ts) (sym (append_assoc (tests done) (tests otherwise ++ tests rest) (tests t)))
    ∙ sym (append_assoc (truth.occurrences x) (tests done ++ (tests otherwise ++ tests rest)) (tests t))

-- ---- in rising order

pub here : (n : ℕ) (ns : List ℕ) → is_in n (n ∷ ns) ≡ true
here n ns = ap (λ b. b || is_in n ns) (eq-eqb n n refl)

pub there_by : (a b : Bool) → b ≡ true → (a || b) ≡ true
there_by true b h = refl
there_by false b h = h

pub there : (k n : ℕ) (ns : List ℕ) → is_in k ns ≡ true → is_in k (n ∷ ns) ≡ true
there k n ns h = there_by (n == k) (is_in k ns) h

above : (n : ℕ) (xs ys : List ℕ) (u : ℕ) → n < u → ((k : ℕ) → is_in k xs ≡ true → n < k) → ((k : ℕ) → is_in k ys ≡ true → u ≤ k) → (k : ℕ) → is_in k (xs ++ ys) ≡ true → n < k
above n xs ys u nu a b k h =
    elim (in_either k xs ys h) [
      | inl left ↦ a k left
      | inr right ↦ (let l = b k right in omega arith)
    ]

rising_joined : (xs ys : List ℕ) (u : ℕ) → IsRising xs → IsRising ys → ((k : ℕ) → is_in k xs ≡ true → k < u) → ((k : ℕ) → is_in k ys ≡ true → u ≤ k) → IsRising (xs ++ ys)
rising_joined [] ys u rx ry a b = ry
rising_joined (x ∷ xs) ys u rx ry a b =
    (above x xs ys u (a x (here x xs)) rx.0 b, rising_joined xs ys u rx.1 ry (λ k h. a k (there k x xs h)) b)

rising_then : (xs : List ℕ) (goes_on : Bool) (b : Walk) (u : ℕ) → IsRising xs → IsRising b.executed → ((k : ℕ) → is_in k xs ≡ true → k < u) → ((k : ℕ) → is_in k b.executed ≡ true → u ≤ k) → IsRising ((record { executed = xs; goes_on = goes_on }) then b).executed
rising_then xs true b u rx rb hx hb = rising_joined xs b.executed u rx rb hx hb
rising_then xs false b u rx rb hx hb = rx

rising_choice : (b : Bool) (x y : Walk) → IsRising x.executed → IsRising y.executed → IsRising (if b then x else y).executed
rising_choice true x y hx hy = hx
rising_choice false x y hx hy = hy

alone : (n : ℕ) → IsRising (n ∷ [])
alone n = (λ k h. absurd (true≢false (sym h)), tt)

pub rising : (s : Body) (n : ℕ) (v : Valuation) → IsRising (walk s n v).executed
rising Body.End n v = tt
rising (Body.Run a rest) n v = rising_then (n ∷ []) true (walk rest (n + 1) v) (n + 1) (alone n) (rising rest (n + 1) v) (λ k h. (within_one n k h).1) (λ k h. (within rest (n + 1) v k h).0)
rising (Body.Post l rest) n v = rising_then (n ∷ []) true (walk rest (n + 1) v) (n + 1) (alone n) (rising rest (n + 1) v) (λ k h. (within_one n k h).1) (λ k h. (within rest (n + 1) v k h).0)
rising (Body.Stop rest) n v = tt
rising (Body.If x done otherwise rest) n v =
    let b = truth.truth x v in
    let first = walk done n (behind (truth.occurrences x) v) in
    let second = walk otherwise (n + count done) (behind (truth.occurrences x ++ tests done) v) in
    let u = n + count done + count otherwise in
    let next = walk rest u (behind (truth.occurrences x ++ (tests done ++ tests otherwise)) v) in
    let choice : Within n u (if b then first else second)
    = within_choice n u b first second
    (within_more n n (n + count done) u first (within done n (behind (truth.occurrences x) v)) (omega arith) (omega arith))
    (within_more n (n + count done) u u second (within otherwise (n + count done) (behind (truth.occurrences x ++ tests done) v)) (omega arith) (omega arith)) in
    rising_then (if b then first else second).executed (if b then first else second).goes_on next u
    (rising_choice b first second (rising done n (behind (truth.occurrences x) v)) (rising otherwise (n + count done) (behind (truth.occurrences x ++ tests done) v)))
    (rising rest u (behind (truth.occurrences x ++ (tests done ++ tests otherwise)) v))
    (λ k h. (choice k h).1)
    (λ k h. (within rest u (behind (truth.occurrences x ++ (tests done ++ tests otherwise)) v) k h).0)

-- what every admitted valuation executes some admitted one executes, since there is one
pub must_may : (s : Body) (class : Class) (k : ℕ) → Must s class k → May s class k
must_may s class k must = let some = some_valuation (known class) (tests s) in record { values = some.0; admitted = some.1; executes = must some.0 some.1 }
