-- Linked blocks stay linked where blocks come or go.
use mathlib.Core.Path.{◌≡◌, refl, sym, ap, ◌∙◌, subst}
use mathlib.Core.List.{List, [], ◌∷◌, ◌++◌}
use Prim.Native.Nat.{ℕ, zero, suc, ◌+◌, ◌-◌, ◌<◌, ◌≤◌, ◌^◌}
use native.Mathlib.Omega.{arith}
use lib.Dec.{lit<}
use lib.ListN.{length}
use Rattle.std.proofs.Common.{take, drop}
use mathlib.Core.Bool.{Bool, true, false, not, false≢true}
use Rattle.std.specs.Prelude.{Option, None, Some, is_some, IfNone, IfSome, IsTrue, ◌↔◌}
use denote.RawPtr.{Ptr, InBlock, null_ptr, count_of, Testable}
use Rattle.sy_chain.proofs.Cuts.{take_map, drop_map}
use Rattle.sy_chain.specs.internal.Linked.{Placed, Leads, AreLinked, last_place, with_last_next, place_of, next_of, elems}

before : (n : ℕ) → 0 < n → suc (n - 1) ≡ n
before n p = omega arith

module _ {X : Type 0} where
  -- where linked blocks begin may be compared with null
  pub leads_tests : (p : Ptr) (bs : List (Placed X)) → Leads p bs null_ptr → Testable p
  leads_tests p [] c = subst (λ q. count_of q < 2 ^ 63) (sym c) (lit< tt)
  leads_tests p (b ∷ bs) c = subst (λ k. k < 2 ^ 63) (sym (ap count_of c.0 ∙ c.1.1)) (lit< tt)

  -- what two lists do that stand behind one another
  pub leads_on : (p q r : Ptr) (bs cs : List (Placed X)) → Leads p bs q → Leads q cs r → Leads p (bs ++ cs) r
  leads_on p q r [] cs c d = subst (λ z. Leads z cs r) (sym c) d
  leads_on p q r (b ∷ bs) cs c d = (c.0, c.1, leads_on b.1.next q r bs cs c.2 d)

  -- the last one's pointer is changed
  pub leads_elsewhere : (p q r : Ptr) (bs : List (Placed X)) → 0 < length bs → Leads p bs q → Leads p (with_last_next r bs) r
  leads_elsewhere p q r [] more c = absurd (omega arith)
  leads_elsewhere p q r (b ∷ []) more c = (c.0, c.1, refl)
  leads_elsewhere p q r (b ∷ d ∷ bs) more c = (c.0, c.1, leads_elsewhere b.1.next q r (d ∷ bs) (omega arith) c.2)

  pub same_elems : (r : Ptr) (bs : List (Placed X)) → elems (with_last_next r bs) ≡ elems bs
  same_elems r [] = refl
  same_elems r (b ∷ []) = refl
  same_elems r (b ∷ c ∷ bs) = ap (λ xs. b.1.elem ∷ xs) (same_elems r (c ∷ bs))

  pub same_last : (r : Ptr) (bs : List (Placed X)) → last_place (with_last_next r bs) ≡ last_place bs
  same_last r [] = refl
  same_last r (b ∷ []) = refl
  same_last r (b ∷ c ∷ []) = refl
  same_last r (b ∷ c ∷ d ∷ bs) = same_last r (c ∷ d ∷ bs)

  pub last_behind : (bs cs : List (Placed X)) → 0 < length cs → last_place (bs ++ cs) ≡ last_place cs
  last_behind [] cs more = refl
  last_behind (b ∷ []) [] more = absurd (omega arith)
  last_behind (b ∷ []) (c ∷ cs) more = refl
  last_behind (b ∷ d ∷ bs) cs more = last_behind (d ∷ bs) cs more

  -- ---- by place
  pub parts_at : (bs : List (Placed X)) (i : ℕ) → i < length bs → (xs : List (Placed X)) × (b : Placed X) × (ys : List (Placed X)) × (bs ≡ xs ++ b ∷ ys) × (length xs ≡ i)
  parts_at [] i p = absurd (omega arith)
  parts_at (b ∷ bs) zero p = ([], b, bs, refl, refl)
  parts_at (b ∷ bs) (suc i) p = let on = parts_at bs i (omega arith) in (b ∷ on.0, on.1, on.2, ap (λ l. b ∷ l) on.3, ap suc on.4)

  pub parts_first : (bs : List (Placed X)) → 0 < length bs → (b : Placed X) × (ys : List (Placed X)) × (bs ≡ b ∷ ys)
  parts_first [] p = absurd (omega arith)
  parts_first (b ∷ bs) p = (b, bs, refl)

  pub parts_last : (bs : List (Placed X)) → 0 < length bs → (xs : List (Placed X)) × (b : Placed X) × (bs ≡ xs ++ b ∷ [])
  parts_last [] p = absurd (omega arith)
  parts_last (b ∷ []) p = ([], b, refl)
  parts_last (b ∷ c ∷ bs) p = let on = parts_last (c ∷ bs) (omega arith) in (b ∷ on.0, on.1, ap (λ l. b ∷ l) on.2)

  there : (xs : List (Placed X)) (b : Placed X) (ys : List (Placed X)) → place_of (xs ++ b ∷ ys) (length xs) ≡ b.0
  there [] b ys = refl
  there (x ∷ xs) b ys = there xs b ys

  pub place_there : (bs xs : List (Placed X)) (b : Placed X) (ys : List (Placed X)) (i : ℕ) → bs ≡ xs ++ b ∷ ys → length xs ≡ i → place_of bs i ≡ b.0
  place_there bs xs b ys i e n = (λ j. place_of (e j) (sym n j)) ∙ there xs b ys

  onward : (xs : List (Placed X)) (b : Placed X) (ys : List (Placed X)) → next_of (xs ++ b ∷ ys) (length xs) ≡ b.1.next
  onward [] b ys = refl
  onward (x ∷ xs) b ys = onward xs b ys

  pub next_there : (bs xs : List (Placed X)) (b : Placed X) (ys : List (Placed X)) (i : ℕ) → bs ≡ xs ++ b ∷ ys → length xs ≡ i → next_of bs i ≡ b.1.next
  next_there bs xs b ys i e n = (λ j. next_of (e j) (sym n j)) ∙ onward xs b ys

  last_there : (xs : List (Placed X)) (b : Placed X) → last_place (xs ++ b ∷ []) ≡ b.0
  last_there [] b = refl
  last_there (x ∷ []) b = refl
  last_there (x ∷ y ∷ xs) b = last_there (y ∷ xs) b

  pub last_is : (bs xs : List (Placed X)) (b : Placed X) → bs ≡ xs ++ b ∷ [] → last_place bs ≡ b.0
  last_is bs xs b e = ap last_place e ∙ last_there xs b

  changed_there : (q : Ptr) (xs : List (Placed X)) (b : Placed X) → with_last_next q (xs ++ b ∷ []) ≡ xs ++ (b.0, record b.1 { next = q }) ∷ []
  changed_there q [] b = refl
  changed_there q (x ∷ []) b = refl
  changed_there q (x ∷ y ∷ xs) b = ap (λ l. x ∷ l) (changed_there q (y ∷ xs) b)

  pub changed_is : (q : Ptr) (bs xs : List (Placed X)) (b : Placed X) → bs ≡ xs ++ b ∷ [] → with_last_next q bs ≡ xs ++ (b.0, record b.1 { next = q }) ∷ []
  changed_is q bs xs b e = ap (with_last_next q) e ∙ changed_there q xs b

  -- ---- one after the other
  pub leads_first : (p q : Ptr) (bs : List (Placed X)) → 0 < length bs → Leads p bs q → p ≡ place_of bs 0
  leads_first p q [] more c = absurd (omega arith)
  leads_first p q (b ∷ bs) more c = c.0

  next_place : (p q : Ptr) (bs : List (Placed X)) (k : ℕ) → suc k < length bs → Leads p bs q → next_of bs k ≡ place_of bs (suc k)
  next_place p q [] k more c = absurd (omega arith)
  next_place p q (b ∷ bs) zero more c = leads_first b.1.next q bs (omega arith) c.2
  next_place p q (b ∷ bs) (suc k) more c = next_place b.1.next q bs k (omega arith) c.2

  pub leads_next : (p q : Ptr) (bs : List (Placed X)) (k : ℕ) → k + 1 < length bs → Leads p bs q → next_of bs k ≡ place_of bs (k + 1)
  leads_next p q bs k more c = next_place p q bs k (omega arith) c ∙ ap (place_of bs) (omega arith)

  pub none_there : (bs : List (Placed X)) → elems bs ≡ [] → bs ≡ []
  none_there [] e = refl
  none_there (b ∷ bs) e = absurd (omega (arith, ap length e))

  -- ---- behind the k-th
  cut_last : (bs : List (Placed X)) (k : ℕ) → k < length bs → place_of bs k ≡ last_place (take (suc k) bs)
  cut_last [] k more = absurd (omega arith)
  cut_last (b ∷ bs) zero more = refl
  cut_last (b ∷ []) (suc k) more = absurd (omega arith)
  cut_last (b ∷ c ∷ bs) (suc k) more = cut_last (c ∷ bs) k (omega arith)

  cut_leads : (p q : Ptr) (bs : List (Placed X)) (k : ℕ) → k < length bs → Leads p bs q → Leads p (take (suc k) bs) (next_of bs k)
  cut_leads p q [] k more c = absurd (omega arith)
  cut_leads p q (b ∷ bs) zero more c = (c.0, c.1, refl)
  cut_leads p q (b ∷ bs) (suc k) more c = (c.0, c.1, cut_leads b.1.next q bs k (omega arith) c.2)

  cut_leaves : (p q : Ptr) (bs : List (Placed X)) (k : ℕ) → k < length bs → Leads p bs q → Leads (next_of bs k) (drop (suc k) bs) q
  cut_leaves p q [] k more c = absurd (omega arith)
  cut_leaves p q (b ∷ bs) zero more c = c.2
  cut_leaves p q (b ∷ bs) (suc k) more c = cut_leaves b.1.next q bs k (omega arith) c.2

  last_left : (bs : List (Placed X)) (k : ℕ) → 0 < length (drop k bs) → last_place (drop k bs) ≡ last_place bs
  last_left bs zero more = refl
  last_left [] (suc k) more = absurd (omega arith)
  last_left (b ∷ []) (suc zero) more = absurd (omega arith)
  last_left (b ∷ []) (suc (suc k)) more = absurd (omega arith)
  last_left (b ∷ c ∷ bs) (suc k) more = last_left (c ∷ bs) k more

  some_taken : (bs : List (Placed X)) (k : ℕ) → 0 < length bs → 0 < length (take (suc k) bs)
  some_taken [] k more = absurd (omega arith)
  some_taken (b ∷ bs) k more = omega arith

  pub cut_ends : (n : ℕ) (bs : List (Placed X)) → 0 < n → n ≤ length bs → (0 < length (take n bs)) × (place_of bs (n - 1) ≡ last_place (take n bs))
  cut_ends n bs p q = (subst (λ k. 0 < length (take k bs)) (before n p) (some_taken bs (n - 1) (omega arith)), cut_last bs (n - 1) (omega arith) ∙ ap (λ k. last_place (take k bs)) (before n p))

  pub cut_front : (f l : Ptr) (n : ℕ) (bs : List (Placed X)) → 0 < n → n ≤ length bs → AreLinked f l bs → AreLinked f (place_of bs (n - 1)) (with_last_next null_ptr (take n bs))
  cut_front f l n bs p q linked = let ends = cut_ends n bs p q in record {
    leads = leads_elsewhere f (next_of bs (n - 1)) null_ptr (take n bs) ends.0 (subst (λ k. Leads f (take k bs) (next_of bs (n - 1))) (before n p) (cut_leads f null_ptr bs (n - 1) (omega arith) linked.leads));
    ends = λ more. ends.1 ∙ sym (same_last null_ptr (take n bs));
  }

  pub cut_rest : (f l : Ptr) (n : ℕ) (bs : List (Placed X)) → 0 < n → n ≤ length bs → AreLinked f l bs → AreLinked (next_of bs (n - 1)) l (drop n bs)
  cut_rest f l n bs p q linked = record {
    leads = subst (λ k. Leads (next_of bs (n - 1)) (drop k bs) null_ptr) (before n p) (cut_leaves f null_ptr bs (n - 1) (omega arith) linked.leads);
    ends = λ more. linked.ends (omega arith) ∙ sym (last_left bs n more);
  }

  -- ---- blocks behind blocks
  pub joined : (f l g m : Ptr) (bs cs : List (Placed X)) → 0 < length bs → 0 < length cs → AreLinked f l bs → AreLinked g m cs → AreLinked f m (with_last_next g bs ++ cs)
  joined f l g m bs cs some more linked other = record {
    leads = leads_on f g null_ptr (with_last_next g bs) cs (leads_elsewhere f null_ptr g bs some linked.leads) other.leads;
    ends = λ both. other.ends more ∙ sym (last_behind (with_last_next g bs) cs more);
  }

  pub joined_elems : (q : Ptr) (bs cs : List (Placed X)) → elems (with_last_next q bs ++ cs) ≡ elems bs ++ elems cs
  joined_elems q [] cs = refl
  joined_elems q (b ∷ []) cs = refl
  joined_elems q (b ∷ d ∷ bs) cs = ap (λ xs. b.1.elem ∷ xs) (joined_elems q (d ∷ bs) cs)

  -- ---- whether there is one
  null_first : (f l : Ptr) (bs : List (Placed X)) → AreLinked f l bs → f ≡ null_ptr → bs ≡ []
  null_first f l [] linked e = refl
  null_first f l (b ∷ bs) linked e = absurd (subst InBlock (sym linked.leads.0 ∙ e) linked.leads.1.0)

  pub reports_empty : {P : Type 0} (f l : Ptr) (bs : List (Placed X)) → AreLinked f l bs → (place : P → Ptr) (o : Option P) (r : Bool) → is_some o ≡ not r
      → IfNone o (f ≡ null_ptr) → IfSome o (λ p. place p ≡ f) → IfSome o (λ p. InBlock (place p)) → IsTrue r ↔ (elems bs ≡ [])
  reports_empty f l bs linked place None true reported null at there = ((λ _. ap elems (null_first f l bs linked null)), (λ _. refl))
  reports_empty f l bs linked place None false reported null at there = absurd (false≢true reported)
  reports_empty f l bs linked place (Some p) true reported null at there = absurd (false≢true (sym reported))
  reports_empty f l bs linked place (Some p) false reported null at there = (
    (λ yes. absurd (false≢true yes)),
    (λ none. absurd (subst InBlock (at ∙ subst (λ cs. Leads f cs null_ptr) (none_there bs none) linked.leads) there)),
  )

  pub some_there : (bs : List (Placed X)) (r : Bool) → r ≡ false → IsTrue r ↔ (elems bs ≡ []) → 0 < length bs
  some_there [] r fails reported = absurd (false≢true (sym fails ∙ reported.1 refl))
  some_there (b ∷ bs) r fails reported = omega arith

  -- ---- what the calls say, in these terms
  pub some_in : (bs : List (Placed X)) (xs : List X) (r : Bool) → elems bs ≡ xs → r ≡ false → IsTrue r ↔ (xs ≡ []) → 0 < length bs
  some_in bs xs r view fails reported = some_there bs r fails (subst (λ ys. IsTrue r ↔ (ys ≡ [])) (sym view) reported)

  pub joined_in : (f l g m : Ptr) (bs cs changed all : List (Placed X)) → 0 < length bs → 0 < length cs → AreLinked f l bs → AreLinked g m cs → changed ≡ with_last_next g bs → all ≡ changed ++ cs → AreLinked f m all
  joined_in f l g m bs cs changed all some more linked other is are = subst (AreLinked f m) (sym (are ∙ ap (λ ds. ds ++ cs) is)) (joined f l g m bs cs some more linked other)

  pub joined_list : (q : Ptr) (bs cs changed all : List (Placed X)) (xs ys : List X) → elems bs ≡ xs → elems cs ≡ ys → changed ≡ with_last_next q bs → all ≡ changed ++ cs → elems all ≡ xs ++ ys
  joined_list q bs cs changed all xs ys view other is are = ap elems (are ∙ ap (λ ds. ds ++ cs) is) ∙ joined_elems q bs cs ∙ (λ i. view i ++ other i)

  as_many : (bs : List (Placed X)) → length (elems bs) ≡ length bs
  as_many [] = refl
  as_many (b ∷ bs) = ap suc (as_many bs)

  long : (n : ℕ) (bs : List (Placed X)) (xs : List X) → elems bs ≡ xs → n ≤ length xs → n ≤ length bs
  long n bs xs view fits = omega (arith, ap length view, as_many bs)

  pub ends_in : (n : ℕ) (bs front : List (Placed X)) (xs : List X) (at : Ptr) → elems bs ≡ xs → 0 < n → n ≤ length xs → at ≡ place_of bs (n - 1) → front ≡ take n bs → (0 < length front) × (at ≡ last_place front)
  ends_in n bs front xs at view some fits lies is = let ends = cut_ends n bs some (long n bs xs view fits) in (subst (λ ds. 0 < length ds) (sym is) ends.0, lies ∙ ends.1 ∙ ap last_place (sym is))

  pub front_in : (f l at : Ptr) (n : ℕ) (bs front all : List (Placed X)) (xs : List X) → elems bs ≡ xs → 0 < n → n ≤ length xs → AreLinked f l bs
      → at ≡ place_of bs (n - 1) → front ≡ take n bs → all ≡ with_last_next null_ptr front → AreLinked f at all
  front_in f l at n bs front all xs view some fits linked lies is are = subst (λ p. AreLinked f p all) (sym lies) (subst (AreLinked f (place_of bs (n - 1))) (sym (are ∙ ap (with_last_next null_ptr) is)) (cut_front f l n bs some (long n bs xs view fits) linked))

  pub rest_in : (f l next : Ptr) (n : ℕ) (bs rest : List (Placed X)) (xs : List X) → elems bs ≡ xs → 0 < n → n ≤ length xs → AreLinked f l bs
      → next ≡ next_of bs (n - 1) → rest ≡ drop n bs → AreLinked next l rest
  rest_in f l next n bs rest xs view some fits linked leads is = subst (λ p. AreLinked p l rest) (sym leads) (subst (AreLinked (next_of bs (n - 1)) l) (sym is) (cut_rest f l n bs some (long n bs xs view fits) linked))

  pub front_list : (n : ℕ) (bs front all : List (Placed X)) (xs : List X) → elems bs ≡ xs → front ≡ take n bs → all ≡ with_last_next null_ptr front → elems all ≡ take n xs
  front_list n bs front all xs view is are = ap elems are ∙ same_elems null_ptr front ∙ ap elems is ∙ sym (take_map (λ b. b.1.elem) n bs) ∙ ap (take n) view

  pub rest_list : (n : ℕ) (bs rest : List (Placed X)) (xs : List X) → elems bs ≡ xs → rest ≡ drop n bs → elems rest ≡ drop n xs
  rest_list n bs rest xs view is = ap elems is ∙ sym (drop_map (λ b. b.1.elem) n bs) ∙ ap (drop n) view
