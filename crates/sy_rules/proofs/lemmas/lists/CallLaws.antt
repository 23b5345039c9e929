-- What calls become.
use Rattle.std.proofs.Common.{◌≡◌, inl, inr, ◌||◌, ◌==◌, ◌+◌, ℕ, zero, suc, Bool, true, false, List, [], ◌∷◌, ◌++◌, length, refl, sym, ap, ◌∙◌, arith}
use Rattle.std.specs.List.{list_any}
use Rattle.std.proofs.lemmas.Bool.{eqb-true, true≢false}
use Rattle.std.proofs.lemmas.List.Folds.{list_any-append}
use Rattle.sy_rules.specs.lists.Laws.{IsChain}
use Rattle.sy_rules.specs.lists.Body.{Body, ◌⧺◌, is_in}
use Rattle.sy_rules.proofs.lemmas.lists.WorkLaws.{either, here, there, there_by}
use Rattle.sy_rules.specs.lists.Lines.{Lines, calls, expand, expanded, is_deeper, list_at}

-- ---- a test that none of a list meets

neither : (a b : Bool) → (a || b) ≡ false → (a ≡ false) × (b ≡ false)
neither true b h = absurd (true≢false h)
neither false b h = (refl, h)

none_of_both : (p : ℕ → Bool) (xs ys : List ℕ) → list_any p (xs ++ ys) ≡ false → (list_any p xs ≡ false) × (list_any p ys ≡ false)
none_of_both p xs ys h = neither (list_any p xs) (list_any p ys) (sym (list_any-append p xs ys) ∙ h)

-- ---- what the called lists become decides what a text becomes

abbrev Same : (ℕ → Bool) → (ℕ → Body) → (ℕ → Body) → Type 0
Same p f g = (l : ℕ) → p l ≡ false → f l ≡ g l

pub same_text : (p : ℕ → Bool) (f g : ℕ → Body) → Same p f g → (x : Lines) → list_any p (calls x) ≡ false → expand f x ≡ expand g x
same_text p f g same Lines.End h = refl
same_text p f g same (Lines.Run a rest) h = ap (Body.Run a) (same_text p f g same rest h)
same_text p f g same (Lines.Post l rest) h = ap (Body.Post l) (same_text p f g same rest h)
same_text p f g same (Lines.Call l rest) h =
    let n = neither (p l) (list_any p (calls rest)) h in
    ap (λ s. s ⧺ expand f rest) (same l n.0) ∙ ap (λ s. g l ⧺ s) (same_text p f g same rest n.1)
same_text p f g same (Lines.Stop rest) h = ap Body.Stop (same_text p f g same rest h)
same_text p f g same (Lines.If x done otherwise rest) h =
    let a = none_of_both p (calls done) (calls otherwise ++ calls rest) h in
    let b = none_of_both p (calls otherwise) (calls rest) a.1 in
    ap (λ s. Body.If x s (expand f otherwise) (expand f rest)) (same_text p f g same done a.0)
    ∙ ap (λ s. Body.If x (expand g done) s (expand f rest)) (same_text p f g same otherwise b.0)
    ∙ ap (λ s. Body.If x (expand g done) (expand g otherwise) s) (same_text p f g same rest b.1)

-- one level more changes nothing where no call lies as deep
pub replaced : (lists : List Lines) (depth l : ℕ) → is_deeper lists depth l ≡ false → expanded lists depth l ≡ expand (expanded lists depth) (list_at lists l)
replaced lists zero l h = same_text (λ callee. true) (λ callee. Body.End) (expanded lists zero) (λ callee t. absurd (true≢false t)) (list_at lists l) h
replaced lists (suc depth) l h = same_text (is_deeper lists depth) (expanded lists depth) (expanded lists (suc depth)) (λ callee no. replaced lists depth callee no) (list_at lists l) h

-- ---- calls that lie too deep are a chain of calls, and the other way round

found : (p : ℕ → Bool) (xs : List ℕ) → list_any p xs ≡ true → (x : ℕ) × (is_in x xs ≡ true) × (p x ≡ true)
found p [] h = absurd (true≢false (sym h))
found p (x ∷ xs) h = elim (either (p x) (list_any p xs) h) [
  | inl met ↦ (x, here x xs, met)
  | inr later ↦ (let f = found p xs later in (f.0, there f.0 x xs f.1, f.2))
]

any_of : (p : ℕ → Bool) (xs : List ℕ) (x : ℕ) → is_in x xs ≡ true → p x ≡ true → list_any p xs ≡ true
any_of p [] x i h = absurd (true≢false (sym i))
any_of p (y ∷ ys) x i h = elim (either (y == x) (is_in x ys) i) [
  | inl same ↦ ap (λ b. b || list_any p ys) (ap p (eqb-true y x same) ∙ h)
  | inr later ↦ there_by (p y) (list_any p ys) (any_of p ys x later h)
]

abbrev Chain : List Lines → ℕ → ℕ → Type 0
Chain lists n l = (callees : List ℕ) × (length callees ≡ n) × IsChain lists l callees

one_more : (n : ℕ) → suc (n + 1) ≡ suc n + 1
one_more n = omega arith

pub chain_of : (lists : List Lines) (depth l : ℕ) → is_deeper lists depth l ≡ true → Chain lists (depth + 1) l
chain_of lists zero l h = let f = found (λ callee. true) (calls (list_at lists l)) h in (f.0 ∷ [], refl, (f.1, tt))
chain_of lists (suc depth) l h =
    let f = found (is_deeper lists depth) (calls (list_at lists l)) h in
    let c = chain_of lists depth f.0 f.2 in
    (f.0 ∷ c.0, ap suc c.1 ∙ one_more depth, (f.1, c.2))

pub deep_by : (lists : List Lines) (depth l : ℕ) (callees : List ℕ) → length callees ≡ depth + 1 → IsChain lists l callees → is_deeper lists depth l ≡ true
deep_by lists depth l [] long chain = absurd (omega arith)
deep_by lists zero l (c ∷ cs) long chain = any_of (λ callee. true) (calls (list_at lists l)) c chain.0 refl
deep_by lists (suc depth) l (c ∷ cs) long chain = any_of (is_deeper lists depth) (calls (list_at lists l)) c chain.0 (deep_by lists depth c cs (omega arith) chain.1)
