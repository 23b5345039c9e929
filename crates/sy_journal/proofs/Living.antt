-- What is owed is held, and what is held was given.
use Rattle.std.proofs.Common.{◌≡◌, ◌≢◌, inl, inr, ℕ, zero, suc, List, [], ◌∷◌, ◌++◌, if◌then◌else◌, ◌==◌, refl, sym, ◌∙◌, ap, subst, arith, append_assoc}
use Rattle.std.proofs.lemmas.Bool.{cases_eq}
use Rattle.std.proofs.lemmas.Bool.Decides.{nat_tests}
use Rattle.std.proofs.lemmas.List.{append-nil}
use Rattle.sy_journal.specs.Life.{Entry, Slot, Event, Begin, Append, Attempt, Finish, Retire, Crash, unless_finished, unfinished, held, fresh, with_batch, finish_slots, with_finished, removed, IsFinished, FadesTo, AllFadeTo, Run, without, owed_after, given_after, IsAmong, LosesNothing}
use Rattle.sy_journal.specs.internal.Stored.{entries, stored}

among_same : (xs : List Entry) → IsAmong xs xs
among_same [] = tt
among_same (x ∷ xs) = inl (refl, among_same xs)

among_skip : (xs : List Entry) (y : Entry) (ys : List Entry) → IsAmong xs ys → IsAmong xs (y ∷ ys)
among_skip [] y ys among = tt
among_skip (x ∷ xs) y ys among = inr among

among_trans : (xs ys zs : List Entry) → IsAmong xs ys → IsAmong ys zs → IsAmong xs zs
among_trans [] ys zs f g = tt
among_trans (x ∷ xs) [] zs f g = absurd f
among_trans (x ∷ xs) (y ∷ ys) [] f g = absurd g
among_trans (x ∷ xs) (y ∷ ys) (z ∷ zs) (inl f) (inl g) = inl (f.0 ∙ g.0, among_trans xs ys zs f.1 g.1)
among_trans (x ∷ xs) (y ∷ ys) (z ∷ zs) (inr f) (inl g) = inr (among_trans (x ∷ xs) ys zs f g.1)
among_trans (x ∷ xs) (y ∷ ys) (z ∷ zs) f (inr g) = inr (among_trans (x ∷ xs) (y ∷ ys) zs f g)

-- the same behind both
among_behind : (xs ys zs : List Entry) → IsAmong xs ys → IsAmong (xs ++ zs) (ys ++ zs)
among_behind [] [] zs among = among_same zs
among_behind [] (y ∷ ys) zs among = among_skip zs y (ys ++ zs) (among_behind [] ys zs tt)
among_behind (x ∷ xs) [] zs among = absurd among
among_behind (x ∷ xs) (y ∷ ys) zs (inl f) = inl (f.0, among_behind xs ys zs f.1)
among_behind (x ∷ xs) (y ∷ ys) zs (inr f) = inr (among_behind (x ∷ xs) ys zs f)

-- the same before both
among_before : (zs xs ys : List Entry) → IsAmong xs ys → IsAmong (zs ++ xs) (zs ++ ys)
among_before [] xs ys among = among
among_before (z ∷ zs) xs ys among = inl (refl, among_before zs xs ys among)

among_more : (xs ys zs : List Entry) → IsAmong xs ys → IsAmong xs (ys ++ zs)
among_more [] ys zs among = tt
among_more (x ∷ xs) [] zs among = absurd among
among_more (x ∷ xs) (y ∷ ys) zs (inl f) = inl (f.0, among_more xs ys zs f.1)
among_more (x ∷ xs) (y ∷ ys) zs (inr f) = inr (among_more (x ∷ xs) ys zs f)

among_drop : (xs ys zs : List Entry) → IsAmong (xs ++ ys) zs → IsAmong ys zs
among_drop [] ys zs among = among
among_drop (x ∷ xs) ys [] among = absurd among
among_drop (x ∷ xs) ys (z ∷ zs) (inl f) = among_skip ys z zs (among_drop xs ys zs f.1)
among_drop (x ∷ xs) ys (z ∷ zs) (inr f) = among_skip ys z zs (among_drop (x ∷ xs) ys zs f)

without_it : (n : ℕ) (e : Entry) (es : List Entry) → e.0 ≡ n → without n (e ∷ es) ≡ without n es
without_it n e es is = grind (arith, nat_tests)

without_other : (n : ℕ) (e : Entry) (es : List Entry) → e.0 ≢ n → without n (e ∷ es) ≡ e ∷ without n es
without_other n e es is = grind (arith, nat_tests)

without-append : (n : ℕ) (xs ys : List Entry) → without n (xs ++ ys) ≡ without n xs ++ without n ys
without-append n [] ys = refl
without-append n (x ∷ xs) ys = elim (cases_eq x.0 n) [
  | inl is ↦ without_it n x (xs ++ ys) is ∙ without-append n xs ys ∙ ap (λ (l : List Entry). l ++ without n ys) (sym (without_it n x xs is))
  | inr is ↦ without_other n x (xs ++ ys) is ∙ ap (λ (l : List Entry). x ∷ l) (without-append n xs ys) ∙ ap (λ (l : List Entry). l ++ without n ys) (sym (without_other n x xs is))
]

among_without : (n : ℕ) (xs ys : List Entry) → IsAmong xs ys → IsAmong (without n xs) (without n ys)
among_without n [] ys among = tt
among_without n (x ∷ xs) [] among = absurd among
among_without n (x ∷ xs) (y ∷ ys) (inl f) = elim (cases_eq x.0 n) [
  | inl is ↦
      subst (λ (l : List Entry). IsAmong l (without n (y ∷ ys))) (sym (without_it n x xs is))
      (subst (λ (l : List Entry). IsAmong (without n xs) l) (sym (without_it n y ys (ap (λ (e : Entry). e.0) (sym f.0) ∙ is))) (among_without n xs ys f.1))
  | inr is ↦
      subst (λ (l : List Entry). IsAmong l (without n (y ∷ ys))) (sym (without_other n x xs is))
      (subst (λ (l : List Entry). IsAmong (x ∷ without n xs) l) (sym (without_other n y ys (λ at. is (ap (λ (e : Entry). e.0) f.0 ∙ at)))) (inl (f.0, among_without n xs ys f.1)))
]
among_without n (x ∷ xs) (y ∷ ys) (inr f) = elim (cases_eq y.0 n) [
  | inl is ↦ subst (λ (l : List Entry). IsAmong (without n (x ∷ xs)) l) (sym (without_it n y ys is)) (among_without n (x ∷ xs) ys f)
  | inr is ↦ subst (λ (l : List Entry). IsAmong (without n (x ∷ xs)) l) (sym (without_other n y ys is)) (among_skip (without n (x ∷ xs)) y (without n ys) (among_without n (x ∷ xs) ys f))
]

unfinished-append : (xs ys : List Slot) → unfinished (xs ++ ys) ≡ unfinished xs ++ unfinished ys
unfinished-append [] ys = refl
unfinished-append (x ∷ xs) ys = ap (λ (l : List Entry). unless_finished x.0 x.1 l) (unfinished-append xs ys) ∙ shift x.0 x.1
  where
    shift : (e : Entry) (m : ℕ) → unless_finished e m (unfinished xs ++ unfinished ys) ≡ unless_finished e m (unfinished xs) ++ unfinished ys
    shift e zero = refl
    shift e (suc m) = refl

unfinished-fresh : (batch : List Entry) → unfinished (fresh batch) ≡ batch
unfinished-fresh [] = refl
unfinished-fresh (e ∷ batch) = ap (λ (l : List Entry). e ∷ l) (unfinished-fresh batch)

held-with_batch : (batch : List Entry) (segments : List (List Slot)) → held (with_batch batch segments) ≡ held segments ++ batch
held-with_batch batch [] = append-nil (unfinished (fresh batch)) ∙ unfinished-fresh batch
held-with_batch batch (s ∷ []) =
    append-nil (unfinished (s ++ fresh batch)) ∙ unfinished-append s (fresh batch) ∙ ap (λ (l : List Entry). unfinished s ++ l) (unfinished-fresh batch) ∙ ap (λ (l : List Entry). l ++ batch) (sym (append-nil (unfinished s)))
held-with_batch batch (s ∷ t ∷ segments) =
    ap (λ (l : List Entry). unfinished s ++ l) (held-with_batch batch (t ∷ segments)) ∙ sym (append_assoc (unfinished s) (held (t ∷ segments)) batch)

entries-append : (xs ys : List Slot) → entries (xs ++ ys) ≡ entries xs ++ entries ys
entries-append [] ys = refl
entries-append (x ∷ xs) ys = ap (λ (l : List Entry). x.0 ∷ l) (entries-append xs ys)

entries-fresh : (batch : List Entry) → entries (fresh batch) ≡ batch
entries-fresh [] = refl
entries-fresh (e ∷ batch) = ap (λ (l : List Entry). e ∷ l) (entries-fresh batch)

stored-with_batch : (batch : List Entry) (segments : List (List Slot)) → stored (with_batch batch segments) ≡ stored segments ++ batch
stored-with_batch batch [] = append-nil (entries (fresh batch)) ∙ entries-fresh batch
stored-with_batch batch (s ∷ []) =
    append-nil (entries (s ++ fresh batch)) ∙ entries-append s (fresh batch) ∙ ap (λ (l : List Entry). entries s ++ l) (entries-fresh batch) ∙ ap (λ (l : List Entry). l ++ batch) (sym (append-nil (entries s)))
stored-with_batch batch (s ∷ t ∷ segments) =
    ap (λ (l : List Entry). entries s ++ l) (stored-with_batch batch (t ∷ segments)) ∙ sym (append_assoc (entries s) (stored (t ∷ segments)) batch)

held-begin : (segments : List (List Slot)) → held (segments ++ [] ∷ []) ≡ held segments
held-begin [] = refl
held-begin (s ∷ segments) = ap (λ (l : List Entry). unfinished s ++ l) (held-begin segments)

stored-begin : (segments : List (List Slot)) → stored (segments ++ [] ∷ []) ≡ stored segments
stored-begin [] = refl
stored-begin (s ∷ segments) = ap (λ (l : List Entry). entries s ++ l) (stored-begin segments)

pub finish_it : (n : ℕ) (slot : Slot) → slot.0.0 ≡ n → (if slot.0.0 == n then (slot.0, 1) else slot) ≡ (slot.0, 1)
finish_it n slot is = grind (arith, nat_tests)

pub finish_other : (n : ℕ) (slot : Slot) → slot.0.0 ≢ n → (if slot.0.0 == n then (slot.0, 1) else slot) ≡ slot
finish_other n slot is = grind (arith, nat_tests)

without-unless_finished : (n : ℕ) (e : Entry) (m : ℕ) (es : List Entry) → e.0 ≡ n → without n (unless_finished e m es) ≡ without n es
without-unless_finished n e zero es is = without_it n e es is
without-unless_finished n e (suc m) es is = refl

without-onto_other : (n : ℕ) (e : Entry) (m : ℕ) (es : List Entry) → e.0 ≢ n → without n (unless_finished e m es) ≡ unless_finished e m (without n es)
without-onto_other n e zero es is = without_other n e es is
without-onto_other n e (suc m) es is = refl

unfinished-finish : (n : ℕ) (slots : List Slot) → unfinished (finish_slots n slots) ≡ without n (unfinished slots)
unfinished-finish n [] = refl
unfinished-finish n (slot ∷ slots) = elim (cases_eq slot.0.0 n) [
  | inl is ↦ ap (λ (s : Slot). unless_finished s.0 s.1 (unfinished (finish_slots n slots))) (finish_it n slot is) ∙ unfinished-finish n slots ∙ sym (without-unless_finished n slot.0 slot.1 (unfinished slots) is)
  | inr is ↦ ap (λ (s : Slot). unless_finished s.0 s.1 (unfinished (finish_slots n slots))) (finish_other n slot is) ∙ ap (λ (l : List Entry). unless_finished slot.0 slot.1 l) (unfinished-finish n slots) ∙ sym (without-onto_other n slot.0 slot.1 (unfinished slots) is)
]

held-with_finished : (n : ℕ) (segments : List (List Slot)) → held (with_finished n segments) ≡ without n (held segments)
held-with_finished n [] = refl
held-with_finished n (s ∷ segments) = (λ i. unfinished-finish n s i ++ held-with_finished n segments i) ∙ sym (without-append n (unfinished s) (held segments))

entries-finish : (n : ℕ) (slots : List Slot) → entries (finish_slots n slots) ≡ entries slots
entries-finish n [] = refl
entries-finish n (slot ∷ slots) = elim (cases_eq slot.0.0 n) [
  | inl is ↦ (λ i. (finish_it n slot is i).0 ∷ entries-finish n slots i)
  | inr is ↦ (λ i. (finish_other n slot is i).0 ∷ entries-finish n slots i)
]

stored-with_finished : (n : ℕ) (segments : List (List Slot)) → stored (with_finished n segments) ≡ stored segments
stored-with_finished n [] = refl
stored-with_finished n (s ∷ segments) = λ i. entries-finish n s i ++ stored-with_finished n segments i

held-removed : (place : ℕ) (segments : List (List Slot)) → IsFinished place segments → held (removed place segments) ≡ held segments
held-removed place [] done = refl
held-removed zero (s ∷ segments) done = ap (λ (l : List Entry). l ++ held segments) (sym done)
held-removed (suc place) (s ∷ segments) done = ap (λ (l : List Entry). unfinished s ++ l) (held-removed place segments done)

stored-removed : (place : ℕ) (segments : List (List Slot)) → IsAmong (stored (removed place segments)) (stored segments)
stored-removed place [] = tt
stored-removed zero (s ∷ segments) = behind (entries s)
  where
    behind : (xs : List Entry) → IsAmong (stored segments) (xs ++ stored segments)
    behind [] = among_same (stored segments)
    behind (x ∷ xs) = among_skip (stored segments) x (xs ++ stored segments) (behind xs)
stored-removed (suc place) (s ∷ segments) = among_before (entries s) (stored (removed place segments)) (stored segments) (stored-removed place segments)

unless_finished-fades : (e f : Entry) (m k : ℕ) (xs ys : List Entry) → f ≡ e → (m ≡ 0 → k ≡ 0) → IsAmong xs ys → IsAmong (unless_finished e m xs) (unless_finished f k ys)
unless_finished-fades e f zero zero xs ys same kept among = inl (sym same, among)
unless_finished-fades e f zero (suc k) xs ys same kept among = absurd (omega (arith, kept refl))
unless_finished-fades e f (suc m) zero xs ys same kept among = among_skip xs f ys among
unless_finished-fades e f (suc m) (suc k) xs ys same kept among = among

unfinished-fades : (slots found : List Slot) → FadesTo slots found → IsAmong (unfinished slots) (unfinished found)
unfinished-fades [] found fades = tt
unfinished-fades (s ∷ slots) [] fades = absurd fades
unfinished-fades (s ∷ slots) (c ∷ found) fades = unless_finished-fades s.0 c.0 s.1 c.1 (unfinished slots) (unfinished found) fades.0 fades.1 (unfinished-fades slots found fades.2)

among_both : (ws xs ys zs : List Entry) → IsAmong ws xs → IsAmong ys zs → IsAmong (ws ++ ys) (xs ++ zs)
among_both ws xs ys zs one other = among_trans (ws ++ ys) (xs ++ ys) (xs ++ zs) (among_behind ws xs ys one) (among_before xs ys zs other)

held-fades : (segments found : List (List Slot)) → AllFadeTo segments found → IsAmong (held segments) (held found)
held-fades [] found fades = tt
held-fades (s ∷ segments) [] fades = absurd fades
held-fades (s ∷ segments) (c ∷ found) fades = among_both (unfinished s) (unfinished c) (held segments) (held found) (unfinished-fades s c fades.0) (held-fades segments found fades.1)

entries-fades : (slots found : List Slot) → FadesTo slots found → entries found ≡ entries slots
entries-fades [] found fades = ap entries fades
entries-fades (s ∷ slots) [] fades = absurd fades
entries-fades (s ∷ slots) (c ∷ found) fades = λ i. fades.0 i ∷ entries-fades slots found fades.2 i

stored-fades : (segments found : List (List Slot)) → AllFadeTo segments found → stored found ≡ stored segments
stored-fades [] found fades = ap stored fades
stored-fades (s ∷ segments) [] fades = absurd fades
stored-fades (s ∷ segments) (c ∷ found) fades = λ i. entries-fades s c fades.0 i ++ stored-fades segments found fades.1 i

unless_finished-among : (e : Entry) (m : ℕ) (xs ys : List Entry) → IsAmong xs ys → IsAmong (unless_finished e m xs) (e ∷ ys)
unless_finished-among e zero xs ys among = inl (refl, among)
unless_finished-among e (suc m) xs ys among = among_skip xs e ys among

unfinished-among : (slots : List Slot) → IsAmong (unfinished slots) (entries slots)
unfinished-among [] = tt
unfinished-among (s ∷ slots) = unless_finished-among s.0 s.1 (unfinished slots) (entries slots) (unfinished-among slots)

held-among : (segments : List (List Slot)) → IsAmong (held segments) (stored segments)
held-among [] = tt
held-among (s ∷ segments) = among_both (unfinished s) (entries s) (held segments) (stored segments) (unfinished-among s) (held-among segments)

owes : (events : List Event) (owed : List Entry) (old new : List (List Slot)) → Run events old new → IsAmong owed (held old) → IsAmong (owed_after owed events) (held new)
owes [] owed old new run among = subst (λ (s : List (List Slot)). IsAmong owed (held s)) (sym run) among
owes (Begin ∷ events) owed old new run among = owes events owed (old ++ [] ∷ []) new run (subst (IsAmong owed) (sym (held-begin old)) among)
owes (Append batch ∷ events) owed old new run among =
    owes events (owed ++ batch) (with_batch batch old) new run (subst (IsAmong (owed ++ batch)) (sym (held-with_batch batch old)) (among_behind owed (held old) batch among))
owes (Attempt batch ∷ events) owed old new (inl run) among = owes events owed old new run among
owes (Attempt batch ∷ events) owed old new (inr run) among =
    owes events owed (with_batch batch old) new run (subst (IsAmong owed) (sym (held-with_batch batch old)) (among_more owed (held old) batch among))
owes (Finish n ∷ events) owed old new run among =
    owes events (without n owed) (with_finished n old) new run (subst (IsAmong (without n owed)) (sym (held-with_finished n old)) (among_without n owed (held old) among))
owes (Retire place ∷ events) owed old new run among =
    owes events owed (removed place old) new run.1 (subst (IsAmong owed) (sym (held-removed place old run.0)) among)
owes (Crash ∷ events) owed old new run among =
    owes events owed run.0 new run.2 (among_trans owed (held old) (held run.0) among (held-fades old run.0 run.1))

gives : (events : List Event) (given : List Entry) (old new : List (List Slot)) → Run events old new → IsAmong (stored old) given → IsAmong (stored new) (given_after given events)
gives [] given old new run among = subst (λ (s : List (List Slot)). IsAmong (stored s) given) (sym run) among
gives (Begin ∷ events) given old new run among = gives events given (old ++ [] ∷ []) new run (subst (λ (l : List Entry). IsAmong l given) (sym (stored-begin old)) among)
gives (Append batch ∷ events) given old new run among =
    gives events (given ++ batch) (with_batch batch old) new run (subst (λ (l : List Entry). IsAmong l (given ++ batch)) (sym (stored-with_batch batch old)) (among_behind (stored old) given batch among))
gives (Attempt batch ∷ events) given old new (inl run) among = gives events (given ++ batch) old new run (among_more (stored old) given batch among)
gives (Attempt batch ∷ events) given old new (inr run) among =
    gives events (given ++ batch) (with_batch batch old) new run (subst (λ (l : List Entry). IsAmong l (given ++ batch)) (sym (stored-with_batch batch old)) (among_behind (stored old) given batch among))
gives (Finish n ∷ events) given old new run among = gives events given (with_finished n old) new run (subst (λ (l : List Entry). IsAmong l given) (sym (stored-with_finished n old)) among)
gives (Retire place ∷ events) given old new run among =
    gives events given (removed place old) new run.1 (among_trans (stored (removed place old)) (stored old) given (stored-removed place old) among)
gives (Crash ∷ events) given old new run among = gives events given run.0 new run.2 (subst (λ (l : List Entry). IsAmong l given) (sym (stored-fades old run.0 run.1)) among)

pub nothing_is_lost : LosesNothing
nothing_is_lost events segments run = (
  owes events [] [] segments run tt,
  among_trans (held segments) (stored segments) (given_after [] events) (held-among segments) (gives events [] [] segments run tt),
)
