-- What a method sees of its board.
use Rattle.std.proofs.Common.{◌≡◌, ℕ, ◌<◌, List, [], ◌∷◌, length, refl, sym, ap, ◌∙◌, get_or, set, Some, None, Option, map, option_to_list, arith, true, false}
use Rattle.std.specs.Prelude.{is_some}
use Rattle.std.proofs.lemmas.List.{map-set, get_or-map, get_or_default}
use Rattle.sy_chain.specs.Entries.{Entry}
use Rattle.sy_marks.specs.Marks.{QueueState}
use Rattle.sy_marks.specs.declared.marks.Marks.{Marks}
use Rattle.sy_rules.specs.declared.parameters.settings.QueueParameters.{QueueParameters}
use Rattle.sy_rules.specs.PlanValue.{Plan}
use Rattle.sy_board.specs.relay.Plans.{marks_at, marks_of, parameters_at}
use Rattle.sy_board.specs.relay.Cells.{Cell, RelayState, at}

-- an element that was read, at any default
pub read_there : {A : Type 0} (xs : List A) (k : ℕ) (x d : A) → k < length xs → x ≡ get_or xs k x → x ≡ get_or xs k d
read_there xs k x d l e = e ∙ get_or_default xs k x d l

-- ---- hands

pub hand_read : {A : Type 0} (xs : List (Option A)) (k : ℕ) (x : Option A) → k < length xs → x ≡ get_or xs k x → get_or (map option_to_list xs) k [] ≡ option_to_list x
hand_read xs k x l e = get_or-map option_to_list xs k x [] l ∙ ap option_to_list (sym e)

pub none_list : {A : Type 0} (x : Option A) → is_some x ≡ false → option_to_list x ≡ []
none_list None n = refl
none_list (Some x) n = cc

pub some_list : {A : Type 0} (x : Option A) → is_some x ≡ true → option_to_list x ≡ [] → ⊥
some_list None n e = cc
some_list (Some x) n e = cc

pub hand_write : {A : Type 0} (xs : List (Option A)) (k : ℕ) (v : Option A) → map option_to_list (set xs k v) ≡ set (map option_to_list xs) k (option_to_list v)
hand_write xs k v = map-set option_to_list xs k v

-- ---- queues

map_length : {A B : Type 0} (f : A → B) (xs : List A) → length (map f xs) ≡ length xs
map_length f [] = refl
map_length f (x ∷ xs) = ap ℕ.suc (map_length f xs)

pub same_lengths : {A B C : Type 0} (f : A → C) (g : B → C) (xs : List A) (ys : List B) → map f xs ≡ map g ys → length xs ≡ length ys
same_lengths f g xs ys e = sym (map_length f xs) ∙ ap length e ∙ map_length g ys

-- A queue of the board is this one.
pub record IsQueue (plan : Plan) (state : RelayState) (k : ℕ) (q : QueueState) : Type 0 where
  pub marks : q.marks ≡ marks_at plan k
  pub entries : q.entries ≡ at state (Cell.Queue k)

abbrev off : QueueParameters
off = record { size = 0; batch = 0; full_delay_mark = 0; light_delay_mark = 0; discard_mark = 0; discard_severity = 0; timeout_enqueue = 0; workers = 0; waits = false }

pub queue_seen : (plan : Plan) (state : RelayState) (qs : List QueueState) (k : ℕ) (q : QueueState) → map (λ (x : QueueState). x.marks) qs ≡ map marks_of plan.queues
    → state.queues ≡ map (λ (x : QueueState). x.entries) qs → k < length qs → q ≡ get_or qs k q → IsQueue plan state k q
queue_seen plan state qs k q same is l e =
    let a : get_or (map (λ (x : QueueState). x.marks) qs) k (marks_of off) ≡ q.marks = get_or-map (λ (x : QueueState). x.marks) qs k q (marks_of off) l ∙ ap (λ (x : QueueState). x.marks) (sym e) in
    let n : length qs ≡ length plan.queues = same_lengths (λ (x : QueueState). x.marks) marks_of qs plan.queues same in
    let there : k < length plan.queues = omega (arith, n, l) in
    let b : get_or (map marks_of plan.queues) k (marks_of off) ≡ marks_of (parameters_at plan k) = get_or-map marks_of plan.queues k off (marks_of off) there in
    let c : get_or (map (λ (x : QueueState). x.entries) qs) k [] ≡ q.entries = get_or-map (λ (x : QueueState). x.entries) qs k q [] l ∙ ap (λ (x : QueueState). x.entries) (sym e) in
    record {
      marks = sym a ∙ ap (λ (z : List Marks). get_or z k (marks_of off)) same ∙ b;
      entries = sym c ∙ ap (λ (z : List (List Entry)). get_or z k []) (sym is);
    }

pub queues_there : (qs : List QueueState) → length qs ≡ length (map (λ (x : QueueState). x.entries) qs)
queues_there qs = sym (map_length (λ (x : QueueState). x.entries) qs)

-- two reads of one place see the same
pub read_same : {A : Type 0} (xs : List A) (k : ℕ) (x y : A) → k < length xs → x ≡ get_or xs k x → y ≡ get_or xs k y → y ≡ x
read_same xs k x y l e f = read_there xs k y x l f ∙ sym e

pub entries_read : (qs : List QueueState) (k : ℕ) (q : QueueState) → k < length qs → q ≡ get_or qs k q → get_or (map (λ (x : QueueState). x.entries) qs) k [] ≡ q.entries
entries_read qs k q l e = get_or-map (λ (x : QueueState). x.entries) qs k q [] l ∙ ap (λ (x : QueueState). x.entries) (sym e)

-- an element is written whose image is the same
pub map_stays : {A B : Type 0} (f : A → B) (xs : List A) (k : ℕ) (v x : A) → k < length xs → x ≡ get_or xs k x → f v ≡ f x → map f (set xs k v) ≡ map f xs
map_stays f [] k v x l e same = refl
map_stays f (y ∷ ys) ℕ.zero v x l e same = ap (λ z. z ∷ map f ys) (same ∙ ap f e)
map_stays f (y ∷ ys) (ℕ.suc k) v x l e same = let m : k < length ys = omega arith in ap (λ z. f y ∷ z) (map_stays f ys k v x m e same)
