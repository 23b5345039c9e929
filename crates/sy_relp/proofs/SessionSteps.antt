-- What the functions of a session see.
use Rattle.std.proofs.Math.ListN.{set}
use Rattle.std.proofs.Common.{◌≡◌, ◌≢◌, ℕ, zero, suc, below_more, get_or, ◌+◌, ◌<◌, ◌≤◌, true, List, [], ◌∷◌, ◌++◌, length, length-append, take, drop, refl, sym, ap, ◌∙◌, arith}
use Rattle.std.specs.Prelude.{codes, Some, slice_get}
use Rattle.std.specs.Fmt.{decimal}
use Rattle.std.proofs.lemmas.Fmt.{decimal_digit, decimal_step}
use Rattle.std.proofs.lemmas.List.{take_at, take-append-drop}
use Rattle.sy_relp.specs.Frames.{body, frame}
use Rattle.sy_relp.specs.Answers.{answer_to, offers, rsp}
use Rattle.sy_relp.specs.declared.session.Stage.{Stage}
use Rattle.sy_relp.specs.Sessions.{Answers, Session, HasVersion}
use Rattle.sy_relp.specs.internal.Marks.{MarksNone, MarksOne, done, undone}
use Rattle.sy_relp.specs.declared.session.Waiting.{Waiting}

pub version_of : (content front : List ℕ) → front ≡ take 13 content → front ≡ codes "relp_version=" → HasVersion content
version_of content front a b = (drop 13 content, sym (take-append-drop 13 content) ∙ ap (λ x. x ++ drop 13 content) (sym a ∙ b))

pub no_version : (content front : List ℕ) → front ≡ take 13 content → front ≢ codes "relp_version=" → HasVersion content → ⊥
no_version content front a b h = b (a ∙ ap (take 13) h.1 ∙ take_at (codes "relp_version=") h.0 13 refl)

pub short_version : (content : List ℕ) → length content < 13 → HasVersion content → ⊥
short_version content short h = let size = ap length h.1 in omega (arith, size, length-append (codes "relp_version=") h.0)

-- the text of an answer
abbrev pub said : ℕ → List ℕ → List ℕ → List ℕ
said txnr digits content = decimal txnr ++ (32 ∷ (codes "rsp" ++ (32 ∷ (digits ++ (body content ++ 10 ∷ [])))))

fifty_five : decimal 55 ≡ codes "55"
fifty_five = decimal_step 55 (omega arith) (omega arith) ∙ ap (λ x. x ++ 53 ∷ []) (decimal_digit 5 (omega arith))

eleven : decimal 11 ≡ codes "11"
eleven = decimal_step 11 (omega arith) (omega arith) ∙ ap (λ x. x ++ 49 ∷ []) (decimal_digit 1 (omega arith))

pub says_open : (txnr : ℕ) → decimal txnr ++ codes " rsp 55 200 OK\nrelp_version=0\nrelp_software=syc\ncommands=syslog\n" ≡ frame (rsp txnr offers)
says_open txnr = ap (λ d. said txnr d offers) (sym fifty_five)

pub says_ok : (txnr : ℕ) → decimal txnr ++ codes " rsp 6 200 OK\n" ≡ frame (rsp txnr (codes "200 OK"))
says_ok txnr = ap (λ d. said txnr d (codes "200 OK")) (sym (decimal_digit 6 (omega arith)))

pub says_close : (txnr : ℕ) → decimal txnr ++ codes " rsp 0\n" ≡ frame (rsp txnr [])
says_close txnr = ap (λ d. said txnr d []) (sym (decimal_digit 0 (omega arith)))

pub says_other : (txnr : ℕ) → decimal txnr ++ codes " rsp 11 500 unknown\n" ≡ frame (rsp txnr (codes "500 unknown"))
says_other txnr = ap (λ d. said txnr d (codes "500 unknown")) (sym eleven)

-- a list with one element in another's place
pub at_place : (xs : List Waiting) (i : ℕ) (d v : Waiting) → i < length xs → (before after : List Waiting) × (xs ≡ before ++ get_or xs i d ∷ after) × (set xs i v ≡ before ++ v ∷ after)
at_place [] i d v within = absurd (omega (arith, within))
at_place (x ∷ xs) zero d v within = ([], xs, refl, refl)
at_place (x ∷ xs) (suc i) d v within =
    let rest = at_place xs i d v (omega (arith, within)) in
    (x ∷ rest.0, rest.1, ap (λ z. x ∷ z) rest.2, ap (λ z. x ∷ z) rest.3)

pub marks_one : (xs : List Waiting) (i txnr : ℕ) (d : Waiting) → i < length xs → get_or xs i d ≡ undone txnr → MarksOne xs txnr (set xs i (done txnr))
marks_one xs i txnr d within is =
    let place = at_place xs i d (done txnr) within in
    (place.0, place.1, place.2 ∙ ap (λ w. place.0 ++ w ∷ place.1) is, place.3)

get_behind : (before after : List Waiting) (w : Waiting) → slice_get (before ++ w ∷ after) (length before) ≡ Some w
get_behind [] after w = refl
get_behind (b ∷ before) after w = get_behind before after w

pub marks_none : (xs : List Waiting) (i txnr : ℕ) → length xs ≤ i → ((k : ℕ) → k < i → slice_get xs k ≡ Some (undone txnr) → ⊥) → MarksNone xs txnr
marks_none xs i txnr all none before after e =
    let size = ap length e in
    none (length before) (omega (arith, size, all, length-append before (undone txnr ∷ after))) (ap (λ ys. slice_get ys (length before)) e ∙ get_behind before after (undone txnr))

got : (xs : List Waiting) (i : ℕ) (d w : Waiting) → slice_get xs i ≡ Some w → get_or xs i d ≡ w
got [] i d w e = cc
got (x ∷ xs) zero d w e = cc
got (x ∷ xs) (suc i) d w e = got xs i d w e

pub one_more_none : (xs : List Waiting) (i txnr : ℕ) (d : Waiting) → ((k : ℕ) → k < i → slice_get xs k ≡ Some (undone txnr) → ⊥) → get_or xs i d ≢ undone txnr → (k : ℕ) → k < i + 1 → slice_get xs k ≡ Some (undone txnr) → ⊥
one_more_none xs i txnr d none other = below_more (λ k. slice_get xs k ≡ Some (undone txnr) → ⊥) i none (λ e. other (got xs i d (undone txnr) e))

pub first_of : (xs : List Waiting) (d : Waiting) → 0 < length xs → xs ≡ get_or xs 0 d ∷ drop 1 xs
first_of [] d some = absurd (omega (arith, some))
first_of (x ∷ xs) d some = refl

pub answers_first : (old : Session) (stage : Stage) (last : ℕ) (waiting rest : List Waiting) (first : Waiting) → old ≡ record { stage = stage; last = last; waiting = waiting } → 0 < length waiting → first ≡ get_or waiting 0 first → first.is_done ≡ true → rest ≡ drop 1 waiting
    → Answers old (rsp first.txnr (answer_to first.kind)) (record { stage = stage; last = last; waiting = rest })
answers_first old stage last waiting rest first is some at done behind = record {
  first = first;
  rest = rest;
  there = ap (λ (s : Session). s.waiting) is ∙ first_of waiting first some ∙ ap (λ w. w ∷ drop 1 waiting) (sym at) ∙ ap (λ ws. first ∷ ws) (sym behind);
  is_done = done;
  says = refl;
  then = ap (λ (s : Session). record s { waiting = rest }) (sym is);
}
