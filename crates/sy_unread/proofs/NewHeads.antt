-- Heads of RFC 5424, and the messages that are made of them.
use Rattle.std.proofs.Common.{◌≡◌, ◌≢◌, ℕ, ◌+◌, ◌-◌, ◌<◌, true, List, ◌∷◌, ◌++◌, length, take, drop, refl, sym, ap, subst, ◌∙◌, arith, length-append}
use Rattle.std.specs.Prelude.{None, Some, min}
use Rattle.std.proofs.lemmas.List.{take-append-drop}
use Rattle.std.proofs.lemmas.Option.{none-some, same_Some}
use Rattle.std.proofs.Math.Seq.{drop-append_seam}
use Rattle.sy_wire.specs.Frames.{MAX_FRAME}
use Rattle.sy_wire.specs.Messages.{IsPri}
use Rattle.sy_wire.proofs.Runs.{same_tail}
use Rattle.sy_unread.specs.Hints.{pri_length}
use Rattle.sy_unread.specs.Repairs.{HeadFields, IsHead5424, IsTimeAnew, IsTooLongAnew, fitted, head_text, text_anew}
use Rattle.sy_unread.specs.Words.{IsWord, word_at}
use Rattle.sy_unread.specs.internal.{IsReadAs, IsTextDraft, IsTimed, anew_text, fields_of}
use Rattle.sy_unread.specs.declared.heads.Head.{Head}
use Rattle.sy_unread.specs.declared.repair.Draft.{Draft}
use Rattle.sy_unread.specs.declared.repaired.Repair.{Repair}
use Rattle.sy_unread.specs.declared.repaired.Repair.TheVariants.{Data, Whole}
use Rattle.sy_unread.proofs.Classes.{front_is}
use Rattle.sy_unread.proofs.FieldLaws.{word_again}
use Rattle.sy_unread.proofs.HeadTexts.{joined}
use Rattle.sy_unread.proofs.Repairing.{last_bytes}
use Rattle.sy_unread.proofs.Times.{one_time_anew, time_anew_is}

-- ---- what is read of a head

-- the words of a head, and the rest
abbrev pub words_text : HeadFields → List ℕ → List ℕ
words_text head rest =
    head.timestamp ++ 32 ∷ (head.hostname ++ 32 ∷ (head.app_name ++ 32 ∷ (head.procid ++ 32 ∷ (head.msgid ++ 32 ∷ rest))))

pub head_cut : (bytes : List ℕ) (head : HeadFields) (rest : List ℕ) → IsHead5424 bytes head rest → bytes ≡ head.pri ++ 49 ∷ 32 ∷ words_text head rest
head_cut bytes head rest is = is.whole ∙ sym (joined head.pri head.timestamp head.hostname head.app_name head.procid head.msgid rest)

pub same_pri : (bytes pri : List ℕ) (head : HeadFields) (rest : List ℕ) → IsHead5424 bytes head rest → pri ≡ take (pri_length bytes) bytes → pri ≡ head.pri
same_pri bytes pri head rest is read = read ∙ front_is bytes head.pri (49 ∷ 32 ∷ words_text head rest) is.number is.is_pri (head_cut bytes head rest is)

-- what is after the priority
pub behind_pri : (bytes pri : List ℕ) (head : HeadFields) (rest : List ℕ) → IsHead5424 bytes head rest → pri ≡ take (pri_length bytes) bytes
    → drop (length pri) bytes ≡ 49 ∷ 32 ∷ words_text head rest
behind_pri bytes pri head rest is read =
    ap (λ x. drop (length x) bytes) (same_pri bytes pri head rest is read) ∙ ap (drop (length head.pri)) (head_cut bytes head rest is)
    ∙ drop-append_seam head.pri (49 ∷ 32 ∷ words_text head rest)

pub version_behind : (bytes behind : List ℕ) (head : HeadFields) (rest : List ℕ) → bytes ≡ 49 ∷ 32 ∷ words_text head rest → bytes ≡ 49 ∷ 32 ∷ behind
    → behind ≡ words_text head rest
version_behind bytes behind head rest is read = same_tail _ _ _ _ (same_tail _ _ _ _ (sym read ∙ is))

pub next_word : (bytes word rest got after : List ℕ) → bytes ≡ word ++ 32 ∷ rest → IsWord word → word_at bytes ≡ Some (got, after) → (got ≡ word) × (after ≡ rest)
next_word bytes word rest got after whole is found =
    let same : (got, after) ≡ (word, rest) = same_Some (got, after) (word, rest) (sym found ∙ ap word_at whole ∙ word_again word rest is) in
    (ap (λ (p : List ℕ × List ℕ). p.0) same, ap (λ (p : List ℕ × List ℕ). p.1) same)

pub no_word : (bytes word rest : List ℕ) → bytes ≡ word ++ 32 ∷ rest → IsWord word → word_at bytes ≡ None → ⊥
no_word bytes word rest whole is none = none-some (word, rest) (sym none ∙ ap word_at whole ∙ word_again word rest is)

pub same_fields : (pri timestamp hostname app_name procid msgid : List ℕ) (head : HeadFields)
    → pri ≡ head.pri → timestamp ≡ head.timestamp → hostname ≡ head.hostname → app_name ≡ head.app_name → procid ≡ head.procid → msgid ≡ head.msgid
    → record { pri = pri; timestamp = timestamp; hostname = hostname; app_name = app_name; procid = procid; msgid = msgid } ≡ head
same_fields pri timestamp hostname app_name procid msgid head p t h a i m = rw (p, t, h, a, i, m) refl

-- what is read of the rest is where the head ends
pub behind_head : (bytes front rest left : List ℕ) (end least : ℕ) → bytes ≡ front ++ rest → left ≡ rest → least ≡ min (length left) (length bytes)
    → end ≡ length bytes - least → drop end bytes ≡ rest
behind_head bytes front rest left end least whole same is place =
    let all : length bytes ≡ length front + length rest = ap length whole ∙ length-append front rest in
    let size : length left ≡ length rest = ap length same in
    let at : end ≡ length bytes - length rest = omega arith in
    ap (λ n. drop n bytes) at ∙ last_bytes bytes front rest whole

-- ---- drafts

data_not_whole : (how : Repair) → how ≡ Data → how ≢ Whole
data_not_whole how is whole = let never : Data ≡ Whole = sym is ∙ whole in cc

-- where the draft of a head whose rest is text makes no message a frame can't carry it
pub no_new_draft : (bytes : List ℕ) (came : Head) (draft : Draft)
    → ((head : HeadFields) (rest : List ℕ) → IsHead5424 bytes head rest → IsReadAs bytes came head rest)
    → IsTimed (fields_of came) (fields_of draft.head) → (IsWord came.timestamp.now → IsTimeAnew came.timestamp.now draft.head.timestamp.now)
    → draft.rest.now ≡ drop came.end bytes → draft.is_text ≡ true → draft.how ≡ Data
    → (IsTextDraft draft bytes → MAX_FRAME < length (anew_text draft)) → IsTooLongAnew bytes
no_new_draft bytes came draft read timed anew rest_is is_text how never head time rest is time_is =
    let same = read head rest is in
    let came_time : came.timestamp.now ≡ head.timestamp = ap (λ (h : HeadFields). h.timestamp) same.0 in
    let mine : IsTimeAnew came.timestamp.now draft.head.timestamp.now = anew (subst IsWord (sym came_time) is.words.0) in
    let at : draft.head.timestamp.now ≡ time =
    one_time_anew came.timestamp.now draft.head.timestamp.now time mine (subst (λ x. IsTimeAnew x time) (sym came_time) time_is) in
    let fields : fields_of draft.head ≡ record head { timestamp = time } =
    timed.same ∙ ap (λ (h : HeadFields). record h { timestamp = draft.head.timestamp.now }) same.0 ∙ ap (λ x. record head { timestamp = x }) at in
    let front : draft.head.pri.now ≡ head.pri = ap (λ (h : HeadFields). h.pri) fields in
    let last : draft.rest.now ≡ rest = rest_is ∙ same.1 in
    let text : anew_text draft ≡ text_anew head time rest =
    ap (λ (h : HeadFields). head_text (fitted h) ++ 45 ∷ 32 ∷ draft.rest.now) fields ∙ ap (λ x. head_text (fitted (record head { timestamp = time })) ++ 45 ∷ 32 ∷ x) last in
    let more : List ℕ = 49 ∷ 32 ∷ words_text head rest in
    subst (λ x. MAX_FRAME < length x) text (never (record {
      is_text = is_text;
      number = is.number;
      is_pri = subst (λ x. IsPri x is.number) (sym front) is.is_pri;
      more = more;
      begins = head_cut bytes head rest is ∙ ap (λ x. x ++ more) (sym front);
      is_time = time_anew_is came.timestamp.now draft.head.timestamp.now mine;
      front = take came.end bytes;
      behind = sym (take-append-drop came.end bytes) ∙ ap (λ x. take came.end bytes ++ x) (sym rest_is);
      in_part = data_not_whole draft.how how;
    }))
