-- Drafts of heads of RFC 3164.
use Rattle.std.proofs.Common.{◌≡◌, ◌≢◌, ℕ, ◌+◌, ◌-◌, ◌*◌, ◌<◌, ◌≤◌, inl, true, List, [], ◌∷◌, ◌++◌, length, take, drop, sym, ap, subst, ◌∙◌, arith}
use Rattle.std.proofs.lemmas.List.{length-drop, take-append-drop}
use Rattle.sy_wire.specs.Messages.{IsMessage, IsPri, Said}
use Rattle.sy_unread.specs.Hints.{pri_length}
use Rattle.sy_unread.specs.Repairs.{HeadFields, IsHead3164, fitted}
use Rattle.sy_wire.specs.Frames.{MAX_FRAME}
use Rattle.sy_unread.specs.Repairs.{IsPriorityOf}
use Rattle.sy_unread.specs.internal.{IsTextDraft, IsTimed, anew_text, fields_of}
use Rattle.sy_unread.specs.declared.heads.Head.{Head}
use Rattle.sy_unread.specs.declared.repair.Draft.{Draft}
use Rattle.sy_unread.specs.declared.repaired.Repair.{Repair}
use Rattle.sy_unread.specs.declared.repaired.Repair.TheVariants.{Rfc3164, Whole}
use Rattle.sy_unread.proofs.Repairing.{too_many}
use Rattle.sy_unread.proofs.Classes.{front_is, same_number}
use Rattle.sy_unread.proofs.OldHeads.{anew_message, anew_size, said_anew}

-- a draft of text that makes no message is longer than a frame carries
pub no_text_draft : (draft : Draft) (bytes raw : List ℕ) (class : ℕ) → raw ≡ anew_text draft → IsPriorityOf bytes class
    → ((said : Said) (front : List ℕ) → IsMessage said → said.raw ≡ raw → length raw ≤ MAX_FRAME → bytes ≡ front ++ said.msg → (draft.how ≡ Whole → front ≡ [])
    → 8 * said.class.facility + said.class.severity ≡ class → ⊥)
    → IsTextDraft draft bytes → MAX_FRAME < length (anew_text draft)
no_text_draft draft bytes raw class is priority never text =
    let low : text.number < 192 = text.is_pri.1.bound in
    too_many MAX_FRAME (length (anew_text draft)) (λ few.
    never (said_anew (fitted (fields_of draft.head)) text.number low draft.rest.now) text.front
    (anew_message (fields_of draft.head) text.number low draft.rest.now text.is_pri text.is_time) (sym is) (rw is few) text.behind (λ how. absurd (text.in_part how))
    (same_number text.number ∙ sym (priority draft.head.pri.now text.more text.number text.is_pri text.begins)))

not_whole : (how : Repair) → how ≡ Rfc3164 → how ≢ Whole
not_whole how is whole = let never : Rfc3164 ≡ Whole = sym is ∙ whole in cc

-- where no draft without a TIMESTAMP of such a head makes a message there are too many bytes
pub no_old_draft : (bytes : List ℕ) (head : Head) (draft : Draft) → draft.head.timestamp.now ≡ 45 ∷ [] → IsTimed (fields_of head) (fields_of draft.head)
    → draft.rest.now ≡ drop head.end bytes → (draft.is_text ≡ true) × (draft.how ≡ Rfc3164) → head.pri.now ≡ take (pri_length bytes) bytes → head.msgid.now ≡ 45 ∷ []
    → (length head.pri.now + length head.hostname.now) + (length head.app_name.now + length head.procid.now + (length bytes - head.end)) ≤ length bytes + 1
    → (IsTextDraft draft bytes → MAX_FRAME < length (anew_text draft)) → IsHead3164 bytes → 65521 < length bytes
no_old_draft bytes head draft time timed rest text pri none within never old =
    let pri_same : draft.head.pri.now ≡ head.pri.now = ap (λ (h : HeadFields). h.pri) timed.same in
    let host_same : draft.head.hostname.now ≡ head.hostname.now = ap (λ (h : HeadFields). h.hostname) timed.same in
    let app_same : draft.head.app_name.now ≡ head.app_name.now = ap (λ (h : HeadFields). h.app_name) timed.same in
    let process_same : draft.head.procid.now ≡ head.procid.now = ap (λ (h : HeadFields). h.procid) timed.same in
    let msgid_same : draft.head.msgid.now ≡ head.msgid.now = ap (λ (h : HeadFields). h.msgid) timed.same in
    let front : draft.head.pri.now ≡ old.pri = pri_same ∙ pri ∙ front_is bytes old.pri old.rest old.number old.is_pri old.whole in
    let most = anew_size (fields_of draft.head) draft.rest.now time (msgid_same ∙ none) in
    let kept : length draft.rest.now ≡ length bytes - head.end = ap length rest ∙ length-drop head.end bytes in
    let long : MAX_FRAME < length (anew_text draft) = never (record {
      is_text = text.0;
      number = old.number;
      is_pri = subst (λ x. IsPri x old.number) (sym front) old.is_pri;
      more = old.rest;
      begins = old.whole ∙ ap (λ x. x ++ old.rest) (sym front);
      is_time = inl time;
      front = take head.end bytes;
      behind = sym (take-append-drop head.end bytes) ∙ ap (λ x. take head.end bytes ++ x) (sym rest);
      in_part = not_whole draft.how text.1;
    }) in
    let a = ap length pri_same in
    let b = ap length host_same in
    let d = ap length app_same in
    let e = ap length process_same in
    omega arith
