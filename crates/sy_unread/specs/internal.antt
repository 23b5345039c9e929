-- What the parts of the head of a record are.
pub mod Fronts
pub mod Fields
use Rattle.std.specs.Prelude.{◌≡◌, ◌≢◌, ◌⊎◌, ℕ, ◌<◌, ◌^◌, true, List, [], ◌∷◌, ◌++◌, Some, codes, drop}
use Rattle.std.specs.List.{concat}
use Rattle.std.specs.Fmt.{decimal}
use Rattle.sy_wire.specs.Characters.{dash, space}
use Rattle.sy_wire.specs.Messages.{IsPri}
use Rattle.sy_wire.specs.Timestamps.{IsTimestamp}
use Rattle.sy_unread.specs.Repairs.{HeadFields, fitted, head_text}
use Rattle.sy_unread.specs.declared.heads.Head.{Head}
use Rattle.sy_unread.specs.Records.{hostname_of, length_text, nil_value, value_of}
use Rattle.sy_unread.specs.declared.parts.Part.{Part}
use Rattle.sy_unread.specs.declared.parts.Part.TheVariants as part
use Rattle.sy_unread.specs.declared.record.About.{About}
use Rattle.sy_unread.specs.declared.repair.Draft.{Draft}
use Rattle.sy_unread.specs.declared.repaired.Repair.TheVariants.{Whole}

abbrev pub part_text : Part → List ℕ
part_text (part.Text words) = words.now
part_text (part.Number number) = decimal number
part_text (part.Hostname name) = hostname_of name.now
part_text (part.Value value) = value_of value.now
part_text (part.Length length) = length_text length

-- all bytes as text, after a priority of this number and nothing else that is known
abbrev pub whole_text : ℕ → List ℕ → List ℕ
whole_text number bytes = concat (codes "<" ∷ decimal number ∷ codes ">1 - - - - - - " ∷ bytes ∷ [])

-- the numbers have 64 bits
pub record IsInRange (about : About) : Type 0 where
  pub input : about.input < 2 ^ 64
  pub frame : about.frame < 2 ^ 64
  pub at : about.at < 2 ^ 64
  pub length : (n : ℕ) → about.length ≡ Some n → n < 2 ^ 64

-- the fields of a head that was read
abbrev pub fields_of : Head → HeadFields
fields_of head = record {
  pri = head.pri.now;
  timestamp = head.timestamp.now;
  hostname = head.hostname.now;
  app_name = head.app_name.now;
  procid = head.procid.now;
  msgid = head.msgid.now;
}

-- the same but for a TIMESTAMP that may be NILVALUE
pub record IsTimed (head timed : HeadFields) : Type 0 where
  pub same : timed ≡ record head { timestamp = timed.timestamp }
  pub time : (timed.timestamp ≡ head.timestamp) ⊎ (timed.timestamp ≡ nil_value)

-- what was read of a head is this head, and the rest is behind it
abbrev pub IsReadAs : List ℕ → Head → HeadFields → List ℕ → Type 0
IsReadAs bytes read head rest = (fields_of read ≡ head) × (drop read.end bytes ≡ rest)

-- the message of a draft whose rest is text
abbrev pub anew_text : Draft → List ℕ
anew_text draft = head_text (fitted (fields_of draft.head)) ++ dash ∷ space ∷ draft.rest.now

-- the rest of a draft is text: its priority and its rest are those of the bytes, and its time is a TIMESTAMP
pub record IsTextDraft (draft : Draft) (bytes : List ℕ) : Type 0 where
  pub is_text : draft.is_text ≡ true
  pub number : ℕ
  pub is_pri : IsPri draft.head.pri.now number
  pub more : List ℕ
  pub begins : bytes ≡ draft.head.pri.now ++ more
  pub is_time : IsTimestamp draft.head.timestamp.now
  pub front : List ℕ
  pub behind : bytes ≡ front ++ draft.rest.now
  pub in_part : draft.how ≢ Whole
