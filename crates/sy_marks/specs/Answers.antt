-- Laws of the definitions: one answer to an input, and what is taken falls into three parts.
use Rattle.std.specs.Prelude.{◌≡◌, ℕ, ◌+◌, Bool, List, length, filter, take}
use Rattle.sy_chain.specs.Entries.{Entry}
use Rattle.sy_marks.specs.Marks.{HoldIs, kept_of, lost_of, finished_of}
use Rattle.sy_marks.specs.declared.marks.Flow.{Flow}
use Rattle.sy_marks.specs.declared.marks.Hold.{Hold}
use Rattle.sy_marks.specs.declared.marks.Marks.{Marks}

-- one thing holds a message of an input, or nothing
pub record OneHold (flow : Flow) (marks : Marks) (waiting : ℕ) : Type 0 where
  pub answer : Hold
  pub is : HoldIs answer flow marks waiting
  pub only : (other : Hold) → HoldIs other flow marks waiting → other ≡ answer

-- entries of any kind are as many among the first n as among those of them that are kept, lost and finished
abbrev pub IsParted : Marks → ℕ → List Entry → Type 0
IsParted marks n entries = (kind : Entry → Bool) →
    length (filter kind (take n entries))
    ≡ length (filter kind (kept_of marks n entries))
    + length (filter kind (lost_of marks n entries))
    + length (filter kind (finished_of marks n entries))
