-- Which lines are out where a write failed.
use Rattle.std.specs.Prelude.{◌≡◌, ◌⊎◌, ℕ, ◌+◌, ◌==◌, ◌<◌, if◌then◌else◌, List, [], ◌∷◌, ◌++◌, length, take}
use Rattle.sy_wire.specs.Messages.{Said}
use Rattle.sy_escapes.specs.Escapes.{line_feed, line_of, lines_of}
use Rattle.sy_escapes.specs.Sinks.{last_line, rest}
use Rattle.sy_escapes.specs.declared.batch.Batch.{Batch}

-- how long the first line of a text is, with its line feed
abbrev pub line_len : List ℕ → ℕ
line_len [] = 0
line_len (b ∷ later) = if b == line_feed then 1 else line_len later + 1

-- Of the lines of messages so many are out whole. Nothing of the next one is, or it is the last line of what is left.
pub record IsCut (messages : List Said) (before after : Batch) (whole : ℕ) : Type 0 where
  pub within : whole < length messages
  pub next : Said
  pub is_next : take (whole + 1) messages ≡ take whole messages ++ next ∷ []
  pub parts :
      ((rest after ≡ []) × (take before.out before.text.items ≡ lines_of (take whole messages)))
      ⊎ ((last_line after ≡ line_of next) × (take before.out before.text.items ++ rest after ≡ lines_of (take (whole + 1) messages)))
