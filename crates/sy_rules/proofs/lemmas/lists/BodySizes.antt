-- The expanded text of a list has no more statements than are counted for it: the calls, which it has no more, are counted too.
use Rattle.std.proofs.Common.{◌≡◌, ℕ, zero, suc, ◌+◌, ◌≤◌, List, arith}
use Rattle.sy_rules.specs.Limits.{CALL_DEPTH}
use Rattle.sy_rules.specs.lists.Lines.{Lines, expand, expanded, list_at, statement_count, statements_of, statements_within, body_of}
use Rattle.sy_rules.specs.lists.Body.{Body, ◌⧺◌, size}

size-⧺ : (s t : Body) → size (s ⧺ t) ≡ size s + size t
size-⧺ Body.End t = omega arith
size-⧺ (Body.Run a s) t = omega (arith, size-⧺ s t)
size-⧺ (Body.Post l s) t = omega (arith, size-⧺ s t)
size-⧺ (Body.Stop s) t = omega (arith, size-⧺ s t)
size-⧺ (Body.If x d o s) t = omega (arith, size-⧺ s t)

module _ (become : ℕ → Body) (inner : ℕ → ℕ) (known : (l : ℕ) → size (become l) ≤ inner l) where
  size_expand : (x : Lines) → size (expand become x) ≤ statement_count inner x
  size_expand Lines.End = omega arith
  size_expand (Lines.Run a rest) = omega (arith, size_expand rest)
  size_expand (Lines.Post l rest) = omega (arith, size_expand rest)
  size_expand (Lines.Call l rest) = omega (arith, size-⧺ (become l) (expand become rest), known l, size_expand rest)
  size_expand (Lines.Stop rest) = omega (arith, size_expand rest)
  size_expand (Lines.If x done otherwise rest) = omega (arith, size_expand done, size_expand otherwise, size_expand rest)

size_within : (lists : List Lines) (depth l : ℕ) → size (expanded lists depth l) ≤ statements_within lists depth l
size_within lists zero l = size_expand (λ callee. Body.End) (λ callee. 0) (λ callee. omega arith) (list_at lists l)
size_within lists (suc depth) l = size_expand (expanded lists depth) (statements_within lists depth) (size_within lists depth) (list_at lists l)

pub size_at_most : (most : ℕ) (lists : List Lines) (l : ℕ) → statements_of lists l ≤ most → size (body_of lists l) ≤ most
size_at_most most lists l few = omega (arith, size_within lists CALL_DEPTH l, few)
