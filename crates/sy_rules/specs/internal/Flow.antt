-- The walks that private functions make, over expanded texts: the work of a message by which tests hold, and what a class may and must execute
-- by a verdict for each test.
use Rattle.std.specs.Prelude.{ℕ, Bool, if◌then◌else◌, ◌+◌, ◌||◌, ◌&&◌, [], ◌++◌}
use Rattle.sy_select.specs.declared.condition.Test.{Test}
use Rattle.sy_select.specs.declared.verdict.Verdict.{Verdict}
use Rattle.sy_select.specs.declared.verdict.Verdict.TheVariants.{Yes, No, Either}
use Rattle.sy_select.specs.Truth.{Formula}
use Rattle.sy_rules.specs.lists.Body.{Body, Walk, ◌then◌, count, nothing, one, stopped}

-- of two blocks, what one of them may execute, and what is executed whichever is taken
abbrev pub may_of : Verdict → Walk → Walk → Walk
may_of Yes a b = a
may_of No a b = b
may_of Either a b = record { executed = a.executed ++ b.executed; goes_on = a.goes_on || b.goes_on }

-- No occurrence stands in both blocks.
abbrev pub must_of : Verdict → Walk → Walk → Walk
must_of Yes a b = a
must_of No a b = b
must_of Either a b = record { executed = []; goes_on = a.goes_on && b.goes_on }

-- a text, by what its tests choose of two blocks
abbrev pub flow : (Formula Test → Walk → Walk → Walk) → Body → ℕ → Walk
flow choose Body.End number = nothing
flow choose (Body.Run a rest) number = one number then flow choose rest (number + 1)
flow choose (Body.Post l rest) number = one number then flow choose rest (number + 1)
flow choose (Body.Stop rest) number = stopped
flow choose (Body.If x done otherwise rest) number =
    choose x (flow choose done number) (flow choose otherwise (number + count done)) then flow choose rest (number + count done + count otherwise)

-- what a text executes by which tests hold
abbrev pub work_flow : (Formula Test → Bool) → Body → ℕ → Walk
work_flow met = flow (λ x a b. if met x then a else b)

abbrev pub may_flow : (Formula Test → Verdict) → Body → ℕ → Walk
may_flow judge = flow (λ x. may_of (judge x))

abbrev pub must_flow : (Formula Test → Verdict) → Body → ℕ → Walk
must_flow judge = flow (λ x. must_of (judge x))
