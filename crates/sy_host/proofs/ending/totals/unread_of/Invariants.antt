use Rattle.std.proofs.Common.{◌≡◌, ◌<◌, ◌^◌, sum_by, take}
use Rattle.sy_host.proofs.ending.totals.unread_of.Given as goal

-- what those before this one counted, where all together are few enough
abbrev pub invariant-loop-end : goal.invariant-loop-end
invariant-loop-end l = sum_by (λ e. e.unread) l.ends < 2 ^ 128 → l.unread ≡ sum_by (λ e. e.unread) (take l.end-index l.ends)
