-- Rows and one more.
use Rattle.std.proofs.Common.{◌≡◌, ℕ, true, List, [], ◌∷◌, ◌++◌}
use Rattle.sy_cert.specs.declared.row.Row.{Row}
use Rattle.sy_cert.specs.declared.kinds.Kind.{Kind}
use Rattle.sy_cert.specs.Rows.{AreRows, IsRow, kind, last_from, may_follow}

pub one_more : (version : ℕ) (before : Kind) (rows : List Row) (r : Row) → AreRows version before rows → IsRow version r
    → may_follow (last_from before rows) (kind r) ≡ true → AreRows version before (rows ++ r ∷ [])
one_more version before [] r h is f = (is, f, tt)
one_more version before (x ∷ rows) r h is f = (h.0, h.1, one_more version (kind x) rows r h.2 is f)
