-- The numbering of a table's occurrences, as the code makes it, for its private functions.
use Rattle.std.specs.Prelude.{ℕ, zero, suc, ◌+◌, ◌≤◌, List, [], ◌∷◌, slice_get, unwrap_or}
use Rattle.sy_rules.specs.declared.lists.occurrence.Occurrence.{Occurrence}
use Rattle.sy_rules.specs.declared.lists.sizes.Size.{Size}
use Rattle.sy_rules.specs.declared.lists.statement.Statement.{Statement}
use Rattle.sy_rules.specs.declared.lists.statement.Statement.TheVariants as statement
use Rattle.sy_rules.specs.internal.Tables.{table_at}
use Rattle.sy_rules.specs.internal.TableSizes.{empty, size_at, occurrences_in, listed_in}

-- how many occurrences a list has by its size
abbrev pub count_in : List Size → ℕ → ℕ
count_in sizes list = (size_at sizes empty list).occurrences

-- a statement whose occurrences begin at this number, and how many it has
abbrev pub numbered_statement : ℕ → Statement → Statement
numbered_statement number (statement.Run action n) = statement.Run action number
numbered_statement number (statement.Post list n) = statement.Post list number
numbered_statement number (statement.Call list n) = statement.Call list number
numbered_statement number statement.Stop = statement.Stop
numbered_statement number (statement.If test done otherwise) = statement.If test done otherwise

abbrev pub count_of_statement : (ℕ → ℕ) → Statement → ℕ
count_of_statement count (statement.Run action n) = 1
count_of_statement count (statement.Post list n) = 1
count_of_statement count (statement.Call list n) = count list
count_of_statement count statement.Stop = 0
count_of_statement count (statement.If test done otherwise) = 0

abbrev pub numbered : (ℕ → ℕ) → ℕ → List Statement → List Statement
numbered count number [] = []
numbered count number (s ∷ rest) = numbered_statement number s ∷ numbered count (number + count_of_statement count s) rest

-- tables whose occurrences are numbered no further than 64
abbrev pub AreFew : (ℕ → ℕ) → List (List Statement) → Type 0
AreFew count [] = Unit {0}
AreFew count (table ∷ tables) = (occurrences_in count table ≤ 64) × AreFew count tables

-- the occurrences of a list, where lists may lie in one another at most so deep, this one too
abbrev pub listed : List (List Statement) → ℕ → ℕ → List Occurrence
listed tables zero list = []
listed tables (suc depth) list = listed_in (listed tables depth) (table_at tables list)

-- the occurrences of one list among those of all, none where there is no such list
abbrev pub listed_at : List (List Occurrence) → ℕ → List Occurrence
listed_at lists list = unwrap_or (slice_get lists list) []

-- tables that run one action each and no more
abbrev pub IsSingle : List Statement → Type 0
IsSingle (statement.Run action number ∷ []) = Unit {0}
IsSingle _ = ⊥

abbrev pub AreSingles : List (List Statement) → Type 0
AreSingles [] = Unit {0}
AreSingles (table ∷ tables) = IsSingle table × AreSingles tables
