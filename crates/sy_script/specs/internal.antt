-- How the code reads, for its private functions alone: the tokens byte after byte, what each rule gives or where it stops, and the fault that is
-- found. No public contract cites these, so they need no trust: what they give is proved to be the grammar's tree, or a fault as `Faults` says it.
pub mod Lex
pub mod Reading
pub mod ReadingExpr
pub mod ReadingStmt
pub mod Answer
pub mod Depth
