use Rattle.std.proofs.Common.{◌≡◌, [], drop}
use Rattle.sy_outlets.specs.Left.{texts_of}
use Rattle.sy_outlets.proofs.leaving.left.has_entry.Given as goal

-- none of those before this one came by the input
abbrev pub invariant-loop-entry : goal.invariant-loop-entry
invariant-loop-entry l = texts_of l.input (drop l.entry-index l.entries) ≡ [] → texts_of l.input l.entries ≡ []
