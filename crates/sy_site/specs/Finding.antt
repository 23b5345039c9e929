-- A finding as the code has it, and when it is a true one.
use Rattle.std.specs.Prelude.{ℕ, List, map, codes}
use Rattle.sy_site.specs.Sites.{Site}
use Rattle.sy_site.specs.machine.Findings.{IsFinding, Kind as AnyKind, WayRow as AnyRow, kind_number}
use Rattle.sy_site.specs.declared.finding.Finding.{Finding}
use Rattle.sy_site.specs.declared.finding.Kind.{Kind}
use Rattle.sy_site.specs.declared.finding.Kind.TheVariants as kind
use Rattle.sy_site.specs.declared.finding.Refusal.{Refusal}
use Rattle.sy_site.specs.declared.finding.Refusal.TheVariants as refusal
use Rattle.sy_site.specs.declared.finding.WayRow.{WayRow}

abbrev pub kind_of : Kind → AnyKind
kind_of kind.NotFull = AnyKind.NotFull
kind_of kind.MarkOff = AnyKind.MarkOff
kind_of kind.MarkAboveSize = AnyKind.MarkAboveSize
kind_of kind.Discards = AnyKind.Discards
kind_of kind.InnerQueue = AnyKind.InnerQueue
kind_of kind.GivesUp = AnyKind.GivesUp
kind_of kind.NoTarget = AnyKind.NoTarget
kind_of kind.Loop = AnyKind.Loop
kind_of kind.InnerLoop = AnyKind.InnerLoop
kind_of (kind.Unmet archive) = AnyKind.Unmet archive

abbrev pub number : Kind → ℕ
number k = kind_number (kind_of k)

-- the number and the name
abbrev pub words : Kind → List ℕ
words kind.NotFull = codes "1 NotFull"
words kind.MarkOff = codes "2 MarkOff"
words kind.MarkAboveSize = codes "3 MarkAboveSize"
words kind.Discards = codes "4 Discards"
words kind.InnerQueue = codes "5 InnerQueue"
words kind.GivesUp = codes "6 GivesUp"
words kind.NoTarget = codes "7 NoTarget"
words kind.Loop = codes "8 Loop"
words (kind.Unmet archive) = codes "9 Unmet"
words kind.InnerLoop = codes "10 InnerLoop"

abbrev pub row_of : WayRow → AnyRow
row_of row = record { input = row.input; number = row.number }

abbrev pub way_of : List WayRow → List AnyRow
way_of way = map row_of way

abbrev pub IsTrueFinding : Site → Finding → Type 0
IsTrueFinding site found = IsFinding site found.class (way_of found.way) found.input (kind_of found.kind)

-- Something true is found, or memory runs out.
abbrev pub IsTrueRefusal : Site → Refusal → Type 0
IsTrueRefusal site (refusal.Finding found) = IsTrueFinding site found
IsTrueRefusal site refusal.NoMemory = Unit {0}
