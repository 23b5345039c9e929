-- The numbers and names of a site file's faults (this profile's own).
use Rattle.std.specs.Prelude.{ℕ, List, codes}
use Rattle.sy_site.specs.declared.fault.SiteFault.{SiteFault}
use Rattle.sy_site.specs.declared.fault.SiteFault.TheVariants as fault

abbrev pub number : SiteFault → ℕ
number (fault.Line n) = 51
number (fault.Duplicate n) = 52
number (fault.NoFile n) = 53
number (fault.NoSuchEntry n) = 54
number (fault.NoSuchArchive n) = 55
number fault.NothingProtected = 56
number (fault.Relay n name why) = 57
number fault.NoMemory = 58
number (fault.NoSuchAction n) = 59
number (fault.SpareArchive n) = 60

-- the number and the name
abbrev pub words : SiteFault → List ℕ
words (fault.Line n) = codes "51 Line"
words (fault.Duplicate n) = codes "52 Duplicate"
words (fault.NoFile n) = codes "53 NoFile"
words (fault.NoSuchEntry n) = codes "54 NoSuchEntry"
words (fault.NoSuchArchive n) = codes "55 NoSuchArchive"
words fault.NothingProtected = codes "56 NothingProtected"
words (fault.Relay n name why) = codes "57 Relay"
words fault.NoMemory = codes "58 NoMemory"
words (fault.NoSuchAction n) = codes "59 NoSuchAction"
words (fault.SpareArchive n) = codes "60 SpareArchive"
