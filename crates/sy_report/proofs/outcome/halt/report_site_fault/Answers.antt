use Rattle.std.proofs.Common.{◌≡◌, ◌⊎◌, ℕ, inl, inr, refl}
use Rattle.sy_site.specs.declared.fault.SiteFault.{SiteFault}
use Rattle.sy_site.specs.declared.fault.SiteFault.TheVariants as site_fault
use Rattle.sy_site.specs.texts.Faults.{words}
use Rattle.sy_report.specs.HaltTexts.{in_line, site_report}
use Rattle.sy_report.proofs.outcome.halt.report_site_fault.Goals as goal

pub returns-in-NothingProtected : goal.returns-in-NothingProtected
returns-in-NothingProtected g c = rw c.in-NothingProtected.is (rw (rw c.in-NothingProtected.is at c.words.ensures) at c.report_in_line.ensures)

pub returns-in-NoMemory : goal.returns-in-NoMemory
returns-in-NoMemory g c = rw c.in-NoMemory.is c.report_text.ensures

-- a fault of a line
of_a_line : (f : SiteFault) (n : ℕ)
    → (f ≡ site_fault.Line n) ⊎ (f ≡ site_fault.Duplicate n) ⊎ (f ≡ site_fault.NoFile n) ⊎ (f ≡ site_fault.NoSuchEntry n) ⊎ (f ≡ site_fault.NoSuchArchive n)
    ⊎ (f ≡ site_fault.NoSuchAction n) ⊎ (f ≡ site_fault.SpareArchive n)
    → in_line (words f) n ≡ site_report f
of_a_line f n (inl is) = rw is refl
of_a_line f n (inr (inl is)) = rw is refl
of_a_line f n (inr (inr (inl is))) = rw is refl
of_a_line f n (inr (inr (inr (inl is)))) = rw is refl
of_a_line f n (inr (inr (inr (inr (inl is))))) = rw is refl
of_a_line f n (inr (inr (inr (inr (inr (inl is)))))) = rw is refl
of_a_line f n (inr (inr (inr (inr (inr (inr is)))))) = rw is refl

pub returns-in-Line : goal.returns-in-Line
returns-in-Line g c = rw (← of_a_line c.args.fault.now c.in-Line.line c.in-Line.is) (rw c.words-in-Line.ensures at c.report_in_line-in-Line.ensures)
