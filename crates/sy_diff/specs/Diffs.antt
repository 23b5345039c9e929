-- What is said of two site files (this profile's own).
use Rattle.std.specs.Prelude.{◌≡◌, ◌⊎◌, ℕ, Bool, true, false, List, Option, Some}
use Rattle.sy_site.specs.Sites.{Site}
use Rattle.sy_site.specs.machine.Safety.{AreSafe}
use Rattle.sy_site.specs.machine.Soundness.{IsSound}
use Rattle.sy_site.specs.machine.States.{SiteState}
use Rattle.sy_site.specs.machine.Steps.{Runs, SiteEvent}
use Rattle.sy_report.specs.Halts.{status_at}
use Rattle.sy_report.specs.declared.outcome.halt.Halt.{Halt}
use Rattle.sy_places.specs.Halts.{IsNoSite, IsReadHalt}
use Rattle.sy_places.specs.SiteFiles.{IsSiteOf}
use Rattle.sy_diff.specs.Changes.{IsNoWorse}
use Rattle.sy_diff.specs.Comparisons.{IsComparison, is_empty}
use Rattle.sy_diff.specs.Folders.{IsPlace, path}
use Rattle.sy_diff.specs.declared.comparison.Comparison.{Comparison}
use Rattle.sy_diff.specs.declared.same.Change.{Change}
use Rattle.sy_diff.specs.declared.diff.Wanted.{Wanted}

-- ---- a change

-- Where the old site is sound the new one is, and no run of that loses a message of a protected class but at or after a spare action.
pub record IsKept (change : Change) : Type 0 where
  pub no_worse : IsNoWorse change
  pub sound : IsSound change.old.now → IsSound change.new.now
  pub safe : IsSound change.old.now → (events : List SiteEvent) (state : SiteState) → Runs change.new.now events state → AreSafe change.new.now state

-- Their comparison isn't empty: something is lost, or something new is found.
pub record IsWorse (change : Change) : Type 0 where
  pub it : Comparison
  pub is : IsComparison change it
  pub says : is_empty it ≡ false

-- what is said of a change: that all is kept, or that it is worse
abbrev pub IsJudged : Change → (is_kept : Bool) → Type 0
IsJudged change true = IsKept change
IsJudged change false = IsWorse change

-- ---- two site files

-- The site that a site file describes with the files of its folder, where their bytes are known.
pub record IsSiteAt {F : Type 0} (bytes_of : F → List ℕ → Option (List ℕ)) (files : F) (file : List ℕ) (site : Site) : Type 0 where
  pub folder : List ℕ
  pub name : List ℕ
  pub is_file : IsPlace file folder name
  pub is_site : (text : List ℕ) → bytes_of files (path folder name) ≡ Some text → IsSiteOf (λ it. bytes_of files (path folder it)) text site

-- Why a site file describes no site with the files of its folder, where its bytes are known.
pub record IsNoSiteAt {F : Type 0} (bytes_of : F → List ℕ → Option (List ℕ)) (files : F) (file : List ℕ) (why : Halt) : Type 0 where
  pub folder : List ℕ
  pub name : List ℕ
  pub is_file : IsPlace file folder name
  pub is_no_site : (text : List ℕ) → bytes_of files (path folder name) ≡ Some text → IsNoSite (λ it. bytes_of files (path folder it)) text why
  pub is_read : IsReadHalt why

-- The sites of the two site files, and what is said of them.
pub record IsJudgedAt {F : Type 0} (bytes_of : F → List ℕ → Option (List ℕ)) (files : F) (wanted : Wanted) (is_kept : Bool) : Type 0 where
  pub change : Change
  pub old_is : IsSiteAt bytes_of files wanted.old.now change.old.now
  pub new_is : IsSiteAt bytes_of files wanted.new.now change.new.now
  pub renames_are : change.renames ≡ wanted.renames
  pub judged : IsJudged change is_kept

-- one of the two site files describes no site, for this reason
abbrev pub LackASite : {F : Type 0} → (F → List ℕ → Option (List ℕ)) → F → Wanted → Halt → Type 0
LackASite bytes_of files wanted why = IsNoSiteAt bytes_of files wanted.old.now why ⊎ IsNoSiteAt bytes_of files wanted.new.now why

-- one of them is faulty
pub record AreFaulty {F : Type 0} (bytes_of : F → List ℕ → Option (List ℕ)) (files : F) (wanted : Wanted) : Type 0 where
  pub why : Halt
  pub is_fault : status_at why ≡ 2
  pub lack : LackASite bytes_of files wanted why
