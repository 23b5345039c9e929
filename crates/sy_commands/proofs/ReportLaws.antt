-- Where the bytes of all its files are known, a site file describes one site; and what an accepted certificate shows of it.
use Rattle.std.proofs.Common.{◌≡◌, ℕ, Bool, List, [], ◌∷◌, inl, inr, map, refl, sym, subst, ap, ◌∙◌, arith}
use Rattle.std.specs.Prelude.{IfErr, IfOk, IfSome, Option, Some, Result, Ok, Err, true, false, ◌≢◌, ◌⊎◌}
use Rattle.sy_cert.specs.CertificateValue.{Certificate}
use Rattle.sy_site.specs.Sites.{Site}
use Rattle.sy_site.specs.texts.Describes.{Describes, File}
use Rattle.sy_site.specs.texts.Files.{file_names}
use Rattle.sy_commands.specs.Checks.{AskedIs, IsVerdict}
use Rattle.sy_findings.specs.Checks.{KeepsAll, SaysChecked}
use Rattle.sy_report.specs.Outcomes.{Prints}
use Rattle.sy_report.specs.Reports.{Streams}
use Rattle.sy_commands.specs.SiteFiles.{HaveBytes}
use Rattle.sy_tunnels.specs.Tunnels.{machine_text}
use Rattle.sy_host_parameters.proofs.Machines.{one_machine}
use Rattle.sy_places.specs.SiteFiles.{AreGiven, AreMachineFiles, IsSiteOf}
use Rattle.sy_commands.specs.Verdicts.{DescribesKept}
use Rattle.sy_findings.specs.Verdicts.{SaysOf}
use Rattle.sy_report.specs.declared.outcome.answer.Answer.{Answer}
use Rattle.sy_report.specs.declared.command_line.command.Asked.{Asked}
use Rattle.sy_report.specs.declared.command_line.command.Asked.TheVariants as asked
use Rattle.sy_report.specs.declared.outcome.halt.Halt.{Halt}
use Rattle.sy_commands.specs.Optioned.{HaltEnds}
use Rattle.sy_commands.proofs.Courses.{status_fails}

-- ---- one site

same_file : (x y : File) → x.name ≡ y.name → x.bytes ≡ y.bytes → x ≡ y
same_file x y names bytes =
    let file : List ℕ → List ℕ → File = λ n b. record { name = n; bytes = b } in
    ap (λ n. file n x.bytes) names ∙ ap (file y.name) bytes

known_bytes : (given : Option (List ℕ)) (bytes known : List ℕ) → given ≡ Some known → IfSome given (λ b. bytes ≡ b) → bytes ≡ known
known_bytes given bytes known is h = subst (λ o. IfSome o (λ b. bytes ≡ b)) is h

first_name : {a b : List ℕ} {later others : List (List ℕ)} → a ∷ later ≡ b ∷ others → a ≡ b
first_name e = cc

later_names : {a b : List ℕ} {later others : List (List ℕ)} → a ∷ later ≡ b ∷ others → later ≡ others
later_names e = cc

no_names : {a : List ℕ} {later : List (List ℕ)} → [] ≡ a ∷ later → ⊥
no_names e = cc

abbrev name_of : File → List ℕ
name_of file = file.name

module _ (bytes_of : List ℕ → Option (List ℕ)) where
  same_files : (xs ys : List File) → map name_of xs ≡ map name_of ys → AreGiven bytes_of xs → AreGiven bytes_of ys
      → HaveBytes bytes_of (map name_of ys) → xs ≡ ys
  same_files [] [] names gx gy reported = refl
  same_files [] (y ∷ ys) names gx gy reported = absurd (no_names names)
  same_files (x ∷ xs) [] names gx gy reported = absurd (no_names (sym names))
  same_files (x ∷ xs) (y ∷ ys) names gx gy reported =
      let name = first_name names in
      let first = known_bytes (bytes_of x.name) x.bytes reported.0.0 (ap bytes_of name ∙ reported.0.1) gx.0 in
      let second = known_bytes (bytes_of y.name) y.bytes reported.0.0 reported.0.1 gy.0 in
      ap (λ f. f ∷ xs) (same_file x y name (first ∙ sym second)) ∙ ap (λ fs. y ∷ fs) (same_files xs ys (later_names names) gx.1 gy.1 reported.1)

  one_machines : (files a b : List File) → AreMachineFiles files a → AreMachineFiles files b → a ≡ b
  one_machines [] [] [] are others = refl
  one_machines [] [] (y ∷ ys) are others = absurd others
  one_machines [] (x ∷ xs) b are others = absurd are
  one_machines (f ∷ files) [] b are others = absurd are
  one_machines (f ∷ files) (x ∷ xs) [] are others = absurd others
  one_machines (f ∷ files) (x ∷ xs) (y ∷ ys) (name, text, are) (named, read, others) =
      ap (λ m. m ∷ xs) (same_file x y (name ∙ sym named) (one_machine f.bytes x.bytes y.bytes text read))
      ∙ ap (λ ms. y ∷ ms) (one_machines files xs ys are others)

  pub one_of_files : ((text : List ℕ) (files : List File) (a b : Site) → Describes text files a → Describes text files b → a ≡ b)
      → (text : List ℕ) (site : Site) → IsSiteOf bytes_of text site → HaveBytes bytes_of (file_names text)
      → (other : Site) → IsSiteOf bytes_of text other → other ≡ site
  one_of_files one text site is reported other is_other =
      let same = same_files is_other.given is.given (is_other.are_given.names ∙ sym is.are_given.names) is_other.are_given.bytes is.are_given.bytes
      (subst (HaveBytes bytes_of) (sym is.are_given.names) reported) in
      let machines = one_machines is.given is_other.machines is.machines
      (subst (λ files. AreMachineFiles files is_other.machines) same is_other.are_machines) is.are_machines in
      one (machine_text text) is.machines other site (subst (λ files. Describes (machine_text text) files other) machines is_other.describes) is.describes

-- ---- what an accepted certificate shows

true_or_false : {b : Bool} → b ≡ true → b ≡ false → ⊥
true_or_false is other = cc

kept_count : (site : Site) (certificate : Certificate) (printed : List ℕ) (is_accepted : Bool) → SaysOf site certificate printed is_accepted
    → is_accepted ≡ true → (count : ℕ) × KeepsAll site count
kept_count site certificate printed is_accepted (inl says) accepts = (says.count, says.keeps)
kept_count site certificate printed is_accepted (inr says) accepts = absurd (true_or_false accepts says.refused)

-- the site of an acceptance is kept
pub kept_site : ((text : List ℕ) (files : List File) (a b : Site) → Describes text files a → Describes text files b → a ≡ b)
    → (bytes_of : List ℕ → Option (List ℕ)) (text : List ℕ) (site : Site) (certificate : Certificate) (printed : List ℕ) (is_accepted : Bool)
    → IsSiteOf bytes_of text site → SaysOf site certificate printed is_accepted → is_accepted ≡ true → DescribesKept bytes_of text
kept_site one bytes_of text site certificate printed is_accepted is says accepts =
    let kept = kept_count site certificate printed is_accepted says accepts in
    record { site = site; is_site = is; count = kept.0; keeps = kept.1; alone = one_of_files bytes_of one text site is }

-- What is printed with status 0 is an acceptance.
zero_is_accepted : (text : List ℕ) (is_accepted : Bool) (status : ℕ) (old new : Streams) → Prints text is_accepted status old new → status ≡ 0
    → is_accepted ≡ true
zero_is_accepted text true status old new printed zero = refl
zero_is_accepted text false status old new (inl printed) zero = absurd (omega (arith, printed.0, zero))
zero_is_accepted text false status old new (inr failed) zero = absurd (omega (arith, failed.0, zero))

-- A verify that ends with 0 shows that the site is kept.
pub kept_by_zero : (bytes_of : List ℕ → Option (List ℕ)) (name text : List ℕ) (answer : Result Answer Halt) (status : ℕ) (old new : Streams)
    → IfOk answer (λ a. (t : List ℕ) → bytes_of name ≡ Some t → a.is_accepted ≡ true → DescribesKept bytes_of t)
    → IfOk answer (λ a. Prints a.text.items a.is_accepted status old new)
    → IfErr answer (λ _. status ≢ 0)
    → bytes_of name ≡ Some text → status ≡ 0 → DescribesKept bytes_of text
kept_by_zero bytes_of name text (Ok a) status old new kept printed failed known zero =
    kept text known (zero_is_accepted a.text.items a.is_accepted status old new printed zero)
kept_by_zero bytes_of name text (Err why) status old new kept printed failed known zero = absurd (failed zero)

checked_count : (site : Site) (printed : List ℕ) (is_accepted : Bool) → SaysChecked site printed is_accepted → is_accepted ≡ true
    → (count : ℕ) × KeepsAll site count
checked_count site printed is_accepted (inl says) accepts = (says.count, says.keeps)
checked_count site printed is_accepted (inr says) accepts = absurd (true_or_false accepts says.refused)

no_zero : (status : ℕ) → status ≡ 0 → (status ≡ 2) ⊎ (status ≡ 3) ⊎ (status ≡ 4) → ⊥
no_zero status zero (inl is) = omega (arith, zero, is)
no_zero status zero (inr (inl is)) = omega (arith, zero, is)
no_zero status zero (inr (inr is)) = omega (arith, zero, is)

-- a halt is none
ends_otherwise : (why : Halt) (status before after : ℕ) → HaltEnds why status before after → status ≢ 0
ends_otherwise why status before after (end, is, ends) zero = status_fails end (sym is ∙ zero)

pub halted_otherwise : (answer : Result Answer Halt) (status before after : ℕ) → IfErr answer (λ why. HaltEnds why status before after)
    → IfErr answer (λ _. status ≢ 0)
halted_otherwise (Ok a) status before after stopped = tt
halted_otherwise (Err why) status before after stopped = ends_otherwise why status before after stopped

verdict_count : (site : Site) (is_accepted : Bool) → IsVerdict asked.Check site is_accepted → is_accepted ≡ true → (count : ℕ) × KeepsAll site count
verdict_count site is_accepted (printed, says) accepts = checked_count site printed is_accepted says accepts

-- So does a check with options.
pub kept_in_words : ((text : List ℕ) (files : List File) (a b : Site) → Describes text files a → Describes text files b → a ≡ b)
    → (bytes_of : List ℕ → Option (List ℕ)) (question : Asked) (name text : List ℕ) (Words : Site → Answer → Type 0) (answer : Result Answer Halt) (status : ℕ)
    (old new : Streams)
    → IfOk answer (λ a. (t : List ℕ) → bytes_of name ≡ Some t
    → (site : Site) × IsSiteOf bytes_of t site × IsVerdict question site a.is_accepted × Words site a)
    → IfOk answer (λ a. Prints a.text.items a.is_accepted status old new)
    → IfErr answer (λ why. HaltEnds why status old.output.faults new.output.faults)
    → bytes_of name ≡ Some text → question ≡ asked.Check → status ≡ 0 → DescribesKept bytes_of text
kept_in_words one bytes_of question name text Words (Ok a) status old new ok printed stopped known check zero =
    let is = ok text known in
    let kept = verdict_count is.0 a.is_accepted (subst (λ q. IsVerdict q is.0 a.is_accepted) check is.2)
    (zero_is_accepted a.text.items a.is_accepted status old new printed zero) in
    record { site = is.0; is_site = is.1; count = kept.0; keeps = kept.1; alone = one_of_files bytes_of one text is.0 is.1 }
kept_in_words one bytes_of question name text Words (Err why) status old new ok printed stopped known check zero = absurd (ends_otherwise why status _ _ stopped zero)

-- So does a check.
pub checked_by_zero : ((text : List ℕ) (files : List File) (a b : Site) → Describes text files a → Describes text files b → a ≡ b)
    → (bytes_of : List ℕ → Option (List ℕ)) (text : List ℕ) (status : ℕ) (old new : Streams) → AskedIs asked.Check bytes_of text status old new
    → status ≡ 0 → DescribesKept bytes_of text
checked_by_zero one bytes_of text status old new (inl (site, is, printed, is_accepted, says, prints)) zero =
    let kept = checked_count site printed is_accepted says (zero_is_accepted printed is_accepted status old new prints zero) in
    record { site = site; is_site = is; count = kept.0; keeps = kept.1; alone = one_of_files bytes_of one text site is }
checked_by_zero one bytes_of text status old new (inr (inl none, same)) zero = absurd (no_zero status zero (inl none.0))
checked_by_zero one bytes_of text status old new (inr (inr (inl none), same)) zero = absurd (no_zero status zero (inr (inl none.0)))
checked_by_zero one bytes_of text status old new (inr (inr (inr none), same)) zero = absurd (no_zero status zero (inr (inr none.0)))
