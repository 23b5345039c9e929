-- A line for each instance, one after another.
use Rattle.std.proofs.Common.{◌≡◌, ℕ, suc, ◌<◌, ◌≤◌, ◌+◌, List, [], ◌∷◌, ◌++◌, length, get_or, drop, refl, sym, ap, subst, ◌∙◌, append-nil, append_assoc, drop-cons, arith}
use Rattle.std.proofs.lemmas.List.{drop_all}
use Rattle.sy_site.specs.Sites.{Site}
use Rattle.sy_findings.specs.declared.verdicts.instances.Instance.{Instance}
use Rattle.sy_findings.specs.Checks.{AreLines, AreLinesInWords, AppendsLine, instance_text}
use Rattle.sy_findings.specs.internal.Checks.{AppendsLineInWords}

-- what is put so far, with the lines that are left behind it, is all of them
abbrev pub GoesOn : Site → List Instance → ℕ → List ℕ → Type 0
GoesOn site instances n text = (rest : List ℕ) → AreLines site (drop n instances) rest → AreLines site instances (text ++ rest)

pub line_more : (site : Site) (instances : List Instance) (n : ℕ) (it : Instance) (old new : List ℕ) → n < length instances → it ≡ get_or instances n it
    → GoesOn site instances n old → AppendsLine site it old new → GoesOn site instances (n + 1) new
line_more site instances n it old new low is before sets_cells rest are =
    let names = sets_cells.0 in
    let line = instance_text site it in
    let whole : new ++ rest ≡ old ++ (names ++ line ++ rest) =
    ap (λ l. l ++ rest) sets_cells.1 ∙ append_assoc (old ++ names) line rest ∙ append_assoc old names (line ++ rest)
    ∙ ap (λ l. old ++ l) (sym (append_assoc names line rest)) in
    let one : suc n ≡ n + 1 = omega arith in
    let cut : drop n instances ≡ it ∷ drop (n + 1) instances =
    drop-cons instances n it low ∙ ap (λ g. g ∷ drop (suc n) instances) (sym is) ∙ ap (λ k. it ∷ drop k instances) one in
    let now : AreLines site (drop n instances) (names ++ line ++ rest) =
    subst (λ l. AreLines site l (names ++ line ++ rest)) (sym cut) (names, rest, refl, are) in
    subst (AreLines site instances) (sym whole) (before (names ++ line ++ rest) now)

pub lines_all : (site : Site) (instances : List Instance) (n : ℕ) (text : List ℕ) → length instances ≤ n → GoesOn site instances n text → AreLines site instances text
lines_all site instances n text all before =
    subst (AreLines site instances) (append-nil text) (before [] (subst (λ l. AreLines site l []) (sym (drop_all n instances all)) refl))

-- ---- with words behind each

abbrev pub GoesOnInWords : Site → List Instance → ℕ → List ℕ → Type 0
GoesOnInWords site instances n text = (rest : List ℕ) → AreLinesInWords site (drop n instances) rest → AreLinesInWords site instances (text ++ rest)

pub line_more_in_words : (site : Site) (instances : List Instance) (n : ℕ) (it : Instance) (old new : List ℕ) → n < length instances → it ≡ get_or instances n it
    → GoesOnInWords site instances n old → AppendsLineInWords site it old new → GoesOnInWords site instances (n + 1) new
line_more_in_words site instances n it old new low is before sets_cells rest are =
    let names = sets_cells.0 in
    let words = sets_cells.1 in
    let line = instance_text site it in
    let whole : new ++ rest ≡ old ++ (names ++ line ++ words ++ rest) =
    ap (λ l. l ++ rest) sets_cells.2 ∙ append_assoc (((old ++ names) ++ line)) words rest ∙ append_assoc (old ++ names) line (words ++ rest)
    ∙ append_assoc old names (line ++ (words ++ rest))
    ∙ ap (λ l. old ++ l) (sym (append_assoc (names ++ line) words rest ∙ append_assoc names line (words ++ rest))) in
    let one : suc n ≡ n + 1 = omega arith in
    let cut : drop n instances ≡ it ∷ drop (n + 1) instances =
    drop-cons instances n it low ∙ ap (λ g. g ∷ drop (suc n) instances) (sym is) ∙ ap (λ k. it ∷ drop k instances) one in
    let now : AreLinesInWords site (drop n instances) (names ++ line ++ words ++ rest) =
    subst (λ l. AreLinesInWords site l (names ++ line ++ words ++ rest)) (sym cut) (names, words, rest, refl, are) in
    subst (AreLinesInWords site instances) (sym whole) (before (names ++ line ++ words ++ rest) now)

pub lines_all_in_words : (site : Site) (instances : List Instance) (n : ℕ) (text : List ℕ) → length instances ≤ n → GoesOnInWords site instances n text
    → AreLinesInWords site instances text
lines_all_in_words site instances n text all before =
    subst (AreLinesInWords site instances) (append-nil text) (before [] (subst (λ l. AreLinesInWords site l []) (sym (drop_all n instances all)) refl))

-- words behind a line
pub line_with_words : (site : Site) (it : Instance) (old mid new words : List ℕ) → AppendsLine site it old mid → new ≡ mid ++ words
    → AppendsLineInWords site it old new
line_with_words site it old mid new words (names, sets_cells) is = (names, words, is ∙ ap (λ l. l ++ words) sets_cells)
