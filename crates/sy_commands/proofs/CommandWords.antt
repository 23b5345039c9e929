-- Which command the words are.
use Rattle.std.proofs.Common.{◌≡◌, ℕ, List, [], ◌∷◌, ◌++◌, length, refl, sym, ap, arith}
use Rattle.std.specs.Prelude.{Option, Some, codes}
use Rattle.sy_commands.specs.Optioned.{KeepsAs}
use Rattle.sy_commands.specs.Verdicts.{DescribesKept}
use Rattle.sy_commands.specs.Words.{OverSite}
use Rattle.sy_report.specs.Words.{AreAsking, asking}
use Rattle.sy_report.specs.declared.command_line.command.Asked.{Asked}
use Rattle.sy_report.specs.declared.command_line.command.Asked.TheVariants as asked

-- ---- words that differ

pub first_same : {a b : List ℕ} {xs ys : List (List ℕ)} → a ∷ xs ≡ b ∷ ys → a ≡ b
first_same e = cc

pub head_same : {m n : ℕ} {xs ys : List ℕ} → m ∷ xs ≡ n ∷ ys → m ≡ n
head_same e = cc

five_or_seven : (a b : ℕ) → a ≡ 5 → b ≡ 7 → a ≡ b → ⊥
five_or_seven a b five seven same = omega (arith, five, seven, same)

five_or_six : (a b : ℕ) → a ≡ 5 → b ≡ 6 → a ≡ b → ⊥
five_or_six a b five six same = omega (arith, five, six, same)

r_or_v : (a b : ℕ) → a ≡ 114 → b ≡ 118 → a ≡ b → ⊥
r_or_v a b r v same = omega (arith, r, v, same)

check_or_certify : codes "check" ≡ codes "certify" → ⊥
check_or_certify e = five_or_seven (length (codes "check")) (length (codes "certify")) refl refl (ap length e)

check_or_replay : codes "check" ≡ codes "replay" → ⊥
check_or_replay e = five_or_six (length (codes "check")) (length (codes "replay")) refl refl (ap length e)

check_or_verify : codes "check" ≡ codes "verify" → ⊥
check_or_verify e = five_or_six (length (codes "check")) (length (codes "verify")) refl refl (ap length e)

pub replay_or_verify : codes "replay" ≡ codes "verify" → ⊥
replay_or_verify e = r_or_v 114 118 refl refl (head_same e)

-- neither of both
pub none_asked : (words : List (List ℕ)) → ((site : List ℕ) → AreAsking asked.Check words site → ⊥)
    → ((site : List ℕ) → AreAsking asked.Certify words site → ⊥)
    → (question : Asked) (site : List ℕ) → AreAsking question words site → ⊥
none_asked words check certify asked.Check site are = check site are
none_asked words check certify asked.Certify site are = certify site are

-- ---- lists of words that differ in length

pub one_two : {a b c : List ℕ} → a ∷ [] ≡ b ∷ c ∷ [] → ⊥
one_two e = cc

pub one_three : {a b c d : List ℕ} → a ∷ [] ≡ b ∷ c ∷ d ∷ [] → ⊥
one_three e = cc

two_three : {a b c d e : List ℕ} → a ∷ b ∷ [] ≡ c ∷ d ∷ e ∷ [] → ⊥
two_three e = cc

second_same : {a b c d : List ℕ} → a ∷ b ∷ [] ≡ c ∷ d ∷ [] → b ≡ d
second_same e = cc

pub others_same : {a b c d e f : List ℕ} → a ∷ b ∷ c ∷ [] ≡ d ∷ e ∷ f ∷ [] → (b ≡ e) × (c ≡ f)
others_same e = (cc, cc)

-- What is asked, and of which site, is fixed by the words.
pub one_question : (a b : Asked) (s t : List ℕ) → asking a ++ s ∷ [] ≡ asking b ++ t ∷ [] → (a ≡ b) × (s ≡ t)
one_question asked.Check asked.Check s t e = (refl, second_same e)
one_question asked.Check asked.Certify s t e = absurd (check_or_certify (first_same e))
one_question asked.Certify asked.Check s t e = absurd (check_or_certify (first_same (sym e)))
one_question asked.Certify asked.Certify s t e = (refl, second_same e)

pub replay_no_question : (question : Asked) (s a b : List ℕ) → asking question ++ s ∷ [] ≡ codes "replay" ∷ a ∷ b ∷ [] → ⊥
replay_no_question asked.Check s a b e = two_three e
replay_no_question asked.Certify s a b e = two_three e

pub verify_no_question : (question : Asked) (s a b : List ℕ) → asking question ++ s ∷ [] ≡ codes "verify" ∷ a ∷ b ∷ [] → ⊥
verify_no_question asked.Check s a b e = two_three e
verify_no_question asked.Certify s a b e = two_three e

-- ---- the words after the program's name

pub rest_same : {w : List ℕ} {xs ys : List (List ℕ)} → w ∷ xs ≡ w ∷ ys → xs ≡ ys
rest_same e = cc

-- A check shows it, and another question nothing.
pub shows_checked : (bytes_of : List ℕ → Option (List ℕ)) (question : Asked) (name : List ℕ) (status : ℕ)
    → ((text : List ℕ) → bytes_of name ≡ Some text → question ≡ asked.Check → status ≡ 0 → DescribesKept bytes_of text)
    → KeepsAs bytes_of (OverSite.Ask question name) status
shows_checked bytes_of asked.Check name status shows = λ text known zero. shows text known refl zero
shows_checked bytes_of asked.Certify name status shows = tt
