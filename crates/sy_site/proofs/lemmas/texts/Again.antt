-- Lines that give again what earlier ones gave.
use Rattle.std.proofs.Common.{◌≡◌, ℕ, Bool, true, false, not, ◌||◌, ◌+◌, ◌<◌, ◌≤◌, List, [], ◌∷◌, ◌++◌, length, map, Option, Some, None, refl, sym, ap, subst, ◌∙◌, arith, drop, get_or, inl, inr, append_assoc, append-nil, length-append, filter}
use Rattle.std.proofs.lemmas.Bool.{cases_Bool, eqb-true, false≢true}
use Rattle.std.proofs.Math.ListN.{drop_of_length-le}
use Rattle.std.proofs.lemmas.List.{at_drop_more, map-append}
use Rattle.std.proofs.lemmas.List.Elements.{All-push, Contains-append_cases, Contains-append_left, Contains-append_right, Contains-push, Contains-push_cases, filter-append}
use Rattle.std.proofs.lemmas.Slice.Eq.{bytes_eq-Decides}
use Rattle.std.specs.Prelude.{All, Contains, ◌⊎◌, codes, if◌then◌else◌}
use Rattle.std.specs.Str.{bytes_eq}
use Rattle.std.specs.Str.Lines.{lines}
use Rattle.sy_site.specs.declared.fault.SiteFault.TheVariants as fault
use Rattle.sy_site.specs.declared.texts.reading.Given.{Given}
use Rattle.sy_site.specs.declared.texts.shapes.Line.{Line as Read}
use Rattle.sy_site.specs.declared.texts.shapes.Line.TheVariants as read
use Rattle.sy_site.specs.declared.texts.shapes.RelayLine.{RelayLine as ReadRelay}
use Rattle.sy_site.specs.declared.texts.shapes.EntryLine.{EntryLine as ReadEntry}
use Rattle.sy_site.specs.declared.texts.shapes.OutsideLine.{OutsideLine as ReadOutside}
use Rattle.sy_site.specs.internal.Lines.{line_of}
use Rattle.sy_site.specs.internal.Reading.{kind, most, line_given, words_given, BeginAlike, BeginAlikeTwice, NameOneReceiver, SecondAlike, is_naming, HasNoPlace, HasRoom, IsAdded, IsAgain, IsPlaced, IsShapeless, IsTooMany, IsUnplaced, IsWrong, IsWrongAt, NoneBefore}
use Rattle.sy_site.specs.texts.Lines.{is_kind, is_skipped, words, word_lines}
use Rattle.sy_site.specs.texts.Shapes.{Line, RelayLine, EntryLine, ProtectLine, SpareLine, IsLine, policy_line}
use Rattle.sy_site.specs.texts.Files.{RELAYS}
use Rattle.sy_site.specs.texts.Describes.{ENTRIES, PROTECTIONS, SPARES, AreLines, File, IsDuplicate, IsMisplaced, Repeats, entry_lines, first_line, policy_of, protect_lines, relay_lines, spare_lines}
use Rattle.sy_site.specs.texts.HasFault.{HasFault, IsLimit}
use Rattle.sy_site.proofs.lemmas.texts.Shaped.{behind_first, first_same}
use Rattle.sy_site.proofs.lemmas.texts.Noted.{Words, one_behind, no_words, split, within}
use Rattle.sy_site.proofs.lemmas.texts.OneLine.{one_line}

-- ---- the same words

pub begin_alike : (a b : Words) (word : List ℕ) (first second : Words) → a ≡ word ∷ first → b ≡ word ∷ second → BeginAlike a b
begin_alike a b word first second e f = rw (e, f) (BeginAlike.alike word first second)

pub begin_twice : (a b : Words) (word : List ℕ) (first second : Words) → a ≡ word ∷ first → b ≡ word ∷ second → BeginAlike first second
    → BeginAlikeTwice a b
begin_twice a b word first second e f (BeginAlike.alike next x y) = rw (e, f) (BeginAlikeTwice.alike_twice word next x y)

-- two lines that begin alike with two words do so behind the first
behind_twice : (a b : Words) (word : List ℕ) (first second : Words) → BeginAlikeTwice a b → a ≡ word ∷ first → b ≡ word ∷ second → BeginAlike first second
behind_twice a b word first second (BeginAlikeTwice.alike_twice w next x y) e f =
    begin_alike first second next x y (sym (behind_first e)) (sym (behind_first f))

first_twice : (a b : Words) (word : List ℕ) (first : Words) → BeginAlikeTwice a b → a ≡ word ∷ first → is_kind word b ≡ true
first_twice a b word first (BeginAlikeTwice.alike_twice w next x y) e = (bytes_eq-Decides w word).1 (first_same e)

none_twice : (a b : Words) → BeginAlikeTwice a b → a ≡ [] → ⊥
none_twice a b (BeginAlikeTwice.alike_twice w next x y) e = cc

pub alike_behind : (a b : Words) (word : List ℕ) (first second : Words) → a ≡ word ∷ first → b ≡ word ∷ second → (BeginAlike first second → ⊥)
    → BeginAlikeTwice a b → ⊥
alike_behind a b word first second e f apart twice = apart (behind_twice a b word first second twice e f)

pub twice_apart : (a b : Words) (word : List ℕ) (first : Words) → a ≡ word ∷ first → is_kind word b ≡ false → BeginAlikeTwice a b → ⊥
twice_apart a b word first e other twice = false≢true (sym other ∙ first_twice a b word first twice e)

pub twice_none : (a b : Words) → a ≡ [] → BeginAlikeTwice a b → ⊥
twice_none a b e twice = none_twice a b twice e

-- ---- the same second word, and the same receiver

pub second_behind : (a b : Words) (x y : List ℕ) (first second : Words) → a ≡ x ∷ first → b ≡ y ∷ second → BeginAlike first second → SecondAlike a b
second_behind a b x y first second e f (BeginAlike.alike word p q) = rw (e, f) (SecondAlike.second_alike x y word p q)

second_both : (a b : Words) (x y : List ℕ) (first second : Words) → SecondAlike a b → a ≡ x ∷ first → b ≡ y ∷ second → BeginAlike first second
second_both a b x y first second (SecondAlike.second_alike v w word p q) e f =
    begin_alike first second word p q (sym (behind_first e)) (sym (behind_first f))

pub second_apart : (a b : Words) (x y : List ℕ) (first second : Words) → a ≡ x ∷ first → b ≡ y ∷ second → (BeginAlike first second → ⊥)
    → SecondAlike a b → ⊥
second_apart a b x y first second e f apart h = apart (second_both a b x y first second h e f)

pub second_none : (a b : Words) → a ≡ [] → SecondAlike a b → ⊥
second_none a b e (SecondAlike.second_alike x y word p q) = cc

pub second_missing : (a b : Words) → b ≡ [] → SecondAlike a b → ⊥
second_missing a b e (SecondAlike.second_alike x y word p q) = cc

pub receiver_twice : (a b : Words) (word : List ℕ) (first second : Words) → a ≡ word ∷ first → b ≡ word ∷ second → SecondAlike first second
    → NameOneReceiver a b
receiver_twice a b word first second e f (SecondAlike.second_alike x y port p q) = rw (e, f) (NameOneReceiver.one_receiver word x y port p q)

receiver_both : (a b : Words) (word : List ℕ) (first second : Words) → NameOneReceiver a b → a ≡ word ∷ first → b ≡ word ∷ second
    → SecondAlike first second
receiver_both a b word first second (NameOneReceiver.one_receiver name x y port p q) e f =
    rw (sym (behind_first e), sym (behind_first f)) (SecondAlike.second_alike x y port p q)

pub receiver_behind : (a b : Words) (word : List ℕ) (first second : Words) → a ≡ word ∷ first → b ≡ word ∷ second → (SecondAlike first second → ⊥)
    → NameOneReceiver a b → ⊥
receiver_behind a b word first second e f apart h = apart (receiver_both a b word first second h e f)

receiver_first : (a b : Words) (word : List ℕ) (first : Words) → NameOneReceiver a b → a ≡ word ∷ first → is_kind word b ≡ true
receiver_first a b word first (NameOneReceiver.one_receiver name x y port p q) e = (bytes_eq-Decides name word).1 (first_same e)

pub receiver_apart : (a b : Words) (word : List ℕ) (first : Words) → a ≡ word ∷ first → is_kind word b ≡ false → NameOneReceiver a b → ⊥
receiver_apart a b word first e other h = false≢true (sym other ∙ receiver_first a b word first h e)

pub receiver_none : (a b : Words) → a ≡ [] → NameOneReceiver a b → ⊥
receiver_none a b e (NameOneReceiver.one_receiver name x y port p q) = cc

-- ---- given again

pub not_false : (b : Bool) → not b ≡ false → b ≡ true
not_false true h = refl
not_false false h = sym h

-- the first words of lines of two kinds differ in their second letter
abbrev pub letter : List ℕ → ℕ
letter (b ∷ c ∷ cs) = c
letter _ = 0

again_name : (x y : Words) → Repeats x y → (k : List ℕ) (a b : Words) → x ≡ k ∷ a → y ≡ codes "relay" ∷ b → BeginAlike a b
again_name x y (Repeats.same_name name first second) k a b e f =
    begin_alike a b name first second (sym (behind_first e)) (sym (behind_first f))
again_name x y (Repeats.same_entry relay port first second) k a b e f =
    let h : 110 ≡ 101 = ap letter (first_same f) in absurd (omega (arith, h))
again_name x y (Repeats.same_protection ws) k a b e f =
    let h : 114 ≡ 101 = ap letter (first_same f) in absurd (omega (arith, h))
again_name x y (Repeats.same_spare ws) k a b e f =
    let h : 112 ≡ 101 = ap letter (first_same f) in absurd (omega (arith, h))
again_name x y (Repeats.same_receiver name host other port first second) k a b e f =
    let h : 117 ≡ 101 = ap letter (first_same f) in absurd (omega (arith, h))
again_name x y (Repeats.outside_relay name first second) k a b e f =
    let h : 117 ≡ 101 = ap letter (first_same f) in absurd (omega (arith, h))
again_name x y (Repeats.relay_outside name first second) k a b e f =
    begin_alike a b name first second (sym (behind_first e)) (sym (behind_first f))

again_entry : (x y : Words) → Repeats x y → (k : List ℕ) (a b : Words) → x ≡ k ∷ a → y ≡ codes "entry" ∷ b → BeginAlikeTwice a b
again_entry x y (Repeats.same_name name first second) k a b e f =
    let h : 101 ≡ 110 = ap letter (first_same f) in absurd (omega (arith, h))
again_entry x y (Repeats.same_entry relay port first second) k a b e f =
    rw (sym (behind_first e), sym (behind_first f)) (BeginAlikeTwice.alike_twice relay port first second)
again_entry x y (Repeats.same_protection ws) k a b e f =
    let h : 114 ≡ 110 = ap letter (first_same f) in absurd (omega (arith, h))
again_entry x y (Repeats.same_spare ws) k a b e f =
    let h : 112 ≡ 110 = ap letter (first_same f) in absurd (omega (arith, h))
again_entry x y (Repeats.same_receiver name host other port first second) k a b e f =
    let h : 117 ≡ 110 = ap letter (first_same f) in absurd (omega (arith, h))
again_entry x y (Repeats.outside_relay name first second) k a b e f =
    let h : 117 ≡ 110 = ap letter (first_same f) in absurd (omega (arith, h))
again_entry x y (Repeats.relay_outside name first second) k a b e f =
    let h : 101 ≡ 110 = ap letter (first_same f) in absurd (omega (arith, h))

-- an outside line gives again what another outside line gave
again_receiver : (x y : Words) → Repeats x y → (k : List ℕ) (a b : Words) → x ≡ k ∷ a → y ≡ codes "outside" ∷ b → k ≡ codes "outside" → NameOneReceiver a b
again_receiver x y (Repeats.same_name name first second) k a b e f is =
    let h : 101 ≡ 117 = ap letter (first_same f) in absurd (omega (arith, h))
again_receiver x y (Repeats.same_entry relay port first second) k a b e f is =
    let h : 110 ≡ 117 = ap letter (first_same f) in absurd (omega (arith, h))
again_receiver x y (Repeats.same_protection ws) k a b e f is =
    let h : 114 ≡ 117 = ap letter (first_same f) in absurd (omega (arith, h))
again_receiver x y (Repeats.same_spare ws) k a b e f is =
    let h : 112 ≡ 117 = ap letter (first_same f) in absurd (omega (arith, h))
again_receiver x y (Repeats.same_receiver name host other port first second) k a b e f is =
    rw (sym (behind_first e), sym (behind_first f)) (NameOneReceiver.one_receiver name host other port first second)
again_receiver x y (Repeats.outside_relay name first second) k a b e f is =
    let h : 101 ≡ 117 = ap letter (first_same e ∙ is) in absurd (omega (arith, h))
again_receiver x y (Repeats.relay_outside name first second) k a b e f is =
    let h : 101 ≡ 117 = ap letter (first_same f) in absurd (omega (arith, h))

again_words : (x y : Words) → Repeats x y → (k j : List ℕ) (a b : Words) → x ≡ k ∷ a → y ≡ j ∷ b → (j ≡ codes "relay" → ⊥) → (j ≡ codes "entry" → ⊥)
    → (j ≡ codes "outside" → ⊥) → a ≡ b
again_words x y (Repeats.same_name name first second) k j a b e f never other out = absurd (never (sym (first_same f)))
again_words x y (Repeats.same_entry relay port first second) k j a b e f never other out = absurd (other (sym (first_same f)))
again_words x y (Repeats.same_protection ws) k j a b e f never other out = sym (behind_first e) ∙ behind_first f
again_words x y (Repeats.same_spare ws) k j a b e f never other out = sym (behind_first e) ∙ behind_first f
again_words x y (Repeats.same_receiver name host another port first second) k j a b e f never other out = absurd (out (sym (first_same f)))
again_words x y (Repeats.outside_relay name first second) k j a b e f never other out = absurd (out (sym (first_same f)))
again_words x y (Repeats.relay_outside name first second) k j a b e f never other out = absurd (never (sym (first_same f)))

-- a policy line gives nothing again
again_policy : (x y : Words) → Repeats x y → (b : Words) → y ≡ codes "policy" ∷ b → ⊥
again_policy x y (Repeats.same_name name first second) b f = let h : 101 ≡ 111 = ap letter (first_same f) in absurd (omega (arith, h))
again_policy x y (Repeats.same_entry relay port first second) b f = let h : 110 ≡ 111 = ap letter (first_same f) in absurd (omega (arith, h))
again_policy x y (Repeats.same_protection ws) b f = let h : 114 ≡ 111 = ap letter (first_same f) in absurd (omega (arith, h))
again_policy x y (Repeats.same_spare ws) b f = let h : 112 ≡ 111 = ap letter (first_same f) in absurd (omega (arith, h))
again_policy x y (Repeats.same_receiver name host other port first second) b f =
    let h : 117 ≡ 111 = ap letter (first_same f) in absurd (omega (arith, h))
again_policy x y (Repeats.outside_relay name first second) b f = let h : 117 ≡ 111 = ap letter (first_same f) in absurd (omega (arith, h))
again_policy x y (Repeats.relay_outside name first second) b f = let h : 101 ≡ 111 = ap letter (first_same f) in absurd (omega (arith, h))

-- lines of two kinds, of which one gives again the other, are a relay line and an outside line of one name
record Shares (k j : List ℕ) (a b : Words) : Type 0 where
  earlier : is_naming k ≡ true
  later : is_naming j ≡ true
  alike : BeginAlike a b

again_shared : (x y : Words) → Repeats x y → (k j : List ℕ) (a b : Words) → x ≡ k ∷ a → y ≡ j ∷ b → (k ≡ j → ⊥) → Shares k j a b
again_shared x y (Repeats.same_name name first second) k j a b e f differ = absurd (differ (sym (first_same e) ∙ first_same f))
again_shared x y (Repeats.same_entry relay port first second) k j a b e f differ = absurd (differ (sym (first_same e) ∙ first_same f))
again_shared x y (Repeats.same_protection ws) k j a b e f differ = absurd (differ (sym (first_same e) ∙ first_same f))
again_shared x y (Repeats.same_spare ws) k j a b e f differ = absurd (differ (sym (first_same e) ∙ first_same f))
again_shared x y (Repeats.same_receiver name host other port first second) k j a b e f differ = absurd (differ (sym (first_same e) ∙ first_same f))
again_shared x y (Repeats.outside_relay name first second) k j a b e f differ = record {
  earlier = ap is_naming (sym (first_same e));
  later = ap is_naming (sym (first_same f));
  alike = begin_alike a b name first second (sym (behind_first e)) (sym (behind_first f));
}
again_shared x y (Repeats.relay_outside name first second) k j a b e f differ = record {
  earlier = ap is_naming (sym (first_same e));
  later = ap is_naming (sym (first_same f));
  alike = begin_alike a b name first second (sym (behind_first e)) (sym (behind_first f));
}

second_true : (a b : Bool) → a ≡ false → (a || b) ≡ true → b ≡ true
second_true true b e h = absurd (false≢true (sym e))
second_true false b e h = h

names_relay : (k : List ℕ) → is_naming k ≡ true → (k ≡ codes "relay") ⊎ (k ≡ codes "outside")
names_relay k naming =
    elim (cases_Bool (bytes_eq k (codes "relay"))) [
      | inl equal ↦ inl ((bytes_eq-Decides k (codes "relay")).0 equal)
      | inr other ↦
          inr ((bytes_eq-Decides k (codes "outside")).0 (second_true (bytes_eq k (codes "relay")) (bytes_eq k (codes "outside")) other naming))
    ]

shared_again : (k j : List ℕ) (a b : Words) → (k ≡ j → ⊥) → (k ≡ codes "relay") ⊎ (k ≡ codes "outside") → (j ≡ codes "relay") ⊎ (j ≡ codes "outside")
    → BeginAlike a b → Repeats (k ∷ a) (j ∷ b)
shared_again k j a b differ (inl e) (inl f) h = absurd (differ (e ∙ sym f))
shared_again k j a b differ (inr e) (inr f) h = absurd (differ (e ∙ sym f))
shared_again k j a b differ (inl e) (inr f) (BeginAlike.alike w x y) = rw (e, f) (Repeats.outside_relay w x y)
shared_again k j a b differ (inr e) (inl f) (BeginAlike.alike w x y) = rw (e, f) (Repeats.relay_outside w x y)

-- a relay line and an outside line that begin alike give one name
pub shares_again : (k j : List ℕ) (a b : Words) → is_naming k ≡ true → is_naming j ≡ true → BeginAlike a b → (k ≡ j → ⊥) → Repeats (k ∷ a) (j ∷ b)
shares_again k j a b first second h differ = shared_again k j a b differ (names_relay k first) (names_relay j second) h

pub shares_alike : (k j : List ℕ) (a b : Words) → (BeginAlike a b → ⊥) → (k ≡ j → ⊥) → Repeats (k ∷ a) (j ∷ b) → ⊥
shares_alike k j a b apart differ r = apart (again_shared _ _ r k j a b refl refl differ).alike

pub no_earlier : (k j : List ℕ) (a b : Words) → is_naming k ≡ false → (k ≡ j → ⊥) → Repeats (k ∷ a) (j ∷ b) → ⊥
no_earlier k j a b none differ r = false≢true (sym none ∙ (again_shared _ _ r k j a b refl refl differ).earlier)

pub no_later : (k j : List ℕ) (a b : Words) → is_naming j ≡ false → (k ≡ j → ⊥) → Repeats (k ∷ a) (j ∷ b) → ⊥
no_later k j a b none differ r = false≢true (sym none ∙ (again_shared _ _ r k j a b refl refl differ).later)

-- what lines of one kind say behind their first word, where the later one gives again what the earlier one gave
abbrev pub SaysAgain : Line → Words → Words → Type 0
SaysAgain Line.Policy a b = ⊥
SaysAgain (Line.Relay it) a b = BeginAlike a b
SaysAgain (Line.Entry it) a b = BeginAlikeTwice a b
SaysAgain (Line.Protect it) a b = a ≡ b
SaysAgain (Line.Spare it) a b = a ≡ b
SaysAgain (Line.Outside it) a b = NameOneReceiver a b

named_again : (k : List ℕ) (a b : Words) → k ≡ codes "relay" → BeginAlike a b → Repeats (k ∷ a) (codes "relay" ∷ b)
named_again k a b e (BeginAlike.alike w f s) = rw e (Repeats.same_name w f s)

entered_again : (k : List ℕ) (a b : Words) → k ≡ codes "entry" → BeginAlikeTwice a b → Repeats (k ∷ a) (codes "entry" ∷ b)
entered_again k a b e (BeginAlikeTwice.alike_twice w n f s) = rw e (Repeats.same_entry w n f s)

received_again : (k : List ℕ) (a b : Words) → k ≡ codes "outside" → NameOneReceiver a b → Repeats (k ∷ a) (codes "outside" ∷ b)
received_again k a b e (NameOneReceiver.one_receiver name host other port first second) = rw e (Repeats.same_receiver name host other port first second)

pub says_again : (it : Line) (k : List ℕ) (a b : Words) → k ≡ kind it → SaysAgain it a b → Repeats (k ∷ a) (kind it ∷ b)
says_again Line.Policy k a b e h = absurd h
says_again (Line.Relay it) k a b e h = named_again k a b e h
says_again (Line.Entry it) k a b e h = entered_again k a b e h
says_again (Line.Protect it) k a b e h = rw (e, h) (Repeats.same_protection b)
says_again (Line.Spare it) k a b e h = rw (e, h) (Repeats.same_spare b)
says_again (Line.Outside it) k a b e h = received_again k a b e h

-- the first word of no relay line, entry line or outside line
others : (j : List ℕ) (n : ℕ) → letter j ≡ n → (n ≡ 101 → ⊥) → (n ≡ 110 → ⊥) → (n ≡ 117 → ⊥)
    → (j ≡ codes "relay" → ⊥) × (j ≡ codes "entry" → ⊥) × (j ≡ codes "outside" → ⊥)
others j n is relay entry out = (λ e. relay (sym is ∙ ap letter e), λ e. entry (sym is ∙ ap letter e), λ e. out (sym is ∙ ap letter e))

pub says_apart : (it : Line) (k : List ℕ) (a b : Words) → k ≡ kind it → (SaysAgain it a b → ⊥) → Repeats (k ∷ a) (kind it ∷ b) → ⊥
says_apart Line.Policy k a b is never r = again_policy _ _ r b refl
says_apart (Line.Relay it) k a b is never r = never (again_name _ _ r k a b refl refl)
says_apart (Line.Entry it) k a b is never r = never (again_entry _ _ r k a b refl refl)
says_apart (Line.Protect it) k a b is never r =
    let no = others (codes "protect") 114 refl (λ e. omega (arith, e)) (λ e. omega (arith, e)) (λ e. omega (arith, e)) in
    never (again_words _ _ r k (codes "protect") a b refl refl no.0 no.1 no.2)
says_apart (Line.Spare it) k a b is never r =
    let no = others (codes "spare") 112 refl (λ e. omega (arith, e)) (λ e. omega (arith, e)) (λ e. omega (arith, e)) in
    never (again_words _ _ r k (codes "spare") a b refl refl no.0 no.1 no.2)
says_apart (Line.Outside it) k a b is never r = never (again_receiver _ _ r k a b refl refl is)

pub same_kind : (a b k j : List ℕ) → a ≡ k → b ≡ j → false ≡ not (bytes_eq a b) → k ≡ j
same_kind a b k j e f same = sym e ∙ (bytes_eq-Decides a b).0 (not_false (bytes_eq a b) (sym same)) ∙ f

not_true : (b : Bool) → not b ≡ true → b ≡ false
not_true true h = absurd (false≢true h)
not_true false h = refl

pub other_kind : (a b k j : List ℕ) → a ≡ k → b ≡ j → true ≡ not (bytes_eq a b) → k ≡ j → ⊥
other_kind a b k j e f differ same = false≢true (sym (not_true (bytes_eq a b) (sym differ)) ∙ (bytes_eq-Decides a b).1 (e ∙ same ∙ sym f))

-- lines that are no policy, no relay, no entry and no outside lines say again the same words
pub other_says : (it : Read) → (it ≡ read.Policy → ⊥) → ((x : ReadRelay) → it ≡ read.Relay x → ⊥) → ((x : ReadEntry) → it ≡ read.Entry x → ⊥)
    → ((x : ReadOutside) → it ≡ read.Outside x → ⊥) → (a b : Words) → a ≡ b → SaysAgain (line_of it) a b
other_says read.Policy no_policy never not_entry not_outside a b e = absurd (no_policy refl)
other_says (read.Relay x) no_policy never not_entry not_outside a b e = absurd (never x refl)
other_says (read.Entry x) no_policy never not_entry not_outside a b e = absurd (not_entry x refl)
other_says (read.Protect x) no_policy never not_entry not_outside a b e = e
other_says (read.Spare x) no_policy never not_entry not_outside a b e = e
other_says (read.Outside x) no_policy never not_entry not_outside a b e = absurd (not_outside x refl)

pub other_same : (it : Read) → (it ≡ read.Policy → ⊥) → ((x : ReadRelay) → it ≡ read.Relay x → ⊥) → ((x : ReadEntry) → it ≡ read.Entry x → ⊥)
    → ((x : ReadOutside) → it ≡ read.Outside x → ⊥) → (a b : Words) → SaysAgain (line_of it) a b → a ≡ b
other_same read.Policy no_policy never not_entry not_outside a b e = absurd e
other_same (read.Relay x) no_policy never not_entry not_outside a b e = absurd (never x refl)
other_same (read.Entry x) no_policy never not_entry not_outside a b e = absurd (not_entry x refl)
other_same (read.Protect x) no_policy never not_entry not_outside a b e = e
other_same (read.Spare x) no_policy never not_entry not_outside a b e = e
other_same (read.Outside x) no_policy never not_entry not_outside a b e = absurd (not_outside x refl)

-- ---- duplicates

pub none_in : {A : Type 0} (x : A) → Contains [] x → ⊥
none_in x c = omega (arith, c.1)

pub among_first : {A : Type 0} (x : A) (xs : List A) → Contains (x ∷ xs) x
among_first x xs = Contains-append_left (x ∷ []) xs x (Contains-push [] x)

pub among_later : {A : Type 0} (x : A) (xs : List A) (y : A) → Contains xs y → Contains (x ∷ xs) y
among_later x xs y c = Contains-append_right (x ∷ []) xs y c

pub among_cases : {A : Type 0} (x : A) (xs : List A) (y : A) → Contains (x ∷ xs) y → (x ≡ y) ⊎ Contains xs y
among_cases x xs y c =
    elim (Contains-append_cases (x ∷ []) xs y c) [
      | inl one ↦
          elim (Contains-push_cases [] x y one) [
            | inl nothing ↦ absurd (none_in y nothing)
            | inr same ↦ inl same
          ]
      | inr behind ↦ inr behind
    ]

pub split_at : {A : Type 0} (xs : List A) (x : A) → Contains xs x → (front : List A) × (back : List A) × (xs ≡ front ++ x ∷ back)
split_at [] x c = absurd (none_in x c)
split_at (y ∷ xs) x c =
    elim (among_cases y xs x c) [
      | inl same ↦ ([], xs, ap (λ z. z ∷ xs) same)
      | inr behind ↦ let r = split_at xs x behind in (y ∷ r.0, r.1, ap (λ zs. y ∷ zs) r.2)
    ]

single_first : (w : Words) → IsDuplicate [] w → ⊥
single_first w d = none_in d.0 d.1

pub again_first : (o : Words) (later : List Words) (w : Words) → Repeats o w → IsDuplicate (o ∷ later) w
again_first o later w r = (o, among_first o later, r)

pub again_later : (o : Words) (later : List Words) (w : Words) → IsDuplicate later w → IsDuplicate (o ∷ later) w
again_later o later w d = (d.0, among_later o later d.0 d.1, d.2)

pub again_cases : (o : Words) (later : List Words) (w : Words) → IsDuplicate (o ∷ later) w → Repeats o w ⊎ IsDuplicate later w
again_cases o later w d =
    elim (among_cases o later d.0 d.1) [
      | inl same ↦ inl (rw same d.2)
      | inr behind ↦ inr (d.0, behind, d.2)
    ]

again_behind : (o : Words) (later : List Words) (w : Words) → (Repeats o w → ⊥) → IsDuplicate (o ∷ later) w → IsDuplicate later w
again_behind o later w apart d =
    elim (again_cases o later w d) [
      | inl r ↦ absurd (apart r)
      | inr behind ↦ behind
    ]

-- the lines from a place on
lines_from : (found : List Given) (place : ℕ) (first : Given) → place < length found → first ≡ get_or found place first
    → map words_given (drop place found) ≡ words_given first ∷ map words_given (drop (place + 1) found)
lines_from found place first within is =
    at_drop_more (map words_given) found place first within ∙ ap (λ g. words_given g ∷ map words_given (drop (place + 1) found)) (sym is)

abbrev pub AgainFrom : List Given → Words → ℕ → Type 0
AgainFrom found w place = IsDuplicate (map words_given (drop place found)) w

module _ (found : List Given) (w : Words) (place : ℕ) (first : Given) (within : place < length found) (is : first ≡ get_or found place first) where
  pub again_here : Repeats (words_given first) w → AgainFrom found w place
  again_here r =
      subst (λ ws. IsDuplicate ws w) (sym (lines_from found place first within is))
      (again_first (words_given first) (map words_given (drop (place + 1) found)) w r)

  pub again_on : AgainFrom found w (place + 1) → AgainFrom found w place
  again_on d =
      subst (λ ws. IsDuplicate ws w) (sym (lines_from found place first within is))
      (again_later (words_given first) (map words_given (drop (place + 1) found)) w d)

  pub again_next : (Repeats (words_given first) w → ⊥) → AgainFrom found w place → AgainFrom found w (place + 1)
  again_next apart d =
      again_behind (words_given first) (map words_given (drop (place + 1) found)) w apart
      (subst (λ ws. IsDuplicate ws w) (lines_from found place first within is) d)

pub again_end : (found : List Given) (w : Words) (place : ℕ) → length found ≤ place → AgainFrom found w place → ⊥
again_end found w place end d = single_first w (subst (λ ws. IsDuplicate (map words_given ws) w) (drop_of_length-le found end) d)
