-- What words call for, with options and without.
use Rattle.std.proofs.Common.{◌≡◌, ◌+◌, ℕ, Bool, List, [], ◌∷◌, ◌++◌, refl, sym, subst, ap, ◌∙◌, arith, inl, inr}
use Rattle.std.specs.Prelude.{◌||◌, Option, Some, None, true, false, codes, if◌then◌else◌}
use Rattle.std.specs.Str.{bytes_eq}
use Rattle.std.proofs.lemmas.Slice.Eq.{bytes_eq-Decides}
use Rattle.sy_commands.specs.Words.{AreAskingOf, AreGraphWords, AreOver, AreReplayOf, AreVerifyOf, AreWithOptions, CallFor, OverSite, allows, is_any}
use Rattle.syc.specs.Words.{AreNoBareCommandOf, AreNoCommand, AreNoCommandOf, AreOptioned, ArePassAlone}
use Rattle.sy_report.specs.Words.{HaveOptions, asking, bare_of, is_option, is_plain, once_if, times}
use Rattle.sy_report.specs.declared.command_line.command.Asked.{Asked}
use Rattle.sy_commands.specs.declared.commands.Request.{Request}
use Rattle.sy_report.specs.declared.command_line.options.Options.{Options}
use Rattle.sy_commands.specs.Requests.{IsRequest, no_options, options_of, over_of}
use Rattle.sy_commands.proofs.CommandWords.{first_same, head_same}
use Rattle.syc.proofs.CommandWords.{pass_asks_nothing, pass_no_replay, pass_no_verify}
use Rattle.sy_commands.proofs.Optioned.{same_options, same_call, named, over_any, either}
use Rattle.sy_report.specs.declared.command_line.command.Asked.TheVariants as asked

-- ---- bare words have no options

decided : (b : Bool) → (b ≡ true → ⊥) → b ≡ false
decided true isnt = absurd (isnt refl)
decided false isnt = refl

both_ways : {b : Bool} → b ≡ true → b ≡ false → ⊥
both_ways is isnt = cc

-- a word that is no option is none of them
apart : (word option : List ℕ) → is_plain word ≡ true → is_plain option ≡ false → once_if (bytes_eq word option) ≡ 0
apart word option plain isnt =
    ap once_if (decided (bytes_eq word option) (λ same. both_ways (subst (λ w. is_plain w ≡ true) ((bytes_eq-Decides word option).0 same) plain) isnt))

both_zero : (m n : ℕ) → m ≡ 0 → n ≡ 0 → m + n ≡ 0
both_zero m n first second = omega (arith, first, second)

one_none : (option a : List ℕ) → is_plain option ≡ false → is_plain a ≡ true → times option (a ∷ []) ≡ 0
one_none option a isnt plain = both_zero (once_if (bytes_eq a option)) 0 (apart a option plain isnt) refl

two_none : (option a b : List ℕ) → is_plain option ≡ false → is_plain a ≡ true → is_plain b ≡ true → times option (a ∷ b ∷ []) ≡ 0
two_none option a b isnt first second =
    both_zero (once_if (bytes_eq a option)) (times option (b ∷ [])) (apart a option first isnt) (one_none option b isnt second)

three_none : (option a b c : List ℕ) → is_plain option ≡ false → is_plain a ≡ true → is_plain b ≡ true → is_plain c ≡ true
    → times option (a ∷ b ∷ c ∷ []) ≡ 0
three_none option a b c isnt first second third =
    both_zero (once_if (bytes_eq a option)) (times option (b ∷ c ∷ [])) (apart a option first isnt) (two_none option b c isnt second third)

plain_question : (question : Asked) → (s option : List ℕ) → is_plain option ≡ false → is_plain s ≡ true → times option (asking question ++ s ∷ []) ≡ 0
plain_question asked.Check s option isnt plain = two_none option (codes "check") s isnt refl plain
plain_question asked.Certify s option isnt plain = two_none option (codes "certify") s isnt refl plain

three_false : (a b c : Bool) → a ≡ false → b ≡ false → c ≡ false → (a || b || c) ≡ false
three_false false false false x y z = refl
three_false true b c x y z = absurd (both_ways refl x)
three_false false true c x y z = absurd (both_ways refl y)
three_false false false true x y z = absurd (both_ways refl z)

no_option : (word : List ℕ) → bytes_eq word (codes "--explain") ≡ false → bytes_eq word (codes "--all") ≡ false → bytes_eq word (codes "--json") ≡ false
    → is_option word ≡ false
no_option word explain all json = three_false (bytes_eq word (codes "--explain")) (bytes_eq word (codes "--all")) (bytes_eq word (codes "--json")) explain all json

left_by : (is_it : Bool) (word : List ℕ) (rest : List (List ℕ)) → is_it ≡ false → (if is_it then rest else (word ∷ rest)) ≡ word ∷ rest
left_by false word rest isnt = refl
left_by true word rest isnt = absurd (both_ways refl isnt)

-- a word that is no option stays
stays : (word : List ℕ) (rest : List (List ℕ)) → is_option word ≡ false → bare_of (word ∷ rest) ≡ word ∷ bare_of rest
stays word rest isnt = left_by (is_option word) word (bare_of rest) isnt

unlike : (word option : List ℕ) → is_plain word ≡ true → is_plain option ≡ false → bytes_eq word option ≡ false
unlike word option plain isnt =
    decided (bytes_eq word option) (λ same. both_ways (subst (λ w. is_plain w ≡ true) ((bytes_eq-Decides word option).0 same) plain) isnt)

plain_stays : (word : List ℕ) (rest : List (List ℕ)) → is_plain word ≡ true → bare_of (word ∷ rest) ≡ word ∷ bare_of rest
plain_stays word rest plain = stays word rest
    (no_option word (unlike word (codes "--explain") plain refl) (unlike word (codes "--all") plain refl) (unlike word (codes "--json") plain refl))

one_stays : (a : List ℕ) → is_plain a ≡ true → bare_of (a ∷ []) ≡ a ∷ []
one_stays a plain = plain_stays a [] plain

two_stay : (a b : List ℕ) → is_plain a ≡ true → is_plain b ≡ true → bare_of (a ∷ b ∷ []) ≡ a ∷ b ∷ []
two_stay a b first second = plain_stays a (b ∷ []) first ∙ ap (λ w. a ∷ w) (one_stays b second)

three_stay : (a b c : List ℕ) → is_plain a ≡ true → is_plain b ≡ true → is_plain c ≡ true → bare_of (a ∷ b ∷ c ∷ []) ≡ a ∷ b ∷ c ∷ []
three_stay a b c first second third = plain_stays a (b ∷ c ∷ []) first ∙ ap (λ w. a ∷ w) (two_stay b c second third)

question_stays : (question : Asked) (s : List ℕ) → is_plain s ≡ true → bare_of (asking question ++ s ∷ []) ≡ asking question ++ s ∷ []
question_stays asked.Check s plain = two_stay (codes "check") s refl plain
question_stays asked.Certify s plain = two_stay (codes "certify") s refl plain

have_none : (words others : List (List ℕ)) → words ≡ others → bare_of others ≡ others
    → ((option : List ℕ) → is_plain option ≡ false → times option others ≡ 0) → HaveOptions words no_options words
have_none words others is stay none = record {
  bare_are = is ∙ sym stay ∙ sym (ap bare_of is);
  explain = ap (times (codes "--explain")) is ∙ none (codes "--explain") refl;
  all = ap (times (codes "--all")) is ∙ none (codes "--all") refl;
  json = ap (times (codes "--json")) is ∙ none (codes "--json") refl;
}

-- words without options are words with none of them
pub asking_over : (question : Asked) (words : List (List ℕ)) (site : List ℕ) → AreAskingOf question words site
    → AreOver words no_options (OverSite.Ask question site)
asking_over question words site are = record {
  bare = words;
  have = have_none words (asking question ++ site ∷ []) are.words_are (question_stays question site are.site_plain)
      (λ option isnt. plain_question question site option isnt are.site_plain);
  allowed = allowed question;
  call = are;
}
  where
    allowed : (q : Asked) → allows no_options (OverSite.Ask q site) ≡ true
    allowed asked.Check = refl
    allowed asked.Certify = refl

pub replay_over : (words : List (List ℕ)) (site events : List ℕ) → AreReplayOf words site events → AreOver words no_options (OverSite.Replay site events)
replay_over words site events are = record {
  bare = words;
  have = have_none words _ are.words_are (three_stay (codes "replay") site events refl are.site_plain are.events_plain)
      (λ option isnt. three_none option (codes "replay") site events isnt refl are.site_plain are.events_plain);
  allowed = refl;
  call = are;
}

pub verify_over : (words : List (List ℕ)) (site certificate : List ℕ) → AreVerifyOf words site certificate
    → AreOver words no_options (OverSite.Verify site certificate)
verify_over words site certificate are = record {
  bare = words;
  have = have_none words _ are.words_are (three_stay (codes "verify") site certificate refl are.site_plain are.certificate_plain)
      (λ option isnt. three_none option (codes "verify") site certificate isnt refl are.site_plain are.certificate_plain);
  allowed = refl;
  call = are;
}

pub optioned_over : (words : List (List ℕ)) (options : Options) (command : OverSite) → AreOptioned words options command → AreOver words options command
optioned_over words options command are =
    over_any words options command (record { bare = are.bare; have = are.have; allowed = are.allowed; call = are.call })

-- ---- words among which no option is

zero_first : (m n : ℕ) → m + n ≡ 0 → m ≡ 0
zero_first m n is = omega (arith, is)

zero_second : (m n : ℕ) → m + n ≡ 0 → n ≡ 0
zero_second m n is = omega (arith, is)

unset : (b : Bool) → once_if b ≡ 0 → b ≡ false
unset true is = absurd (omega (arith, is))
unset false is = refl

all_stay : (words : List (List ℕ)) → times (codes "--explain") words ≡ 0 → times (codes "--all") words ≡ 0 → times (codes "--json") words ≡ 0
    → bare_of words ≡ words
all_stay [] explain all json = refl
all_stay (word ∷ words) explain all json =
    stays word words
    (no_option word (unset _ (zero_first _ _ explain)) (unset _ (zero_first _ _ all)) (unset _ (zero_first _ _ json)))
    ∙ ap (λ w. word ∷ w) (all_stay words (zero_second _ _ explain) (zero_second _ _ all) (zero_second _ _ json))

none_set : (a b c : Bool) → (a || b || c) ≡ false → (a ≡ false) × (b ≡ false) × (c ≡ false)
none_set false false false is = (refl, refl, refl)
none_set true b c is = absurd (both_ways refl is)
none_set false true c is = absurd (both_ways refl is)
none_set false false true is = absurd (both_ways refl is)

none_given : (words bare : List (List ℕ)) (options : Options) → HaveOptions words options bare → is_any options ≡ false → bare ≡ words
none_given words bare options have none =
    let unset = none_set options.explain options.all options.json none in
    have.bare_are ∙ all_stay words (have.explain ∙ ap once_if unset.0) (have.all ∙ ap once_if unset.1) (have.json ∙ ap once_if unset.2)

make : Bool → Bool → Bool → Options
make explain all json = record { explain = explain; all = all; json = json }

same_none : (a b : Options) → is_any a ≡ false → is_any b ≡ false → a ≡ b
unfolding make
same_none a b x y =
    let first = none_set a.explain a.all a.json x in
    let second = none_set b.explain b.all b.json y in
    ap (λ e. make e a.all a.json) (first.0 ∙ sym second.0) ∙ ap (λ l. make b.explain l a.json) (first.1 ∙ sym second.1)
    ∙ ap (λ j. make b.explain b.all j) (first.2 ∙ sym second.2)

bare_calls_nothing : (words : List (List ℕ)) (command : OverSite) → AreNoBareCommandOf words → CallFor command words → ⊥
bare_calls_nothing words (OverSite.Ask question site) none call = none.no_asking question site call
bare_calls_nothing words (OverSite.Replay site events) none call = none.no_replay site events call
bare_calls_nothing words (OverSite.Verify site certificate) none call = none.no_verify site certificate call
bare_calls_nothing words (OverSite.Draw class site) none call = call

with_nothing : (is_given : Bool) (words : List (List ℕ)) (options : Options) (command : OverSite) → is_any options ≡ is_given → AreNoCommandOf words
    → AreWithOptions words options command → ⊥
with_nothing true words options command given none are =
    none.further.no_optioned options command (record { bare = are.bare; have = are.have; some = given; allowed = are.allowed; call = are.call })
with_nothing false words options command given none are =
    bare_calls_nothing words command none.bare (subst (CallFor command) (none_given words are.bare options are.have given) are.call)

pub none_over : (words : List (List ℕ)) → AreNoCommandOf words → AreNoCommand words
none_over words none = record {
  no_pass = none.bare.no_pass;
  no_over = λ options command are. elim (either words options command are) [
    | inl with ↦ with_nothing (is_any options) words options command refl none with
    | inr drawing ↦ none.further.no_graph drawing.class drawing.site drawing.words_are
  ];
}

-- ---- what holds of a command holds of each that the words call for

-- the words fix the options and the command
one_with : (words : List (List ℕ)) (a b : Options) (c d : OverSite) → AreWithOptions words a c → AreWithOptions words b d → (a ≡ b) × (c ≡ d)
one_with words a b c d x y =
    let same = x.have.bare_are ∙ sym y.have.bare_are in (
      same_options words a b x.bare y.bare x.have y.have,
      same_call (codes "syc" ∷ x.bare) c d (named (codes "syc" ∷ x.bare) x.bare refl c x.call)
          (named (codes "syc" ∷ x.bare) y.bare (ap (λ w. codes "syc" ∷ w) same) d y.call),
    )

g_or_c : (a b : ℕ) → a ≡ 103 → b ≡ 99 → a ≡ b → ⊥
g_or_c a b g c same = omega (arith, g, c, same)

g_or_r : (a b : ℕ) → a ≡ 103 → b ≡ 114 → a ≡ b → ⊥
g_or_r a b g r same = omega (arith, g, r, same)

g_or_v : (a b : ℕ) → a ≡ 103 → b ≡ 118 → a ≡ b → ⊥
g_or_v a b g v same = omega (arith, g, v, same)

graph_or_check : codes "graph" ≡ codes "check" → ⊥
graph_or_check e = g_or_c 103 99 refl refl (head_same e)

graph_or_certify : codes "graph" ≡ codes "certify" → ⊥
graph_or_certify e = g_or_c 103 99 refl refl (head_same e)

graph_or_replay : codes "graph" ≡ codes "replay" → ⊥
graph_or_replay e = g_or_r 103 114 refl refl (head_same e)

graph_or_verify : codes "graph" ≡ codes "verify" → ⊥
graph_or_verify e = g_or_v 103 118 refl refl (head_same e)

-- words that begin with that of a drawing call for no other command
no_call : (bare rest : List (List ℕ)) (command : OverSite) → bare ≡ codes "graph" ∷ rest → CallFor command bare → ⊥
no_call bare rest (OverSite.Ask asked.Check site) is h = graph_or_check (first_same (sym is ∙ h.words_are))
no_call bare rest (OverSite.Ask asked.Certify site) is h = graph_or_certify (first_same (sym is ∙ h.words_are))
no_call bare rest (OverSite.Replay site events) is h = graph_or_replay (first_same (sym is ∙ h.words_are))
no_call bare rest (OverSite.Verify site certificate) is h = graph_or_verify (first_same (sym is ∙ h.words_are))
no_call bare rest (OverSite.Draw class site) is h = h

begins_so : (words rest : List (List ℕ)) → words ≡ codes "graph" ∷ rest → (command : OverSite) (options : Options) → AreWithOptions words options command → ⊥
begins_so words rest is command options are = no_call are.bare (bare_of rest) command (are.have.bare_are ∙ ap bare_of is) are.call

pub graph_has_none : (words : List (List ℕ)) (class : Option (List ℕ)) (site : List ℕ) → AreGraphWords class words site
    → (options : Options) (command : OverSite) → AreWithOptions words options command → ⊥
graph_has_none words None site is options command are = begins_so words _ is.0 command options are
graph_has_none words (Some class) site (inl is, plain, other) options command are = begins_so words _ is command options are
graph_has_none words (Some class) site (inr is, plain, other) options command are = begins_so words _ is command options are

-- nor do those of another command call for a drawing
drawing_begins : (words : List (List ℕ)) (class : Option (List ℕ)) (site : List ℕ) → AreGraphWords class words site
    → (rest : List (List ℕ)) × (words ≡ codes "graph" ∷ rest)
drawing_begins words None site is = (_, is.0)
drawing_begins words (Some class) site (inl is, plain, other) = (_, is)
drawing_begins words (Some class) site (inr is, plain, other) = (_, is)

g_or_p : (a b : ℕ) → a ≡ 103 → b ≡ 112 → a ≡ b → ⊥
g_or_p a b g p same = omega (arith, g, p, same)

graph_or_pass : codes "graph" ≡ codes "pass" → ⊥
graph_or_pass e = g_or_p 103 112 refl refl (head_same e)

pub pass_no_graph : (words : List (List ℕ)) → ArePassAlone words → (class : Option (List ℕ)) (site : List ℕ) → AreGraphWords class words site → ⊥
pass_no_graph words pass class site are =
    let begins = drawing_begins words class site are in
    graph_or_pass (first_same (sym begins.1 ∙ pass))

-- ---- what a drawing is of

option_is_plain : is_plain (codes "--class") ≡ true → ⊥
option_is_plain e = cc

one_name : {a b c : List ℕ} → a ∷ b ∷ [] ≡ a ∷ c ∷ [] → b ≡ c
one_name e = cc

one_or_three : {a b c d e f : List ℕ} → a ∷ b ∷ [] ≡ c ∷ d ∷ e ∷ f ∷ [] → ⊥
one_or_three same = cc

second_same : {a b c d e f g h : List ℕ} → a ∷ b ∷ c ∷ d ∷ [] ≡ e ∷ f ∷ g ∷ h ∷ [] → b ≡ f
second_same e = cc

third_same : {a b c d e f g h : List ℕ} → a ∷ b ∷ c ∷ d ∷ [] ≡ e ∷ f ∷ g ∷ h ∷ [] → c ≡ g
third_same e = cc

fourth_same : {a b c d e f g h : List ℕ} → a ∷ b ∷ c ∷ d ∷ [] ≡ e ∷ f ∷ g ∷ h ∷ [] → d ≡ h
fourth_same e = cc

-- the words fix the class and the site
pub one_drawing : (words : List (List ℕ)) (a b : Option (List ℕ)) (s t : List ℕ) → AreGraphWords a words s → AreGraphWords b words t → (a ≡ b) × (s ≡ t)
one_drawing words None None s t x y = (refl, one_name (sym x.0 ∙ y.0))
one_drawing words None (Some c) s t x (inl y, plain, other) = absurd (one_or_three (sym x.0 ∙ y))
one_drawing words None (Some c) s t x (inr y, plain, other) = absurd (one_or_three (sym x.0 ∙ y))
one_drawing words (Some c) None s t (inl x, plain, other) y = absurd (one_or_three (sym y.0 ∙ x))
one_drawing words (Some c) None s t (inr x, plain, other) y = absurd (one_or_three (sym y.0 ∙ x))
one_drawing words (Some c) (Some d) s t (inl x, p, v) (inl y, q, w) = (ap Some (third_same (sym x ∙ y)), fourth_same (sym x ∙ y))
one_drawing words (Some c) (Some d) s t (inr x, p, v) (inr y, q, w) = (ap Some (fourth_same (sym x ∙ y)), second_same (sym x ∙ y))
one_drawing words (Some c) (Some d) s t (inl x, p, v) (inr y, q, w) =
    absurd (option_is_plain (subst (λ w. is_plain w ≡ true) (sym (second_same (sym x ∙ y))) q))
one_drawing words (Some c) (Some d) s t (inr x, p, v) (inl y, q, w) =
    absurd (option_is_plain (subst (λ w. is_plain w ≡ true) (second_same (sym x ∙ y)) p))

pub one_over : (words : List (List ℕ)) (a b : Options) (c d : OverSite) → AreOver words a c → AreOver words b d → (a ≡ b) × (c ≡ d)
one_over words a b c d x y = elim (either words a c x) [
  | inl first ↦ elim (either words b d y) [
    | inl second ↦ one_with words a b c d first second
    | inr second ↦ absurd (graph_has_none words second.class second.site second.words_are a c first)
  ]
  | inr first ↦ elim (either words b d y) [
    | inl second ↦ absurd (graph_has_none words first.class first.site first.words_are b d second)
    | inr second ↦ (
      same_none a b first.none second.none,
      first.command_is ∙ same_drawing words first.class second.class first.site second.site first.words_are second.words_are ∙ sym second.command_is,
    )
  ]
]
  where
    same_drawing : (ws : List (List ℕ)) (k l : Option (List ℕ)) (s t : List ℕ) → AreGraphWords k ws s → AreGraphWords l ws t
        → OverSite.Draw k s ≡ OverSite.Draw l t
    same_drawing ws k l s t p q =
        let same = one_drawing ws k l s t p q in
        ap (λ n. OverSite.Draw n s) same.0 ∙ ap (OverSite.Draw l) same.1

-- the words of a pass call for nothing else
pass_calls_nothing : (bare : List (List ℕ)) → ArePassAlone bare → (command : OverSite) → CallFor command bare → ⊥
pass_calls_nothing bare pass (OverSite.Ask question site) call = pass_asks_nothing bare pass question site call
pass_calls_nothing bare pass (OverSite.Replay site events) call = pass_no_replay bare pass site events call
pass_calls_nothing bare pass (OverSite.Verify site certificate) call = pass_no_verify bare pass site certificate call
pass_calls_nothing bare pass (OverSite.Draw class site) call = call

pub pass_no_over : (words : List (List ℕ)) → ArePassAlone words → (options : Options) (command : OverSite) → AreOver words options command → ⊥
pass_no_over words pass options command are = elim (either words options command are) [
  | inl with ↦ pass_calls_nothing with.bare (with.have.bare_are ∙ ap bare_of pass) command with.call
  | inr drawing ↦ pass_no_graph words pass drawing.class drawing.site drawing.words_are
]

-- what holds of the request that was found holds of the command that the words call for
pub for_request : (P : Options → OverSite → Type 0) (words : List (List ℕ)) (found : Request) → IsRequest words found → P (options_of found) (over_of found)
    → (options : Options) (command : OverSite) → AreOver words options command → P options command
for_request P words found is holds options command are =
    let both = one_over words (options_of found) options (over_of found) command is are in
    subst (λ c. P options c) both.1 (subst (λ o. P o (over_of found)) both.0 holds)
