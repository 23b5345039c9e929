-- Which options are among words, and which command is called for with them.
use Rattle.std.proofs.Common.{◌≡◌, ◌+◌, ◌<◌, ℕ, Bool, List, [], ◌∷◌, ◌++◌, refl, sym, subst, ap, ◌∙◌, arith, inl, inr}
use Rattle.std.specs.Prelude.{◌⊎◌, Option, Some, None, IfNone, true, false, codes, if◌then◌else◌}
use Rattle.sy_commands.specs.Words.{AreGraphWords, AreOver, AreWithOptions, CallFor, OverSite, allows, is_any}
use Rattle.sy_report.specs.Words.{HaveOptions, IsSiteCommand, bare_of, is_option, once_if}
use Rattle.sy_report.specs.declared.command_line.command.Asked.{Asked}
use Rattle.sy_report.specs.declared.command_line.command.SiteCommand.{SiteCommand}
use Rattle.sy_report.specs.declared.command_line.options.Options.{Options}
use Rattle.sy_commands.specs.internal.Commands.{CallNamed, TakesOptions}
use Rattle.sy_commands.specs.Requests.{over}
use Rattle.sy_report.specs.Commands.{AreNoSiteCommand}
use Rattle.sy_commands.proofs.CommandWords.{one_question, replay_no_question, replay_or_verify, rest_same, verify_no_question, first_same, others_same}
use Rattle.sy_report.specs.declared.command_line.command.SiteCommand.TheVariants as of_site

-- ---- one word more

front_by : (is_it : Bool) (word : List ℕ) (rest : List (List ℕ))
    → (if is_it then rest else (word ∷ rest)) ≡ (if is_it then [] else (word ∷ [])) ++ rest
front_by true word rest = refl
front_by false word rest = refl

-- what is left of words is what is left of the first of them, and then what is left of the others
pub bare_front : (word : List ℕ) (rest : List (List ℕ)) → bare_of (word ∷ rest) ≡ bare_of (word ∷ []) ++ bare_of rest
bare_front word rest = front_by (is_option word) word (bare_of rest)

-- ---- each option once at most

pub not_twice : (n : ℕ) (b : Bool) → 1 < n → n ≡ once_if b → ⊥
not_twice n true more is = omega (arith, more, is)
not_twice n false more is = omega (arith, more, is)

same_flag : (a b : Bool) → once_if a ≡ once_if b → a ≡ b
same_flag true true e = refl
same_flag false false e = refl
same_flag true false e = absurd (omega (arith, e))
same_flag false true e = absurd (omega (arith, e))

pub make : Bool → Bool → Bool → Options
make explain all json = record { explain = explain; all = all; json = json }

pub same_options : (words : List (List ℕ)) (a b : Options) (bare others : List (List ℕ)) → HaveOptions words a bare → HaveOptions words b others → a ≡ b
unfolding make
same_options words a b bare others x y =
    let explain = same_flag a.explain b.explain (sym x.explain ∙ y.explain) in
    let all = same_flag a.all b.all (sym x.all ∙ y.all) in
    let json = same_flag a.json b.json (sym x.json ∙ y.json) in
    ap (λ e. make e a.all a.json) explain ∙ ap (λ l. make b.explain l a.json) all ∙ ap (λ j. make b.explain b.all j) json

-- ---- one command

same_ask : (a b : Asked) (s t : List ℕ) → (a ≡ b) × (s ≡ t) → OverSite.Ask a s ≡ OverSite.Ask b t
same_ask a b s t e = ap (λ q. OverSite.Ask q s) e.0 ∙ ap (OverSite.Ask b) e.1

-- the words fix what they call for
pub same_call : (words : List (List ℕ)) (a b : OverSite) → CallNamed a words → CallNamed b words → a ≡ b
same_call words (OverSite.Draw q s) b x y = absurd x
same_call words (OverSite.Ask q s) (OverSite.Draw p t) x y = absurd y
same_call words (OverSite.Replay s e) (OverSite.Draw p t) x y = absurd y
same_call words (OverSite.Verify s c) (OverSite.Draw p t) x y = absurd y
same_call words (OverSite.Ask q s) (OverSite.Ask p t) x y = same_ask q p s t (one_question q p s t (rest_same (sym x.words_are ∙ y.words_are)))
same_call words (OverSite.Ask q s) (OverSite.Replay t e) x y = absurd (replay_no_question q s t e (rest_same (sym x.words_are ∙ y.words_are)))
same_call words (OverSite.Ask q s) (OverSite.Verify t c) x y = absurd (verify_no_question q s t c (rest_same (sym x.words_are ∙ y.words_are)))
same_call words (OverSite.Replay s e) (OverSite.Ask p t) x y = absurd (replay_no_question p t s e (rest_same (sym y.words_are ∙ x.words_are)))
same_call words (OverSite.Replay s e) (OverSite.Replay t f) x y =
    let both = others_same (rest_same (sym x.words_are ∙ y.words_are)) in
    ap (λ n. OverSite.Replay n e) both.0 ∙ ap (OverSite.Replay t) both.1
same_call words (OverSite.Replay s e) (OverSite.Verify t c) x y = absurd (replay_or_verify (first_same (rest_same (sym x.words_are ∙ y.words_are))))
same_call words (OverSite.Verify s c) (OverSite.Ask p t) x y = absurd (verify_no_question p t s c (rest_same (sym y.words_are ∙ x.words_are)))
same_call words (OverSite.Verify s c) (OverSite.Replay t e) x y = absurd (replay_or_verify (first_same (rest_same (sym y.words_are ∙ x.words_are))))
same_call words (OverSite.Verify s c) (OverSite.Verify t d) x y =
    let both = others_same (rest_same (sym x.words_are ∙ y.words_are)) in
    ap (λ n. OverSite.Verify n c) both.0 ∙ ap (OverSite.Verify t) both.1

pub called : (words : List (List ℕ)) (command : SiteCommand) → IsSiteCommand words command → CallNamed (over command) words
called words (of_site.Ask question site) h = h
called words (of_site.Replay site events) h = h
called words (of_site.Verify site certificate) h = h

-- none is called for
pub none_called : (words : List (List ℕ)) → AreNoSiteCommand words → (command : OverSite) → CallNamed command words → ⊥
none_called words none (OverSite.Ask question site) h = none.no_asking question site h
none_called words none (OverSite.Replay site events) h = none.no_replay site events h
none_called words none (OverSite.Verify site certificate) h = none.no_verify site certificate h
none_called words none (OverSite.Draw class site) h = absurd h

-- with and without the program's name
pub named : (words bare : List (List ℕ)) → words ≡ codes "syc" ∷ bare → (command : OverSite) → CallFor command bare → CallNamed command words
named words bare is (OverSite.Ask question site) h = record { words_are = is ∙ ap (λ w. codes "syc" ∷ w) h.words_are; site_plain = h.site_plain }
named words bare is (OverSite.Replay site events) h =
    record { words_are = is ∙ ap (λ w. codes "syc" ∷ w) h.words_are; site_plain = h.site_plain; events_plain = h.events_plain }
named words bare is (OverSite.Verify site certificate) h =
    record { words_are = is ∙ ap (λ w. codes "syc" ∷ w) h.words_are; site_plain = h.site_plain; certificate_plain = h.certificate_plain }
named words bare is (OverSite.Draw class site) h = absurd h

unnamed : (words bare : List (List ℕ)) → words ≡ codes "syc" ∷ bare → (command : OverSite) → CallNamed command words → CallFor command bare
unnamed words bare is (OverSite.Ask question site) h = record { words_are = rest_same (sym is ∙ h.words_are); site_plain = h.site_plain }
unnamed words bare is (OverSite.Replay site events) h =
    record { words_are = rest_same (sym is ∙ h.words_are); site_plain = h.site_plain; events_plain = h.events_plain }
unnamed words bare is (OverSite.Verify site certificate) h =
    record { words_are = rest_same (sym is ∙ h.words_are); site_plain = h.site_plain; certificate_plain = h.certificate_plain }
unnamed words bare is (OverSite.Draw class site) h = absurd h

-- ---- with options

-- the words with options, from those without
pub with_options : (words all : List (List ℕ)) (options : Options) (command : OverSite) → all ≡ codes "syc" ∷ bare_of words
    → HaveOptions words options (bare_of words) → TakesOptions options all command → AreWithOptions words options command
with_options words all options command is have takes = record {
  bare = bare_of words;
  have = have;
  allowed = takes.allowed;
  call = unnamed all (bare_of words) is command takes.call;
}

-- and back
pub without_options : (words all : List (List ℕ)) (options given : Options) (command : OverSite) → all ≡ codes "syc" ∷ bare_of words
    → HaveOptions words given (bare_of words) → AreWithOptions words options command → TakesOptions given all command
without_options words all options given command is have are =
    let same = same_options words options given are.bare (bare_of words) are.have have in
    record {
      call = named all are.bare (is ∙ ap (λ w. codes "syc" ∷ w) (sym are.have.bare_are)) command are.call;
      allowed = subst (λ o. allows o command ≡ true) same are.allowed;
    }

-- a drawing is none of these commands
pub over_site : (words : List (List ℕ)) (options : Options) (command : SiteCommand) → AreWithOptions words options (over command)
    → AreOver words options (over command)
over_site words options (of_site.Ask question site) are = are
over_site words options (of_site.Replay site events) are = are
over_site words options (of_site.Verify site certificate) are = are

pub over_any : (words : List (List ℕ)) (options : Options) (command : OverSite) → AreWithOptions words options command → AreOver words options command
over_any words options (OverSite.Ask question site) are = are
over_any words options (OverSite.Replay site events) are = are
over_any words options (OverSite.Verify site certificate) are = are
over_any words options (OverSite.Draw class site) are = absurd are.call

-- the words of a drawing
pub record AreDrawing (words : List (List ℕ)) (options : Options) (command : OverSite) : Type 0 where
  pub class : Option (List ℕ)
  pub site : List ℕ
  pub command_is : command ≡ OverSite.Draw class site
  pub none : is_any options ≡ false
  pub words_are : AreGraphWords class words site

pub either : (words : List (List ℕ)) (options : Options) (command : OverSite) → AreOver words options command
    → AreWithOptions words options command ⊎ AreDrawing words options command
either words options (OverSite.Ask question site) are = inl are
either words options (OverSite.Replay site events) are = inl are
either words options (OverSite.Verify site certificate) are = inl are
either words options (OverSite.Draw class site) are = inr (record { class = class; site = site; command_is = refl; none = are.0; words_are = are.1 })

pub none_on : {X P Q : Type 0} (r : Option X) → IfNone r P → (P → Q) → IfNone r Q
none_on (Some x) h f = tt
none_on None h f = f h
