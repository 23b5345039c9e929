-- What the lists of a file execute is there: a run's action, and a post's list.
use Rattle.std.proofs.Common.{◌≡◌, ℕ, zero, suc, ◌+◌, ◌≤◌, ◌<◌, Bool, true, false, if◌then◌else◌, List, [], ◌∷◌, ◌++◌, length, slice_get, Option, Some, None, is_some, refl, arith}
use Rattle.std.proofs.lemmas.List.{length-append}
use Rattle.std.specs.List.{AllByRecursion}
use Rattle.sy_rules.specs.Limits.{CALL_DEPTH}
use Rattle.sy_rules.specs.declared.parameters.objects.ActionParameters.{ActionParameters}
use Rattle.sy_rules.specs.declared.lists.occurrence.Occurrence.{Occurrence}
use Rattle.sy_rules.specs.declared.lists.occurrence.Occurrence.TheVariants as occurrence
use Rattle.sy_rules.specs.lists.Lines.{File, Lines, ◌⧻◌, list_of_action, action_has_queue, line_of_action, is_queued_ruleset, call_at, ruleset_names, lines, outside, inside, singles, lists_of, expand, list_at, expanded, body_of}
use Rattle.sy_rules.specs.parts.Plans.{place_of}
use Rattle.sy_rules.specs.lists.Body.{Body, ◌⧺◌, occurrences}
use Rattle.sy_rules.specs.lists.Texts as text
use Rattle.sy_rules.specs.lists.Texts.{Text, Part}
use Rattle.sy_rules.proofs.lemmas.items.TextItems.{actions_in}
use Rattle.sy_rules.proofs.lemmas.parts.WholeItems.{all-append}

module _ (P : Occurrence → Type 0) where
  -- of the lines of a list, those that are called left out
  abbrev pub AllLines : Lines → Type 0
  AllLines Lines.End = Unit {0}
  AllLines (Lines.Run a rest) = P (occurrence.Run a) × AllLines rest
  AllLines (Lines.Post l rest) = P (occurrence.Post l) × AllLines rest
  AllLines (Lines.Call l rest) = AllLines rest
  AllLines (Lines.Stop rest) = AllLines rest
  AllLines (Lines.If x done otherwise rest) = AllLines done × AllLines otherwise × AllLines rest

  abbrev AllBodies : Body → Type 0
  AllBodies s = AllByRecursion P (occurrences s)

  -- ---- expansion

  split-append : (xs ys : List Occurrence) → AllByRecursion P (xs ++ ys) → AllByRecursion P xs × AllByRecursion P ys
  split-append [] ys p = (tt, p)
  split-append (x ∷ xs) ys p =
      let rest = split-append xs ys p.1 in
      ((p.0, rest.0), rest.1)

  statements_behind : (s after : Body) → AllBodies s → AllBodies after → AllBodies (s ⧺ after)
  statements_behind Body.End after p q = q
  statements_behind (Body.Run a rest) after p q = (p.0, statements_behind rest after p.1 q)
  statements_behind (Body.Post l rest) after p q = (p.0, statements_behind rest after p.1 q)
  statements_behind (Body.Stop rest) after p q = statements_behind rest after p q
  statements_behind (Body.If x done otherwise rest) after p q =
      let front = split-append (occurrences done) (occurrences otherwise ++ occurrences rest) p in
      let rear = split-append (occurrences otherwise) (occurrences rest) front.1 in
      all-append P (occurrences done) _ front.0 (all-append P (occurrences otherwise) _ rear.0 (statements_behind rest after rear.1 q))

  expand_all : (become : ℕ → Body) → ((l : ℕ) → AllBodies (become l)) → (x : Lines) → AllLines x → AllBodies (expand become x)
  expand_all become known Lines.End p = tt
  expand_all become known (Lines.Run a rest) p = (p.0, expand_all become known rest p.1)
  expand_all become known (Lines.Post l rest) p = (p.0, expand_all become known rest p.1)
  expand_all become known (Lines.Call l rest) p = statements_behind (become l) (expand become rest) (known l) (expand_all become known rest p)
  expand_all become known (Lines.Stop rest) p = expand_all become known rest p
  expand_all become known (Lines.If x done otherwise rest) p =
      all-append P (occurrences (expand become done)) _ (expand_all become known done p.0)
      (all-append P (occurrences (expand become otherwise)) _ (expand_all become known otherwise p.1) (expand_all become known rest p.2))

  list_at_all : (lists : List Lines) (l : ℕ) → AllByRecursion AllLines lists → AllLines (list_at lists l)
  list_at_all [] l p = tt
  list_at_all (x ∷ lists) zero p = p.0
  list_at_all (x ∷ lists) (suc l) p = list_at_all lists l p.1

  expanded_all : (lists : List Lines) → AllByRecursion AllLines lists → (depth l : ℕ) → AllBodies (expanded lists depth l)
  expanded_all lists p zero l = expand_all (λ callee. Body.End) (λ callee. tt) (list_at lists l) (list_at_all lists l p)
  expanded_all lists p (suc depth) l = expand_all (expanded lists depth) (expanded_all lists p depth) (list_at lists l) (list_at_all lists l p)

  -- ---- the lines of a file

  lines_behind : (x after : Lines) → AllLines x → AllLines after → AllLines (x ⧻ after)
  lines_behind Lines.End after p q = q
  lines_behind (Lines.Run a rest) after p q = (p.0, lines_behind rest after p.1 q)
  lines_behind (Lines.Post l rest) after p q = (p.0, lines_behind rest after p.1 q)
  lines_behind (Lines.Call l rest) after p q = lines_behind rest after p q
  lines_behind (Lines.Stop rest) after p q = lines_behind rest after p q
  lines_behind (Lines.If x done otherwise rest) after p q = (p.0, p.1, lines_behind rest after p.2 q)

  module _ (file : File)
      (runs : (a : ℕ) → a < length file.actions → P (occurrence.Run a))
      (posts : (a : ℕ) → a < length file.actions → action_has_queue (slice_get file.actions a) ≡ true → P (occurrence.Post (list_of_action file a)))
      (calls : (place : ℕ) → is_queued_ruleset (slice_get file.rulesets place) ≡ true → P (occurrence.Post (place + 1))) where
    action_all : (a : ℕ) (rest : Lines) → a < length file.actions → AllLines rest → AllLines (line_of_action file a rest)
    action_all a rest le p = by_case (action_has_queue (slice_get file.actions a)) refl
      where
        by_case : (b : Bool) → action_has_queue (slice_get file.actions a) ≡ b → AllLines (if b then Lines.Post (list_of_action file a) rest else Lines.Run a rest)
        by_case true e = (posts a le e, p)
        by_case false e = (runs a le, p)

    call_all : (o : Option ℕ) (rest : Lines) → AllLines rest → AllLines (call_at file o rest)
    call_all None rest p = p
    call_all (Some place) rest p = by_case (is_queued_ruleset (slice_get file.rulesets place)) refl
      where
        by_case : (b : Bool) → is_queued_ruleset (slice_get file.rulesets place) ≡ b → AllLines (if b then Lines.Post (place + 1) rest else Lines.Call (place + 1) rest)
        by_case true e = (calls place e, p)
        by_case false e = p

    lines_all : (a t : ℕ) (x : Text) → a + length (text.actions x) ≤ length file.actions → AllLines (lines file a t x)
    lines_all a t Text.End le = tt
    lines_all a t (Text.Action params rest) le = action_all a (lines file (a + 1) t rest) (omega (arith, le)) (lines_all (a + 1) t rest (omega (arith, le)))
    lines_all a t (Text.Call name rest) le = call_all (place_of name (ruleset_names file)) (lines file a t rest) (lines_all a t rest le)
    lines_all a t (Text.Stop rest) le = lines_all a t rest le
    lines_all a t (Text.If test done otherwise rest) le =
        let whole = length-append (text.actions done) (text.actions otherwise ++ text.actions rest) in
        let rear = length-append (text.actions otherwise) (text.actions rest) in (
          lines_all a (t + 1) done (omega (arith, le, whole)),
          lines_all (a + length (text.actions done)) (t + 1 + length (text.tests done)) otherwise (omega (arith, le, whole, rear)),
          lines_all (a + length (text.actions done) + length (text.actions otherwise)) (t + 1 + length (text.tests done) + length (text.tests otherwise)) rest (omega (arith, le, whole, rear)),
        )

    outside_all : (a t : ℕ) (ps : List Part) → a + actions_in ps ≤ length file.actions → AllLines (outside file a t ps)
    outside_all a t [] le = tt
    outside_all a t (Part.Outside x ∷ later) le =
        lines_behind (lines file a t x) _ (lines_all a t x (omega (arith, le))) (outside_all (a + length (text.actions x)) (t + length (text.tests x)) later (omega (arith, le)))
    outside_all a t (Part.Inside x ∷ later) le = outside_all (a + length (text.actions x)) (t + length (text.tests x)) later (omega (arith, le))

    inside_all : (a t : ℕ) (ps : List Part) → a + actions_in ps ≤ length file.actions → AllByRecursion AllLines (inside file a t ps)
    inside_all a t [] le = tt
    inside_all a t (Part.Outside x ∷ later) le = inside_all (a + length (text.actions x)) (t + length (text.tests x)) later (omega (arith, le))
    inside_all a t (Part.Inside x ∷ later) le =
        (lines_all a t x (omega (arith, le)), inside_all (a + length (text.actions x)) (t + length (text.tests x)) later (omega (arith, le)))

    single : (b : Bool) (number : ℕ) (rest : List Lines) → P (occurrence.Run number) → AllByRecursion AllLines rest → AllByRecursion AllLines (if b then Lines.Run number Lines.End ∷ rest else rest)
    single true number rest p q = ((p, tt), q)
    single false number rest p q = q

    singles_all : (number : ℕ) (actions : List ActionParameters) → number + length actions ≤ length file.actions → AllByRecursion AllLines (singles number actions)
    singles_all number [] le = tt
    singles_all number (a ∷ later) le = single (is_some a.queue) number (singles (number + 1) later) (runs number (omega (arith, le))) (singles_all (number + 1) later (omega (arith, le)))

    pub lists_all : (ps : List Part) → actions_in ps ≡ length file.actions → AllByRecursion AllLines (lists_of file ps)
    lists_all ps e = (
      outside_all 0 0 ps (omega (arith, e)),
      all-append AllLines (inside file 0 0 ps) (singles 0 file.actions) (inside_all 0 0 ps (omega (arith, e))) (singles_all 0 file.actions (omega arith)),
    )

    pub bodies_all : (ps : List Part) → actions_in ps ≡ length file.actions → (l : ℕ) → AllByRecursion P (occurrences (body_of (lists_of file ps) l))
    bodies_all ps e l = expanded_all (lists_of file ps) (lists_all ps e) CALL_DEPTH l
