-- Sites of which no queue discards messages.
use Rattle.std.proofs.Common.{◌≡◌, ℕ, suc, ◌<◌, ◌≤◌, ◌&&◌, ◌||◌, Bool, true, false, List, [], ◌∷◌, length, get_or, Some, None, refl, sym, ◌∙◌, arith, lt-ltb, subst}
use Rattle.std.specs.Prelude.{Option, nat_lt, slice_get}
use Rattle.std.specs.List.{list_any}
use Rattle.std.proofs.lemmas.Bool.{false≢true}
use Rattle.std.proofs.lemmas.Option.{slice_get_within}
use Rattle.sy_wire.specs.declared.class.Class.{Class}
use Rattle.sy_rules.specs.declared.parameters.settings.QueueParameters.{QueueParameters}
use Rattle.sy_board.specs.relay.Kinds.{MayDiscard}
use Rattle.sy_board.specs.relay.Plans.{parameters_at}
use Rattle.sy_site.specs.Sites.{Relay, Site, plan_at, plan_in}
use Rattle.sy_checker.specs.internal.Discarding.{DiscardsNone, discards}

first_false : (a b : Bool) → (a || b) ≡ false → a ≡ false
first_false false b e = refl
first_false true b e = e

second_false : (a b : Bool) → (a || b) ≡ false → b ≡ false
second_false false b e = e
second_false true b e = absurd (false≢true (sym e))

-- where none of a list has it, none has it that is read there, nor the one that is read past its end
none_at : {A : Type 0} (p : A → Bool) (xs : List A) (d : A) → list_any p xs ≡ false → p d ≡ false → (k : ℕ) → p (get_or xs k d) ≡ false
none_at p [] d e off k = off
none_at p (x ∷ xs) d e off ℕ.zero = first_false (p x) (list_any p xs) e
none_at p (x ∷ xs) d e off (suc k) = none_at p xs d (second_false (p x) (list_any p xs) e) off k

both : (a b : Bool) → a ≡ true → b ≡ true → (a && b) ≡ true
both true b first second = second
both false b first second = first

may_not : (queue : QueueParameters) (severity : ℕ) → severity < 8 → queue.discard_severity ≤ severity → 0 < queue.discard_mark → discards queue ≡ true
may_not queue severity small severe on =
    both (nat_lt queue.discard_severity 8) (nat_lt 0 queue.discard_mark) (lt-ltb queue.discard_severity 8 (omega (arith, small, severe)))
    (lt-ltb 0 queue.discard_mark on)

pub discards_none : (site : Site) (relays : ℕ) → length site.relays ≤ relays
    → ((k : ℕ) → k < relays → list_any discards (plan_at site k).queues ≡ false) → DiscardsNone site
discards_none site relays all none relay queue class small may =
    false≢true (sym (off relay) ∙ may_not (parameters_at (plan_at site relay) queue) class.severity small may.severe may.on)
  where
    by_relay : (k : ℕ) (r : Option Relay) → slice_get site.relays k ≡ r → list_any discards (plan_at site k).queues ≡ false
    by_relay k None is = subst (λ r. list_any discards (plan_in r).queues ≡ false) (sym is) refl
    by_relay k (Some r) is = none k (let low = slice_get_within site.relays k r is in omega (arith, low, all))

    off : (k : ℕ) → discards (parameters_at (plan_at site k) queue) ≡ false
    off k = none_at discards (plan_at site k).queues _ (by_relay k (slice_get site.relays k) refl) refl queue
