use Rattle.std.proofs.Common.{rules, ◌≡◌, List, ℕ, map, IfSome, IfNone, sym, subst}
use Rattle.sy_journal.specs.Segment.{AreBatches}
use Rattle.sy_journal.proofs.Segments.{opens_read}
use Rattle.sy_journal.proofs.Moments.{started, goes_on}
use Rattle.sy_journal.proofs.segment.recover_segment.Goals as goal

pub returns-in_default-clause-none : goal.returns-in_default-clause-none
returns-in_default-clause-none g c es stands =
    let opens = opens_read (g.S.Storage.seen c.args.log.now) (g.S.Storage.seen c.args.finishes.now) (map (λ v. v.items) c.in_ok-found.found.contents.items) es c.in_ok-found.ensures.contents stands in
    let given : AreBatches (map (λ v. v.items) c.deref.result.now) es = subst (λ l. AreBatches (map (λ v. v.items) l) es) (sym c.deref.ensures.value) opens in
    let none : IfNone c.in_ok-entries.field-0 ⊥ = c.in_ok-entries.ensures.none es given in
    search (rules, none)

pub returns-clause-entries : goal.returns-clause-entries
returns-clause-entries g c es stands =
    let opens = opens_read (g.S.Storage.seen c.args.log.now) (g.S.Storage.seen c.args.finishes.now) (map (λ v. v.items) c.in_ok-found.found.contents.items) es c.in_ok-found.ensures.contents stands in
    let given : AreBatches (map (λ v. v.items) c.deref.result.now) es = subst (λ l. AreBatches (map (λ v. v.items) l) es) (sym c.deref.ensures.value) opens in
    let some : IfSome c.in_ok-entries.field-0 (λ entries. map (λ v. v.items) entries.items ≡ es) = c.in_ok-entries.ensures.some es given in
    search (rules, some)

pub returns-in_err-found-clause-finishes_any_moment : goal.returns-in_err-found-clause-finishes_any_moment
returns-in_err-found-clause-finishes_any_moment g c =
    let P : List ℕ → Type 0 = λ f. f ≡ g.S.Storage.seen c.args.finishes.now in
    let s0 = started g.S.Storage.moment g.S.Storage.left_since c.args.finishes.now P (λ f left. c.requires.finishes f (g.met.S.Storage.only_now c.args.finishes.now f left)) in
    s0

pub returns-in_err-entries-clause-finishes_any_moment : goal.returns-in_err-entries-clause-finishes_any_moment
returns-in_err-entries-clause-finishes_any_moment g c =
    let P : List ℕ → Type 0 = λ f. f ≡ g.S.Storage.seen c.args.finishes.now in
    let s0 = started g.S.Storage.moment g.S.Storage.left_since c.args.finishes.now P (λ f left. c.requires.finishes f (g.met.S.Storage.only_now c.args.finishes.now f left)) in
    s0

pub returns-in_default-clause-finishes_any_moment : goal.returns-in_default-clause-finishes_any_moment
returns-in_default-clause-finishes_any_moment g c =
    let P : List ℕ → Type 0 = λ f. f ≡ g.S.Storage.seen c.args.finishes.now in
    let s0 = started g.S.Storage.moment g.S.Storage.left_since c.args.finishes.now P (λ f left. c.requires.finishes f (g.met.S.Storage.only_now c.args.finishes.now f left)) in
    s0

pub returns-in_err-set-clause-finishes_any_moment : goal.returns-in_err-set-clause-finishes_any_moment
returns-in_err-set-clause-finishes_any_moment g c =
    let P : List ℕ → Type 0 = λ f. f ≡ g.S.Storage.seen c.args.finishes.now in
    let s0 = started g.S.Storage.moment g.S.Storage.left_since c.args.finishes.now P (λ f left. c.requires.finishes f (g.met.S.Storage.only_now c.args.finishes.now f left)) in
    goes_on g.S.Storage.moment g.S.Storage.left_since c.args.finishes.now c.args.finishes.now c.read.new.self P _ s0 c.read.ensures.time (λ f now. c.requires.finishes f (c.read.ensures.crash f now))

pub returns-clause-finishes_any_moment : goal.returns-clause-finishes_any_moment
returns-clause-finishes_any_moment g c =
    let P : List ℕ → Type 0 = λ f. f ≡ g.S.Storage.seen c.args.finishes.now in
    let s0 = started g.S.Storage.moment g.S.Storage.left_since c.args.finishes.now P (λ f left. c.requires.finishes f (g.met.S.Storage.only_now c.args.finishes.now f left)) in
    goes_on g.S.Storage.moment g.S.Storage.left_since c.args.finishes.now c.args.finishes.now c.read.new.self P _ s0 c.read.ensures.time (λ f now. c.requires.finishes f (c.read.ensures.crash f now))
