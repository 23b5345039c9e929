-- The messages that are given at once are those of the worker's jobs, one after the other.
use Rattle.std.proofs.Common.{◌≡◌, ℕ, ◌-◌, ◌<◌, List, [], ◌∷◌, length, refl, sym, subst, ap, ◌∙◌, arith, inl, inr}
use Rattle.std.specs.Prelude.{◌⊎◌, ◌≢◌}
use Rattle.sy_wire.specs.Messages.{Said}
use Rattle.sy_chain.specs.Entries.{Entry}
use Rattle.sy_rules.specs.declared.lists.occurrence.Occurrence.TheVariants as occurrence
use Rattle.sy_rules.specs.PlanValue.{Plan}
use Rattle.sy_board.specs.relay.Cells.{Cell, IsShaped, RelayState, at}
use Rattle.sy_board.specs.relay.Runs.{AreRuns, BeginsWith}
use Rattle.sy_board.specs.relay.Steps.{Job, Settles, still}
use Rattle.sy_board.proofs.relay.Outcomes.{jobs_same}
use Rattle.sy_board.proofs.relay.SetCells.{set_same}

tail_is : (a b : Entry) (more others : List Entry) → a ∷ more ≡ b ∷ others → more ≡ others
tail_is a b more others e = cc

head_said : (a b : Said) (more others : List Said) → a ∷ more ≡ b ∷ others → a ≡ b
head_said a b more others e = cc

tail_said : (a b : Said) (more others : List Said) → a ∷ more ≡ b ∷ others → more ≡ others
tail_said a b more others e = cc

-- the first of the runs, and what stands behind it
record Begun (plan : Plan) (action most : ℕ) (entries : List Entry) (m : Said) (ms : List Said) : Type 0 where
  pub entry : Entry
  pub others : List Entry
  pub are : entries ≡ entry ∷ others
  pub left : ℕ
  pub begins : BeginsWith plan action entry left
  pub its : entry.message ≡ m
  pub ends : left ≢ 0 → ms ≡ []
  pub goes_on : left ≡ 0 → AreRuns plan action (most - 1) others ms

begun : (plan : Plan) (action most : ℕ) (entries : List Entry) (m : Said) (ms : List Said) → AreRuns plan action most entries (m ∷ ms) → Begun plan action most entries m ms
begun plan action ℕ.zero entries m ms runs = cc
begun plan action (ℕ.suc most) [] m ms runs = cc
begun plan action (ℕ.suc most) (e ∷ others) m ms runs = elim runs [
  | inl none ↦ (let no = none.1 in cc)
  | inr some ↦ record {
    entry = e;
    others = others;
    are = refl;
    left = some.0;
    begins = some.2;
    its = sym (head_said m e.message ms some.1 some.3);
    ends = λ n. tail_said m e.message ms some.1 some.3 ∙ some.4 n;
    goes_on = λ z.
        let less : most ≡ ℕ.suc most - 1 = omega arith in
        subst (λ n. AreRuns plan action n others ms) less (subst (AreRuns plan action most others) (sym (tail_said m e.message ms some.1 some.3)) (some.5 z));
  }
]

module _ (plan : Plan) (state : RelayState) (worker action most : ℕ) (m : Said) (ms : List Said) (there : worker < length plan.workers)
    (runs : AreRuns plan action most (at state (Cell.Worker worker)) (m ∷ ms)) where
  first : Begun plan action most (at state (Cell.Worker worker)) m ms
  first = begun plan action most (at state (Cell.Worker worker)) m ms runs

  job : Job plan state worker (occurrence.Run action)
  job = record {
    there = there;
    entry = first.entry;
    others = first.others;
    held = first.are;
    number = first.begins.number;
    left = first.left;
    first = first.begins.first;
    found = first.begins.found;
  }

  pub run_is_job : (is : Job plan state worker (occurrence.Run action)) × (is.entry.message ≡ m)
  unfolding job first
  run_is_job = (job, first.its)

  pub runs_go_on : IsShaped plan state → (entry : Entry) (new : RelayState) → Settles plan state worker action entry new
      → (ms ≡ []) ⊎ AreRuns plan action (most - 1) (at new (Cell.Worker worker)) ms
  unfolding job first
  runs_go_on shaped entry new settles = go first.left refl
    where
      go : (left : ℕ) → first.left ≡ left → (ms ≡ []) ⊎ AreRuns plan action (most - 1) (at new (Cell.Worker worker)) ms
      go (ℕ.suc n) is = inl (first.ends (λ z. absurd (let no = sym is ∙ z in omega (arith, no))))
      go ℕ.zero is =
          let one = jobs_same plan state worker (occurrence.Run action) (occurrence.Run action) settles.job job in
          let others : settles.job.others ≡ first.others = tail_is settles.job.entry first.entry settles.job.others first.others (sym settles.job.held ∙ first.are) in
          let left : settles.job.left ≡ 0 = one.2 ∙ is in
          let within : worker < length state.workers = (let sizes = shaped.workers in omega (arith, there, sizes)) in
          let here : at new (Cell.Worker worker) ≡ first.others =
          ap (λ (s : RelayState). at s (Cell.Worker worker)) settles.after
          ∙ set_same state.workers worker (still settles.job.entry settles.job.left settles.job.others) [] within
          ∙ ap (λ l. still settles.job.entry l settles.job.others) left ∙ others in
          inr (subst (λ es. AreRuns plan action (most - 1) es ms) (sym here) (first.goes_on is))
