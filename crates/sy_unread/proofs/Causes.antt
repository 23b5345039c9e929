-- Why a read fails, and that turns that go on come to an end.
use Rattle.std.proofs.Common.{◌≡◌, ℕ, ◌+◌, ◌*◌, ◌≤◌, ◌⊎◌, inl, inr, refl, ◌∙◌, arith}
use Rattle.std.specs.Prelude.{Option}
use Rattle.sy_wire.specs.Streams.{Rose, count_after}
use Rattle.sy_unread.specs.Skipping.{At, HasCause, Refuses}
use Rattle.sy_unread.specs.internal.Fronts.{Nears, rank, turns_left}
use Rattle.sy_unread.specs.declared.skipping.place.Place.{Place}
use Rattle.sy_unread.specs.declared.skipping.place.Place.TheVariants.{Within, WithinLong, Unframed}

rank_most : (place : Place) → rank place ≤ 2
rank_most Unframed = omega arith
rank_most (Within n) = omega arith
rank_most (WithinLong n) = omega arith

-- turns that went on
pub record Going (f f' c c' : ℕ) (r r' : Option ℕ) (first now : At) (turns : ℕ) : Type 0 where
  pub faults : f ≤ f'
  pub refused : r' ≡ r
  pub reads : ℕ
  pub called : count_after c reads ≤ c'
  pub few : turns + turns_left now ≤ turns_left first + 131095 * reads

pub none_went : (f c : ℕ) (r : Option ℕ) (at : At) → Going f f c c r r at at 0
none_went f c r at = record { faults = omega arith; refused = refl; reads = 0; called = omega arith; few = omega arith }

pub one_more :
    (f f' f'' c c' c'' : ℕ) (r r' r'' : Option ℕ) (first at at' : At) (turns : ℕ)
    → Going f f' c c' r r' first at turns → (f' ≤ f'') × (r'' ≡ r') × Nears at at' c' c'' → Going f f'' c c'' r r'' first at' (turns + 1)
one_more f f' f'' c c' c'' r r' r'' first at at' turns so_far (faults, same, inl less) = record {
  faults = omega (arith, so_far.faults, faults);
  refused = same ∙ so_far.refused;
  reads = so_far.reads;
  called = omega (arith, so_far.called, less.0);
  few = omega (arith, so_far.few, less.1);
}
one_more f f' f'' c c' c'' r r' r'' first at at' turns so_far (faults, same, inr read) = record {
  faults = omega (arith, so_far.faults, faults);
  refused = same ∙ so_far.refused;
  reads = so_far.reads + 1;
  called = omega (arith, so_far.called, read.0);
  few = omega (arith, so_far.few, read.1);
}

refuses_at : (r r' r'' : Option ℕ) → r' ≡ r → Refuses r' r'' → Refuses r r''
refuses_at r r' r'' same refused = rw (← same) refused

pub fails_then :
    (f f' f'' c c' c'' : ℕ) (r r' r'' : Option ℕ) (first at : At) (turns : ℕ)
    → Going f f' c c' r r' first at turns → Rose f' f'' ⊎ Refuses r' r'' → HasCause first f f'' c c'' r r''
fails_then f f' f'' c c' c'' r r' r'' first at turns so_far (inl (inl more)) = inl (inl (omega (arith, so_far.faults, more)))
fails_then f f' f'' c c' c'' r r' r'' first at turns so_far (inl (inr most)) = inl (inr most)
fails_then f f' f'' c c' c'' r r' r'' first at turns so_far (inr refused) = inr (inl (refuses_at r r' r'' so_far.refused refused))

pub no_end :
    (f f' c c' : ℕ) (r r' : Option ℕ) (first at : At) (turns : ℕ)
    → 18446744073709551615 ≤ turns → Going f f' c c' r r' first at turns → HasCause first f f' c c' r r'
no_end f f' c c' r r' first at turns all so_far =
    let two : rank first.place ≤ 2 = rank_most first.place in
    inr (inr (so_far.reads, so_far.called, omega (arith, all, so_far.few, two)))
