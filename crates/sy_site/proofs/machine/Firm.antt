-- Entries that aren't flagged, of copies of a class that came in at entries: each is where its input put it, or a post. Nothing that no finding holds
-- of loses them.
use Rattle.std.proofs.Common.{◌≡◌, ℕ, ◌*◌, ◌+◌, ◌≤◌, true, sym, subst, inl, inr}
use Rattle.std.specs.Prelude.{◌⊎◌}
use Rattle.sy_wire.specs.declared.class.Class.{Class}
use Rattle.sy_chain.specs.Entries.{Entry}
use Rattle.sy_marks.specs.declared.marks.Flow.{Flow}
use Rattle.sy_marks.specs.Marks.{discards}
use Rattle.sy_rules.specs.declared.lists.occurrence.Occurrence.TheVariants as occurrence
use Rattle.sy_rules.specs.Whole.{queue_for}
use Rattle.sy_board.specs.relay.Cells.{Cell, hand}
use Rattle.sy_board.specs.relay.Feeders.{OnlyFullDelay}
use Rattle.sy_board.specs.relay.Kinds.{MayLose}
use Rattle.sy_board.specs.relay.Plans.{flow_at, marks_at, parameters_at, post_flow, queue_of_input}
use Rattle.sy_board.specs.relay.Spares.{Scope, own, posted}
use Rattle.sy_board.specs.relay.Steps.{IsHand}
use Rattle.sy_board.proofs.relay.Guards.{clean_discards, clean_input, clean_mark, same_input}
use Rattle.sy_site.specs.Sites.{Site, SiteInput, plan_at, spares_at}
use Rattle.sy_site.specs.machine.Confinement.{IsOfAPost, IsOfItsInput, IsPlaceOf, IsPlaceOfList}
use Rattle.sy_site.specs.machine.Findings.{Kind}
use Rattle.sy_site.specs.machine.Reach.{Follows, MayDo, Reach}
use Rattle.sy_site.specs.machine.Soundness.{IsSoundFor}
use Rattle.sy_site.proofs.machine.Guards.{clean_in_plan}

abbrev pub input_on : ℕ → ℕ → SiteInput
input_on r i = record { relay = r; input = i }

module _ (site : Site) (class : Class) where
  -- its input put it there, or a post
  abbrev pub Placed : ℕ → Cell → Entry → Type 0
  Placed r p e = IsOfItsInput (plan_at site r) p e ⊎ IsOfAPost site class r p e

  -- it is where it may be, and its input is reached without spare occurrences
  pub record FirmEntry (r : ℕ) (p : Cell) (e : Entry) : Type 0 where
    pub reach : Reach site class Scope.Firm (record { relay = r; input = e.input })
    pub of : Placed r p e

  pub at_list : (r : ℕ) (p : Cell) (e : Entry) → FirmEntry r p e → Follows site class Scope.Firm (input_on r e.input) e.list
  at_list r p e here = elim here.of [
    | inl its ↦ subst (Follows site class Scope.Firm (input_on r e.input)) (sym its.list) own
    | inr post ↦ posted post.number post.follows post.does
  ]

  -- one that stays where it is, or goes on from there
  pub moved : (r : ℕ) (p q : Cell) (e : Entry) → (IsPlaceOf (plan_at site r) p e.input → IsPlaceOf (plan_at site r) q e.input)
      → (IsPlaceOfList (plan_at site r) p e.list → IsPlaceOfList (plan_at site r) q e.list) → FirmEntry r p e → FirmEntry r q e
  moved r p q e from_input from_post here = record {
    reach = here.reach;
    of = elim here.of [
      | inl its ↦ inl (record { place = from_input its.place; list = its.list })
      | inr post ↦ inr (record {
        place = from_post post.place;
        before = post.before;
        follows = post.follows;
        number = post.number;
        does = post.does;
        keeps = post.keeps;
      })
    ];
  }

  pub left_with : (r : ℕ) (p : Cell) (e : Entry) (left : ℕ) → FirmEntry r p e → FirmEntry r p (record e { due = left })
  left_with r p e left here = record {
    reach = here.reach;
    of = elim here.of [
      | inl its ↦ inl (record { place = its.place; list = its.list })
      | inr post ↦ inr (record {
        place = post.place;
        before = post.before;
        follows = post.follows;
        number = post.number;
        does = post.does;
        keeps = post.keeps;
      })
    ];
  }

  -- one in a hand is its input's
  in_its_hand : (r k : ℕ) (e : Entry) → FirmEntry r (Cell.Hand k) e → IsOfItsInput (plan_at site r) (Cell.Hand k) e
  in_its_hand r k e here = elim here.of [ inl its ↦ its | inr post ↦ absurd post.place ]

  -- an entry in a hand, which isn't flagged
  pub in_hand : (r i h : ℕ) (e : Entry) → IsHand (plan_at site r) i h → FirmEntry r (hand i h) e → Reach site class Scope.Firm (input_on r i)
  in_hand r i h e there f =
      let place = (in_its_hand r (64 * i + h) e f).place in
      let same = same_input (plan_at site r) i h e.input place.0 there place.1 place.2 in
      subst (λ j. Reach site class Scope.Firm (record { relay = r; input = j })) same f.reach

  -- ---- what may be lost

  -- a feeder of the queue that waits so may lose a message of the class
  abbrev pub Loses : ℕ → ℕ → Flow → Type 0
  Loses r q waits = MayLose (plan_at site r) class q waits

  abbrev pub LosesPost : ℕ → ℕ → Type 0
  LosesPost r l = Loses r (queue_for (plan_at site r) l) (post_flow (plan_at site r) (queue_for (plan_at site r) l))

  -- a queue of a feeder that loses none never discards a message of the class, where it is within its mark
  pub never_discards : (r q : ℕ) (waits : Flow) → (Loses r q waits → ⊥) → (n : ℕ) → (OnlyFullDelay (plan_at site r) q
      → 1 ≤ (parameters_at (plan_at site r) q).full_delay_mark → n ≤ (parameters_at (plan_at site r) q).full_delay_mark)
      → discards (marks_at (plan_at site r) q) class.severity n ≡ true → ⊥
  never_discards r q waits clean n within =
      clean_discards (plan_at site r) class q waits clean n (λ only. within only (clean_mark (plan_at site r) class q waits clean))

  -- ---- and isn't, where there is no finding

  module _ (sound : IsSoundFor site class) where
    pub clean_at : (i : SiteInput) → Reach site class Scope.Firm i
        → Loses i.relay (queue_of_input (plan_at site i.relay) i.input) (flow_at (plan_at site i.relay) i.input) → ⊥
    clean_at i reach = clean_input (plan_at site i.relay) (spares_at site i.relay) class i.input (clean_in_plan site class sound i reach)

    -- what may be lost of a post of it is a finding
    pub post_keeps : (r : ℕ) (p : Cell) (e : Entry) (number l : ℕ) → FirmEntry r p e → MayDo site class Scope.Firm r e.list number (occurrence.Post l)
        → LosesPost r l → ⊥
    post_keeps r p e number l here does loses =
        sound.clean (input_on r e.input) here.reach Kind.InnerQueue
        (record { list = e.list; follows = at_list r p e here; number = number; to = l; does = does; loses = loses })

    -- what put it into a queue loses none there
    pub queue_keeps : (r q : ℕ) (e : Entry) → FirmEntry r (Cell.Queue q) e → (waits : Flow) × (Loses r q waits → ⊥)
    queue_keeps r q e here = elim here.of [
      | inl its ↦ (
        flow_at (plan_at site r) e.input,
        subst (λ z. Loses r z (flow_at (plan_at site r) e.input) → ⊥) its.place (clean_at (input_on r e.input) here.reach),
      )
      | inr post ↦ (
        post_flow (plan_at site r) (queue_for (plan_at site r) e.list),
        subst (λ z. Loses r z (post_flow (plan_at site r) (queue_for (plan_at site r) e.list)) → ⊥) post.place post.keeps,
      )
    ]
