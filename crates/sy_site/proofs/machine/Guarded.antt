-- A copy of a class that came in at an entry: where it is, that it is never lost but where it is flagged, and that the ranks fall along its trail.
use Rattle.std.proofs.Common.{◌≡◌, ℕ, ◌+◌, ◌*◌, ◌<◌, ◌≤◌, true, false, List, [], ◌∷◌, ◌++◌, length, refl, sym, subst, ap, arith, inl, inr, Option, Some, None, ◌∙◌, get_or}
use Rattle.std.specs.Prelude.{◌||◌, slice_get}
use Rattle.std.specs.Int.{bit_at}
use Rattle.std.specs.List.{Contains}
use Rattle.std.proofs.lemmas.List.Quantifiers.{all_pairs_push}
use Rattle.sy_wire.specs.declared.class.Class.{Class}
use Rattle.sy_chain.specs.Entries.{Entry}
use Rattle.sy_marks.specs.Marks.{discards}
use Rattle.sy_rules.specs.declared.lists.occurrence.Occurrence.{Occurrence}
use Rattle.sy_rules.specs.declared.lists.occurrence.Occurrence.TheVariants as occurrence
use Rattle.sy_rules.specs.lists.Work.{Due, May}
use Rattle.sy_rules.specs.Whole.{AreDifferent, body_at, queue_for}
use Rattle.sy_rules.proofs.lemmas.lists.WorkLaws.{work_may}
use Rattle.sy_board.specs.relay.Cells.{Cell, hand, waiting}
use Rattle.sy_board.specs.relay.Plans.{flow_at, input_at, marks_at, post_flow, queue_of_input, queue_of_worker}
use Rattle.sy_board.specs.relay.Spares.{IsInScope, Scope, own, posted}
use Rattle.sy_board.specs.relay.Steps.{Cause, IsHand, IsOfInput}
use Rattle.sy_site.specs.Sites.{Site, SiteInput, SiteAction, does_spare, is_spare, is_spare_list, plan_at, spares_at, target}
use Rattle.sy_site.specs.machine.States.{Copy, SiteState, is_flagged_at, is_flagged_on, loses_spare, off_link, opening, taken_by}
use Rattle.sy_site.specs.machine.Steps.{Runs, SiteEvent}
use Rattle.sy_site.specs.machine.Reach.{Follows, MayDo, Reach, Reaches, entry, forwards}
use Rattle.sy_site.specs.machine.Findings.{IsForward, Kind}
use Rattle.sy_site.specs.machine.Confinement.{AreConfined, Falls, IsFollowed, IsLinkWithin, RanksFall}
use Rattle.sy_site.specs.machine.Soundness.{IsSoundFor}
use Rattle.sy_board.proofs.relay.Keeps.{Each, Kept, Owes, each_append, each_weaker}
use Rattle.sy_board.proofs.relay.Guards.{clean_post, clean_room, left_in, same_input}
use Rattle.sy_board.proofs.relay.Marks.{InMarks, marks_start}
use Rattle.sy_site.proofs.machine.Firm.{FirmEntry, LosesPost, at_list, clean_at, in_hand, input_on, left_with, moved, never_discards, post_keeps, queue_keeps}
use Rattle.sy_site.proofs.machine.Marks.{AllMarks, site_marks}
use Rattle.sy_site.proofs.machine.Naming.{each_in}
use Rattle.sy_site.proofs.machine.Spares.{both_false, firm_list, goes_on, neither, reaches_from}
use Rattle.sy_site.proofs.machine.Spread.{Grows, Moves, Of, OutOf, Spread, run_keeps, start_keeps}

-- a relay whose rank is below those of all before it
falls_push : (rank : ℕ → ℕ) (r : ℕ) (xs : List ℕ) → Each (λ t. rank r < rank t) xs → Falls rank xs → Falls rank (xs ++ r ∷ [])
falls_push rank r xs a n = all_pairs_push (λ x y. rank y < rank x) xs r n (λ k d l. above xs a k d l)
  where
    above : (xs : List ℕ) → Each (λ t. rank r < rank t) xs → (k d : ℕ) → k < length xs → rank r < rank (get_or xs k d)
    above [] a k d l = absurd (omega arith)
    above (x ∷ xs) a ℕ.zero d l = a.0
    above (x ∷ xs) a (ℕ.suc k) d l = above xs a.1 k d (omega (arith, l))

-- so no relay stands there twice
pub falls_apart : (rank : ℕ → ℕ) (xs : List ℕ) → Falls rank xs → AreDifferent xs
falls_apart rank xs f i j d l m e = let below = f i j d l m in let same = ap rank e in omega (arith, below, same)

-- ---- copies of a class that came in at an entry

pub record IsOurs (site : Site) (class : Class) (x : Copy) : Type 0 where
  pub class_is : x.message.class ≡ class
  pub entered : Contains site.entries x.origin

module _ (site : Site) (class : Class) (sound : IsSoundFor site class) where
  record Tracked (r : ℕ) (x : Copy) : Type 0 where
    pub above : Each (λ t. sound.rank r ≤ sound.rank t) x.trail
    pub once : Falls sound.rank x.trail

  -- it follows a list that messages may follow from a reached input on
  record Within (scope : Scope) (r i l : ℕ) : Type 0 where
    pub reach : Reach site class scope (record { relay = r; input = i })
    pub follows : Follows site class scope (record { relay = r; input = i }) l

  record GoodEntry (r : ℕ) (x : Copy) (p : Cell) (e : Entry) : Type 0 where
    pub message : e.message ≡ x.message
    pub due : (k : ℕ) → bit_at e.due k ≡ 1 → Due (body_at (plan_at site r) e.list) e.message k
    pub within : Within Scope.Every r e.input e.list
    pub tracked : Tracked r x
    pub firm : is_flagged_at site r e.list x ≡ false → FirmEntry site class r p e

  -- what the link leads to is reached without spare occurrences, and a forward leads somewhere
  record FirmCopy (d : SiteAction) : Type 0 where
    pub next : (q : SiteInput) → target site d ≡ Some q → Reach site class Scope.Firm q
    pub targeted : IsForward (slice_get (plan_at site d.relay).actions d.action) → target site d ≡ None → ⊥

  record GoodCopy (d : SiteAction) (x : Copy) : Type 0 where
    pub once : Falls sound.rank x.trail
    pub next : (q : SiteInput) → target site d ≡ Some q → Reach site class Scope.Every q × Each (λ t. sound.rank q.relay < sound.rank t) x.trail
    pub firm : is_flagged_on site d x ≡ false → FirmCopy d

  abbrev P : ℕ → Copy → Cell → Entry → Type 0
  P r x p e = IsOurs site class x → GoodEntry r x p e

  abbrev D : SiteAction → Copy → Type 0
  D d x = IsOurs site class x → GoodCopy d x

  abbrev L : ℕ → ℕ → Cause → Copy → Type 0
  L r l cause x = IsOurs site class x → is_flagged_at site r l x || loses_spare site r cause ≡ false → ⊥

  tracked_on : (r : ℕ) (x : Copy) → Each (λ t. sound.rank r < sound.rank t) x.trail → Falls sound.rank x.trail → Tracked r (taken_by r x)
  tracked_on r x a n = record {
    above = each_append (λ t. sound.rank r ≤ sound.rank t) x.trail (r ∷ []) (each_weaker _ _ (λ t h. (omega arith)) x.trail a) (omega arith, tt);
    once = falls_push sound.rank r x.trail a n;
  }

  -- what is owed may be executed
  owes_may : (scope : Scope) (r : ℕ) (x : Copy) (p : Cell) (e : Entry) (o : Occurrence) → IsOurs site class x → GoodEntry r x p e
      → (w : Owes (plan_at site r) e o) → IsInScope (plan_at site r) (spares_at site r) scope o → MayDo site class scope r e.list w.number o
  owes_may scope r x p e o of g w in_scope = record {
    may = work_may (body_at (plan_at site r) e.list) e.message class w.number (ap (λ m. m.class) g.message ∙ of.class_is) (g.due w.number w.member);
    found = w.is;
    in_scope = in_scope;
  }

  -- an entry of a copy that wasn't taken flagged, which owes something that isn't spare, isn't flagged
  not_flagged : (r : ℕ) (x : Copy) (e : Entry) (o : Occurrence) → Owes (plan_at site r) e o → x.flag ≡ false → does_spare site r o ≡ false
      → is_flagged_at site r e.list x ≡ false
  not_flagged r x e o w plain firm = both_false x.flag (is_spare_list site r e.list) plain (firm_list site r e.list w.number o w.is firm)

  fresh_entry : (to : SiteInput) (h : ℕ) (x : Copy) (node : Entry) → IsHand (plan_at site to.relay) to.input h
      → IsOfInput (plan_at site to.relay) to.input node
      → node.message ≡ x.message → Reach site class Scope.Every to → (x.flag ≡ false → Reach site class Scope.Firm to) → Tracked to.relay x
      → GoodEntry to.relay x (hand to.input h) node
  fresh_entry to h x node there made m reach firm t =
      let at : (scope : Scope) → Reach site class scope to → Reach site class scope (input_on to.relay node.input) = λ scope k.
      subst (λ j. Reach site class scope (record { relay = to.relay; input = j })) (sym made.input_is) k in
      record {
        message = m;
        due = λ k b. subst (λ l. Due (body_at (plan_at site to.relay) l) node.message k) (sym made.list) ((made.due k).0 b);
        within = record {
          reach = at Scope.Every reach;
          follows = subst (λ j. Follows site class Scope.Every (record { relay = to.relay; input = j }) node.list) (sym made.input_is)
              (subst (Follows site class Scope.Every to) (sym made.list) own);
        };
        tracked = t;
        firm = λ plain. record {
          reach = at Scope.Firm (firm (neither x.flag (is_spare_list site to.relay node.list) plain).0);
          of = inl (record {
            place = (h, there.1, ap (λ j. 64 * j + h) (sym made.input_is));
            list = made.list ∙ ap (λ j. (input_at (plan_at site to.relay) j).list) (sym made.input_is);
          });
        };
      }

  severity_of : (r : ℕ) (x : Copy) (p : Cell) (e : Entry) (q n : ℕ) → IsOurs site class x → GoodEntry r x p e
      → discards (marks_at (plan_at site r) q) e.message.class.severity n ≡ true → discards (marks_at (plan_at site r) q) class.severity n ≡ true
  severity_of r x p e q n of g t =
      subst (λ (c : Class). discards (marks_at (plan_at site r) q) c.severity n ≡ true) (ap (λ m. m.class) g.message ∙ of.class_is) t

  good_kept : (r : ℕ) (x : Copy) → Kept (plan_at site r) (P r x) (OutOf D L r x) (InMarks (plan_at site r))
  good_kept r x = record {
    enters = λ i h e there p of.
        let g = p of in
        record {
          message = g.message;
          due = g.due;
          within = g.within;
          tracked = g.tracked;
          firm = λ plain.
              moved site class r (hand i h) (Cell.Queue (queue_of_input (plan_at site r) i)) e
              (λ place. ap (queue_of_input (plan_at site r)) (same_input (plan_at site r) i h e.input place.0 there place.1 place.2))
              (λ none. absurd none) (g.firm plain);
        };
    grabs = λ w e p of.
        let g = p of in
        record {
          message = g.message;
          due = g.due;
          within = g.within;
          tracked = g.tracked;
          firm = λ plain. moved site class r (Cell.Queue (queue_of_worker (plan_at site r) w)) (Cell.Worker w) e (λ place. place) (λ place. place) (g.firm plain);
        };
    advances = λ w e number left p l of.
        let g = p of in
        record {
          message = g.message;
          due = λ k b. g.due k (left_in e.due number left k l b);
          within = g.within;
          tracked = g.tracked;
          firm = λ plain. left_with site class r (Cell.Worker w) e left (g.firm plain);
        };
    runs = λ w e a p o of.
        let g = p of in
        let at : Cell = Cell.Worker w in
        record {
          once = g.tracked.once;
          next = λ q t.
              let does = owes_may Scope.Every r x at e (occurrence.Run a) of g o tt in
              let to = goes_on site class Scope.Every (input_on r e.input) e.list g.within.reach g.within.follows o.number q
              (forwards o.number a does t) in (
                to,
                each_weaker _ _ (λ z y.
                    (let f = ranks_on r e.input e.list g.within o.number q (forwards o.number a does t) in omega (arith, f, y))) x.trail g.tracked.above,
              );
          firm = λ plain.
              let f = neither x.flag (is_spare site (record { relay = r; action = a })) plain in
              let here = g.firm (not_flagged r x e (occurrence.Run a) o f.0 f.1) in
              let does = owes_may Scope.Firm r x at e (occurrence.Run a) of g o f.1 in
              record {
                next = λ q t. goes_on site class Scope.Firm (input_on r e.input) e.list here.reach (at_list site class r at e here) o.number q
                    (forwards o.number a does t);
                targeted = λ forward none. sound.clean (input_on r e.input) here.reach Kind.NoTarget
                    (a, record { list = e.list; follows = at_list site class r at e here; number = o.number; does = does }, forward, none);
              };
        };
    posts = λ w e l node p o m of.
        let g = p of in
        let at : Cell = Cell.Worker w in
        let input_same : e.input ≡ node.input = sym m.input in
        record {
          message = m.message ∙ g.message;
          due = λ k b. subst (λ z. Due (body_at (plan_at site r) z) node.message k) (sym m.list_is)
              (subst (λ z. Due (body_at (plan_at site r) l) z k) (sym m.message) ((m.due k).0 b));
          within = record {
            reach = subst (λ j. Reach site class Scope.Every (record { relay = r; input = j })) input_same g.within.reach;
            follows = subst (λ j. Follows site class Scope.Every (record { relay = r; input = j }) node.list) input_same
                (subst (Follows site class Scope.Every (input_on r e.input)) (sym m.list_is)
                (posted o.number g.within.follows (owes_may Scope.Every r x at e (occurrence.Post l) of g o tt)));
          };
          tracked = g.tracked;
          firm = λ plain.
              let f = neither x.flag (is_spare_list site r l) (subst (λ z. is_flagged_at site r z x ≡ false) m.list_is plain) in
              let here = g.firm (not_flagged r x e (occurrence.Post l) o f.0 f.1) in
              let does = owes_may Scope.Firm r x at e (occurrence.Post l) of g o f.1 in
              record {
                reach = subst (λ j. Reach site class Scope.Firm (record { relay = r; input = j })) input_same here.reach;
                of = inr (record {
                  place = ap (queue_for (plan_at site r)) m.list_is;
                  before = e.list;
                  follows = subst (λ j. Follows site class Scope.Firm (record { relay = r; input = j }) e.list) input_same (at_list site class r at e here);
                  number = o.number;
                  does = subst (λ z. MayDo site class Scope.Firm r e.list o.number (occurrence.Post z)) (sym m.list_is) does;
                  keeps = subst (λ z. LosesPost site class r z → ⊥) (sym m.list_is) (post_keeps site class sound r at e o.number l here does);
                });
              };
        };
    lost_take = λ old i h e g p there t of plain.
        let good = p of in
        let f = good.firm (neither (is_flagged_at site r e.list x) false plain).0 in
        let reach = in_hand site class r i h e there f in
        let q = queue_of_input (plan_at site r) i in
        never_discards site class r q (flow_at (plan_at site r) i) (clean_at site class sound (input_on r i) reach) (waiting old q) (g (Cell.Queue q))
        (severity_of r x (hand i h) e q (waiting old q) of good t);
    lost_expire = λ old i h e p leaves full of plain.
        let good = p of in
        let f = good.firm (neither (is_flagged_at site r e.list x) false plain).0 in
        let reach = in_hand site class r i h e leaves.there f in
        let q = queue_of_input (plan_at site r) i in
        clean_room (plan_at site r) class q (flow_at (plan_at site r) i) (clean_at site class sound (input_on r i) reach) (waiting old q) leaves.not_held full;
    lost_grab = λ old q n e g p l t of plain.
        let good = p of in
        let keeps = queue_keeps site class sound r q e (good.firm (neither (is_flagged_at site r e.list x) false plain).0) in
        never_discards site class r q keeps.0 keeps.1 n (λ only mark. let m = g (Cell.Queue q) only mark in omega (arith, m, l))
        (severity_of r x (Cell.Queue q) e q n of good t);
    lost_run = λ w n e a p o t of plain.
        let g = p of in
        let f = neither (is_flagged_at site r e.list x) (is_spare site (record { relay = r; action = a })) plain in
        let here = g.firm f.0 in
        let does = owes_may Scope.Firm r x (Cell.Worker w) e (occurrence.Run a) of g o f.1 in
        sound.clean (input_on r e.input) here.reach Kind.GivesUp
        (a, record { list = e.list; follows = at_list site class r (Cell.Worker w) e here; number = o.number; does = does }, n, t);
    lost_post = λ old w e l no_memory p o cause of plain.
        let g = p of in
        let f = neither (is_flagged_at site r e.list x) (is_spare_list site r l) plain in
        let does = owes_may Scope.Firm r x (Cell.Worker w) e (occurrence.Post l) of g o f.1 in
        clean_post (plan_at site r) class old l no_memory (post_keeps site class sound r (Cell.Worker w) e o.number l (g.firm f.0) does) cause;
    lost_node = λ old w e l g p o t of plain.
        let good = p of in
        let f = neither (is_flagged_at site r e.list x) (is_spare_list site r l) plain in
        let q = queue_for (plan_at site r) l in
        let does = owes_may Scope.Firm r x (Cell.Worker w) e (occurrence.Post l) of good o f.1 in
        never_discards site class r q (post_flow (plan_at site r) q) (post_keeps site class sound r (Cell.Worker w) e o.number l (good.firm f.0) does) (waiting old q)
        (g (Cell.Queue q)) (severity_of r x (Cell.Worker w) e q (waiting old q) of good t);
  }
    where
      ranks_on : (r i l : ℕ) → Within Scope.Every r i l → (number : ℕ) (to : SiteInput) → Reaches site class Scope.Every r l number to
          → sound.rank to.relay < sound.rank r
      ranks_on r i l within number to reaches =
          let first = reaches_from site class Scope.Every (input_on r i) l within.follows number to reaches in
          sound.ranks.falls (input_on r i) to first.0 within.reach first.1

  good_moves : Moves site P D L (λ r. InMarks (plan_at site r))
  good_moves = record {
    inside = good_kept;
    over = λ d to h x node p t there made m of.
        let q = p (record { class_is = of.class_is; entered = of.entered }) in
        let n = q.next to t in
        fresh_entry to h (taken_by to.relay (off_link site d x)) node there made m n.0 (λ plain. (q.firm plain).next to t)
        (tracked_on to.relay (off_link site d x) n.1 q.once);
  }

  none_twice : Falls sound.rank []
  none_twice i j d l m = absurd (omega arith)

  good_grows : Grows site (λ t. P) (λ t. D) (λ t. L)
  good_grows = record {
    of_entry = λ t a r x p e h. h;
    of_copy = λ t a d x h. h;
    of_loss = λ t a r l cause x h. h;
    comes = λ t to h m node there made is of.
        fresh_entry to h _ node there made is (entry of.entered) (λ plain. entry of.entered)
        (tracked_on to.relay (record { number = length t; message = m; origin = to; trail = []; flag = false }) tt none_twice);
  }

  of_that : (copies : List Copy) (Q : Copy → Type 0) (t : ℕ) (x : Copy) → Of copies Q t → slice_get copies t ≡ Some x → Q x
  of_that copies Q t x o e = let same : o.copy ≡ x = (let f : Some o.copy ≡ Some x = sym o.is ∙ e in cc) in subst Q same o.holds

  ours : (new : SiteState) (tag : ℕ) (x : Copy) → IsFollowed site new class tag x → IsOurs site class x
  ours new tag x f = record { class_is = f.class_is; entered = f.entered }

  may_due : (r : ℕ) (x : Copy) (p : Cell) (e : Entry) → IsOurs site class x → GoodEntry r x p e → (k : ℕ) → bit_at e.due k ≡ 1
      → May (body_at (plan_at site r) e.list) class k
  may_due r x p e of g k b =
      work_may (body_at (plan_at site r) e.list) e.message class k (ap (λ m. m.class) g.message ∙ of.class_is) (g.due k b)

  -- what holds of all that a run leaves
  spread_run : (es : List SiteEvent) (new : SiteState) → Runs site es new → Spread new.copies P D L new
  spread_run es new run = run_keeps site (λ t. P) (λ t. D) (λ t. L) (λ r. InMarks (plan_at site r)) (λ t. good_moves) good_grows
      (λ s. AllMarks site s.relays) (site_marks site) (λ s i. i)
      (opening site) es new (λ r. marks_start (plan_at site r))
      (start_keeps site (λ t. P) (λ t. D) (λ t. L) (λ r. InMarks (plan_at site r)) (λ t. good_moves) good_grows) run

  -- a forward without a target is a finding, so a link with such a copy has one
  link_within : (d : SiteAction) → FirmCopy d → IsForward (slice_get (plan_at site d.relay).actions d.action)
      → (to : Option SiteInput) → target site d ≡ to → IsLinkWithin site class d
  link_within d g forward (Some q) leads = record { to = q; leads = leads; reached = g.next q leads }
  link_within d g forward None none = absurd (g.targeted forward none)

  pub confined_run : (es : List SiteEvent) (new : SiteState) → Runs site es new → AreConfined site class new
  confined_run es new run =
      let all = spread_run es new run in
      record {
        held = λ r k e i x f plain.
            let of = ours new e.tag x f in
            let g = of_that new.copies (λ y. P r y k e) e.tag x (each_in _ _ (all.held r k) e i) f.is of in
            record { reached = (g.firm plain).reach; follows = at_list site class r k e (g.firm plain); due = may_due r x k e of g };
        placed = λ r k e i x f plain.
            ((of_that new.copies (λ y. P r y k e) e.tag x (each_in _ _ (all.held r k) e i) f.is (ours new e.tag x f)).firm plain).of;
        on_links = λ d t i x f plain forward.
            let g = of_that new.copies (D d) t x (each_in _ (new.passed d) (all.passed d) t i) f.is (ours new t x f) in
            link_within d (g.firm plain) forward (target site d) refl;
        not_lost = λ l k x f plain.
            of_that new.copies (L l.relay l.list l.cause) l.copy x (each_in _ new.losses all.losses l k) f.is (ours new l.copy x f) plain;
      }

  pub falls_run : (es : List SiteEvent) (new : SiteState) → Runs site es new → RanksFall site class sound.rank new
  falls_run es new run =
      let all = spread_run es new run in
      record {
        held = λ r k e i x f.
            let of = ours new e.tag x f in
            let g = of_that new.copies (λ y. P r y k e) e.tag x (each_in _ _ (all.held r k) e i) f.is of in
            (g.tracked.once, record { reached = g.within.reach; follows = g.within.follows; due = may_due r x k e of g });
        passed = λ d t i x f.
            let g = of_that new.copies (D d) t x (each_in _ (new.passed d) (all.passed d) t i) f.is (ours new t x f) in
            (g.once, (λ q t. (g.next q t).0));
      }
