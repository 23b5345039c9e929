use Rattle.std.proofs.Common.{◌++◌, drop, arith, length-append}
use Rattle.sy_journal.specs.Log.{IsBeforeOrAfter}
use Rattle.sy_journal.specs.Segment.{IsWithOrWithout}
use Rattle.sy_journal.proofs.Segments.{stands-push, with_or_without, weaker}
use Rattle.sy_journal.proofs.segment.Segment.append.Goals as goal

pub overflow_sub-self : goal.overflow_sub-self
overflow_sub-self g c = c.requires.ready.within

pub returns-in_err-append-clause-any_moment : goal.returns-in_err-append-clause-any_moment
returns-in_err-append-clause-any_moment g c =
    let file = g.S.Storage.seen c.args.self.now.log.file in
    let x = drop 8 c.args.frame.now in
    weaker g.S.Storage.moment g.S.Storage.left_since c.args.self.now.log.file c.append.new.self.file (IsBeforeOrAfter file x) (IsWithOrWithout file x) c.append.ensures.any_moment (λ f before. with_or_without file x f before)

pub returns-clause-any_moment : goal.returns-clause-any_moment
returns-clause-any_moment g c =
    let file = g.S.Storage.seen c.args.self.now.log.file in
    let x = drop 8 c.args.frame.now in
    weaker g.S.Storage.moment g.S.Storage.left_since c.args.self.now.log.file c.append.new.self.file (IsBeforeOrAfter file x) (IsWithOrWithout file x) c.append.ensures.any_moment (λ f before. with_or_without file x f before)

pub returns-clause-appended : goal.returns-clause-appended
returns-clause-appended g c entries batch is short stands =
    stands-push (g.S.Storage.seen c.args.self.now.log.file) (g.S.Storage.seen c.append.new.self.file) (g.S.Storage.seen c.args.self.now.finishes) (drop 8 c.args.frame.now) entries batch c.in_ok-append.ensures.acknowledged is short stands

pub returns-clause-ready : goal.returns-clause-ready
returns-clause-ready g c =
    let r = c.requires.ready in
    let p = c.requires.packs in
    record {
      entries = r.entries ++ p.0;
      log = c.in_ok-append.ensures.at_rest;
      sound = r.sound;
      places = r.places;
      count = omega (arith, r.count, p.2, length-append r.entries p.0);
      within = omega (arith, c.if-self-many.false, r.within);
      stands = stands-push (g.S.Storage.seen c.args.self.now.log.file) (g.S.Storage.seen c.append.new.self.file) (g.S.Storage.seen c.args.self.now.finishes) (drop 8 c.args.frame.now) r.entries p.0 c.in_ok-append.ensures.acknowledged p.1 p.3 r.stands;
    }
