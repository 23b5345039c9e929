use Rattle.std.proofs.Common.{◌≡◌, List, ℕ, length, sym, ap, subst, arith}
use Rattle.sy_journal.specs.Storage.{written_at}
use Rattle.sy_journal.specs.Segment.{StandFor}
use Rattle.sy_journal.proofs.Torn.{length-written_at}
use Rattle.sy_journal.proofs.Segments.{stands-finish}
use Rattle.sy_journal.proofs.segment.Segment.finish.Goals as goal

pub finish-requires-clause-within : goal.finish-requires-clause-within
finish-requires-clause-within g c = let r = c.requires.ready in omega (arith, c.requires.within, r.within, r.places)

pub returns-clause-ready : goal.returns-clause-ready
returns-clause-ready g c =
    let r = c.requires.ready in
    let finishes = g.S.Storage.seen c.args.self.now.finishes in
    let now : g.S.Storage.seen c.finish.new.file ≡ written_at c.args.first c.args.run.now finishes = c.in_ok-finish.ensures.finished in
    record {
      entries = r.entries;
      log = r.log;
      sound = c.in_ok-finish.ensures.sound;
      places = omega (arith, r.places, ap length now, length-written_at c.args.first c.args.run.now finishes);
      count = r.count;
      within = r.within;
      stands = subst (λ (m : List ℕ). StandFor (g.S.Storage.seen c.args.self.now.log.file) m r.entries) (sym now)
          (stands-finish (g.S.Storage.seen c.args.self.now.log.file) finishes c.args.run.now c.args.first r.entries (omega (arith, c.requires.within, r.count)) r.stands);
    }
