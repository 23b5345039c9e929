use Rattle.std.proofs.Common.{rules, ◌≡◌, List, ℕ, map, length, IfSome, sym, subst, ap, ◌∙◌}
use Rattle.std.proofs.lemmas.List.{length-map}
use Rattle.sy_journal.specs.Storage.{Only}
use Rattle.sy_journal.specs.Frames.{Reads}
use Rattle.sy_journal.specs.Log.{IsCleared}
use Rattle.sy_journal.specs.Segment.{StandFor}
use Rattle.sy_journal.proofs.Segments.{cleared_rests, stands_still, only_sound}
use Rattle.sy_journal.proofs.segment.open_segment.Goals as goal

pub returns-clause-entries : goal.returns-clause-entries
returns-clause-entries g c es stands =
    let some : IfSome c.in_ok-opened.field-0 (λ opened. map (λ v. v.items) opened.entries.items ≡ es) = c.in_ok-opened.ensures.entries es stands in
    search (rules, some)

pub returns-clause-ready : goal.returns-clause-ready
returns-clause-ready g c es stands =
    let seen = g.S.Storage.seen in
    let may_leave = g.S.Storage.may_leave in
    let opened = c.in-Some.opened in
    let some : IfSome c.in_ok-opened.field-0 (λ o. map (λ v. v.items) o.entries.items ≡ es) = c.in_ok-opened.ensures.entries es stands in
    let items : map (λ v. v.items) opened.entries.items ≡ es = search (rules, some) in
    let set : IfSome c.in_ok-opened.field-0 (λ o. o.finishes.items ≡ seen c.args.finishes) = c.in_ok-opened.ensures.set in
    let finishes_are : opened.finishes.items ≡ seen c.args.finishes = search (rules, set) in
    let cleared : IfSome c.in_ok-opened.field-0 (λ o. (contents : List (List ℕ)) × Reads contents (seen c.args.log) × IsCleared (seen c.recover_segment.new.log) contents o.end o.size) = c.in_ok-opened.ensures.cleared in
    let has : (contents : List (List ℕ)) × Reads contents (seen c.args.log) × IsCleared (seen c.recover_segment.new.log) contents opened.end opened.size = search (rules, cleared) in
    let many : c.len-count.result ≡ length opened.entries.items = search rules in
    let room : c.len-places.result ≡ length opened.finishes.items = search rules in
    let still : seen c.recover_segment.new.finishes ≡ seen c.args.finishes = c.in_ok-opened.ensures.finishes in
    let only : Only (seen c.recover_segment.new.finishes) (may_leave c.recover_segment.new.finishes) = λ f left. c.requires.finishes f (c.in_ok-opened.ensures.finishes_crash f left) ∙ sym still in
    record {
      entries = es;
      log = cleared_rests seen may_leave _ has.0 has.2 c.in_ok-opened.ensures.durable;
      sound = only_sound seen may_leave c.recover_segment.new.finishes only;
      places = room ∙ ap length finishes_are ∙ ap length (sym still);
      count = many ∙ sym (length-map opened.entries.items (λ v. v.items)) ∙ ap length items;
      within = c.if-places-count.false;
      stands = subst (λ (m : List ℕ). StandFor (seen c.recover_segment.new.log) m es) (sym still) (stands_still (seen c.args.log) (seen c.recover_segment.new.log) (seen c.args.finishes) es c.in_ok-opened.ensures.same stands);
    }
