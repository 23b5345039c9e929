use Rattle.std.proofs.Common.{◌≡◌, ◌++◌, [], ◌∷◌, List, ℕ, length, drop, inl, sym, ◌∙◌, ap, subst, arith, length-append}
use Rattle.sy_journal.specs.Storage.{Only, written_at}
use Rattle.sy_journal.specs.Frames.{Reads}
use Rattle.sy_journal.specs.Log.{IsBeforeOrAfter}
use Rattle.sy_journal.proofs.Moments.{started, goes_on}
use Rattle.sy_journal.proofs.Torn.{length-written_at}
use Rattle.sy_journal.proofs.Framing.{frames_push}
use Rattle.sy_journal.proofs.Appending.{append_torn, append_written, append_reads, append_fits, append_crash, rests}
use Rattle.sy_journal.proofs.log.Log.append.Goals as goal

pub returns-in_err-write_at-clause-any_moment : goal.returns-in_err-write_at-clause-any_moment
returns-in_err-write_at-clause-any_moment g c =
    let s = c.requires.at_rest in
    let file = g.S.Storage.seen c.args.self.now.file in
    let x = drop 8 c.args.frame.now in
    let P = IsBeforeOrAfter file x in
    let fits = append_fits file s.used s.left c.args.self.now.end c.args.self.now.size (length c.args.frame.now) s.file s.end s.size c.if-self-frame.false in
    let torn = append_torn file s.used c.args.frame.now x s.contents s.left _ c.args.self.now.end s.frames c.requires.frame s.file s.end fits in
    let after = append_crash file x c.args.frame.now c.args.self.now.end _ _ s.durable torn c.write_at.ensures.crash in
    let at_start = started g.S.Storage.moment g.S.Storage.left_since c.args.self.now.file P (λ f left xs reads. inl (subst (Reads xs) (sym (s.durable f (g.met.S.Storage.only_now c.args.self.now.file f left))) reads)) in
    goes_on g.S.Storage.moment g.S.Storage.left_since c.args.self.now.file c.args.self.now.file c.write_at.new.self P _ at_start c.write_at.ensures.time after

pub returns-in_err-sync-clause-any_moment : goal.returns-in_err-sync-clause-any_moment
returns-in_err-sync-clause-any_moment g c =
    let s = c.requires.at_rest in
    let file = g.S.Storage.seen c.args.self.now.file in
    let x = drop 8 c.args.frame.now in
    let P = IsBeforeOrAfter file x in
    let fits = append_fits file s.used s.left c.args.self.now.end c.args.self.now.size (length c.args.frame.now) s.file s.end s.size c.if-self-frame.false in
    let torn = append_torn file s.used c.args.frame.now x s.contents s.left _ c.args.self.now.end s.frames c.requires.frame s.file s.end fits in
    let after = append_crash file x c.args.frame.now c.args.self.now.end _ _ s.durable torn c.write_at.ensures.crash in
    let at_start = started g.S.Storage.moment g.S.Storage.left_since c.args.self.now.file P (λ f left xs reads. inl (subst (Reads xs) (sym (s.durable f (g.met.S.Storage.only_now c.args.self.now.file f left))) reads)) in
    let written = goes_on g.S.Storage.moment g.S.Storage.left_since c.args.self.now.file c.args.self.now.file c.write_at.new.self P _ at_start c.write_at.ensures.time after in
    goes_on g.S.Storage.moment g.S.Storage.left_since c.args.self.now.file c.write_at.new.self c.sync.new.self P _ written c.sync.ensures.time (λ f now. after f (c.sync.ensures.crash f now))

pub returns-clause-any_moment : goal.returns-clause-any_moment
returns-clause-any_moment g c =
    let s = c.requires.at_rest in
    let file = g.S.Storage.seen c.args.self.now.file in
    let x = drop 8 c.args.frame.now in
    let P = IsBeforeOrAfter file x in
    let fits = append_fits file s.used s.left c.args.self.now.end c.args.self.now.size (length c.args.frame.now) s.file s.end s.size c.if-self-frame.false in
    let torn = append_torn file s.used c.args.frame.now x s.contents s.left _ c.args.self.now.end s.frames c.requires.frame s.file s.end fits in
    let after = append_crash file x c.args.frame.now c.args.self.now.end _ _ s.durable torn c.write_at.ensures.crash in
    let at_start = started g.S.Storage.moment g.S.Storage.left_since c.args.self.now.file P (λ f left xs reads. inl (subst (Reads xs) (sym (s.durable f (g.met.S.Storage.only_now c.args.self.now.file f left))) reads)) in
    let written = goes_on g.S.Storage.moment g.S.Storage.left_since c.args.self.now.file c.args.self.now.file c.write_at.new.self P _ at_start c.write_at.ensures.time after in
    goes_on g.S.Storage.moment g.S.Storage.left_since c.args.self.now.file c.write_at.new.self c.sync.new.self P _ written c.sync.ensures.time (λ f now. after f (c.sync.ensures.crash f now))

pub returns-clause-acknowledged : goal.returns-clause-acknowledged
returns-clause-acknowledged g c =
    let s = c.requires.at_rest in
    let file = g.S.Storage.seen c.args.self.now.file in
    let fits = append_fits file s.used s.left c.args.self.now.end c.args.self.now.size (length c.args.frame.now) s.file s.end s.size c.if-self-frame.false in
    append_reads file s.used c.args.frame.now (drop 8 c.args.frame.now) s.contents s.left _ c.args.self.now.end s.frames c.requires.frame s.file s.end fits _ (c.sync.ensures.seen ∙ c.in_ok-write_at.ensures.written)

pub returns-clause-at_rest : goal.returns-clause-at_rest
returns-clause-at_rest g c =
    let s = c.requires.at_rest in
    let file = g.S.Storage.seen c.args.self.now.file in
    let x = drop 8 c.args.frame.now in
    let frame = c.args.frame.now in
    let fits = append_fits file s.used s.left c.args.self.now.end c.args.self.now.size (length frame) s.file s.end s.size c.if-self-frame.false in
    let now : g.S.Storage.seen c.sync.new.self ≡ written_at c.args.self.now.end frame file = c.sync.ensures.seen ∙ c.in_ok-write_at.ensures.written in
    let is = now ∙ append_written file s.used frame x s.contents s.left _ c.args.self.now.end s.frames c.requires.frame s.file s.end fits in
    let durable = subst (λ (f : List ℕ). Only f (g.S.Storage.may_leave c.sync.new.self)) (sym c.sync.ensures.seen) c.in_ok-sync.ensures.durable in
    rests g.S.Storage.seen g.S.Storage.may_leave _ (s.contents ++ x ∷ []) (s.used ++ frame) _ (frames_push s.contents s.used x frame s.frames c.requires.frame) is
    (omega (arith, s.end, length-append s.used frame)) (omega (arith, s.size, ap length now, length-written_at c.args.self.now.end frame file)) durable
