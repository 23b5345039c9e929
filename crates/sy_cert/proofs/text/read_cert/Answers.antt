use Rattle.std.proofs.Common.{◌∙◌, sym, subst, inr}
use Rattle.sy_cert.specs.Faults.{BeginsWith, HasFault}
use Rattle.sy_cert.proofs.Texts.{begin, begin_more, no_first, other_first}
use Rattle.sy_cert.proofs.Reader.{begun, faulty, filled, for_memory, open_line, same_text}
use Rattle.sy_cert.proofs.text.read_cert.Goals as goal

pub returns-in-None-clause-err : goal.returns-in-None-clause-err
returns-in-None-clause-err c = inr (HasFault.no_head (no_first c.args.bytes.now c.in-None.ensures.none))

pub returns-in-None-head_version-clause-err : goal.returns-in-None-head_version-clause-err
returns-in-None-head_version-clause-err c =
    inr (HasFault.no_head (other_first c.args.bytes.now c.in-Some.parts.0.now c.in-Some.parts.1.now c.in-Some.ensures.some
    c.in-None-head_version.ensures.none))

pub loop-rest-init : goal.loop-rest-init
loop-rest-init c =
    let is = c.in-Some-head_version.ensures.some in
    begun c.args.bytes.now c.in-Some.parts.1.now c.in-Some-head_version.version c.new-certificate.result.version c.new-certificate.result.rows
    c.new-certificate.ensures.version c.new-certificate.ensures.rows
    (begin c.args.bytes.now c.in-Some.parts.0.now c.in-Some.parts.1.now c.in-Some-head_version.version c.in-Some.ensures.some is.0 is.1)

pub loop-rest-preserved : goal.loop-rest-preserved
loop-rest-preserved c =
    subst (λ v. BeginsWith c.args.bytes.now v c.take_line.new.certificate.rows c.in-Some-cut.after.now) (sym c.in-Ok.ensures.version)
    (begin_more c.args.bytes.now c.loop-rest.certificate.version c.loop-rest.certificate.rows c.take_line.new.certificate.rows c.loop-rest.rest.now
    c.in-Some-cut.text.now c.in-Some-cut.after.now c.loop-rest.invariant c.in-Some-cut.ensures.some c.in-Ok.ensures.ok)

pub returns-in-Err-clause-err : goal.returns-in-Err-clause-err
returns-in-Err-clause-err c =
    faulty c.args.bytes.now c.loop-rest.certificate.version c.loop-rest.certificate.rows c.rows.result.now c.loop-rest.rest.now c.in-Some-cut.text.now
    c.in-Some-cut.after.now c.in-Err.code c.loop-rest.invariant c.in-Some-cut.ensures.some c.in-Err.ensures.err c.rows.ensures

pub returns-in-None-cut-clause-err : goal.returns-in-None-cut-clause-err
returns-in-None-cut-clause-err c =
    inr (open_line c.args.bytes.now c.loop-rest.certificate.version c.loop-rest.certificate.rows c.rows.result.now c.loop-rest.rest.now
    c.loop-rest.invariant c.in-None-cut.ensures.none (filled c.loop-rest.rest.now (sym c.is_empty.ensures ∙ c.loop-rest-test.true)) c.rows.ensures)

pub returns-clause-same : goal.returns-clause-same
returns-clause-same c =
    same_text c.args.bytes.now c.loop-rest.rest.now c.loop-rest.certificate.version c.loop-rest.certificate.rows c.loop-rest.invariant
    (sym c.is_empty.ensures ∙ c.loop-rest-test.false)

pub returns-in-None-clause-memory : goal.returns-in-None-clause-memory
returns-in-None-clause-memory c = for_memory c.args.bytes.now _ _ (returns-in-None-clause-err c)

pub returns-in-None-head_version-clause-memory : goal.returns-in-None-head_version-clause-memory
returns-in-None-head_version-clause-memory c = for_memory c.args.bytes.now _ _ (returns-in-None-head_version-clause-err c)

pub returns-in-Err-clause-memory : goal.returns-in-Err-clause-memory
returns-in-Err-clause-memory c = for_memory c.args.bytes.now _ _ (returns-in-Err-clause-err c)

pub returns-in-None-cut-clause-memory : goal.returns-in-None-cut-clause-memory
returns-in-None-cut-clause-memory c = for_memory c.args.bytes.now _ _ (returns-in-None-cut-clause-err c)
