use Rattle.std.proofs.Common.{arith, inl, inr}
use Rattle.std.proofs.lemmas.Bool.{cases_Bool}
use Rattle.sy_site.specs.texts.HasFault.{HasFault}
use Rattle.sy_site.specs.texts.Lines.{is_skipped, words}
use Rattle.sy_site.proofs.lemmas.texts.Found.{duplicate_fault, few_entries, few_outsides, few_protections, few_relays, few_spares, found_in_place, found_lines, found_more, found_single, found_skip, found_start, line_fault, long_first, none_before, not_wrong}
use Rattle.sy_site.proofs.texts.reading.read_lines.Goals as goal

pub returns-then-text-gt-MOST_BYTES-clause-err : goal.returns-then-text-gt-MOST_BYTES-clause-err
returns-then-text-gt-MOST_BYTES-clause-err c = inr (λ files. HasFault.too_long c.if-text-gt-MOST_BYTES.true)

pub returns-then-text-gt-MOST_BYTES-clause-first : goal.returns-then-text-gt-MOST_BYTES-clause-first
returns-then-text-gt-MOST_BYTES-clause-first c = long_first c.args.text.now

pub loop-line-init : goal.loop-line-init
loop-line-init c = (rw c.new-found.ensures.items (found_start c.args.text.now), omega arith)

pub returns-in-Err-Line-clause-err : goal.returns-in-Err-Line-clause-err
returns-in-Err-Line-clause-err c =
    inr (λ files. line_fault c.loop-line.invariant.0 c.in-Some.line.now c.in-Some.behind.now c.in-Some.ensures.some
    (rw c.in-Err-Line.field-0-is at c.in-Err-Line.ensures.err) files)

pub returns-in-Err-Line-clause-first : goal.returns-in-Err-Line-clause-first
returns-in-Err-Line-clause-first c = none_before c.loop-line.invariant.0

pub returns-in-Err-Duplicate-clause-first : goal.returns-in-Err-Duplicate-clause-first
returns-in-Err-Duplicate-clause-first c = (
  none_before c.loop-line.invariant.0,
  not_wrong c.loop-line.invariant.0 c.in-Some.line.now c.in-Some.behind.now c.in-Some.ensures.some
      (rw c.in-Err-Duplicate.field-0-is at c.in-Err-Duplicate.ensures.err),
)

pub returns-in-Err-Duplicate-clause-err : goal.returns-in-Err-Duplicate-clause-err
returns-in-Err-Duplicate-clause-err c =
    inr (λ files. duplicate_fault c.loop-line.invariant.0 c.in-Some.line.now c.in-Some.behind.now c.in-Some.ensures.some
    (rw c.in-Err-Duplicate.field-0-is at c.in-Err-Duplicate.ensures.err) files)

pub loop-line-preserved : goal.loop-line-preserved
loop-line-preserved c = (
  elim (cases_Bool (is_skipped (words c.in-Some.line.now))) [
    | inl skip ↦
        rw (c.in-Ok.ensures.skipped skip)
        (found_skip c.loop-line.invariant.0 c.in-Some.line.now c.in-Some.behind.now c.in-Some.ensures.some skip)
    | inr there ↦
        found_more c.loop-line.invariant.0 c.in-Some.line.now c.in-Some.behind.now c.in-Some.ensures.some there (c.in-Ok.ensures.given there)
  ],
  omega (arith, c.loop-line.invariant.1, c.in-Some.ensures.shorter),
)

pub returns-clause-lines : goal.returns-clause-lines
returns-clause-lines c = found_lines c.loop-line.invariant.0 c.in_default.ensures.none

pub returns-clause-once : goal.returns-clause-once
returns-clause-once c = found_single c.loop-line.invariant.0 c.in_default.ensures.none

pub returns-clause-few_relays : goal.returns-clause-few_relays
returns-clause-few_relays c = few_relays c.loop-line.invariant.0

pub returns-clause-few_entries : goal.returns-clause-few_entries
returns-clause-few_entries c = few_entries c.loop-line.invariant.0

pub returns-clause-few_protections : goal.returns-clause-few_protections
returns-clause-few_protections c = few_protections c.loop-line.invariant.0

pub returns-clause-in_place : goal.returns-clause-in_place
returns-clause-in_place c = found_in_place c.loop-line.invariant.0 c.in_default.ensures.none

pub returns-clause-few_spares : goal.returns-clause-few_spares
returns-clause-few_spares c = few_spares c.loop-line.invariant.0

pub returns-clause-few_outsides : goal.returns-clause-few_outsides
returns-clause-few_outsides c = few_outsides c.loop-line.invariant.0
