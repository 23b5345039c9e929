use Rattle.std.proofs.Common.{◌≡◌, ◌⊎◌, arith, inl, inr, refl}
use Rattle.sy_site.specs.declared.texts.names.Halt.{Halt}
use Rattle.sy_site.specs.declared.texts.names.Halt.TheVariants as halt
use Rattle.sy_site.proofs.lemmas.texts.Noted.{first_fault, long_first, no_fault, noted_all, noted_more, noted_start}
use Rattle.sy_site.proofs.texts.names.file_names.Goals as goal

it_is_faulty : {F : Type 0} (h : Halt) → h ≡ halt.Faulty → ((h ≡ halt.NoMemory) ⊎ ((h ≡ halt.Faulty) × F)) → F
it_is_faulty halt.Faulty e (inl other) = cc
it_is_faulty halt.Faulty e (inr f) = f.1
it_is_faulty halt.NoMemory e f = cc

pub returns-then-text-gt-MOST_BYTES-clause-err : goal.returns-then-text-gt-MOST_BYTES-clause-err
returns-then-text-gt-MOST_BYTES-clause-err c = inr (1, refl, long_first c.args.text.now c.if-text-gt-MOST_BYTES.true)

pub loop-line-init : goal.loop-line-init
loop-line-init c = (rw c.new-names.ensures.items (noted_start c.args.text.now), omega arith)

pub returns-in-Err-Faulty-clause-err : goal.returns-in-Err-Faulty-clause-err
returns-in-Err-Faulty-clause-err c =
    let faulty = it_is_faulty c.in-Err-Faulty.field-0 c.in-Err-Faulty.field-0-is c.in-Err-Faulty.ensures.err in
    inr (
      c.loop-line.number,
      refl,
      first_fault c.in-Some.line.now c.in-Some.behind.now c.loop-line.invariant.0 c.in-Some.ensures.some
          (omega (arith, c.if-text-gt-MOST_BYTES.false)) faulty,
    )

pub loop-line-preserved : goal.loop-line-preserved
loop-line-preserved c = (
  noted_more c.in-Some.line.now c.in-Some.behind.now c.loop-line.invariant.0 c.in-Some.ensures.some c.in-Ok.ensures.relays
      c.in-Ok.ensures.names c.in-Ok.ensures.clean,
  omega (arith, c.loop-line.invariant.1, c.in-Some.ensures.shorter),
)

pub returns-clause-names : goal.returns-clause-names
returns-clause-names c = noted_all c.loop-line.invariant.0 c.in_default.ensures.none

pub returns-clause-clean : goal.returns-clause-clean
returns-clause-clean c = no_fault c.loop-line.invariant.0 c.in_default.ensures.none (omega (arith, c.if-text-gt-MOST_BYTES.false))
