use Rattle.std.proofs.Common.{rules, refl, ◌≡◌, ◌∙◌, ap, sym, drop, map, arith}
use Rattle.std.proofs.lemmas.List.{drop-map}
use Rattle.std.specs.Arc.{arc_value}
use Rattle.std.specs.Prelude.{None, Some}
use Rattle.sy_escapes.proofs.Runs.{run_none, run_then_all, run_empty}
use Rattle.sy_escapes.proofs.sink.EscapedSink.write_all.Goals as goal

pub loop-taken-init : goal.loop-taken-init
loop-taken-init g c = record {
  within = omega arith;
  nothing = c.requires;
  faults = refl;
  run = run_none _ _ _ c.requires;
}

pub returns-in-Some-clause-run : goal.returns-in-Some-clause-run
returns-in-Some-clause-run g c =
    let back : c.split_at.result.1.now ≡ drop c.loop-taken.taken c.args.messages.now = search rules in
    let later : map arc_value c.split_at.result.1.now ≡ drop c.loop-taken.taken (map arc_value c.args.messages.now) =
    ap (λ l. map arc_value l) back ∙ sym (drop-map (λ m. arc_value m) c.loop-taken.taken c.args.messages.now) in
    let is : c.write_some-count.result.1 ≡ Some c.in-Some.fault = search rules in
    run_then_all _ _ _ _ _ _ _ _ _ _ _ _ c.loop-taken.invariant.run later is c.write_some-count.ensures.run

pub loop-taken-preserved : goal.loop-taken-preserved
loop-taken-preserved g c =
    let back : c.split_at.result.1.now ≡ drop c.loop-taken.taken c.args.messages.now = search rules in
    let later : map arc_value c.split_at.result.1.now ≡ drop c.loop-taken.taken (map arc_value c.args.messages.now) =
    ap (λ l. map arc_value l) back ∙ sym (drop-map (λ m. arc_value m) c.loop-taken.taken c.args.messages.now) in
    let is : c.write_some-count.result.1 ≡ None = search rules in
    record {
      within = omega (arith, c.write_some-count.ensures.within, c.split_at.ensures.back_len, c.loop-taken.invariant.within);
      nothing = run_empty c.write_some-count.ensures.run is;
      faults = search rules ∙ c.loop-taken.invariant.faults;
      run = run_then_all _ _ _ _ _ _ _ _ _ _ _ _ c.loop-taken.invariant.run later is c.write_some-count.ensures.run;
    }
