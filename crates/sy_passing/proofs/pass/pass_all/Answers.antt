use Rattle.std.proofs.Common.{◌+◌, ap, refl, ◌∙◌}
use Rattle.sy_board.specs.relay.Boards.{Account}
use Rattle.std.proofs.KnownBytes.{Keeps-refl}
use Rattle.sy_passing.proofs.Passes.{passed_nothing}
use Rattle.sy_passing.proofs.pass.pass_all.Goals as goal

pub returns-in_default-clause-err : goal.returns-in_default-clause-err
returns-in_default-clause-err g c = λ input known. record { taken = 0; stops = (_, _, passed_nothing _ _ _ (Keeps-refl _)); number = refl }

pub returns-in-Ok-pass_lines-clause-ok : goal.returns-in-Ok-pass_lines-clause-ok
returns-in-Ok-pass_lines-clause-ok g c = λ input known. let h = c.in-Ok-pass_lines.ensures.ok input known in (h.n, h.passed)

pub returns-clause-err : goal.returns-clause-err
returns-clause-err g c = λ input known. record {
  taken = c.pass_lines.new.board.totals.taken;
  stops = c.in-Err.ensures.err input known;
  number = ap (λ n. n + 1) (c.taken.ensures ∙ ap (λ (a : Account). a.totals.taken) c.accounts.ensures.value);
}
