use Rattle.std.proofs.Common.{◌≡◌, None, ap, codes, map, string_bytes, subst, sym, ◌∙◌}
use Rattle.std.specs.List.{position}
use Rattle.sy_report.specs.AnyFile.{is_any_file}
use Rattle.sy_report.specs.Words.{once_if, times}
use Rattle.sy_report.proofs.AnyFile.{no_place}
use Rattle.sy_report.proofs.command_line.any_file.take_any_file.Goals as goal

pub returns-in_default-place_of-clause-asked : goal.returns-in_default-place_of-clause-asked
returns-in_default-place_of-clause-asked c =
    absurd (no_place string_bytes (codes "--any-file") c.args.words.now.items
    (subst (λ words. position (λ word. is_any_file (string_bytes word)) words ≡ None) c.as_slice-3.ensures.value (sym c.place_of.ensures ∙ c.in_default-place_of.is))
    (subst (λ words. times (codes "--any-file") (map string_bytes words) ≡ 1) c.as_slice-2.ensures.value (c.in-Some-true.ensures.some ∙ ap once_if c.in-Some-true.field-0-test)))
