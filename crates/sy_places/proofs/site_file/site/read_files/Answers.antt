use Rattle.std.proofs.Common.{◌≡◌, map, subst, sym, ap, ◌∙◌, ◌++◌, rules}
use Rattle.std.proofs.lemmas.Result.{err_from_is_err_and}
use Rattle.std.specs.Prelude.{IfSome, string_bytes}
use Rattle.sy_places.specs.SiteFiles.{AreGiven, AreMachineFiles}
use Rattle.sy_places.specs.internal.Halts.{file_of, machine_file_of}
use Rattle.sy_places.specs.declared.site_file.texts.RelayText.{RelayText}
use Rattle.sy_places.proofs.FilesGiven.{given_more, machines_more, names_end, names_on}
use Rattle.sy_places.proofs.Unread.{unread_within}
use Rattle.sy_places.proofs.site_file.site.read_files.Goals as goal

pub loop-name-preserved : goal.loop-name-preserved
loop-name-preserved g c =
    let bytes_of = g.F.Files.bytes_of c.args.files.now in
    let file : RelayText = c.in-Ok.read in
    let same = c.in-Ok.ensures.same in
    let read = subst (λ name. IfSome (bytes_of name) (λ bytes. c.in_ok-text.text.items ≡ bytes)) c.as_str.ensures.value c.in_ok-text.ensures.ok in
    let by_name = subst (λ name. IfSome (bytes_of (string_bytes name)) (λ bytes. c.in_ok-text.text.items ≡ bytes)) (sym same.0) read in
    let known = subst (λ text. IfSome (bytes_of (string_bytes file.name)) (λ bytes. text.items ≡ bytes)) (sym same.1) by_name in
    record {
      given = subst (λ found. AreGiven bytes_of (map file_of found)) (sym c.in-Ok-push.ensures.items)
          (given_more bytes_of c.loop-name.found.items file c.loop-name.invariant.given known);
      machines = subst (λ found. AreMachineFiles (map file_of found) (map machine_file_of found)) (sym c.in-Ok-push.ensures.items)
          (machines_more c.loop-name.found.items file c.loop-name.invariant.machines c.in-Ok.ensures.machine);
      names = names_on (λ f. string_bytes f.name) string_bytes c.loop-name.found.items _ file c.in-Some.name _ _ _ c.in-Ok-push.ensures.items
          (ap string_bytes same.0) c.in-Some.ensures.steps.0 c.loop-name.invariant.names;
    }

pub returns-clause-names : goal.returns-clause-names
returns-clause-names g c =
    let whole : c.into_iter-name-iterator.result.rest.items ≡ c.args.names.items = search rules in
    names_end (λ f. string_bytes f.name) string_bytes c.loop-name.found.items c.loop-name.name-iterator.rest.items _
    (sym c.loop-name.name-iterator.rest.ok.0 ∙ c.in-None.ensures.steps.0) (c.loop-name.invariant.names)
    ∙ ap (map string_bytes) whole

pub returns-in_err-text-clause-unread : goal.returns-in_err-text-clause-unread
returns-in_err-text-clause-unread g c =
    let p = err_from_is_err_and c.from_residual.result c.from_residual.ensures.1 in
    let whole : c.into_iter-name-iterator.result.rest.items ≡ c.args.names.items = search rules in
    let found = map (λ f. string_bytes f.name) c.loop-name.found.items in
    let names = sym (ap (map string_bytes) whole) ∙ sym c.loop-name.invariant.names
    ∙ ap (λ rest. found ++ map string_bytes rest) c.in-Some.ensures.steps.0 in
    rw (p.1, p.2) (unread_within (g.F.Files.may_fail c.args.files.now) _ _ found _ _ c.as_str.ensures.value names _ c.in_err-text.ensures.unread)
