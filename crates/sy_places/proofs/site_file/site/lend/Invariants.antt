use Rattle.std.proofs.Common.{◌≡◌, ◌++◌, map, drop}
use Rattle.sy_site.specs.texts.Describes.{file}
use Rattle.sy_places.specs.internal.Halts.{machine_file_of}
use Rattle.sy_places.proofs.site_file.site.lend.Given as goal

abbrev pub invariant-loop-file : goal.invariant-loop-file
invariant-loop-file l = map (λ f. file f.0.now f.1.now) l.lent.items ++ map machine_file_of (drop l.file-index l.files) ≡ map machine_file_of l.files
