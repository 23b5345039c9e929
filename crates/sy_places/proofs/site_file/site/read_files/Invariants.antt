use Rattle.std.proofs.Common.{◌≡◌, ◌++◌, map}
use Rattle.std.specs.Prelude.{string_bytes}
use Rattle.sy_places.specs.SiteFiles.{AreGiven, AreMachineFiles}
use Rattle.sy_places.specs.internal.Halts.{file_of, machine_file_of}
use Rattle.sy_places.proofs.site_file.site.read_files.Given as goal

abbrev pub invariant-loop-name : goal.invariant-loop-name
invariant-loop-name g l = record {
  given : AreGiven (g.F.Files.bytes_of l.files) (map file_of l.found.items);
  machines : AreMachineFiles (map file_of l.found.items) (map machine_file_of l.found.items);
  names : map (λ f. string_bytes f.name) l.found.items ++ map string_bytes l.name-iterator.rest.items ≡ map string_bytes l.initial.name-iterator.rest.items;
}
