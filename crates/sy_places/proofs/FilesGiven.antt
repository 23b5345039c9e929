-- The files of a site, one after the other.
use Rattle.std.proofs.Common.{◌≡◌, ℕ, length, map, arith, List, [], ◌∷◌, ◌++◌, refl, sym, ap, subst, ◌∙◌}
use Rattle.std.specs.Prelude.{IfSome, Option, string_bytes}
use Rattle.sy_site.specs.texts.Describes.{File}
use Rattle.sy_places.specs.declared.site_file.texts.RelayText.{RelayText}
use Rattle.std.proofs.lemmas.List.{append_assoc, append-nil, map_push}
use Rattle.sy_places.specs.SiteFiles.{AreGiven, AreMachineFiles}
use Rattle.sy_places.specs.internal.Halts.{file_of, machine_file_of}
use Rattle.sy_host_parameters.specs.HostParameters.{IsMachineText, machine_or}

pub names_given : (files : List RelayText) → map (λ (file : File). file.name) (map file_of files) ≡ map (λ (f : RelayText). string_bytes f.name) files
names_given [] = refl
names_given (file ∷ files) = ap (λ names. string_bytes file.name ∷ names) (names_given files)

-- names that a loop has gone through, and those that are left
pub names_on : {A B : Type 0} (f : A → List ℕ) (g : B → List ℕ) (found new : List A) (file : A) (name : B) (rest rest' : List B) (all : List (List ℕ))
    → new ≡ found ++ file ∷ [] → f file ≡ g name → rest ≡ name ∷ rest' → map f found ++ map g rest ≡ all → map f new ++ map g rest' ≡ all
names_on f g found new file name rest rest' all is same more before =
    ap (λ n. map f n ++ map g rest') is
    ∙ ap (λ x. x ++ map g rest') (map_push f found file)
    ∙ append_assoc (map f found) (f file ∷ []) (map g rest')
    ∙ ap (λ n. map f found ++ n ∷ map g rest') same
    ∙ ap (λ r. map f found ++ map g r) (sym more)
    ∙ before

pub names_end : {A B : Type 0} (f : A → List ℕ) (g : B → List ℕ) (found : List A) (rest : List B) (all : List (List ℕ)) → length rest ≡ 0
    → map f found ++ map g rest ≡ all → map f found ≡ all
names_end f g found [] all none same = sym (append-nil (map f found)) ∙ same
names_end f g found (name ∷ rest) all none same = absurd (omega (arith, none))

given_behind : (bytes_of : List ℕ → Option (List ℕ)) (files : List File) (file : File) → AreGiven bytes_of files
    → IfSome (bytes_of file.name) (λ bytes. file.bytes ≡ bytes) → AreGiven bytes_of (files ++ file ∷ [])
given_behind bytes_of [] file given is = (is, tt)
given_behind bytes_of (f ∷ files) file given is = (given.0, given_behind bytes_of files file given.1 is)

pub given_more : (bytes_of : List ℕ → Option (List ℕ)) (files : List RelayText) (file : RelayText) → AreGiven bytes_of (map file_of files)
    → IfSome (bytes_of (string_bytes file.name)) (λ bytes. file.text.items ≡ bytes) → AreGiven bytes_of (map file_of (files ++ file ∷ []))
given_more bytes_of files file given is =
    subst (AreGiven bytes_of) (sym (map_push file_of files file)) (given_behind bytes_of (map file_of files) (file_of file) given is)

machine_behind : (files machines : List File) (file machine : File) → AreMachineFiles files machines → machine.name ≡ file.name
    → IsMachineText file.bytes machine.bytes → AreMachineFiles (files ++ file ∷ []) (machines ++ machine ∷ [])
machine_behind [] [] file machine are same is = (same, is, tt)
machine_behind [] (m ∷ machines) file machine are same is = absurd are
machine_behind (f ∷ files) [] file machine are same is = absurd are
machine_behind (f ∷ files) (m ∷ machines) file machine (name, text, are) same is =
    (name, text, machine_behind files machines file machine are same is)

-- a file more, with the text that its plan is read from
pub machines_more : (files : List RelayText) (file : RelayText) → AreMachineFiles (map file_of files) (map machine_file_of files)
    → IsMachineText file.text.items (machine_or file.text.items file.machine)
    → AreMachineFiles (map file_of (files ++ file ∷ [])) (map machine_file_of (files ++ file ∷ []))
machines_more files file are is =
    subst (λ fs. AreMachineFiles fs (map machine_file_of (files ++ file ∷ []))) (sym (map_push file_of files file))
    (subst (AreMachineFiles (map file_of files ++ file_of file ∷ [])) (sym (map_push machine_file_of files file))
    (machine_behind (map file_of files) (map machine_file_of files) (file_of file) (machine_file_of file) are refl is))
