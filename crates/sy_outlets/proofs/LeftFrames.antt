-- Frames one behind the other.
use Rattle.std.proofs.Common.{◌≡◌, ℕ, Bool, true, false, List, [], ◌∷◌, ◌++◌, map, refl, sym, subst, ap, ◌∙◌}
use Rattle.std.specs.Prelude.{OnOk, Option, Some, None, Result, Ok, Err, ◌==◌}
use Rattle.std.specs.Io.KnownBytes.{Appends, IsAtEnd, Keeps}
use Rattle.std.proofs.KnownBytes.{Appends-trans}
use Rattle.std.proofs.lemmas.List.{append-nil}
use Rattle.std.proofs.lemmas.List.Concat.{flat_map-append}
use Rattle.sy_chain.specs.Entries.{Entry}
use Rattle.sy_wire.specs.Frames.{frame, stream}
use Rattle.sy_runtime.specs.declared.untaken.Item.{Item}
use Rattle.sy_runtime.specs.declared.untaken.Untaken.{Untaken}
use Rattle.sy_runtime.specs.Connections.{text_of}
use Rattle.sy_outlets.specs.Left.{AreRests, IsOfInput, IsRest, KeepsEach, KeepsFile, texts_of}
use Rattle.sy_outlets.specs.declared.leaving.remaining.AtInput.{AtInput}

pub nothing_more : (a b : Option (List ℕ)) → Keeps a b → Appends a b (stream [])
nothing_more None b h = tt
nothing_more (Some xs) None h = h
nothing_more (Some xs) (Some ys) h = h ∙ sym (append-nil xs)

-- nothing was written
pub nothing_written : (a : Option (List ℕ)) → Appends a a (stream [])
nothing_written None = tt
nothing_written (Some xs) = sym (append-nil xs)

pub kept_after : (a b c : Option (List ℕ)) (bytes : List ℕ) → Appends a b bytes → Keeps b c → Appends a c bytes
kept_after None b c bytes one keeps = tt
kept_after (Some xs) None c bytes one keeps = absurd one
kept_after (Some xs) (Some ys) None bytes one keeps = absurd keeps
kept_after (Some xs) (Some ys) (Some zs) bytes one keeps = keeps ∙ one

pub frames_more : (a b c : Option (List ℕ)) (text : List ℕ) (later : List (List ℕ)) → Appends a b (frame text) → Appends b c (stream later)
    → Appends a c (stream (text ∷ later))
frames_more a b c text later one more = Appends-trans a b c (frame text) (stream later) one more

-- the same of a list with that item in front
pub items_at_front : (a b c : Option (List ℕ)) (all : List Item) (item : Item) (later : List Item) → all ≡ item ∷ later
    → Appends a b (frame (text_of item)) → Appends b c (stream (map text_of later)) → Appends a c (stream (map text_of all))
items_at_front a b c all item later is one more =
    subst (λ items. Appends a c (stream (map text_of items))) (sym is) (frames_more a b c (text_of item) (map text_of later) one more)

-- an entry of the input, and one of another
pub texts_here : (input : ℕ) (e : Entry) (later : List Entry) → (e.input == input) ≡ true → texts_of input (e ∷ later) ≡ e.message.raw ∷ texts_of input later
texts_here input e later is = rw is

pub texts_there : (input : ℕ) (e : Entry) (later : List Entry) → (e.input == input) ≡ false → texts_of input (e ∷ later) ≡ texts_of input later
texts_there input e later is = rw is

-- the first of some entries came by the input: its frame was written
pub held_here : (a b c : Option (List ℕ)) (input : ℕ) (e : Entry) (later all : List Entry) → all ≡ e ∷ later → (e.input == input) ≡ true
    → Appends a b (frame e.message.raw) → Appends b c (stream (texts_of input later)) → Appends a c (stream (texts_of input all))
held_here a b c input e later all is here one more =
    subst (λ texts. Appends a c (stream texts)) (sym (ap (texts_of input) is ∙ texts_here input e later here))
    (frames_more a b c e.message.raw (texts_of input later) one more)

-- it came by another
pub held_there : (b c : Option (List ℕ)) (input : ℕ) (e : Entry) (later all : List Entry) → all ≡ e ∷ later → (e.input == input) ≡ false
    → Appends b c (stream (texts_of input later)) → Appends b c (stream (texts_of input all))
held_there b c input e later all is there more =
    subst (λ texts. Appends b c (stream texts)) (sym (ap (texts_of input) is ∙ texts_there input e later there)) more

-- what two texts make together
pub both : (a b c : Option (List ℕ)) (one other : List (List ℕ)) → Appends a b (stream one) → Appends b c (stream other) → Appends a c (stream (one ++ other))
both a b c one other first second =
    subst (λ bytes. Appends a c bytes) (sym (flat_map-append frame one other)) (Appends-trans a b c (stream one) (stream other) first second)

-- the rest of one connection more
pub rest_more : (a b c : Option (List ℕ)) (all : List Untaken) (untaken : Untaken) (later : List Untaken) (texts others : List (List ℕ)) → all ≡ untaken ∷ later
    → IsRest untaken texts → Appends a b (stream texts) → AreRests later others → Appends b c (stream others)
    → (texts : List (List ℕ)) × AreRests all texts × Appends a c (stream texts)
rest_more a b c all untaken later texts others is rest wrote rests more =
    (texts ++ others, subst (λ xs. AreRests xs (texts ++ others)) (sym is) (AreRests.more untaken rest rests), both a b c texts others wrote more)

-- nothing is left to be kept
stays : {S : Type 0} (Kept : S → ℕ → List ℕ → S → Type 0) (entries : List Entry) (a b : S) → KeepsEach Kept entries a [] b → a ≡ b
stays Kept entries a _ KeepsEach.none = refl

first : {S : Type 0} (Kept : S → ℕ → List ℕ → S → Type 0) (entries : List Entry) (a b c : S) (input : AtInput) (later : List AtInput)
    → KeepsEach Kept entries a (input ∷ []) b → KeepsEach Kept entries b later c → KeepsEach Kept entries a (input ∷ later) c
first Kept entries a b c input later (KeepsEach.kept {store} {between} input' texts is kept none) more =
    KeepsEach.kept input texts is kept
    (subst (λ s. KeepsEach Kept entries s later c) (sym (stays Kept entries between b none)) more)
first Kept entries a b c input later (KeepsEach.nothing input' is none) more =
    KeepsEach.nothing input is (subst (λ s. KeepsEach Kept entries s later c) (sym (stays Kept entries a b none)) more)

-- what is kept of an input, and then of the others
pub keeps_more : {S : Type 0} (Kept : S → ℕ → List ℕ → S → Type 0) (entries : List Entry) (a b c : S) (all : List AtInput) (input : AtInput)
    (later : List AtInput) → all ≡ input ∷ later → KeepsEach Kept entries a (input ∷ []) b → KeepsEach Kept entries b later c → KeepsEach Kept entries a all c
keeps_more Kept entries a b c all input later is one more =
    subst (λ xs. KeepsEach Kept entries a xs c) (sym is) (first Kept entries a b c input later one more)

-- no input is left
pub keeps_none : {S : Type 0} (Kept : S → ℕ → List ℕ → S → Type 0) (entries : List Entry) (a : S) (all : List AtInput) → all ≡ []
    → KeepsEach Kept entries a all a
keeps_none Kept entries a all none = subst (λ xs. KeepsEach Kept entries a xs a) (sym none) KeepsEach.none

-- an input of which nothing is left
pub keeps_nothing : {S : Type 0} (Kept : S → ℕ → List ℕ → S → Type 0) (entries : List Entry) (a : S) (input : AtInput) → input.untaken.items ≡ []
    → texts_of input.at.input entries ≡ [] → KeepsEach Kept entries a (input ∷ []) a
keeps_nothing Kept entries a input none no_entry = KeepsEach.nothing input
    (record {
      others = [];
      rests = subst (λ xs. AreRests xs []) (sym none) AreRests.none;
      texts_are = sym (ap (λ xs. xs ++ []) no_entry);
    })
    KeepsEach.none

-- an input whose file was kept, which had begun as the store says
pub keeps_one : {S : Type 0} (begun : S → ℕ → Option (List ℕ)) (Kept : S → ℕ → Option (List ℕ) → S → Type 0) (entries : List Entry) (a b : S)
    (input : AtInput) (opened contents : Option (List ℕ)) (texts : List (List ℕ)) → opened ≡ begun a input.at.port → IsAtEnd opened
    → IsOfInput input entries texts → Appends opened contents (stream texts) → Kept a input.at.port contents b
    → KeepsEach (KeepsFile begun Kept) entries a (input ∷ []) b
keeps_one begun Kept entries a b input opened contents texts same empty is wrote kept =
    KeepsEach.kept input texts is
    (record {
      contents = contents;
      empty = subst IsAtEnd same empty;
      wrote = subst (λ c. Appends c contents (stream texts)) same wrote;
      kept = kept;
    })
    KeepsEach.none

-- where nothing failed yet, what is left to do may be one step more
pub so_far : {T E S : Type 0} (answer : Result T E) (P Q R : S → Type 0) → OnOk answer ((end : S) → P end → R end) → ((end : S) → Q end → P end)
    → OnOk answer ((end : S) → Q end → R end)
so_far (Ok done) P Q R before next = λ end more. before end (next end more)
so_far (Err fault) P Q R before next = tt

-- and at the end it is all done
pub at_end : {T E S : Type 0} (answer : Result T E) (P R : S → Type 0) (end : S) → OnOk answer ((end : S) → P end → R end) → P end → OnOk answer (R end)
at_end (Ok done) P R end before is = before end is
at_end (Err fault) P R end before is = tt
