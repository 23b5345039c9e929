-- What the parts of the reader of messages say: how far a run of characters goes, a field, an element, a time.
use Rattle.std.specs.Prelude.{◌≡◌, ℕ, List, ◌∷◌, ◌++◌, ◌≢◌, ◌+◌}
use Rattle.sy_wire.specs.declared.message.scan.Kind.{Kind}
use Rattle.sy_wire.specs.declared.message.scan.Kind.TheVariants.{Digit, Printable, NameByte}
use Rattle.sy_wire.specs.Characters.{IsDigit, IsPrintUsAscii, IsNameCharacter, IsRun, open_bracket}
use Rattle.sy_wire.specs.declared.message.MsgCode.{MsgCode}
use Rattle.sy_wire.specs.declared.message.MsgCode.TheVariants.{Pri, StructuredData, Trailing}
use Rattle.sy_wire.specs.StructuredData.{AreSdElements, IsWholeData}
use Rattle.sy_wire.specs.Timestamps.{IsSecFrac, IsTimeOffset}

-- what the kinds of the code stand for
abbrev pub OfKind : Kind → ℕ → Type 0
OfKind Digit b = IsDigit b
OfKind Printable b = IsPrintUsAscii b
OfKind NameByte b = IsNameCharacter b

-- the bytes are a text of the grammar G and then these
pub record Begins (G : List ℕ → Type 0) (bytes rest : List ℕ) : Type 0 where
  pub text : List ℕ
  pub is : G text
  pub whole : bytes ≡ text ++ rest

-- the bytes are a run, a byte of another kind that ends it, and then these
pub record RunsTo (P : ℕ → Type 0) (most : ℕ) (bytes : List ℕ) (ending : ℕ) (rest : List ℕ) : Type 0 where
  pub text : List ℕ
  pub is : IsRun P most text
  pub ends : P ending → ⊥
  pub whole : bytes ≡ text ++ ending ∷ rest

-- the bytes are a text of the grammar G, a byte that ends it, and then these
pub record EndsTo (G : List ℕ → Type 0) (ending : ℕ) (bytes rest : List ℕ) : Type 0 where
  pub text : List ℕ
  pub is : G text
  pub whole : bytes ≡ text ++ ending ∷ rest

-- which parts are fields of the header
abbrev pub IsHeaderField : MsgCode → Type 0
IsHeaderField Pri = ⊥
IsHeaderField StructuredData = ⊥
IsHeaderField Trailing = ⊥
IsHeaderField _ = Unit {0}

-- the bytes are structured data, and then these
pub record DataTo (bytes rest : List ℕ) : Type 0 where
  pub text : List ℕ
  pub is : IsWholeData text rest
  pub whole : bytes ≡ text ++ rest

-- the bytes are elements, and then these, which open no other
pub record ElementsTo (bytes rest : List ℕ) : Type 0 where
  pub text : List ℕ
  pub are : AreSdElements text
  pub whole : bytes ≡ text ++ rest
  pub last : (more : List ℕ) → rest ≢ open_bracket ∷ more

-- [TIME-SECFRAC] TIME-OFFSET
pub record IsTimeEnd (text : List ℕ) : Type 0 where
  pub fraction : List ℕ
  pub offset : List ℕ
  pub is_fraction : IsSecFrac fraction
  pub is_offset : IsTimeOffset offset
  pub whole : text ≡ fraction ++ offset
