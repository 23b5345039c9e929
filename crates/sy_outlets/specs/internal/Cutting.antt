-- What comes of the next frame of a framer.
use Rattle.std.specs.Prelude.{◌≡◌, ◌⊎◌, ℕ, List, [], ◌∷◌, ◌++◌, map, true, false}
use Rattle.sy_wire.specs.Frames.{Held, frame, stream}
use Rattle.sy_runtime.specs.Connections.{text_of}
use Rattle.sy_runtime.specs.declared.untaken.Item.{Item}
use Rattle.sy_runtime.specs.declared.untaken.Untaken.{Untaken}
use Rattle.sy_outlets.specs.Left.{IsCut}
use Rattle.sy_outlets.specs.declared.leaving.remaining.Next.{Next}
use Rattle.sy_outlets.specs.declared.leaving.remaining.Next.TheVariants as next

-- it went to those that were gathered
pub record Moves (items : List Item) (framer : Held) (items' : List Item) (framer' : Held) : Type 0 where
  pub raw : List ℕ
  pub gathered : map text_of items' ≡ map text_of items ++ raw ∷ []
  pub taken : framer.left ≡ frame raw ++ framer'.left
  pub good : framer'.has_failed ≡ false

-- there is none, and nothing has changed but that the framer may have failed
pub record Stays (items : List Item) (framer : Held) (items' : List Item) (framer' : Held) : Type 0 where
  pub same : items' ≡ items
  pub left : framer'.left ≡ framer.left
  pub cut : IsCut framer.left ⊎ (framer.has_failed ≡ true)

abbrev pub NextIs : Next → List Item → Held → List Item → Held → Type 0
NextIs next.Moved items framer items' framer' = Moves items framer items' framer'
NextIs next.End items framer items' framer' = Stays items framer items' framer'
NextIs next.Part items framer items' framer' = Stays items framer items' framer'

-- so many frames went to those that were gathered; a framer that has failed had failed before
pub record Moved (old : Untaken) (items : List Item) (framer : Held) : Type 0 where
  pub framed : List (List ℕ)
  pub gathered : map text_of items ≡ map text_of old.items.items ++ framed
  pub whole : old.framer.left ≡ stream framed ++ framer.left
  pub good : framer.has_failed ≡ true → (old.framer.has_failed ≡ true) × (framed ≡ [])
