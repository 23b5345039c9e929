-- Tests in a plan: as they stand in the configuration, or left open; and that they come into it.
use Rattle.std.specs.Prelude.{◌≡◌, ◌⊎◌, ℕ, List, ◌++◌, codes, slice_get, IfSome, IsSomeAnd}
use Rattle.std.specs.Fmt.{decimal}
use Rattle.std.specs.Prelude.{◌≡◌, ◌⊎◌, ℕ, List, Vec}
use Rattle.std.specs.declared.alloc.Global.{Global}
use Rattle.sy_fleet.specs.declared.walk.Walk.{Walk}

-- Left open: whether a message has a text that is nobody's.
abbrev pub open_text : ℕ → List ℕ
open_text number = (codes "$msg contains \"?" ++ decimal number) ++ codes "\""

pub record IsOpen (test : List ℕ) : Type 0 where
  pub number : ℕ
  pub is : test ≡ open_text number

-- what a test of this text is in the plan
abbrev pub IsTest : (own test : List ℕ) → Type 0
IsTest own test = (test ≡ own) ⊎ IsOpen test

-- a selector
abbrev pub selector_text : List ℕ → List ℕ
selector_text selector = (codes "prifilt(\"" ++ selector) ++ codes "\")"

-- a statement that is executed where a test holds begins
abbrev pub if_text : List ℕ → List ℕ
if_text test = (codes "if " ++ test) ++ codes " then {\n"

-- the work on a message ends where it does
abbrev pub stop_text : List ℕ → List ℕ
stop_text test = (codes "if " ++ test) ++ codes " then stop\n"

-- Text comes behind the statements of a ruleset, where that is there.
abbrev pub AddsTo : (text : List ℕ) (number : ℕ) (before after : List (Vec ℕ Global)) → Type 0
AddsTo text number before after =
    IfSome (slice_get before number) (λ body. IsSomeAnd (slice_get after number) (λ more. more.items ≡ body.items ++ text))

-- The text comes behind the statements of the ruleset that is read.
pub record Adds (text : List ℕ) (before after : Walk) : Type 0 where
  pub ruleset_is : after.«ruleset» ≡ before.«ruleset»
  pub adds : AddsTo text before.«ruleset» before.out.bodies.items after.out.bodies.items

-- A statement begins that is executed where a test holds, which is what a test of that text is in the plan.
pub record BeginsTest (own : List ℕ) (before after : Walk) : Type 0 where
  pub test : List ℕ
  pub is_test : IsTest own test
  pub adds : Adds (if_text test) before after

-- The same of a test that is left open.
pub record BeginsOpen (before after : Walk) : Type 0 where
  pub test : List ℕ
  pub is_open : IsOpen test
  pub adds : Adds (if_text test) before after

-- The work on a message may end here: it does where a test holds that is left open.
pub record MayStop (before after : Walk) : Type 0 where
  pub test : List ℕ
  pub is_open : IsOpen test
  pub adds : Adds (stop_text test) before after
