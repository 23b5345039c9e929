-- A writer by what it tells. Where much is written together, writers are told of between the parts that were in no such state.
use Rattle.std.specs.Prelude.{ℕ, List, Option}
use Rattle.std.specs.Borrow.{GName}

-- the bytes that it tells, its writes and flushes that failed, and the borrow that it is
pub record Reported : Type 0 where
  pub contents : Option (List ℕ)
  pub faults : ℕ
  pub lent : Option GName

abbrev pub reported_contents : Reported → Option (List ℕ)
reported_contents t = t.contents

abbrev pub reported_faults : Reported → ℕ
reported_faults t = t.faults

abbrev pub reported : {W : Type 0} → (W → Option (List ℕ)) → (W → ℕ) → (W → Option GName) → W → Reported
reported contents faults lent writer = record { contents = contents writer; faults = faults writer; lent = lent writer }
