-- Many offers to a device that tells nothing of any.
use Rattle.std.proofs.Common.{◌≡◌, ℕ, suc, ◌<◌, List, [], ◌∷◌, length, map, refl, sym, subst, arith}
use Rattle.std.specs.Prelude.{⊤, None, Some}
use Rattle.sy_wire.specs.Messages.{Said}
use Rattle.sy_actions.specs.Devices.{OfferedAll}
use Rattle.sy_actions.specs.Devices.OfferedAll.{no_more, one_refused, one_taken}
use Rattle.sy_actions.specs.declared.device.DeviceFault.{DeviceFault}

module _ {A : Type 0} (message : A → Said) where
  -- all were taken
  pub all_taken : (given : List A) (count : ℕ) → count ≡ length given → OfferedAll (λ _ _ _ _. ⊤) (tt {0}) (tt {0}) (map message given) count None
  all_taken [] count is = subst (λ n. OfferedAll (λ _ _ _ _. ⊤) (tt {0}) (tt {0}) [] n None) (sym is) no_more
  all_taken (m ∷ later) count is =
      subst (λ n. OfferedAll (λ _ _ _ _. ⊤) (tt {0}) (tt {0}) (map message (m ∷ later)) n None) (sym is)
      (one_taken (message m) (tt {0}) (all_taken later (length later) refl))

  -- so many were taken, and the one behind them was refused
  pub some_taken : (given : List A) (count : ℕ) (fault : DeviceFault) → count < length given
      → OfferedAll (λ _ _ _ _. ⊤) (tt {0}) (tt {0}) (map message given) count (Some fault)
  some_taken [] count fault low = absurd (omega (arith, low))
  some_taken (m ∷ later) ℕ.zero fault low = one_refused (message m) (map message later) fault (tt {0})
  some_taken (m ∷ later) (suc n) fault low = one_taken (message m) (tt {0}) (some_taken later n fault (omega (arith, low)))
