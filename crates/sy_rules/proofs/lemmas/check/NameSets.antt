-- What a set of names has, as a list of names.
use Rattle.std.proofs.Common.{◌≡◌, ℕ, Bool, true, false, cond, ◌||◌, List, [], ◌∷◌, map, refl, sym, ap, ◌∙◌}
use denote.Ref.{Bor}
use Rattle.std.specs.BTreeMap.{is_at}
use Rattle.std.specs.BTreeSet.{BTreeSet, Updates, contains}
use Rattle.std.specs.Cmp.Lexicographic.{slice_cmp, nat_list_eq_equiv}
use Rattle.std.specs.List.{list_any}
use Rattle.std.specs.Ordering.{nat_cmp}
use Rattle.std.specs.declared.cmp.Ordering.{Ordering}
use Rattle.std.specs.Str.{bytes_eq}
use Rattle.std.proofs.lemmas.Map.Text.{is_eq-slice_cmp}
use Rattle.sy_rules.specs.check.ScriptFaults.{is_among}

pub any_at : (name : List ℕ) (keys : List (Bor (List ℕ))) → list_any (is_at (λ k. slice_cmp nat_cmp name k.now)) keys ≡ is_among name (map (λ k. k.now) keys)
any_at name [] = refl
any_at name (k ∷ keys) = rw (is_eq-slice_cmp name k.now, any_at name keys) refl

or_flipped : (a b : Bool) → cond a true b ≡ (b || a)
or_flipped true true = refl
or_flipped true false = refl
or_flipped false true = refl
or_flipped false false = refl

abbrev order : Bor (List ℕ) → Bor (List ℕ) → Ordering
order x y = slice_cmp nat_cmp x.now y.now

pub one_name_more : (name : Bor (List ℕ)) (old new : BTreeSet (Bor (List ℕ))) → Updates order old new name true → (other : List ℕ) → is_among other (map (λ k. k.now) new.keys) ≡ (is_among other (map (λ k. k.now) old.keys) || bytes_eq other name.now)
one_name_more name old new h other =
    let q : Bor (List ℕ) = record { ref_ptr = (0, 0); now = other } in
    sym (any_at other new.keys)
    ∙ h.0 q
    ∙ ap (λ b. cond b true (contains order old q)) (is_eq-slice_cmp name.now other)
    ∙ or_flipped (bytes_eq name.now other) (contains order old q)
    ∙ ap (λ b. b || bytes_eq name.now other) (any_at other old.keys)
    ∙ ap (λ b. is_among other (map (λ k. k.now) old.keys) || b) (nat_list_eq_equiv.symm name.now other)
