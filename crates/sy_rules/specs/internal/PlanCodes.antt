-- A code for plans, by which a proof tells them apart: of a text its symbols, each after its parts.
use Rattle.std.specs.Prelude.{◌≡◌, ◌⊎◌, ℕ, zero, suc, List, [], ◌∷◌, Option, refl}
use Rattle.std.proofs.Common.{ap, ◌∙◌, inl, inr}
use Rattle.std.specs.Coded.{Coded, code_by, coded_list, coded_option, coded⊎, coded×, coded_ℕ}
use Rattle.sy_select.specs.internal.Codes.{formula_code}
use Rattle.sy_select.specs.declared.condition.Test.{Test}
use Rattle.sy_select.specs.contracts.condition.Test as test
use Rattle.sy_select.specs.Truth.{Formula}
use Rattle.sy_rules.specs.contracts.parameters.settings.QueueParameters as queue
use Rattle.sy_rules.specs.contracts.parts.Action as action
use Rattle.sy_rules.specs.contracts.parts.Input as input
use Rattle.sy_rules.specs.declared.parameters.settings.QueueParameters.{QueueParameters}
use Rattle.sy_rules.specs.declared.parts.Action.{Action}
use Rattle.sy_rules.specs.declared.parts.Input.{Input}
use Rattle.sy_rules.specs.PlanValue.{Listed, Plan}
use Rattle.sy_rules.specs.lists.Body.{Body}

-- a test, or the kind of another symbol and its number
abbrev pub Symbol : Type 0
Symbol = Formula Test ⊎ (ℕ × ℕ)

abbrev pub symbols : Body → List Symbol → List Symbol
symbols Body.End rest = inr (0, 0) ∷ rest
symbols (Body.Run a s) rest = symbols s (inr (1, a) ∷ rest)
symbols (Body.Post l s) rest = symbols s (inr (2, l) ∷ rest)
symbols (Body.Stop s) rest = symbols s (inr (3, 0) ∷ rest)
symbols (Body.If x done otherwise s) rest = symbols done (symbols otherwise (symbols s (inl x ∷ rest)))

-- the parts so far, the last one first
abbrev pub placed : Symbol → List Body → List Body
placed (inr (zero, n)) xs = Body.End ∷ xs
placed (inr (suc k, n)) [] = []
placed (inr (suc zero, n)) (s ∷ xs) = Body.Run n s ∷ xs
placed (inr (suc (suc zero), n)) (s ∷ xs) = Body.Post n s ∷ xs
placed (inr (suc (suc (suc k)), n)) (s ∷ xs) = Body.Stop s ∷ xs
placed (inl x) (s ∷ otherwise ∷ done ∷ xs) = Body.If x done otherwise s ∷ xs
placed (inl x) xs = xs

abbrev pub built : List Symbol → List Body → List Body
built [] xs = xs
built (c ∷ cs) xs = built cs (placed c xs)

abbrev pub top : List Body → Body
top [] = Body.End
top (x ∷ xs) = x

built-symbols : (s : Body) (rest : List Symbol) (xs : List Body) → built (symbols s rest) xs ≡ built rest (s ∷ xs)
built-symbols Body.End rest xs = refl
built-symbols (Body.Run a s) rest xs = built-symbols s (inr (1, a) ∷ rest) xs
built-symbols (Body.Post l s) rest xs = built-symbols s (inr (2, l) ∷ rest) xs
built-symbols (Body.Stop s) rest xs = built-symbols s (inr (3, 0) ∷ rest) xs
built-symbols (Body.If x done otherwise s) rest xs =
    built-symbols done (symbols otherwise (symbols s (inl x ∷ rest))) xs
    ∙ (built-symbols otherwise (symbols s (inl x ∷ rest)) (done ∷ xs)
    ∙ built-symbols s (inl x ∷ rest) (otherwise ∷ done ∷ xs))

pub built_back : (s : Body) → top (built (symbols s []) []) ≡ s
built_back s = ap top (built-symbols s [] [])

abbrev pub body_code : Coded Body
body_code =
    code_by (List Symbol) (coded_list (coded⊎ (formula_code test.the_row.coded) (coded× coded_ℕ coded_ℕ))) (λ s. symbols s []) (λ cs. top (built cs [])) built_back

abbrev pub listed_code : Coded Listed
listed_code =
    code_by (Body × Option ℕ) (coded× body_code (coded_option coded_ℕ)) (λ l. (l.body, l.queue)) (λ p. record { body = p.0; queue = p.1 }) (λ _. refl)

abbrev pub Parts : Type 0
Parts = List Input × (List QueueParameters × (List ℕ × (List Action × (List Listed × (ℕ × List (List ℕ))))))

abbrev pub plan_code : Coded Plan
plan_code =
    code_by Parts
    (coded× (coded_list input.the_row.coded) (coded× (coded_list queue.the_row.coded) (coded× (coded_list coded_ℕ) (coded× (coded_list action.the_row.coded) (coded× (coded_list listed_code) (coded× coded_ℕ (coded_list (coded_list coded_ℕ))))))))
    (λ p. (p.inputs, (p.queues, (p.workers, (p.actions, (p.lists, (p.rulesets, p.names)))))))
    (λ p. record { inputs = p.0; queues = p.1.0; workers = p.1.1.0; actions = p.1.1.1.0; lists = p.1.1.1.1.0; rulesets = p.1.1.1.1.1.0; names = p.1.1.1.1.1.1 })
    (λ _. refl)
