-- A head that is read or written field by field.
use Rattle.std.proofs.Common.{◌≡◌, ℕ, List, [], ◌∷◌, ◌++◌, ap, subst, ◌∙◌, append_assoc}
use Rattle.sy_unread.specs.Repairs.{BeginsWith, HeadFields, IsHeadAnew, fitted, head_text}
use Rattle.sy_unread.specs.internal.{IsTimed}

abbrev pub fields_text : (pri t h a p m : List ℕ) → List ℕ
fields_text pri t h a p m = pri ++ 49 ∷ 32 ∷ (t ++ 32 ∷ (h ++ 32 ∷ (a ++ 32 ∷ (p ++ 32 ∷ (m ++ 32 ∷ [])))))

pub joined : (pri t h a p m x : List ℕ)
    → pri ++ 49 ∷ 32 ∷ (t ++ 32 ∷ (h ++ 32 ∷ (a ++ 32 ∷ (p ++ 32 ∷ (m ++ 32 ∷ x))))) ≡ fields_text pri t h a p m ++ x
joined pri t h a p m x = simp append_assoc

pub head_read : (b0 b1 b2 b3 b4 b5 b6 b7 pri t h a p m : List ℕ)
    → b0 ≡ pri ++ b1 → b1 ≡ 49 ∷ 32 ∷ b2 → b2 ≡ t ++ 32 ∷ b3 → b3 ≡ h ++ 32 ∷ b4 → b4 ≡ a ++ 32 ∷ b5 → b5 ≡ p ++ 32 ∷ b6 → b6 ≡ m ++ 32 ∷ b7
    → b0 ≡ fields_text pri t h a p m ++ b7
head_read b0 b1 b2 b3 b4 b5 b6 b7 pri t h a p m e0 e1 e2 e3 e4 e5 e6 =
    e0 ∙ ap (λ x. pri ++ x) (e1 ∙ ap (λ x. 49 ∷ 32 ∷ x) (e2 ∙ ap (λ x. t ++ 32 ∷ x) (e3 ∙ ap (λ x. h ++ 32 ∷ x)
    (e4 ∙ ap (λ x. a ++ 32 ∷ x) (e5 ∙ ap (λ x. p ++ 32 ∷ x) e6)))))
    ∙ joined pri t h a p m b7

pub head_written : (s0 s1 s2 s3 s4 s5 s6 s7 s8 pri t h a p m : List ℕ)
    → s1 ≡ s0 ++ pri → s2 ≡ s1 ++ 49 ∷ 32 ∷ [] → s3 ≡ s2 ++ t → s4 ≡ s3 ++ 32 ∷ [] → s5 ≡ (s4 ++ h) ++ 32 ∷ [] → s6 ≡ (s5 ++ a) ++ 32 ∷ []
    → s7 ≡ (s6 ++ p) ++ 32 ∷ [] → s8 ≡ (s7 ++ m) ++ 32 ∷ [] → s8 ≡ s0 ++ fields_text pri t h a p m
head_written s0 s1 s2 s3 s4 s5 s6 s7 s8 pri t h a p m e1 e2 e3 e4 e5 e6 e7 e8 =
    e8 ∙ ap (λ x. (x ++ m) ++ 32 ∷ []) (e7 ∙ ap (λ x. (x ++ p) ++ 32 ∷ []) (e6 ∙ ap (λ x. (x ++ a) ++ 32 ∷ []) (e5 ∙ ap (λ x. (x ++ h) ++ 32 ∷ [])
    (e4 ∙ ap (λ x. x ++ 32 ∷ []) (e3 ∙ ap (λ x. x ++ t) (e2 ∙ ap (λ x. x ++ 49 ∷ 32 ∷ []) e1))))))
    ∙ simp append_assoc

anew_by : (came timed : HeadFields) (timestamp raw : List ℕ) → timed ≡ record came { timestamp = timestamp }
    → BeginsWith (head_text (fitted timed)) raw → BeginsWith (head_text (fitted (record came { timestamp = timestamp }))) raw
anew_by came timed timestamp raw is begins = subst (λ (h : HeadFields). BeginsWith (head_text (fitted h)) raw) is begins

pub head_anew : (bytes raw : List ℕ) (came timed : HeadFields)
    → BeginsWith (head_text came) bytes → IsTimed came timed → BeginsWith (head_text (fitted timed)) raw → IsHeadAnew bytes raw
head_anew bytes raw came timed begins time written =
    record { head = came; came = begins; timestamp = timed.timestamp; same_time = time.time; anew = anew_by came timed timed.timestamp raw time.same written }
