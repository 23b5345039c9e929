-- How the tokens of a text go on at each byte.
use Rattle.std.proofs.Common.{◌≡◌, ℕ, ◌+◌, ◌<◌, ◌≤◌, List, [], ◌∷◌, length, drop, get_or, Option, Some, None, Ok, Err, refl, sym, ap, ◌∙◌, append_assoc, append-nil, add-one, arith}
use Rattle.std.proofs.Math.Seq.{drop-cons, drop-length}
use Rattle.sy_script.specs.declared.token.Token.{Token}
use Rattle.sy_script.specs.declared.token.Ending.{Ending}
use Rattle.sy_script.specs.declared.lex.State.{State}
use Rattle.sy_script.specs.declared.lex.Step.{Step}
use Rattle.sy_script.specs.internal.Lex.{Lexing, with_found, with_front, follow, and_on, step, end, tokens_from}

with_front-follow : (front : List Token) (found : Option Token) (rest : Lexing) → with_front front (follow found rest) ≡ with_front (with_found front found) rest
with_front-follow front None rest = refl
with_front-follow front (Some t) rest = ap (λ ts. let l : Lexing = (ts, rest.1) in l) (sym (append_assoc front (t ∷ []) rest.0))

from_drop : (text : List ℕ) (st : State) (at : ℕ) → at < length text → (let done = step text st at (get_or text at 0) in tokens_from text st at (drop at text) ≡ follow done.found (and_on done.next (λ next. tokens_from text next (at + 1) (drop (at + 1) text))))
unfolding tokens_from
from_drop text st at within = rw (drop-cons text at 0, add-one)

pub goes_on : (text : List ℕ) (st : State) (at : ℕ) (front : List Token) (done : Step) → at < length text → done ≡ step text st at (get_or text at 0) →
    with_front front (tokens_from text st at (drop at text)) ≡ with_front (with_found front done.found) (and_on done.next (λ next. tokens_from text next (at + 1) (drop (at + 1) text)))
goes_on text st at front done within is = rw (is, from_drop text st at within) (with_front-follow front _ _)

pub goes_next : (text : List ℕ) (st : State) (at : ℕ) (front front' : List Token) (done : Step) (next : State) → at < length text → done ≡ step text st at (get_or text at 0) → done.next ≡ Ok next → front' ≡ with_found front done.found →
    with_front front' (tokens_from text next (at + 1) (drop (at + 1) text)) ≡ with_front front (tokens_from text st at (drop at text))
goes_next text st at front front' done next within is ok kept = sym (goes_on text st at front done within is ∙ rw (ok, kept))

pub goes_wrong : (text : List ℕ) (st : State) (at : ℕ) (front front' : List Token) (done : Step) (e : Ending) → at < length text → done ≡ step text st at (get_or text at 0) → done.next ≡ Err e → front' ≡ with_found front done.found →
    (let l : Lexing = (front', e) in l) ≡ with_front front (tokens_from text st at (drop at text))
goes_wrong text st at front front' done e within is err kept = sym (goes_on text st at front done within is ∙ rw (err, kept, append-nil))

pub ends : (text : List ℕ) (st : State) (at : ℕ) (front : List Token) → length text ≤ at → at ≤ length text → with_front front (tokens_from text st at (drop at text)) ≡ with_front front (end text st (length text))
unfolding tokens_from
ends text st at front past within =
    let e : at ≡ length text = omega arith in rw (e, drop-length text)
