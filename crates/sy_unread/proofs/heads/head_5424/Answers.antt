use Rattle.std.proofs.Common.{◌∙◌, ◌++◌, ap, refl, sym}
use Rattle.sy_unread.specs.Repairs.{head_text}
use Rattle.sy_unread.proofs.HeadTexts.{head_read}
use Rattle.sy_unread.proofs.NewHeads.{behind_head, behind_pri, head_cut, next_word, no_word, same_fields, same_pri, version_behind}
use Rattle.sy_unread.proofs.heads.head_5424.Goals as goal

pub returns-clause-begins : goal.returns-clause-begins
returns-clause-begins c = (
  c.in-Some-word-5.rest.now,
  head_read _ _ _ _ _ _ _ _ _ _ _ _ _ _
      (c.in-Some.ensures.parts ∙ ap (λ x. c.in-Some.pri.now ++ x) (sym c.from.ensures))
      c.in-Some-version.ensures.some c.in-Some-word.ensures.parts c.in-Some-word-2.ensures.parts c.in-Some-word-3.ensures.parts c.in-Some-word-4.ensures.parts c.in-Some-word-5.ensures.parts,
)

pub returns-clause-read : goal.returns-clause-read
returns-clause-read c = λ head rest is.
    let behind = version_behind _ _ head rest (c.from.ensures ∙ behind_pri _ _ head rest is c.in-Some.ensures.value) c.in-Some-version.ensures.some in
    let time = next_word _ _ _ _ _ behind is.words.0 c.in-Some-word.ensures.first in
    let host = next_word _ _ _ _ _ time.1 is.words.1.0 c.in-Some-word-2.ensures.first in
    let app = next_word _ _ _ _ _ host.1 is.words.1.1.0 c.in-Some-word-3.ensures.first in
    let process = next_word _ _ _ _ _ app.1 is.words.1.1.1.0 c.in-Some-word-4.ensures.first in
    let id = next_word _ _ _ _ _ process.1 is.words.1.1.1.1.0 c.in-Some-word-5.ensures.first in (
      same_fields _ _ _ _ _ _ head (same_pri _ _ head rest is c.in-Some.ensures.value) time.0 host.0 app.0 process.0 id.0,
      behind_head _ (head_text head) rest _ _ _ is.whole id.1 c.min.ensures refl,
    )

pub returns-in_default-clause-none : goal.returns-in_default-clause-none
returns-in_default-clause-none c = λ head rest is. c.in_default.ensures.none head.pri _ is.number is.is_pri (head_cut _ head rest is)

pub returns-in_default-version-clause-none : goal.returns-in_default-version-clause-none
returns-in_default-version-clause-none c = λ head rest is.
    c.in_default-version.ensures.none _ (c.from.ensures ∙ behind_pri _ _ head rest is c.in-Some.ensures.value)

pub returns-in_default-word-clause-none : goal.returns-in_default-word-clause-none
returns-in_default-word-clause-none c = λ head rest is.
    let behind = version_behind _ _ head rest (c.from.ensures ∙ behind_pri _ _ head rest is c.in-Some.ensures.value) c.in-Some-version.ensures.some in
    no_word _ _ _ behind is.words.0 c.in_default-word.ensures.first

pub returns-in_default-word-2-clause-none : goal.returns-in_default-word-2-clause-none
returns-in_default-word-2-clause-none c = λ head rest is.
    let behind = version_behind _ _ head rest (c.from.ensures ∙ behind_pri _ _ head rest is c.in-Some.ensures.value) c.in-Some-version.ensures.some in
    let time = next_word _ _ _ _ _ behind is.words.0 c.in-Some-word.ensures.first in
    no_word _ _ _ time.1 is.words.1.0 c.in_default-word-2.ensures.first

pub returns-in_default-word-3-clause-none : goal.returns-in_default-word-3-clause-none
returns-in_default-word-3-clause-none c = λ head rest is.
    let behind = version_behind _ _ head rest (c.from.ensures ∙ behind_pri _ _ head rest is c.in-Some.ensures.value) c.in-Some-version.ensures.some in
    let time = next_word _ _ _ _ _ behind is.words.0 c.in-Some-word.ensures.first in
    let host = next_word _ _ _ _ _ time.1 is.words.1.0 c.in-Some-word-2.ensures.first in
    no_word _ _ _ host.1 is.words.1.1.0 c.in_default-word-3.ensures.first

pub returns-in_default-word-4-clause-none : goal.returns-in_default-word-4-clause-none
returns-in_default-word-4-clause-none c = λ head rest is.
    let behind = version_behind _ _ head rest (c.from.ensures ∙ behind_pri _ _ head rest is c.in-Some.ensures.value) c.in-Some-version.ensures.some in
    let time = next_word _ _ _ _ _ behind is.words.0 c.in-Some-word.ensures.first in
    let host = next_word _ _ _ _ _ time.1 is.words.1.0 c.in-Some-word-2.ensures.first in
    let app = next_word _ _ _ _ _ host.1 is.words.1.1.0 c.in-Some-word-3.ensures.first in
    no_word _ _ _ app.1 is.words.1.1.1.0 c.in_default-word-4.ensures.first

pub returns-in_default-word-5-clause-none : goal.returns-in_default-word-5-clause-none
returns-in_default-word-5-clause-none c = λ head rest is.
    let behind = version_behind _ _ head rest (c.from.ensures ∙ behind_pri _ _ head rest is c.in-Some.ensures.value) c.in-Some-version.ensures.some in
    let time = next_word _ _ _ _ _ behind is.words.0 c.in-Some-word.ensures.first in
    let host = next_word _ _ _ _ _ time.1 is.words.1.0 c.in-Some-word-2.ensures.first in
    let app = next_word _ _ _ _ _ host.1 is.words.1.1.0 c.in-Some-word-3.ensures.first in
    let process = next_word _ _ _ _ _ app.1 is.words.1.1.1.0 c.in-Some-word-4.ensures.first in
    no_word _ _ _ process.1 is.words.1.1.1.1.0 c.in_default-word-5.ensures.first
