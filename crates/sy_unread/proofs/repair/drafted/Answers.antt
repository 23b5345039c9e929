use Rattle.sy_unread.proofs.Drafts.{no_text_draft}
use Rattle.sy_unread.proofs.repair.drafted.Goals as goal

pub returns-in_default-clause-none : goal.returns-in_default-clause-none
returns-in_default-clause-none c = λ text. no_text_draft _ _ _ _ (c.in_ok-plain.ensures.text text.is_text) c.in_ok-class.ensures.class c.in_default.ensures.none text
