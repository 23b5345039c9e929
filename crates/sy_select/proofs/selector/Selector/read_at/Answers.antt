use Rattle.sy_select.proofs.ExprLaws.{first_at, refused_for}
use Rattle.sy_select.proofs.GrammarLaws.{refused_is_none}
use Rattle.sy_select.proofs.selector.Selector.read_at.Goals as goal

pub returns-in-Err-clause-only : goal.returns-in-Err-clause-only
returns-in-Err-clause-only c = λ parts h. absurd (refused_is_none c.args.text.now _ _ c.in-Err.ensures.err.1 parts h)

pub returns-in-Err-clause-refused : goal.returns-in-Err-clause-refused
returns-in-Err-clause-refused c = refused_for _ _ _ (first_at c.args.span c.args.text.now _ _ c.in-Err.ensures.err) c.new.ensures
