use Rattle.std.proofs.Common.{◌∙◌, sym}
use Rattle.std.specs.Prelude.{option_map}
use Rattle.sy_running.proofs.RunArgs.{name_more, none_seen}
use Rattle.sy_running.proofs.words.with_name.Goals as goal

pub returns : goal.returns
returns c = λ words are.
    name_more c.args.word.now words (option_map (λ word. word.now) c.args.args.first) (option_map (λ word. word.now) c.args.args.second) _
    (none_seen (λ word. word.now) c.args.args.second (sym c.is_some.ensures ∙ c.if-is_some.false)) c.requires are
