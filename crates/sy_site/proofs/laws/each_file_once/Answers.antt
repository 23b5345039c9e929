use Rattle.std.proofs.Common.{[]}
use Rattle.sy_site.specs.texts.Files.{files_of}
use Rattle.sy_site.specs.texts.Lines.{word_lines}
use Rattle.sy_site.proofs.lemmas.texts.Once.{among_all, stays_once, nothing_once}
use Rattle.sy_site.proofs.laws.each_file_once.Goals as goal

pub returns-clause-those : goal.returns-clause-those
returns-clause-those c = λ text file. among_all file [] (files_of (word_lines text))

pub returns-clause-once : goal.returns-clause-once
returns-clause-once c = λ text file before later e. stays_once [] (files_of (word_lines text)) nothing_once before later file e
