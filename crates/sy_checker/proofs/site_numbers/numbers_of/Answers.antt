use Rattle.sy_checker.proofs.Numbering.{numbers_begin, numbers_fall, numbers_most}
use Rattle.sy_checker.proofs.site_numbers.numbers_of.Goals as goal

pub number_inputs-requires-clause-done : goal.number_inputs-requires-clause-done
number_inputs-requires-clause-done c = numbers_begin c.args.site.now c.args.class c.in_ok-numbers.numbers.items c.in_ok-numbers.ensures

pub returns-clause-numbers : goal.returns-clause-numbers
returns-clause-numbers c =
    numbers_fall c.args.site.now c.args.class c.args.inputs.now c.number_inputs.new.numbers.items c.in_ok-number_inputs.ensures.done
    (λ x reach. (c.requires.reached x).1 reach) c.in_ok-number_inputs.ensures.all

pub returns-clause-most : goal.returns-clause-most
returns-clause-most c =
    numbers_most c.args.site.now c.args.class c.args.inputs.now c.number_inputs.new.numbers.items c.in_ok-number_inputs.ensures.done
    (λ x reach. (c.requires.reached x).1 reach) c.in_ok-number_inputs.ensures.all
