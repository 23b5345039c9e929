use Rattle.std.proofs.Common.{inl, inr, refl, false, true}
use Rattle.sy_board.specs.declared.relay.answers.Taken.{Taken}
use Rattle.sy_board.specs.declared.relay.answers.Taken.TheVariants as taken
use Rattle.sy_chain.specs.Entries.{Entry}
use Rattle.sy_board.specs.relay.Boards.{BoardState, GrabIs, Made, TakeIs}
use Rattle.sy_board.specs.relay.Steps.{Event}
use Rattle.std.proofs.Common.{ℕ, List, ◌≡◌, ◌⊎◌}
use Rattle.sy_board.proofs.relay.answers_are_steps.Goals as goal

take_made : (old new : BoardState) (input number : ℕ) (node : Entry) (answer : Taken) → TakeIs answer old input number node new → Made old (Event.Take input number node) new
take_made old new input number node taken.InHand is = (_, (false, is.0, refl), is.1)
take_made old new input number node (taken.Discarded lost) is = (_, (true, is.1, refl), is.2)

grab_made : (old new : BoardState) (worker count : ℕ) (lost : List Entry) → GrabIs count lost old worker new → (new ≡ old) ⊎ Made old (Event.Grab worker) new
grab_made old new worker count lost (inl none) = inl none.0
grab_made old new worker count lost (inr is) = inr (_, (lost, is.0, refl), is.2)

pub returns-clause-take : goal.returns-clause-take
returns-clause-take c = take_made

pub returns-clause-enter : goal.returns-clause-enter
returns-clause-enter c = λ old new input number is. (_, (is.0, is.1, refl), is.2)

pub returns-clause-expire : goal.returns-clause-expire
returns-clause-expire c = λ old new input number node is. (_, (node, is.0, refl), is.1)

pub returns-clause-grab : goal.returns-clause-grab
returns-clause-grab c = grab_made

pub returns-clause-settle : goal.returns-clause-settle
returns-clause-settle c = λ old new worker receipt is. (_, (receipt.device, is.0.run.entry, is.1, refl), is.2)

pub returns-clause-again : goal.returns-clause-again
returns-clause-again c = λ old new worker failure took is. (_, (failure.device, is.0.of.run.entry, is.1, refl), is.2 took)

pub returns-clause-gave_up : goal.returns-clause-gave_up
returns-clause-gave_up c = λ old new worker failure took is. (_, (failure.device, is.0.of.run.entry, is.1, refl), is.2 took)

pub returns-clause-posted : goal.returns-clause-posted
returns-clause-posted c = λ old new worker node is. (_, (is.0, node, false, is.1, refl), is.2)

pub returns-clause-discarded : goal.returns-clause-discarded
returns-clause-discarded c = λ old new worker node lost is. (_, (is.1, node, true, is.2, refl), is.3)

pub returns-clause-post_lost : goal.returns-clause-post_lost
returns-clause-post_lost c = λ old new worker why is. (_, (is.0, is.1, is.2, refl), is.3)
