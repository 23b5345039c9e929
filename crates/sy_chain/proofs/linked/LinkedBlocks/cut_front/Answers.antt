use Rattle.std.proofs.Common.{ap, ◌∙◌, take, drop, ◌-◌, arith}
use Rattle.sy_chain.specs.internal.Linked.{next_of}
use Rattle.sy_chain.proofs.Leading.{ends_in, rest_in, front_in, front_list, rest_list}
use Rattle.sy_chain.proofs.linked.LinkedBlocks.cut_front.Goals as goal

pub set_last_next-requires : goal.set_last_next-requires
set_last_next-requires g c = ends_in _ _ _ _ _ c.self.view_is (omega (arith, c.if-n-eq0.false)) c.requires c.place-end.ensures.place
    (c.cut_front-front.ensures.front ∙ ap (take c.args.n) (ap (λ d. d.placed) (c.next-self-inside.ensures.same ∙ c.place-end.ensures.same)))

-- what is left begins where the last block of the front led
pub invariant_of-self : goal.invariant_of-self
invariant_of-self g c = rest_in _ _ _ _ _ _ _ c.self.view_is (omega (arith, c.if-n-eq0.false)) c.requires c.self.invariant
    (c.next-self-inside.ensures.next ∙ ap (λ d. next_of d.placed (c.args.n - 1)) c.place-end.ensures.same)
    (c.cut_front-front.ensures.rest ∙ ap (drop c.args.n) (ap (λ d. d.placed) (c.next-self-inside.ensures.same ∙ c.place-end.ensures.same)))

-- the front ends at its last block
pub invariant_of-result : goal.invariant_of-result
invariant_of-result g c = front_in _ _ _ _ _ _ _ _ c.self.view_is (omega (arith, c.if-n-eq0.false)) c.requires c.self.invariant c.place-end.ensures.place
    (c.cut_front-front.ensures.front ∙ ap (take c.args.n) (ap (λ d. d.placed) (c.next-self-inside.ensures.same ∙ c.place-end.ensures.same))) c.set_last_next.ensures

pub returns-clause-front : goal.returns-clause-front
returns-clause-front g c = front_list _ _ _ _ _ c.self.view_is
    (c.cut_front-front.ensures.front ∙ ap (take c.args.n) (ap (λ d. d.placed) (c.next-self-inside.ensures.same ∙ c.place-end.ensures.same))) c.set_last_next.ensures

pub returns-clause-rest : goal.returns-clause-rest
returns-clause-rest g c = rest_list _ _ _ _ c.self.view_is
    (c.cut_front-front.ensures.rest ∙ ap (drop c.args.n) (ap (λ d. d.placed) (c.next-self-inside.ensures.same ∙ c.place-end.ensures.same)))
