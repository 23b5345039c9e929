use Rattle.std.proofs.Common.{◌≡◌, ◌<◌, true, length, sym, rules}
use Rattle.sy_relp.specs.Answers.{answer_to, rsp}
use Rattle.sy_relp.proofs.SessionSteps.{answers_first}
use Rattle.sy_relp.proofs.session.Receiver.next_answer.Goals as goal

pub returns-clause-yes : goal.returns-clause-yes
returns-clause-yes c = λ t.
    let some : 0 < length c.self.inside.waiting.items = search rules in
    let done : c.index-first.result.now.is_done ≡ true = search rules in (
      rsp c.index-first.result.now.txnr (answer_to c.index-first.result.now.kind),
      answers_first c.args.self.now c.self.inside.stage c.self.inside.last c.self.inside.waiting.items c.pop_front.new.self.items c.index-first.result.now (sym c.self.view_is) some c.index-first.ensures done c.pop_front.ensures.rest,
      c.in_ok-append_answer.ensures.ok,
    )
