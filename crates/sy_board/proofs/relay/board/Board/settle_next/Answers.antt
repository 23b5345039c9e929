use Rattle.std.proofs.Common.{◌≡◌, List, ◌∷◌, refl, sym, ap, ◌∙◌}
use Rattle.sy_wire.specs.Messages.{Said}
use Rattle.sy_board.proofs.relay.board.Board.settle_next.Goals as goal

same_first : (a b : Said) (more others : List Said) → a ∷ more ≡ b ∷ others → a ≡ b
same_first a b more others e = cc

pub returns-in-Err-clause-err : goal.returns-in-Err-clause-err
returns-in-Err-clause-err c =
    let next = c.in-Some.ensures.next in (
      record { device = c.device.result; message = c.deref.result.now },
      record { device = c.args.receipts.now.device; messages = next.0 },
      record { its = c.device.ensures; others = refl; are = next.1 ∙ ap (λ (m : Said). m ∷ next.0) (sym c.deref.ensures) },
      c.in-Err.ensures.err,
    )

pub returns-clause-ok : goal.returns-clause-ok
returns-clause-ok c =
    let next = c.in-Some.ensures.next in
    let popped = c.in-Some-pop_front.ensures.next in
    let same = same_first _ _ _ _ (sym popped ∙ next.1) in (
      record { device = c.device.result; message = c.deref.result.now },
      record { its = c.device.ensures; others = c.in-Some-pop_front.ensures.device; are = popped ∙ ap (λ (m : Said). m ∷ c.pop_front.new.self.messages) (same ∙ sym c.deref.ensures) },
      c.in-Ok.ensures.ok,
    )
