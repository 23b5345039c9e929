use Rattle.std.proofs.Common.{rules, ◌≡◌, ◌++◌, ap, drop, sym, ◌∙◌, length, false, true}
use Rattle.sy_unread.specs.Records.{head}
use Rattle.sy_unread.specs.Reading.{Says, share_text}
use Rattle.sy_unread.proofs.Again.{head_same}
use Rattle.sy_unread.proofs.FieldLaws.{head_alike}
use Rattle.sy_unread.proofs.reading.checked.Goals as goal

pub returns-clause-some : goal.returns-clause-some
returns-clause-some c =
    let is = c.begins_with.ensures in
    let size : c.len.result ≡ length c.deref.result.now = c.len.ensures ∙ sym c.deref.ensures.len in
    record {
      within = rw size (is.within (search rules));
      whole = λ about says.
          let again : Says c.args.found about = record {
            relay = says.relay;
            input = says.input;
            peer = says.peer;
            frame = says.frame;
            fault = says.fault;
            at = says.at;
            length = says.length;
          } in
          let front : c.deref.result.now ≡ head about (share_text c.args.found.share) =
          c.deref.ensures.value ∙ c.in_ok-front.ensures.value ∙ ap (λ x. head c.about.result x) c.text.ensures
          ∙ head_same c.args.found c.about.result about (share_text c.args.found.share) c.about.ensures again in
          is.whole (search rules) ∙ ap (λ n. c.deref.result.now ++ drop n c.args.raw.now) (sym size) ∙ ap (λ x. x ++ drop c.len.result c.args.raw.now) front;
    }

pub returns-then-not-begins_with-clause-none : goal.returns-then-not-begins_with-clause-none
returns-then-not-begins_with-clause-none c = λ about rest alike is.
    let part = share_text c.args.found.share in
    let front : c.deref.result.now ≡ head c.about.result part =
    c.deref.ensures.value ∙ c.in_ok-front.ensures.value ∙ ap (λ x. head c.about.result x) c.text.ensures in
    let same = head_alike c.args.found c.about.result about part c.about.ensures alike in
    let there : c.begins_with.result ≡ true = c.begins_with.ensures.only rest (is ∙ ap (λ x. x ++ rest) (same ∙ sym front)) in
    let never : true ≡ false = sym there ∙ c.if-not-begins_with.true in
    cc
