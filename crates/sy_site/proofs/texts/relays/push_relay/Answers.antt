use Rattle.std.proofs.Common.{map, inl, inr}
use Rattle.sy_site.specs.texts.Describes.{file}
use Rattle.sy_site.specs.internal.Lines.{relay_line_of}
use Rattle.sy_site.proofs.lemmas.texts.FaultsFound.{relay_refused}
use Rattle.sy_site.specs.internal.Relays.{IsWholeRelay}
use Rattle.sy_site.proofs.lemmas.sites.More.{none_of, not_relay, push_one}
use Rattle.sy_site.proofs.texts.relays.push_relay.Goals as goal

pub returns-in_default : goal.returns-in_default
returns-in_default c = record {
  relays = none_of (IsWholeRelay (map (λ f. file f.0.now f.1.now) c.args.files.now)) _ c.args.relays.now.items (not_relay c.args.given.now.line c.in_default.not-Relay);
  err = tt;
}

pub returns-in-Ok-clause-relays : goal.returns-in-Ok-clause-relays
returns-in-Ok-clause-relays c = rw c.in-Relay.is
    (push_one (IsWholeRelay (map (λ f. file f.0.now f.1.now) c.args.files.now)) (relay_line_of c.in-Relay.line) c.in-Ok.relay c.args.relays.now.items _ c.push_item.result
    c.in-Ok.ensures.relay c.push_item.ensures.ok)

pub returns-in-Err-clause-err : goal.returns-in-Err-clause-err
returns-in-Err-clause-err c = λ text placed.
    elim c.in-Err.ensures.err [
      | inl full ↦ inl full
      | inr refused ↦ inr (relay_refused text _ (relay_line_of c.in-Relay.line) c.args.given.now.number c.in-Err.fault (rw c.in-Relay.is at placed) refused)
    ]
