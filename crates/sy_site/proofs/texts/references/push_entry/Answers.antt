use Rattle.std.proofs.Common.{inr}
use Rattle.sy_site.specs.texts.Describes.{IsEntry}
use Rattle.sy_site.specs.internal.Lines.{entry_line_of}
use Rattle.sy_site.specs.internal.SiteInside.{site_with}
use Rattle.sy_site.proofs.lemmas.sites.More.{none_of, not_entry, push_one}
use Rattle.sy_site.proofs.lemmas.texts.FaultsFound.{entry_unknown, no_entry}
use Rattle.sy_site.proofs.texts.references.push_entry.Goals as goal

pub returns-in_default : goal.returns-in_default
returns-in_default c = record {
  entries = none_of (IsEntry (site_with c.args.relays.now)) _ c.args.entries.now.items (not_entry c.args.given.now.line c.in_default.not-Entry);
  err = tt;
}

pub returns-in-Err-Relay-clause-err : goal.returns-in-Err-Relay-clause-err
returns-in-Err-Relay-clause-err c = λ text files placed r.
    inr (entry_unknown text files r c.args.given.now.number (entry_line_of c.in-Entry.line) (rw c.in-Entry.is at placed) (rw c.in-Err-Relay.field-0-is at c.in-Err-Relay.ensures.missing))

pub returns-in-Err-Part-clause-err : goal.returns-in-Err-Part-clause-err
returns-in-Err-Part-clause-err c = λ text files placed r.
    let missing = rw c.in-Err-Part.field-0-is at c.in-Err-Part.ensures.missing in
    inr (no_entry text files r c.args.given.now.number (entry_line_of c.in-Entry.line) (rw c.in-Entry.is at placed) missing.0 missing.1 missing.2)

pub returns-in-Ok-clause-entries : goal.returns-in-Ok-clause-entries
returns-in-Ok-clause-entries c = rw c.in-Entry.is
    (push_one (IsEntry (site_with c.args.relays.now)) (entry_line_of c.in-Entry.line) c.in-Ok.input c.args.entries.now.items _ c.push_item.result c.in-Ok.ensures.entry c.push_item.ensures.ok)
