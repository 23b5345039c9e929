use Rattle.std.proofs.Common.{Some, None, refl, subst}
use Rattle.sy_inputs.specs.WholeEntries.{IsFirstUnkept}
use Rattle.sy_running.proofs.whole_entries.keep_whole.Goals as goal

pub returns-in_default-clause-ok : goal.returns-in_default-clause-ok
returns-in_default-clause-ok g c =
    subst (λ given. IsFirstUnkept c.args.site.now c.args.relay given None) c.bytes_of.ensures c.in_default.ensures.first

pub returns-in-Some-explained-clause-refused : goal.returns-in-Some-explained-clause-refused
returns-in-Some-explained-clause-refused g c = (
  refl,
  (c.in-Some.input, c.in-Some.port),
  subst (λ given. IsFirstUnkept c.args.site.now c.args.relay given (Some (c.in-Some.input, c.in-Some.port))) c.bytes_of.ensures c.in-Some.ensures.first,
)

pub returns-in_default-explained-clause-refused : goal.returns-in_default-explained-clause-refused
returns-in_default-explained-clause-refused g c = (
  refl,
  (c.in-Some.input, c.in-Some.port),
  subst (λ given. IsFirstUnkept c.args.site.now c.args.relay given (Some (c.in-Some.input, c.in-Some.port))) c.bytes_of.ensures c.in-Some.ensures.first,
)
