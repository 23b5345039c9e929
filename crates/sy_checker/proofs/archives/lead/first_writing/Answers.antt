use Rattle.std.proofs.Common.{◌∙◌, get_or, sym}
use Rattle.std.proofs.lemmas.Bool.{false≢true}
use Rattle.std.proofs.lemmas.List.Elements.{Contains-get_or}
use Rattle.std.proofs.lemmas.Option.{slice_get-get_or}
use Rattle.sy_flows.specs.declared.lists.InnerList.{InnerList}
use Rattle.sy_flows.specs.Leads.{MustWriteAt}
use Rattle.sy_checker.proofs.PathsFound.{holds_all, holds_more}
use Rattle.sy_checker.proofs.archives.lead.first_writing.Goals as goal

abbrev no_list : InnerList
no_list = record { relay = 0; list = 0 }

pub loop-place-preserved : goal.loop-place-preserved
loop-place-preserved c =
    holds_more (λ x. MustWriteAt c.args.site.now c.args.class c.args.archive x → ⊥) c.args.lists.now c.loop-place.place
    (get_or c.args.lists.now c.loop-place.place no_list) (slice_get-get_or c.args.lists.now c.loop-place.place no_list c.loop-place-test.true)
    (λ must. false≢true (sym c.if-must_write.false ∙ c.must_write.ensures.1 must)) c.loop-place.invariant

pub must_write-requires-clause-there : goal.must_write-requires-clause-there
must_write-requires-clause-there c =
    c.requires.there (get_or c.args.lists.now c.loop-place.place no_list)
    (Contains-get_or c.args.lists.now c.loop-place.place no_list c.loop-place-test.true)

pub returns-then-must_write : goal.returns-then-must_write
returns-then-must_write c = (
  get_or c.args.lists.now c.loop-place.place no_list,
  slice_get-get_or c.args.lists.now c.loop-place.place no_list c.loop-place-test.true,
  c.must_write.ensures.0 c.if-must_write.true,
)

pub returns : goal.returns
returns c =
    holds_all (λ x. MustWriteAt c.args.site.now c.args.class c.args.archive x → ⊥) c.args.lists.now c.loop-place.place c.loop-place-test.false
    c.loop-place.invariant
