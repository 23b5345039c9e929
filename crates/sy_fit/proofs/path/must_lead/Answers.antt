use Rattle.std.proofs.Common.{◌∙◌, sym}
use Rattle.std.proofs.lemmas.Bool.{false≢true}
use Rattle.sy_fit.proofs.Paths.{beyond, must_go, must_not}
use Rattle.sy_fit.proofs.path.must_lead.Goals as goal

pub returns-then-number-ge64 : goal.returns-then-number-ge64
returns-then-number-ge64 c =
    beyond c.args.site.now c.args.class c.args.at c.set_at-must.result c.args.number c.set_at-must.ensures c.set_at-must.type_inv c.if-number-ge64.true

pub returns-then-not-has : goal.returns-then-not-has
returns-then-not-has c =
    must_not c.args.site.now c.args.class c.args.at c.set_at-must.result c.args.number c.set_at-must.ensures
    (λ bit. false≢true (sym c.if-not-has.true ∙ c.has.ensures.1 bit))

pub returns : goal.returns
returns c =
    must_go c.args.site.now c.args.class c.args.at c.set_at-must.result c.args.number c.set_at-must.ensures (c.has.ensures.0 c.if-not-has.false)
    c.lead_of.result (sym c.lead_of.ensures)
