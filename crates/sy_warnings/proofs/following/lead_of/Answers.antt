use Rattle.std.proofs.Common.{◌≡◌, ◌∙◌, None, Option, Some, ℕ, ap, refl, sym, subst}
use Rattle.sy_wire.specs.declared.class.Class.{Class}
use Rattle.sy_rules.specs.declared.lists.occurrence.Occurrence.{Occurrence}
use Rattle.sy_site.specs.Sites.{Site}
use Rattle.sy_site.specs.machine.Reach.{MayDo}
use Rattle.sy_warnings.specs.declared.following.Following.{Following}
use Rattle.sy_warnings.specs.declared.following.SiteList.{SiteList}
use Rattle.sy_warnings.specs.Following.{Leads, leads_on, scope_of}
use Rattle.sy_warnings.specs.internal.Following.{IsDone, IsLead}
use Rattle.sy_warnings.proofs.Arriving.{no_value, one_value}
use Rattle.sy_warnings.proofs.following.lead_of.Goals as goal

lead_is : (site : Site) (class : Class) (by : Following) (from : SiteList) (number : ℕ) (is : Occurrence)
    → MayDo site class (scope_of by) from.relay from.list number is → (to : Option SiteList) → to ≡ leads_on site from.relay is
    → IsLead site class by from number to
lead_is site class by from number is does (Some to) e = record { is = is; does = does; leads = sym e }
lead_is site class by from number is does None e = λ to leads.
    (let same : leads.is ≡ is = one_value (sym leads.does.found ∙ does.found) in
    no_value (e ∙ ap (leads_on site from.relay) (sym same) ∙ leads.leads))

pub returns-in-Some : goal.returns-in-Some
returns-in-Some c =
    lead_is c.args.site.now c.args.class c.args.by c.args.from c.args.number c.in-Some.is'
    (subst (IsDone c.args.site.now c.args.class c.args.by c.args.from c.args.number) c.in-Some.is c.executed_at.ensures) c.leads_on.result c.leads_on.ensures

pub returns-in-None : goal.returns-in-None
returns-in-None c = λ to leads.
    subst (IsDone c.args.site.now c.args.class c.args.by c.args.from c.args.number) c.in-None.is c.executed_at.ensures leads.is leads.does
