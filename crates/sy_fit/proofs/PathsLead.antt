-- Paths are what leads to archives.
use Rattle.std.proofs.Common.{ℕ, List, [], ◌∷◌, inl, inr}
use Rattle.sy_wire.specs.declared.class.Class.{Class}
use Rattle.sy_site.specs.declared.site.SiteAction.{SiteAction}
use Rattle.sy_site.specs.Sites.{Site}
use Rattle.sy_site.specs.machine.Reach.{ListLeadsTo, leads_on, list_of, posts_on, writes}
use Rattle.sy_fit.specs.Fit.{IsPath}

pub path_leads : (site : Site) (class : Class) (archive : SiteAction) (relay list : ℕ) (path : List ℕ) → IsPath site class archive relay list path
    → ListLeadsTo site class archive relay list
path_leads site class archive relay list [] last = writes last.number last.action last.does last.writes
path_leads site class archive relay list (number ∷ later) (inl (inner, does, rest)) =
    posts_on number inner does (path_leads site class archive relay inner later rest)
path_leads site class archive relay list (number ∷ later) (inr (to, goes, rest)) =
    leads_on number goes.action to goes.does goes.leads (path_leads site class archive to.relay (list_of site to) later rest)

pub lead_path : (site : Site) (class : Class) (archive : SiteAction) (relay list : ℕ) → ListLeadsTo site class archive relay list
    → (path : List ℕ) × IsPath site class archive relay list path
lead_path site class archive relay list (writes number action does is) =
    ([], record { number = number; action = action; does = does; writes = is })
lead_path site class archive relay list (leads_on number action to does goes more) =
    let rest = lead_path site class archive to.relay (list_of site to) more in
    (number ∷ rest.0, inr (to, record { action = action; does = does; leads = goes }, rest.1))
lead_path site class archive relay list (posts_on number inner does more) =
    let rest = lead_path site class archive relay inner more in (number ∷ rest.0, inl (inner, does, rest.1))
