use Rattle.std.proofs.Common.{◌≡◌, List}
use Rattle.sy_site.specs.machine.Safety.{AreSafe}
use Rattle.sy_site.specs.machine.Soundness.{IsSound}
use Rattle.sy_site.specs.machine.States.{SiteState}
use Rattle.sy_site.specs.machine.Steps.{Runs, SiteEvent}
use Rattle.sy_fit.specs.Claims.{RanksStayFalling, StayConfined, StayWrittenOrHead}
use Rattle.sy_site.specs.declared.finding.Refusal.TheVariants as refusal
use Rattle.sy_checker.proofs.Checked.{each_described}
use Rattle.sy_checker.proofs.checking.check.Goals as goal

pub returns-in-Ok-check_site-clause-sound : goal.returns-in-Ok-check_site-clause-sound
returns-in-Ok-check_site-clause-sound c =
    each_described IsSound c.one_site.ensures c.in-Ok.site c.in-Ok.ensures.site c.in-Ok-check_site.ensures.sound

pub returns-in-Ok-check_site-clause-confined : goal.returns-in-Ok-check_site-clause-confined
returns-in-Ok-check_site-clause-confined c =
    each_described StayConfined c.one_site.ensures c.in-Ok.site c.in-Ok.ensures.site c.in-Ok-check_site.ensures.confined

pub returns-in-Ok-check_site-clause-falling : goal.returns-in-Ok-check_site-clause-falling
returns-in-Ok-check_site-clause-falling c =
    each_described RanksStayFalling c.one_site.ensures c.in-Ok.site c.in-Ok.ensures.site c.in-Ok-check_site.ensures.falling

pub returns-in-Ok-check_site-clause-written : goal.returns-in-Ok-check_site-clause-written
returns-in-Ok-check_site-clause-written c =
    each_described StayWrittenOrHead c.one_site.ensures c.in-Ok.site c.in-Ok.ensures.site c.in-Ok-check_site.ensures.written

pub returns-in-Ok-check_site-clause-safe : goal.returns-in-Ok-check_site-clause-safe
returns-in-Ok-check_site-clause-safe c =
    each_described (λ site. (events : List SiteEvent) (state : SiteState) → Runs site events state → AreSafe site state) c.one_site.ensures
    c.in-Ok.site c.in-Ok.ensures.site c.in-Ok-check_site.ensures.safe

pub returns-in-Ok-clause-only : goal.returns-in-Ok-clause-only
returns-in-Ok-clause-only c =
    each_described (λ site. IsSound site → c.in-Err-check_site.why ≡ refusal.NoMemory) c.one_site.ensures c.in-Ok.site c.in-Ok.ensures.site
    c.in-Err-check_site.ensures.only

pub returns-clause-only : goal.returns-clause-only
returns-clause-only c = λ site described sound. c.in-Err.ensures.only site described
