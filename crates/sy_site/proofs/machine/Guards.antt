-- What a sound site says of the kinds that are one relay's.
use Rattle.sy_wire.specs.declared.class.Class.{Class}
use Rattle.sy_board.specs.relay.Kinds as kinds
use Rattle.sy_board.specs.relay.Spares.{Scope}
use Rattle.sy_site.specs.Sites.{Site, SiteInput}
use Rattle.sy_site.specs.machine.Findings.{HoldsInPlan, Kind}
use Rattle.sy_site.specs.machine.Reach.{Reach}
use Rattle.sy_site.specs.machine.Soundness.{IsSoundFor}

-- none of the kinds that are one relay's holds at an input that is reached without spare occurrences
pub clean_in_plan : (site : Site) (class : Class) → IsSoundFor site class → (input : SiteInput) → Reach site class Scope.Firm input
    → (kind : kinds.Kind) → HoldsInPlan site class input kind → ⊥
clean_in_plan site class sound input reach kinds.Kind.NotFull holds = sound.clean input reach Kind.NotFull holds
clean_in_plan site class sound input reach kinds.Kind.MarkOff holds = sound.clean input reach Kind.MarkOff holds
clean_in_plan site class sound input reach kinds.Kind.MarkAboveSize holds = sound.clean input reach Kind.MarkAboveSize holds
clean_in_plan site class sound input reach kinds.Kind.Discards holds = sound.clean input reach Kind.Discards holds
clean_in_plan site class sound input reach kinds.Kind.InnerQueue holds = sound.clean input reach Kind.InnerQueue holds
clean_in_plan site class sound input reach kinds.Kind.GivesUp holds = sound.clean input reach Kind.GivesUp holds
