use Rattle.std.proofs.Common.{refl, arith}
use Rattle.sy_wire.specs.declared.class.Class.{Class}
use Rattle.sy_rules.specs.declared.lists.occurrence.Occurrence.TheVariants as occurrence
use Rattle.sy_site.specs.machine.Counterexamples.{spared_site}
use Rattle.sy_site.specs.machine.Examples.{audit, edge_input}
use Rattle.sy_site.specs.machine.Reach.{LeadsTo, leads_on, posts_on, writes}
use Rattle.sy_site.proofs.machine.ExampleSound.{audit_is_named}
use Rattle.sy_site.proofs.machine.SparedParts.{only_spare}
use Rattle.sy_site.proofs.counterexamples.an_archive_behind_a_spare_action_isnt_sound.Goals as goal

leads_nowhere : (class : Class) → LeadsTo spared_site class audit edge_input → ⊥
leads_nowhere class (writes number action must is) = only_spare number (occurrence.Run action) must.found must.firm
leads_nowhere class (leads_on number action to must leads on) = only_spare number (occurrence.Run action) must.found must.firm
leads_nowhere class (posts_on number inner must on) = only_spare number (occurrence.Post inner) must.found must.firm

pub returns : goal.returns
returns c class facility severity sound =
    leads_nowhere class (sound.leads edge_input (0, omega arith, refl) audit (audit_is_named class facility severity))
