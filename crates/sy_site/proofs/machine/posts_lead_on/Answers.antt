use Rattle.sy_site.proofs.machine.Posts.{followed, led_on, own_or_led, then_on}
use Rattle.sy_site.proofs.machine.posts_lead_on.Goals as goal

pub returns-clause-lists : goal.returns-clause-lists
returns-clause-lists c site class scope input list = (own_or_led site class input scope list, followed site class input scope list)

pub returns-clause-onward : goal.returns-clause-onward
returns-clause-onward c = then_on

pub returns-clause-from_its_own : goal.returns-clause-from_its_own
returns-clause-from_its_own c site class scope input = led_on site class input scope
