-- All that is found in a site, occurrence by occurrence (this profile's own).
use Rattle.std.specs.Prelude.{◌≡◌, Contains, List}
use Rattle.sy_wire.specs.declared.class.Class.{Class}
use Rattle.sy_site.specs.declared.site.SiteInput.{SiteInput}
use Rattle.sy_site.specs.declared.finding.Kind.{Kind}
use Rattle.sy_checker.specs.declared.kinds.groups.Group.{Group}
use Rattle.sy_checker.specs.Survey.{Names}
use Rattle.sy_findings.specs.declared.verdicts.instances.Instance.{Instance}

-- what is found, and where
abbrev pub subject : Instance → SiteInput × Kind
subject instance = (instance.input, instance.kind)

-- An instance of the kind at the input names the class.
pub record Tells (instances : List Instance) (class : Class) (input : SiteInput) (kind : Kind) : Type 0 where
  pub instance : Instance
  pub there : Contains instances instance
  pub is_of : subject instance ≡ (input, kind)
  pub named : Contains instance.classes.items class

-- The instances tell of the same classes at the same inputs with the same kinds as the groups, and of nothing else.
pub record AreInstances (groups : List Group) (instances : List Instance) : Type 0 where
  pub only : (class : Class) (input : SiteInput) (kind : Kind) → Tells instances class input kind → Names groups class input kind
  pub all : (class : Class) (input : SiteInput) (kind : Kind) → Names groups class input kind → Tells instances class input kind
