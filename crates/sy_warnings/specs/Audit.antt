-- Log audit that is left out: of facility 13, which RFC 5424 (section 6.2.1) calls log audit, no class is protected, and of facility 4,
-- security and authorization messages, some is.
use Rattle.std.specs.Prelude.{◌≡◌, ℕ, true}
use Rattle.sy_wire.specs.declared.class.Class.{Class}
use Rattle.sy_site.specs.Sites.{Site, is_protected}

-- some class of the facility is protected
pub record ProtectsOf (site : Site) (facility : ℕ) : Type 0 where
  pub class : Class
  pub of_facility : class.facility ≡ facility
  pub protected : is_protected site class ≡ true

-- AuditFacility: an entry takes messages of every facility, so it may get some of facility 13.
pub record LeavesAuditOut (site : Site) : Type 0 where
  pub protects : ProtectsOf site 4
  pub leaves_out : ProtectsOf site 13 → ⊥
