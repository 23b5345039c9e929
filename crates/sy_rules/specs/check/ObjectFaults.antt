-- Which fault the parameters of an object have, each by itself, without an order in which faults are looked for. What an object may be given is
-- in the table of parameters (rsyslog manual: its pages on the objects, on imtcp, omfile and omfwd, and on queue parameters).
use Rattle.std.specs.Prelude.{◌≡◌, ◌⊎◌, true, false, List, Contains, Some, None}
use Rattle.std.specs.Str.{str_eq_ignore_ascii_case}
use Rattle.sy_script.specs.declared.tree.Param.{Param}
use Rattle.sy_rules.specs.declared.fault.FaultCode.TheVariants as code
use Rattle.sy_rules.specs.declared.items.fault.ItemFault.{ItemFault}
use Rattle.sy_rules.specs.declared.parameters.kind.Kind.{Kind}
use Rattle.sy_rules.specs.declared.parameters.kind.Kind.TheVariants as kind
use Rattle.sy_rules.specs.check.Before.{IsBefore}
use Rattle.sy_rules.specs.Faults.{fault, fault_of_part}
use Rattle.sy_rules.specs.items.ItemFaults.{kind_of_object}
use Rattle.sy_rules.specs.parameters.Objects.{kind_of_action}
use Rattle.sy_rules.specs.items.Outline.{Item}
use Rattle.sy_rules.specs.parameters.Values.{given, has_shape, is_in_range}
use Rattle.sy_rules.specs.parameters.Rows.{Absent, Row, lookup, rows}

-- an object of this kind with these parameters
pub data HasParameterFault (k : Kind) (ps : List Param) : ItemFault → Type 0 where
  -- 40: a parameter that must be given, and is not; the word is its name in the table, and the place that of the object
  missing : (r : Row) → Contains (rows k) r → r.absent ≡ Absent.Required → given r.name ps ≡ None → HasParameterFault k ps (fault code.Missing r.name)
  -- 41: two of one name, without regard to the case of ASCII letters; the word is the later one's name as it is spelt. The place of this and of
  -- those below is that of the name
  twice : (p q : Param) → IsBefore p q ps → str_eq_ignore_ascii_case q.name.text p.name.text ≡ true → HasParameterFault k ps (fault_of_part q.name.span code.Duplicate q.name.text)
  -- 42: one that such an object doesn't have
  unknown : (p : Param) → Contains ps p → lookup (rows k) p.name.text ≡ None → HasParameterFault k ps (fault_of_part p.name.span code.Unknown p.name.text)
  -- 43: a value that is no number, or none of the words, as the parameter takes
  bad_value : (p : Param) (r : Row) → Contains ps p → lookup (rows k) p.name.text ≡ Some r → has_shape r.shape p.value.bytes ≡ false
      → HasParameterFault k ps (fault_of_part p.name.span code.BadValue p.name.text)
  -- 44: a number out of the parameter's range
  out_of_range : (p : Param) (r : Row) → Contains ps p → lookup (rows k) p.name.text ≡ Some r → has_shape r.shape p.value.bytes ≡ true → is_in_range r.shape p.value.bytes ≡ false
      → HasParameterFault k ps (fault_of_part p.name.span code.Range p.name.text)

-- a fault's word and place: the name of one of the parameters as the script spells it, where it stands; or that of one that must be given, and
-- the object's place
abbrev pub IsWord : Kind → List Param → ItemFault → Type 0
IsWord k ps f =
    ((f.code ≡ code.Missing) × (r : Row) × Contains (rows k) r × (r.absent ≡ Absent.Required) × (f.word ≡ r.name) × (f.place ≡ None))
    ⊎ ((p : Param) × Contains ps p × (f.word ≡ p.name.text) × (f.place ≡ Some p.name.span))

-- of an item of a script, where it is an object
abbrev pub HasOwnFault : Item → ItemFault → Type 0
HasOwnFault (Item.Object found ps) f = HasParameterFault (kind_of_object found) ps f
HasOwnFault (Item.Ruleset ps) f = HasParameterFault kind.Ruleset ps f
HasOwnFault (Item.Action ps) f = HasParameterFault (kind_of_action ps) ps f
HasOwnFault (Item.Call name) f = ⊥
HasOwnFault (Item.Test test) f = ⊥

-- its parameters are without faults
abbrev pub IsClean : Item → Type 0
IsClean x = (f : ItemFault) → HasOwnFault x f → ⊥
