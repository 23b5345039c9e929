-- A record is a message whose text are the frame's bytes.
use Rattle.std.proofs.Common.{◌≡◌, ℕ, ◌<◌, ◌^◌, inl, inr, List, [], ◌∷◌, ◌++◌, refl, sym, ap, ◌∙◌, arith, append_assoc, append-nil}
use Rattle.std.specs.Prelude.{Option, None, Some, codes}
use Rattle.std.specs.Fmt.{decimal}
use Rattle.sy_wire.specs.Messages.{IsAppName, IsPri, Said}
use Rattle.sy_wire.specs.StructuredData.{AreParams, IsParamValue, IsSdName, IsSdParam, no_params, one_element, one_more_param}
use Rattle.sy_unread.specs.Records as spec
use Rattle.sy_unread.specs.Texts.{IsMessageOf}
use Rattle.sy_unread.specs.internal.{IsInRange}
use Rattle.sy_unread.specs.declared.record.About.{About}
use Rattle.sy_unread.proofs.Values.{decimal_value, hostname_is, value_is}

abbrev pub param : List ℕ → List ℕ → List ℕ
param name value = name ++ 61 ∷ 34 ∷ value ++ 34 ∷ []

pub is_param : (name value : List ℕ) → IsSdName name → IsParamValue value → IsSdParam (param name value)
is_param name value is there = record { name = name; value = value; is_name = is; is_value = there; whole = refl }

pub params_more : (a b : List ℕ) → AreParams a → AreParams b → AreParams (a ++ b)
params_more _ b no_params more = more
params_more _ b (one_more_param {param} {params} p ps) more = rw append_assoc (one_more_param p (params_more params b ps more))

name_input : IsSdName (codes "input")
name_input = record { some = omega arith; short = omega arith; each = grind arith }

name_peer : IsSdName (codes "peer")
name_peer = record { some = omega arith; short = omega arith; each = grind arith }

name_frame : IsSdName (codes "frame")
name_frame = record { some = omega arith; short = omega arith; each = grind arith }

name_fault : IsSdName (codes "fault")
name_fault = record { some = omega arith; short = omega arith; each = grind arith }

name_at : IsSdName (codes "at")
name_at = record { some = omega arith; short = omega arith; each = grind arith }

name_length : IsSdName (codes "length")
name_length = record { some = omega arith; short = omega arith; each = grind arith }

pub name_part : IsSdName (codes "part")
name_part = record { some = omega arith; short = omega arith; each = grind arith }

id_is : IsSdName (codes "unread@32473")
id_is = record { some = omega arith; short = omega arith; each = grind arith }

pub param_of : (name value params : List ℕ) → IsSdName name → IsParamValue value → AreParams params → AreParams (32 ∷ param name value ++ params)
param_of name value params is there more = one_more_param (is_param name value is there) more

abbrev params : About → List ℕ → List ℕ
params about part =
    32 ∷ param (codes "input") (decimal about.input) ++ (32 ∷ param (codes "peer") (spec.value_of about.peer.now)
    ++ (32 ∷ param (codes "frame") (decimal about.frame) ++ (32 ∷ param (codes "fault") (spec.value_of about.fault.now)
    ++ (32 ∷ param (codes "at") (decimal about.at) ++ (spec.length_text about.length ++ part)))))

length_is : (given : Option ℕ) → ((n : ℕ) → given ≡ Some n → n < 2 ^ 64) → AreParams (spec.length_text given)
length_is None fits = no_params
length_is (Some n) fits =
    rw (← append-nil (32 ∷ param (codes "length") (decimal n)))
    (param_of (codes "length") (decimal n) [] name_length (decimal_value n (fits n refl)) no_params)

params_are : (about : About) (part : List ℕ) → IsInRange about → AreParams part → AreParams (params about part)
params_are about part fits more =
    param_of _ _ _ name_input (decimal_value about.input fits.input) (param_of _ _ _ name_peer (value_is about.peer.now)
    (param_of _ _ _ name_frame (decimal_value about.frame fits.frame) (param_of _ _ _ name_fault (value_is about.fault.now)
    (param_of _ _ _ name_at (decimal_value about.at fits.at) (params_more _ part (length_is about.length fits.length) more)))))

pri_is : IsPri (60 ∷ 52 ∷ 52 ∷ 62 ∷ []) 44
pri_is = (codes "44", record { numeral = (omega arith, grind arith); short = omega arith; value = refl; bound = omega arith }, refl)

app_name_is : IsAppName (codes "syc")
app_name_is = inr (record { some = omega arith; short = omega arith; each = grind arith })

abbrev said_of : About → List ℕ → List ℕ → Said
said_of about part bytes = record {
  raw = spec.head about part ++ bytes;
  class = record { facility = 5; severity = 4; facility_in_range = omega arith; severity_in_range = omega arith };
  hostname = spec.hostname_of about.relay.now;
  app_name = codes "syc";
  procid = 45 ∷ [];
  msgid = 45 ∷ [];
  msg = bytes;
}

abbrev element : About → List ℕ → List ℕ
element about part = 91 ∷ codes "unread@32473" ++ params about part ++ 93 ∷ []

cut : (name value rest more : List ℕ) → (32 ∷ param name value ++ rest) ++ more ≡ 32 ∷ (name ++ 61 ∷ 34 ∷ (value ++ 34 ∷ (rest ++ more)))
cut name value rest more = simp append_assoc

abbrev opened : List ℕ → List ℕ → List ℕ → List ℕ
opened name value rest = 32 ∷ (name ++ 61 ∷ 34 ∷ (value ++ 34 ∷ rest))

params_cut :
    (about : About) (part more : List ℕ)
    → params about part ++ more
    ≡ opened (codes "input") (decimal about.input) (opened (codes "peer") (spec.value_of about.peer.now)
    (opened (codes "frame") (decimal about.frame) (opened (codes "fault") (spec.value_of about.fault.now)
    (opened (codes "at") (decimal about.at) (spec.length_text about.length ++ (part ++ more))))))
params_cut about part more =
    cut (codes "input") (decimal about.input) _ more ∙ ap (λ x. opened (codes "input") (decimal about.input) x)
    (cut (codes "peer") (spec.value_of about.peer.now) _ more ∙ ap (λ x. opened (codes "peer") (spec.value_of about.peer.now) x)
    (cut (codes "frame") (decimal about.frame) _ more ∙ ap (λ x. opened (codes "frame") (decimal about.frame) x)
    (cut (codes "fault") (spec.value_of about.fault.now) _ more ∙ ap (λ x. opened (codes "fault") (spec.value_of about.fault.now) x)
    (cut (codes "at") (decimal about.at) _ more ∙ ap (λ x. opened (codes "at") (decimal about.at) x)
    (append_assoc (spec.length_text about.length) part more)))))

element_cut : (id params bytes : List ℕ) → (91 ∷ id ++ params ++ 93 ∷ []) ++ 32 ∷ bytes ≡ 91 ∷ (id ++ (params ++ 93 ∷ 32 ∷ bytes))
element_cut id params bytes = simp append_assoc

abbrev fronted : List ℕ → List ℕ → List ℕ
fronted name rest = 60 ∷ 52 ∷ 52 ∷ 62 ∷ 49 ∷ 32 ∷ 45 ∷ 32 ∷ (name ++ 32 ∷ 115 ∷ 121 ∷ 99 ∷ 32 ∷ 45 ∷ 32 ∷ 45 ∷ 32 ∷ rest)

head_cut :
    (about : About) (part bytes : List ℕ)
    → spec.head about part ++ bytes
    ≡ fronted (spec.hostname_of about.relay.now) (91 ∷ codes "unread@32473" ++ (opened (codes "input") (decimal about.input)
    (opened (codes "peer") (spec.value_of about.peer.now) (opened (codes "frame") (decimal about.frame)
    (opened (codes "fault") (spec.value_of about.fault.now) (opened (codes "at") (decimal about.at)
    (spec.length_text about.length ++ (part ++ 93 ∷ 32 ∷ bytes))))))))
head_cut about part bytes = simp append_assoc

text_is :
    (about : About) (part bytes : List ℕ)
    → spec.head about part ++ bytes
    ≡ 60 ∷ 52 ∷ 52 ∷ 62 ∷ 49 ∷ 32 ∷ 45 ∷ 32 ∷ ((spec.hostname_of about.relay.now ++ 32 ∷ [])
    ++ 115 ∷ 121 ∷ 99 ∷ 32 ∷ 45 ∷ 32 ∷ 45 ∷ 32 ∷ (element about part ++ 32 ∷ bytes))
text_is about part bytes =
    head_cut about part bytes
    ∙ ap (λ x. fronted (spec.hostname_of about.relay.now) (91 ∷ codes "unread@32473" ++ x)) (sym (params_cut about part (93 ∷ 32 ∷ bytes)))
    ∙ ap (λ x. fronted (spec.hostname_of about.relay.now) x) (sym (element_cut (codes "unread@32473") (params about part) bytes))
    ∙ ap (λ x. 60 ∷ 52 ∷ 52 ∷ 62 ∷ 49 ∷ 32 ∷ 45 ∷ 32 ∷ x)
    (sym (append_assoc (spec.hostname_of about.relay.now) (32 ∷ []) (115 ∷ 121 ∷ 99 ∷ 32 ∷ 45 ∷ 32 ∷ 45 ∷ 32 ∷ (element about part ++ 32 ∷ bytes))))

pub regroup :
    (a b c d e f g h i : List ℕ)
    → a ++ b ++ c ++ d ++ e ++ f ++ g ++ h ++ i ≡ a ++ (b ++ (c ++ (d ++ (e ++ (f ++ (g ++ (h ++ i)))))))
regroup a b c d e f g h i = simp append_assoc

pub head_message :
    (about : About) (part bytes : List ℕ) → IsInRange about → AreParams part → IsMessageOf (spec.head about part ++ bytes) bytes
head_message about part bytes fits more = record {
  said = said_of about part bytes;
  is_message = record {
    pri = 60 ∷ 52 ∷ 52 ∷ 62 ∷ [];
    version = 49 ∷ [];
    timestamp = 45 ∷ [];
    data_text = element about part;
    tail = 32 ∷ bytes;
    is_pri = pri_is;
    is_version = refl;
    is_timestamp = inl refl;
    is_hostname = hostname_is about.relay.now;
    is_app_name = app_name_is;
    is_procid = inl refl;
    is_msgid = inl refl;
    is_data = inr (one_element (record { id = codes "unread@32473"; params = params about part; is_id = id_is; are_params = params_are about part fits more; whole = refl }));
    is_tail = (refl, refl);
    text = text_is about part bytes
        ∙ sym (regroup (60 ∷ 52 ∷ 52 ∷ 62 ∷ []) (49 ∷ 32 ∷ []) (45 ∷ 32 ∷ []) (spec.hostname_of about.relay.now ++ 32 ∷ [])
        (115 ∷ 121 ∷ 99 ∷ 32 ∷ []) (45 ∷ 32 ∷ []) (45 ∷ 32 ∷ []) (element about part) (32 ∷ bytes));
  };
  raw_is = refl;
  msg_is = refl;
}
