-- One text and one list of files describe one site at most.
use Rattle.std.proofs.Common.{◌≡◌, ℕ, List, [], ◌∷◌, refl, sym, ap, ◌∙◌}
use Rattle.sy_script.proofs.ReadBackStmt as script
use Rattle.sy_rules.proofs.lemmas.parts.OnePlan.{one_plan}
use Rattle.sy_site.proofs.lemmas.texts.OneLine.{one_lines, one_value}
use Rattle.sy_site.specs.Sites.{Site, Relay, Protection}
use Rattle.sy_site.specs.texts.Shapes.{RelayLine, EntryLine, ProtectLine, SpareLine}
use Rattle.sy_site.specs.texts.Describes.{AllPaired, Describes, File, IsEntry, IsProtection, IsRelay, IsSpare, action_of, archive_of, entry_of, outside_lines, policy_of}

one_pairing : {A B : Type 0} {P Q : A → B → Type 0} → ((x : A) (y z : B) → P x y → Q x z → y ≡ z) → {xs : List A} {ys zs : List B}
    → AllPaired P xs ys → AllPaired Q xs zs → ys ≡ zs
one_pairing single AllPaired.none AllPaired.none = refl
one_pairing single (AllPaired.more p ps) (AllPaired.more q qs) =
    let first = single _ _ _ p q in let later = one_pairing single ps qs in λ i. first i ∷ later i

pub one_relay : (files : List File) (line : RelayLine) (a b : Relay) → IsRelay files line a → IsRelay files line b → a ≡ b
one_relay files it a b is_a is_b = λ i. record { name = name i; host = host i; listens = listens i; plan = plan i }
  where
    name : a.name ≡ b.name
    name = is_a.name ∙ sym is_b.name

    host : a.host ≡ b.host
    host = is_a.host ∙ sym is_b.host

    listens : a.listens ≡ b.listens
    listens = is_a.listens ∙ sym is_b.listens

    bytes : is_a.bytes ≡ is_b.bytes
    bytes = one_value is_a.given is_b.given

    tree : is_a.script ≡ is_b.script
    tree = script.one_tree is_a.bytes is_a.script is_b.script is_a.is_script (rw bytes is_b.is_script)

    plan : a.plan ≡ b.plan
    plan = one_plan is_a.script a.plan b.plan is_a.is_plan (rw tree is_b.is_plan)

same_entries : (a b : Site) → a.relays ≡ b.relays → (it : EntryLine) → entry_of a it ≡ entry_of b it
same_entries a b same it = ap (λ rs. entry_of (record { policy = 1; relays = rs; entries = []; whole_entries = []; protections = []; spares = []; outsides = [] }) it) same

pub same_archives : (a b : Site) → a.relays ≡ b.relays → (it : ProtectLine) → archive_of a it ≡ archive_of b it
same_archives a b same it = ap (λ rs. archive_of (record { policy = 1; relays = rs; entries = []; whole_entries = []; protections = []; spares = []; outsides = [] }) it) same

pub same_actions : (a b : Site) → a.relays ≡ b.relays → (it : SpareLine) → action_of a it ≡ action_of b it
same_actions a b same it = ap (λ rs. action_of (record { policy = 1; relays = rs; entries = []; whole_entries = []; protections = []; spares = []; outsides = [] }) it) same

pub one_site : (text : List ℕ) (files : List File) (a b : Site) → Describes text files a → Describes text files b → a ≡ b
one_site text files a b is_a is_b = λ i. record {
  policy = policy i;
  relays = relays i;
  entries = entries i;
  whole_entries = whole_entries i;
  protections = protections i;
  spares = spares i;
  outsides = outsides i;
}
  where
    same_lines : is_a.lines ≡ is_b.lines
    same_lines = one_lines is_a.are_lines is_b.are_lines

    policy : a.policy ≡ b.policy
    policy = is_a.policy ∙ ap policy_of same_lines ∙ sym is_b.policy

    relays : a.relays ≡ b.relays
    relays = one_pairing (one_relay files) is_a.relays (rw same_lines is_b.relays)

    entries : a.entries ≡ b.entries
    entries =
        one_pairing {P = IsEntry a} {Q = IsEntry b} (λ it e f is_e is_f. one_value is_e (same_entries a b relays it
        ∙ is_f)) is_a.entries (rw same_lines is_b.entries)

    whole_entries : a.whole_entries ≡ b.whole_entries
    whole_entries =
        one_pairing {P = IsEntry a} {Q = IsEntry b} (λ it e f is_e is_f. one_value is_e (same_entries a b relays it
        ∙ is_f)) is_a.whole_entries (rw same_lines is_b.whole_entries)

    one_protection : (it : ProtectLine) (p q : Protection) → IsProtection a it p → IsProtection b it q → p ≡ q
    one_protection it p q is_p is_q =
        let selector = is_p.selector ∙ sym is_q.selector in
        let archive = one_value is_p.archive (same_archives a b relays it ∙ is_q.archive) in
        λ i. record { selector = selector i; archive = archive i }

    protections : a.protections ≡ b.protections
    protections = one_pairing one_protection is_a.protections (rw same_lines is_b.protections)

    spares : a.spares ≡ b.spares
    spares =
        one_pairing {P = IsSpare a} {Q = IsSpare b} (λ it e f is_e is_f. one_value is_e (same_actions a b relays it
        ∙ is_f)) is_a.spares (rw same_lines is_b.spares)

    outsides : a.outsides ≡ b.outsides
    outsides = is_a.outsides ∙ ap outside_lines same_lines ∙ sym is_b.outsides
