-- A line of a text says one thing at most.
use Rattle.std.proofs.Common.{◌≡◌, ℕ, Bool, true, false, List, [], ◌∷◌, Some, None, Option, refl, sym, ap, ◌∙◌, arith}
use Rattle.std.specs.Prelude.{codes}
use Rattle.std.specs.declared.net.ip_addr.IpAddr.{IpAddr}
use Rattle.std.proofs.NetLemmas.Theorems.{IsIpText_unique}
use Rattle.std.proofs.lemmas.Bool.{false≢true}
use Rattle.sy_select.proofs.OneExpr.{one_set}
use Rattle.sy_site.proofs.lemmas.texts.Shaped.{behind_first, first_same}
use Rattle.sy_site.specs.texts.Shapes.{Line, RelayLine, EntryLine, ProtectLine, SpareLine, IsLine, IsHost, IsListening, IsReach, IsRelayLine, IsEntryLine, IsOutsideLine, IsProtectLine, IsSpareLine, whole_words}
use Rattle.sy_site.specs.Sites.{Host, Outside, address_in}
use Rattle.sy_site.specs.declared.site.host.Host.TheVariants as host
use Rattle.sy_site.specs.texts.Describes.{AreLines}

-- what is one value is no other
pub one_value : {A : Type 0} {o : Option A} {a b : A} → o ≡ Some a → o ≡ Some b → a ≡ b
one_value first second = cc

only : {A B : Type 0} {o : Option (A × B)} {a b : A} {r : B} → o ≡ Some (a, r) → o ≡ Some (b, r) → a ≡ b
only first second = ap (λ p. p.0) (one_value first second)

pub one_host : (word : List ℕ) (a b : Host) → IsHost word a → IsHost word b → a ≡ b
one_host word (host.Address a) (host.Address b) is_a is_b = ap host.Address (IsIpText_unique word a b is_a is_b)
one_host word (host.Address a) (host.Name b) is_a is_b = absurd (is_b.2 a is_a)
one_host word (host.Name a) (host.Address b) is_a is_b = absurd (is_a.2 b is_b)
one_host word (host.Name a) (host.Name b) is_a is_b = ap host.Name (is_a.0 ∙ sym is_b.0)

one_listening : (word : List ℕ) (a b : Option IpAddr) → IsListening word a → IsListening word b → a ≡ b
one_listening word None b is_a is_b = absurd is_a
one_listening word (Some a) None is_a is_b = absurd is_b
one_listening word (Some a) (Some b) is_a is_b = ap Some (IsIpText_unique word a b is_a is_b)

one_reach : (behind : List (List ℕ)) (a b : Host) (l m : Option IpAddr) → IsReach behind a l → IsReach behind b m → (a ≡ b) × (l ≡ m)
one_reach [] a b l m is_a is_b = (is_a.0 ∙ sym is_b.0, is_a.1 ∙ sym is_b.1)
one_reach (word ∷ []) a b l m is_a is_b =
    let same = one_host word a b is_a.0 is_b.0 in (same, is_a.2 ∙ ap address_in same ∙ sym is_b.2)
one_reach (first ∷ word ∷ []) a b l m is_a is_b = (is_a.1 ∙ sym is_b.1, one_listening word l m is_a.2 is_b.2)
one_reach (first ∷ second ∷ word ∷ []) a b l m is_a is_b = (one_host first a b is_a.1 is_b.1, one_listening word l m is_a.2 is_b.2)
one_reach (first ∷ second ∷ word ∷ next ∷ later) a b l m is_a is_b = absurd is_a

pub one_relay_line : (words : List (List ℕ)) (a b : RelayLine) → IsRelayLine words a → IsRelayLine words b → a ≡ b
one_relay_line words a b is_a is_b = same a b parts.0 parts.1 (one_reach is_a.behind a.host b.host a.listens b.listens is_a.reach (rw parts.2 is_b.reach))
  where
    both : codes "relay" ∷ a.name ∷ a.file ∷ is_a.behind ≡ codes "relay" ∷ b.name ∷ b.file ∷ is_b.behind
    both = sym is_a.whole ∙ is_b.whole

    parts : (a.name ≡ b.name) × (a.file ≡ b.file) × (is_a.behind ≡ is_b.behind)
    parts = (first_same (behind_first both), first_same (behind_first (behind_first both)), behind_first (behind_first (behind_first both)))

    same : (p q : RelayLine) → p.name ≡ q.name → p.file ≡ q.file → (p.host ≡ q.host) × (p.listens ≡ q.listens) → p ≡ q
    same p q n f d = λ i. record { name = n i; file = f i; host = d.0 i; listens = d.1 i }

same_whole : (a b : Bool) → whole_words a ≡ whole_words b → a ≡ b
same_whole true true e = refl
same_whole true false e = cc
same_whole false true e = cc
same_whole false false e = refl

one_entry_line : (words : List (List ℕ)) (a b : EntryLine) → IsEntryLine words a → IsEntryLine words b → a ≡ b
one_entry_line words a b is_a is_b = λ i. record { relay = relay i; port = port i; is_whole = is_whole i }
  where
    both : codes "entry" ∷ a.relay ∷ is_a.port_word ∷ whole_words a.is_whole ≡ codes "entry" ∷ b.relay ∷ is_b.port_word ∷ whole_words b.is_whole
    both = sym is_a.whole ∙ is_b.whole

    relay : a.relay ≡ b.relay
    relay = first_same (behind_first both)

    word : is_a.port_word ≡ is_b.port_word
    word = first_same (behind_first (behind_first both))

    port : a.port ≡ b.port
    port = one_value is_a.port (rw word is_b.port)

    is_whole : a.is_whole ≡ b.is_whole
    is_whole = same_whole a.is_whole b.is_whole (behind_first (behind_first (behind_first both)))

one_protect_line : (words : List (List ℕ)) (a b : ProtectLine) → IsProtectLine words a → IsProtectLine words b → a ≡ b
one_protect_line words a b is_a is_b = λ i. record { selector = selector i; relay = relay i; action = action i }
  where
    both : codes "protect" ∷ is_a.selector_word ∷ a.relay ∷ a.action ∷ [] ≡ codes "protect" ∷ is_b.selector_word ∷ b.relay ∷ b.action ∷ []
    both = sym is_a.whole ∙ is_b.whole

    word : is_a.selector_word ≡ is_b.selector_word
    word = first_same (behind_first both)

    relay : a.relay ≡ b.relay
    relay = first_same (behind_first (behind_first both))

    action : a.action ≡ b.action
    action = first_same (behind_first (behind_first (behind_first both)))

    selector : a.selector ≡ b.selector
    selector = one_set is_a.selector_word a.selector b.selector is_a.selector (rw word is_b.selector)

one_spare_line : (words : List (List ℕ)) (a b : SpareLine) → IsSpareLine words a → IsSpareLine words b → a ≡ b
one_spare_line words a b is_a is_b = λ i. record { relay = relay i; action = action i }
  where
    both : codes "spare" ∷ a.relay ∷ a.action ∷ [] ≡ codes "spare" ∷ b.relay ∷ b.action ∷ []
    both = sym is_a ∙ is_b

    relay : a.relay ≡ b.relay
    relay = first_same (behind_first both)

    action : a.action ≡ b.action
    action = first_same (behind_first (behind_first both))

one_outside_line : (words : List (List ℕ)) (a b : Outside) → IsOutsideLine words a → IsOutsideLine words b → a ≡ b
one_outside_line words a b is_a is_b = λ i. record { name = name i; host = host i; port = port i }
  where
    both : codes "outside" ∷ a.name ∷ is_a.host_word ∷ is_a.port_word ∷ [] ≡ codes "outside" ∷ b.name ∷ is_b.host_word ∷ is_b.port_word ∷ []
    both = sym is_a.whole ∙ is_b.whole

    name : a.name ≡ b.name
    name = first_same (behind_first both)

    host_word : is_a.host_word ≡ is_b.host_word
    host_word = first_same (behind_first (behind_first both))

    port_word : is_a.port_word ≡ is_b.port_word
    port_word = first_same (behind_first (behind_first (behind_first both)))

    host : a.host ≡ b.host
    host = one_host is_a.host_word a.host b.host is_a.host (rw host_word is_b.host)

    port : a.port ≡ b.port
    port = one_value is_a.port.0 (rw port_word is_b.port.0)

-- The first words of lines of two kinds have two second letters.
abbrev letter : Line → ℕ
letter Line.Policy = 111
letter (Line.Relay it) = 101
letter (Line.Entry it) = 110
letter (Line.Protect it) = 114
letter (Line.Spare it) = 112
letter (Line.Outside it) = 117

abbrev second_letter : List (List ℕ) → ℕ
second_letter ((b ∷ c ∷ cs) ∷ words) = c
second_letter _ = 0

letter_second : (words : List (List ℕ)) (a : Line) → IsLine words a → second_letter words ≡ letter a
letter_second words Line.Policy h = ap second_letter h
letter_second words (Line.Relay it) h = ap second_letter h.whole
letter_second words (Line.Entry it) h = ap second_letter h.whole
letter_second words (Line.Protect it) h = ap second_letter h.whole
letter_second words (Line.Spare it) h = ap second_letter h
letter_second words (Line.Outside it) h = ap second_letter h.whole

same_letter : (words : List (List ℕ)) (a b : Line) → IsLine words a → IsLine words b → letter a ≡ letter b
same_letter words a b is_a is_b = sym (letter_second words a is_a) ∙ letter_second words b is_b

pub one_line : (words : List (List ℕ)) (a b : Line) → IsLine words a → IsLine words b → a ≡ b
one_line words Line.Policy Line.Policy is_a is_b = refl
one_line words (Line.Relay a) (Line.Relay b) is_a is_b = ap Line.Relay (one_relay_line words a b is_a is_b)
one_line words (Line.Entry a) (Line.Entry b) is_a is_b = ap Line.Entry (one_entry_line words a b is_a is_b)
one_line words (Line.Protect a) (Line.Protect b) is_a is_b = ap Line.Protect (one_protect_line words a b is_a is_b)
one_line words (Line.Spare a) (Line.Spare b) is_a is_b = ap Line.Spare (one_spare_line words a b is_a is_b)
one_line words (Line.Outside a) (Line.Outside b) is_a is_b = ap Line.Outside (one_outside_line words a b is_a is_b)
one_line words Line.Policy (Line.Relay b) is_a is_b =
    let e : 111 ≡ 101 = same_letter words Line.Policy (Line.Relay b) is_a is_b in absurd (omega (arith, e))
one_line words Line.Policy (Line.Entry b) is_a is_b =
    let e : 111 ≡ 110 = same_letter words Line.Policy (Line.Entry b) is_a is_b in absurd (omega (arith, e))
one_line words Line.Policy (Line.Protect b) is_a is_b =
    let e : 111 ≡ 114 = same_letter words Line.Policy (Line.Protect b) is_a is_b in absurd (omega (arith, e))
one_line words Line.Policy (Line.Spare b) is_a is_b =
    let e : 111 ≡ 112 = same_letter words Line.Policy (Line.Spare b) is_a is_b in absurd (omega (arith, e))
one_line words (Line.Relay a) Line.Policy is_a is_b =
    let e : 101 ≡ 111 = same_letter words (Line.Relay a) Line.Policy is_a is_b in absurd (omega (arith, e))
one_line words (Line.Relay a) (Line.Entry b) is_a is_b =
    let e : 101 ≡ 110 = same_letter words (Line.Relay a) (Line.Entry b) is_a is_b in absurd (omega (arith, e))
one_line words (Line.Relay a) (Line.Protect b) is_a is_b =
    let e : 101 ≡ 114 = same_letter words (Line.Relay a) (Line.Protect b) is_a is_b in absurd (omega (arith, e))
one_line words (Line.Relay a) (Line.Spare b) is_a is_b =
    let e : 101 ≡ 112 = same_letter words (Line.Relay a) (Line.Spare b) is_a is_b in absurd (omega (arith, e))
one_line words (Line.Entry a) Line.Policy is_a is_b =
    let e : 110 ≡ 111 = same_letter words (Line.Entry a) Line.Policy is_a is_b in absurd (omega (arith, e))
one_line words (Line.Entry a) (Line.Relay b) is_a is_b =
    let e : 110 ≡ 101 = same_letter words (Line.Entry a) (Line.Relay b) is_a is_b in absurd (omega (arith, e))
one_line words (Line.Entry a) (Line.Protect b) is_a is_b =
    let e : 110 ≡ 114 = same_letter words (Line.Entry a) (Line.Protect b) is_a is_b in absurd (omega (arith, e))
one_line words (Line.Entry a) (Line.Spare b) is_a is_b =
    let e : 110 ≡ 112 = same_letter words (Line.Entry a) (Line.Spare b) is_a is_b in absurd (omega (arith, e))
one_line words (Line.Protect a) Line.Policy is_a is_b =
    let e : 114 ≡ 111 = same_letter words (Line.Protect a) Line.Policy is_a is_b in absurd (omega (arith, e))
one_line words (Line.Protect a) (Line.Relay b) is_a is_b =
    let e : 114 ≡ 101 = same_letter words (Line.Protect a) (Line.Relay b) is_a is_b in absurd (omega (arith, e))
one_line words (Line.Protect a) (Line.Entry b) is_a is_b =
    let e : 114 ≡ 110 = same_letter words (Line.Protect a) (Line.Entry b) is_a is_b in absurd (omega (arith, e))
one_line words (Line.Protect a) (Line.Spare b) is_a is_b =
    let e : 114 ≡ 112 = same_letter words (Line.Protect a) (Line.Spare b) is_a is_b in absurd (omega (arith, e))
one_line words (Line.Spare a) Line.Policy is_a is_b =
    let e : 112 ≡ 111 = same_letter words (Line.Spare a) Line.Policy is_a is_b in absurd (omega (arith, e))
one_line words (Line.Spare a) (Line.Relay b) is_a is_b =
    let e : 112 ≡ 101 = same_letter words (Line.Spare a) (Line.Relay b) is_a is_b in absurd (omega (arith, e))
one_line words (Line.Spare a) (Line.Entry b) is_a is_b =
    let e : 112 ≡ 110 = same_letter words (Line.Spare a) (Line.Entry b) is_a is_b in absurd (omega (arith, e))
one_line words (Line.Spare a) (Line.Protect b) is_a is_b =
    let e : 112 ≡ 114 = same_letter words (Line.Spare a) (Line.Protect b) is_a is_b in absurd (omega (arith, e))
one_line words Line.Policy (Line.Outside b) is_a is_b =
    let e : 111 ≡ 117 = same_letter words Line.Policy (Line.Outside b) is_a is_b in absurd (omega (arith, e))
one_line words (Line.Outside a) Line.Policy is_a is_b =
    let e : 117 ≡ 111 = same_letter words (Line.Outside a) Line.Policy is_a is_b in absurd (omega (arith, e))
one_line words (Line.Relay a) (Line.Outside b) is_a is_b =
    let e : 101 ≡ 117 = same_letter words (Line.Relay a) (Line.Outside b) is_a is_b in absurd (omega (arith, e))
one_line words (Line.Outside a) (Line.Relay b) is_a is_b =
    let e : 117 ≡ 101 = same_letter words (Line.Outside a) (Line.Relay b) is_a is_b in absurd (omega (arith, e))
one_line words (Line.Entry a) (Line.Outside b) is_a is_b =
    let e : 110 ≡ 117 = same_letter words (Line.Entry a) (Line.Outside b) is_a is_b in absurd (omega (arith, e))
one_line words (Line.Outside a) (Line.Entry b) is_a is_b =
    let e : 117 ≡ 110 = same_letter words (Line.Outside a) (Line.Entry b) is_a is_b in absurd (omega (arith, e))
one_line words (Line.Protect a) (Line.Outside b) is_a is_b =
    let e : 114 ≡ 117 = same_letter words (Line.Protect a) (Line.Outside b) is_a is_b in absurd (omega (arith, e))
one_line words (Line.Outside a) (Line.Protect b) is_a is_b =
    let e : 117 ≡ 114 = same_letter words (Line.Outside a) (Line.Protect b) is_a is_b in absurd (omega (arith, e))
one_line words (Line.Spare a) (Line.Outside b) is_a is_b =
    let e : 112 ≡ 117 = same_letter words (Line.Spare a) (Line.Outside b) is_a is_b in absurd (omega (arith, e))
one_line words (Line.Outside a) (Line.Spare b) is_a is_b =
    let e : 117 ≡ 112 = same_letter words (Line.Outside a) (Line.Spare b) is_a is_b in absurd (omega (arith, e))

pub one_lines : {all : List (List (List ℕ))} {a b : List Line} → AreLines all a → AreLines all b → a ≡ b
one_lines AreLines.none AreLines.none = refl
one_lines (AreLines.skip e h) (AreLines.skip f g) = one_lines h g
one_lines (AreLines.skip e h) (AreLines.shaped f is g) = absurd (false≢true (sym f ∙ e))
one_lines (AreLines.shaped e is h) (AreLines.skip f g) = absurd (false≢true (sym e ∙ f))
one_lines (AreLines.shaped e is h) (AreLines.shaped f js g) = same (one_line _ _ _ is js) (one_lines h g)
  where
    same : {x y : Line} {xs ys : List Line} → x ≡ y → xs ≡ ys → x ∷ xs ≡ y ∷ ys
    same x xs = λ i. x i ∷ xs i
