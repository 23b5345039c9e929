-- Hosts, and what the words behind a relay's file say.
use Rattle.std.proofs.Common.{◌≡◌, ℕ, true, false, List, [], ◌∷◌, Some, None, Option, refl, sym, ap, subst, ◌∙◌}
use Rattle.std.proofs.lemmas.Bool.{false≢true}
use Rattle.std.specs.Net.Grammar.{IsIpText}
use Rattle.std.specs.declared.net.ip_addr.IpAddr.{IpAddr}
use Rattle.std.specs.Prelude.{codes}
use Rattle.sy_site.specs.declared.site.host.Host.TheVariants as host
use Rattle.sy_site.specs.Sites.{Host, loopback}
use Rattle.sy_site.specs.internal.Lines.{IsListenPart}
use Rattle.sy_site.specs.texts.Lines.{is_kind}
use Rattle.sy_site.specs.texts.Shapes.{IsHost, IsListening, IsReach, is_host_name, stands_alone}
use Rattle.sy_site.proofs.lemmas.texts.OneLine.{one_host}

pub named_host : (word : List ℕ) → ((a : IpAddr) → IsIpText word a → ⊥) → is_host_name word ≡ true → IsHost word (host.Name word)
named_host word never e = (refl, e, never)

pub no_host : (word : List ℕ) → ((a : IpAddr) → IsIpText word a → ⊥) → is_host_name word ≡ false → (h : Host) → IsHost word h → ⊥
no_host word never e (host.Address a) is = never a is
no_host word never e (host.Name name) is = false≢true (sym e ∙ is.1)

pub not_alone : (word : List ℕ) (h : Host) → IsHost word h → stands_alone h ≡ false → (g : Host) (l : Option IpAddr) → IsReach (word ∷ []) g l → ⊥
not_alone word h is e g l reach = false≢true (sym e ∙ ap stands_alone (one_host word h g is reach.0) ∙ reach.1)

-- ---- listen ADDRESS

abbrev Words : Type 0
Words = List (List ℕ)

pub other_word : (words : Words) → is_kind (codes "listen") words ≡ false → (a : IpAddr) → IsListenPart words a → ⊥
other_word words e a is = false≢true (sym e ∙ ap (is_kind (codes "listen")) is.1)

behind_first : {x y : List ℕ} {xs ys : Words} → x ∷ xs ≡ y ∷ ys → xs ≡ ys
behind_first e = cc

first_same : {x y : List ℕ} {xs ys : Words} → x ∷ xs ≡ y ∷ ys → x ≡ y
first_same e = cc

pub no_word : (words behind : Words) → words ≡ codes "listen" ∷ behind → behind ≡ [] → (a : IpAddr) → IsListenPart words a → ⊥
no_word words behind e none a is = let h : [] ≡ is.0 ∷ [] = sym none ∙ behind_first (sym e ∙ is.1) in cc

pub more_words : (words behind : Words) (word next : List ℕ) (later rest : Words) → words ≡ codes "listen" ∷ behind → behind ≡ word ∷ later → later ≡ next ∷ rest
    → (a : IpAddr) → IsListenPart words a → ⊥
more_words words behind word next later rest e f g a is =
    let h : next ∷ rest ≡ [] = sym g ∙ behind_first (sym f ∙ behind_first (sym e ∙ is.1)) in cc

pub no_address : (words behind : Words) (word : List ℕ) (later : Words) → words ≡ codes "listen" ∷ behind → behind ≡ word ∷ later → later ≡ []
    → ((a : IpAddr) → IsIpText word a → ⊥) → (a : IpAddr) → IsListenPart words a → ⊥
no_address words behind word later e f g never a is =
    never a (subst (λ w. IsIpText w a) (sym (first_same (sym f ∙ behind_first (sym e ∙ is.1)))) is.2)

pub listen_part : (words behind : Words) (word : List ℕ) (later : Words) (a : IpAddr) → words ≡ codes "listen" ∷ behind → behind ≡ word ∷ later → later ≡ []
    → IsIpText word a → IsListenPart words a
listen_part words behind word later a e f g is = (word, e ∙ ap (λ b. codes "listen" ∷ b) (f ∙ ap (λ l. word ∷ l) g), is)

-- ---- [ADDRESS] [listen ADDRESS]

pub reach_listening : (words : Words) (a : IpAddr) → IsListenPart words a → IsReach words (host.Address loopback) (Some a)
reach_listening words a is = rw is.1 (refl, refl, is.2)

listening : (words : Words) (word : List ℕ) (l : Option IpAddr) → words ≡ codes "listen" ∷ word ∷ [] → IsListening word l
    → ((a : IpAddr) → IsListenPart words a → ⊥) → ⊥
listening words word None e is never = absurd is
listening words word (Some a) e is never = never a (word, e, is)

pub no_listening : (words : Words) → ((a : IpAddr) → IsListenPart words a → ⊥) → (first second : List ℕ) → words ≡ first ∷ second ∷ []
    → (h : Host) (l : Option IpAddr) → IsReach words h l → ⊥
no_listening words never first second e h l is =
    let reach : IsReach (first ∷ second ∷ []) h l = rw e at is in
    listening words second l (e ∙ ap (λ w. w ∷ second ∷ []) reach.0) reach.2 never

pub reach_both : (word : List ℕ) (words : Words) (h : Host) (a : IpAddr) → IsHost word h → IsListenPart words a → IsReach (word ∷ words) h (Some a)
reach_both word words h a is part = rw part.1 (refl, is, part.2)

pub no_first : (word : List ℕ) (words : Words) → ((h : Host) → IsHost word h → ⊥) → (second third : List ℕ) (later : Words) → words ≡ second ∷ third ∷ later
    → (h : Host) (l : Option IpAddr) → IsReach (word ∷ words) h l → ⊥
no_first word words never second third [] e h l is =
    let reach : IsReach (word ∷ second ∷ third ∷ []) h l = rw e at is in never h reach.1
no_first word words never second third (next ∷ later) e h l is =
    let reach : IsReach (word ∷ second ∷ third ∷ next ∷ later) h l = rw e at is in absurd reach

pub no_second : (word : List ℕ) (words : Words) → ((a : IpAddr) → IsListenPart words a → ⊥) → (second third : List ℕ) (later : Words)
    → words ≡ second ∷ third ∷ later → (h : Host) (l : Option IpAddr) → IsReach (word ∷ words) h l → ⊥
no_second word words never second third [] e h l is =
    let reach : IsReach (word ∷ second ∷ third ∷ []) h l = rw e at is in
    listening words third l (e ∙ ap (λ w. w ∷ third ∷ []) reach.0) reach.2 never
no_second word words never second third (next ∷ later) e h l is =
    let reach : IsReach (word ∷ second ∷ third ∷ next ∷ later) h l = rw e at is in absurd reach
