-- What a worker's post makes: a worker has one job.
use Rattle.std.proofs.Common.{◌≡◌, ℕ, List, ◌∷◌, sym, subst, ap, ◌∙◌, Option, Some, None}
use Rattle.std.specs.Prelude.{slice_get, IfSome}
use Rattle.sy_chain.specs.Entries.{Entry}
use Rattle.sy_wire.specs.Messages.{Said}
use Rattle.sy_rules.specs.declared.lists.occurrence.Occurrence.{Occurrence}
use Rattle.sy_rules.specs.declared.lists.occurrence.Occurrence.TheVariants as occurrence
use Rattle.sy_rules.specs.PlanValue.{Plan}
use Rattle.sy_rules.specs.lists.Sets.{IsLowest}
use Rattle.sy_rules.proofs.lemmas.lists.Lowest.{one_lowest}
use Rattle.sy_board.specs.relay.Boards.{BoardState, HasNoJob, IsForPost}
use Rattle.sy_board.specs.relay.Cells.{RelayState}
use Rattle.sy_board.specs.relay.Plans.{IsDue, input_at, occurrences_at}
use Rattle.sy_board.specs.relay.Steps.{IsOfInput, IsPosted, Job}

same_entry : (e f : Entry) (es fs : List Entry) → e ∷ es ≡ f ∷ fs → e ≡ f
same_entry e f es fs h = cc

one_entry : (plan : Plan) (state : RelayState) (worker : ℕ) (is that : Occurrence) → (a : Job plan state worker is) → (b : Job plan state worker that)
    → a.entry ≡ b.entry
one_entry plan state worker is that a b = same_entry a.entry b.entry a.others b.others (sym a.held ∙ b.held)

one_job : (plan : Plan) (state : RelayState) (worker : ℕ) (is that : Occurrence) → Job plan state worker is → Job plan state worker that → Some is ≡ Some that
one_job plan state worker is that a b =
    let entry : a.entry ≡ b.entry = one_entry plan state worker is that a b in
    let number : a.number ≡ b.number = one_lowest a.entry.due a.number b.number a.left b.left a.first
    (subst (λ (e : Entry). IsLowest e.due b.number b.left) (sym entry) b.first) in
    let found : slice_get (occurrences_at plan a.entry.list) a.number ≡ Some that = rw (entry, number) b.found in
    sym a.found ∙ found

same_list : (a b : ℕ) → Some (occurrence.Post a) ≡ Some (occurrence.Post b) → a ≡ b
same_list a b h = cc

no_run : (a b : ℕ) → Some (occurrence.Run a) ≡ Some (occurrence.Post b) → ⊥
no_run a b h = cc

-- an entry with these fields
abbrev pub Has : Plan → ℕ → ℕ → ℕ → Said → Entry → Type 0
Has plan list input tag message node =
    (node.message ≡ message) × (node.list ≡ list) × (node.input ≡ input) × (node.tag ≡ tag) × IsDue plan list message node.due

-- the job posts this message of this input to this list
abbrev pub PostsIt : BoardState → ℕ → ℕ → ℕ → ℕ → Said → Type 0
PostsIt board worker list input tag message =
    (is : Job board.plan board.state worker (occurrence.Post list)) × (input ≡ is.entry.input) × (message ≡ is.entry.message) × (tag ≡ is.entry.tag)

pub for_post : (board : BoardState) (plan : Plan) (worker list input tag : ℕ) (message copy : Said) (made : Option Entry) → plan ≡ board.plan → copy ≡ message
    → PostsIt board worker list input tag message → IfSome made (Has plan list input tag copy) → IfSome made (IsForPost board worker)
for_post board plan worker list input tag message copy None planned same job has = has
for_post board plan worker list input tag message copy (Some node) planned same job has = λ other that.
    let is = job.0 in
    let entry : is.entry ≡ that.entry = one_entry board.plan board.state worker (occurrence.Post list) (occurrence.Post other) is that in
    let its : list ≡ other = same_list list other (one_job board.plan board.state worker (occurrence.Post list) (occurrence.Post other) is that) in
    let said : copy ≡ that.entry.message = same ∙ job.2 ∙ ap (λ (e : Entry). e.message) entry in
    record {
      message = has.0 ∙ said;
      list_is = has.1 ∙ its;
      input = has.2 ∙ job.1 ∙ ap (λ (e : Entry). e.input) entry;
      tag = has.3 ∙ job.3 ∙ ap (λ (e : Entry). e.tag) entry;
      due = subst (λ (p : Plan). IsDue p other that.entry.message node.due) planned
          (subst (λ (m : Said). IsDue plan other m node.due) said
          (subst (λ (l : ℕ). IsDue plan l copy node.due) its has.4));
    }

-- the job runs this action on this message
abbrev pub RunsIt : BoardState → ℕ → ℕ → ℕ → Said → Type 0
RunsIt board worker action tag message =
    (is : Job board.plan board.state worker (occurrence.Run action)) × (message ≡ is.entry.message) × (tag ≡ is.entry.tag)

-- where the job is to run an action, or where there is none, any entry will do
pub run_is_none : (board : BoardState) (worker action tag : ℕ) (message : Said) (made : Option Entry) → RunsIt board worker action tag message
    → IfSome made (IsForPost board worker)
run_is_none board worker action tag message None job = tt
run_is_none board worker action tag message (Some node) job = λ list that.
    absurd (no_run action list (one_job board.plan board.state worker (occurrence.Run action) (occurrence.Post list) job.0 that))

pub none_is_none : (board : BoardState) (worker : ℕ) (made : Option Entry) → HasNoJob board worker → IfSome made (IsForPost board worker)
none_is_none board worker None none = tt
none_is_none board worker (Some node) none = λ list that. absurd (none (occurrence.Post list) that)

pub of_input : (plan : Plan) (input list tag : ℕ) (message : Said) (made : Option Entry)
    → list ≡ (input_at plan input).list → IfSome made (Has plan list input tag message) → IfSome made (IsOfInput plan input)
of_input plan input list tag message None same has = has
of_input plan input list tag message (Some node) same has = record {
  input_is = has.2;
  list = has.1 ∙ same;
  due = subst (λ (l : ℕ). IsDue plan l node.message node.due) same
      (subst (λ (m : Said). IsDue plan list m node.due) (sym has.0) has.4);
}

-- an entry with this due set
abbrev pub HasDue : ℕ → ℕ → ℕ → Said → ℕ → Entry → Type 0
HasDue list input tag message due node = (node.message ≡ message) × (node.list ≡ list) × (node.input ≡ input) × (node.tag ≡ tag) × (node.due ≡ due)

pub with_due : (plan : Plan) (list input tag due : ℕ) (message seen : Said) (made : Option Entry) → seen ≡ message → IsDue plan list seen due
    → IfSome made (HasDue list input tag message due) → IfSome made (Has plan list input tag message)
with_due plan list input tag due message seen None same found has = has
with_due plan list input tag due message seen (Some node) same found has = (
  has.0,
  has.1,
  has.2,
  has.3,
  subst (λ (d : ℕ). IsDue plan list message d) (sym has.4) (subst (λ (m : Said). IsDue plan list m due) same found),
)
