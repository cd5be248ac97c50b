-- A file is read line by line, and a line thing by thing.
use Rattle.kob_policy_text.proofs.Words.{Bool, Err, Fails, Fault, FaultKind, GivesSeen, IsStopped, Item, LineError, List, MayFail, MayGive, Memory, Ok, Origin, Policy, Result, SaysAt, drop, drop_more, drop_of_length-le, get_or, is_none, length, [], ap, arith, fault_at, nat_tests, place, refl, sym, with_item, ℕ, ◌+◌, ◌<◌, ◌∙◌, ◌∷◌, ◌≡◌, ◌≤◌}
use Rattle.kob_script.specs.declared.fault.Fault as fault
use Rattle.kob_policy_text.specs.Joined.{Numbered}
use Rattle.kob_policy_text.specs.Policy.{LineMakes, LinesMake, with_items}

-- What the lines that are left may make, all may make.
abbrev pub Leads : List ℕ → Policy → Policy → List Numbered → List Numbered → Type 0
Leads file old policy lines rest =
    (read : Result Policy fault.Fault) → LinesMake file policy rest read → LinesMake file old lines read

pub line_keeps : (file : List ℕ) (old policy next : Policy) (lines : List Numbered) (i : ℕ) (d line : Numbered)
    → Leads file old policy lines (drop i lines) → i < length lines → line ≡ get_or lines i d
    → LineMakes file policy line.line line.text (Ok next)
    → Leads file old next lines (drop (i + 1) lines)
unfolding LinesMake
line_keeps file old policy next lines i d line leads below is makes = grind (arith, nat_tests, drop_more)

pub line_stops : (file : List ℕ) (old policy : Policy) (lines : List Numbered) (i : ℕ) (d line : Numbered)
    (kind : FaultKind)
    → Leads file old policy lines (drop i lines) → i < length lines → line ≡ get_or lines i d
    → LineMakes file policy line.line line.text (Err kind)
    → LinesMake file old lines (Err (record { line = line.line; kind = kind }))
unfolding LinesMake
line_stops file old policy lines i d line kind leads below is makes = grind (arith, nat_tests, drop_more)

-- the same of an error, which may be want of memory
pub stopped : (file : List ℕ) (old policy : Policy) (lines : List Numbered) (i : ℕ) (d line : Numbered)
    (e : LineError)
    → Leads file old policy lines (drop i lines) → i < length lines → line ≡ get_or lines i d
    → MayFail e (LineMakes file policy line.line line.text)
    → IsStopped (fault_at line.line e) (LinesMake file old lines)
stopped file old policy lines i d line (Memory e) leads below is makes = tt
stopped file old policy lines i d line (Fault kind) leads below is makes =
    line_stops file old policy lines i d line kind leads below is makes

pub lines_end : (file : List ℕ) (old policy : Policy) (lines : List Numbered) (i : ℕ)
    → Leads file old policy lines (drop i lines) → length lines ≤ i → LinesMake file old lines (Ok policy)
unfolding LinesMake
lines_end file old policy lines i leads past = grind (arith, nat_tests, drop_of_length-le)

-- the first of the things that are left was added
pub item_keeps : (policy next : Policy) (origin : Origin) (rest more : List Item) (first : Item)
    (whole : Result Policy FaultKind)
    → with_items policy origin rest ≡ whole → rest ≡ first ∷ more → with_item policy origin first ≡ Ok next
    → with_items next origin more ≡ whole
unfolding with_items
item_keeps policy next origin rest more first whole kept split gives = grind (arith, nat_tests)

-- it was not
pub item_fails : (policy : Policy) (origin : Origin) (rest more : List Item) (first : Item)
    (whole : Result Policy FaultKind) (e : LineError)
    → with_items policy origin rest ≡ whole → rest ≡ first ∷ more → Fails e (with_item policy origin first)
    → Fails e whole
unfolding with_items
item_fails policy origin rest more first whole (Memory e) kept split fails = tt
item_fails policy origin rest more first whole (Fault kind) kept split fails = grind (arith, nat_tests)

-- none is left
pub items_end : (policy : Policy) (origin : Origin) (rest : List Item) (whole : Result Policy FaultKind)
    → with_items policy origin rest ≡ whole → rest ≡ [] → whole ≡ Ok policy
unfolding with_items
items_end policy origin rest whole kept none = sym kept ∙ ap (with_items policy origin) none

-- a line that says nothing readable, or says things one of which can't be added
pub line_unread : (file : List ℕ) (policy : Policy) (number : ℕ) (line : List ℕ) (above listed : Bool) (e : LineError)
    → above ≡ is_none policy.heading → listed ≡ policy.has_list → MayFail e (SaysAt above listed line)
    → MayFail e (LineMakes file policy number line)
unfolding LineMakes
line_unread file policy number line above listed (Memory e) same has says = tt
line_unread file policy number line above listed (Fault kind) same has says =
    (Err kind, rw (sym same, sym has) says, refl)

pub line_made : {A : Type 0} (file made : List ℕ) (policy new : Policy) (number : ℕ) (line : List ℕ)
    (items : List Item) (above listed : Bool) (r : Result A LineError)
    → made ≡ file → above ≡ is_none policy.heading → listed ≡ policy.has_list → SaysAt above listed line (Ok items)
    → GivesSeen (λ _. new) r (with_items policy (place made number) items)
    → MayGive (λ _. new) r (LineMakes file policy number line)
unfolding LineMakes
line_made file made policy new number line items above listed (Ok x) same is has says gives = (
  Ok items,
  rw (sym is, sym has) says,
  ap (λ (f : List ℕ). with_items policy (place f number) items) (sym same) ∙ gives,
)
line_made file made policy new number line items above listed (Err (Memory e)) same is has says gives = tt
line_made file made policy new number line items above listed (Err (Fault kind)) same is has says gives = (
  Ok items,
  rw (sym is, sym has) says,
  ap (λ (f : List ℕ). with_items policy (place f number) items) (sym same) ∙ gives,
)
