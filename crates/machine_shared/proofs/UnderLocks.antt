-- What is done under the lock, told by its parts.
use Rattle.std.proofs.Common.{◌≡◌, ◌∙◌, ◌⊎◌, inl, inr, ℕ, Bool, true, false, List, [], ◌∷◌, ◌++◌, append-nil, length, Option, Result, Ok, Err, IfOk, IfErr, OnErr, refl, sym, ap, subst}
use Rattle.sled_nodes.specs.declared.error.Error.{Error}
use Rattle.sled_nodes.specs.declared.error.Error.TheVariants.{Closed, NoMemory}
use Rattle.sled_batch.specs.Batch.{Writes}
use Rattle.sled_model.specs.Collections.{Content}
use Rattle.sled_nodes.specs.Order.{Key}
use Rattle.sled_store.specs.Store.{Store}
use Rattle.sled_model.specs.Maps.{Merge}
use Rattle.sled_model.specs.declared.call.Call.{Call}
use Rattle.sled_model.specs.declared.call.Whole.{Whole}
use Rattle.sled_model.specs.declared.call.Whole.TheVariants.{Group}
use Rattle.sled_model.specs.declared.reply.Reply.{Reply}
use Rattle.sled_model.specs.declared.outcome.Outcome.TheVariants as outcome
use Rattle.sled_model.specs.declared.outcome.Step.TheVariants as step
use Rattle.sled_model.specs.declared.tree.Tree.{Tree}
use Rattle.sled.specs.Sound.{IsDb}
use Rattle.sled.specs.Values.{snapshot_of_db}
use Rattle.machine_alone.specs.Sound.{IsMachine}
use Rattle.machine_alone.specs.Step.{MachineStepContract}
use Rattle.machine_alone.specs.Values.{MachineValue}
use Rattle.sled_model.specs.declared.outcome.Outcome.{Outcome}
use Rattle.sled_tree.specs.declared.flight.Job.{Job}
use Rattle.machine_shared.specs.Made.{MadeValue, ReadMade, EntryValue}
use Rattle.machine_shared.specs.Notes.{entries_of}
use Rattle.machine_shared.specs.Fetches.{FetchesOnce, RefusesFetch, StaysStill, SwapsNow, swap_made}
use Rattle.machine_shared.specs.declared.called.Stepped.{Stepped}
use Rattle.machine_shared.specs.declared.called.Stepped.TheVariants.{Ended, On}
use Rattle.machine_shared.specs.Replies.{ended_as, ended_with}
use Rattle.machine_shared.specs.declared.call_error.CallError.{CallError}
use Rattle.machine_shared.specs.declared.call_error.CallError.TheVariants.{Refused, NoSuchSlot}
use Rattle.machine_shared.specs.declared.read.Answer.{Answer}
use Rattle.machine_shared.specs.declared.read.Question.{Question}
use Rattle.machine_shared.specs.declared.read.Read.{Read}
use Rattle.machine_shared.specs.declared.read.Read.TheVariants as read
use Rattle.machine_shared.specs.theory.Copied.{BeganStepped, EndsStepped, StaysIn, TakesOn}
use Rattle.machine_shared.specs.theory.Replying.{IsGroupOf}
use Rattle.machine_shared.specs.Scans.{ScansValue, NotesScan, AreNoted, AreNotKept, AreInOrder, begun_of, noted_at}
use Rattle.machine_shared.specs.Sound.{IsState}
use Rattle.machine_shared.specs.Reads.{Asked, OfTree, trees_asked}
use Rattle.machine_shared.specs.UnderLock.{AddsMade, IsHeld, AbandonsSlot, BeginsCall, BeginsUnderLock, EndsUnderLock, GroupsUnderLock, IsDone, IsTakenOut, Looks, ReadsNow, ReadsUnderLock, RefusesNow, UnderLock, WholesUnderLock, read_made}
use Rattle.machine_shared.specs.UnderWay.{MachineScans}
use Rattle.machine_shared.specs.Values.{CallerValue, OpeningValue, StateValue}
use Rattle.machine_shared.proofs.ScanStates.{has_scans}

ok_err : {A X : Type 0} (a : A) (e : Error) (r : Result A Error) → r ≡ Ok a → r ≡ Err e → X
ok_err a e r f g = cc

err_is : {A : Type 0} (a b : Error) (r : Result A Error) → r ≡ Err a → r ≡ Err b → a ≡ b
err_is a b r f g = cc

-- what the type of the lock says of a state, and that of its machine
pub held_of : {P M : Type 0} (store : P → Store) (s : StateValue P M) (total : ℕ) (is : IsState store s.machine s.opening s.history total) → AreInOrder 0 s.scans.notes (length s.history)
    → MachineScans store s.machine is.crashes.moments (length s.history) s.scans → IsDb store s.machine.db → IsMachine (snapshot_of_db store s.machine.db) s.machine.flights s.machine.slots_given → IsHeld store s
held_of store s total is order scans pages calls = record {
  pages = pages;
  calls = calls;
  legal = is.legal;
  leads = is.leads;
  crashes = record { follow = is.crashes; covers = is.covers };
  gave = has_scans store s is.crashes (length s.history) scans;
  order = order;
  ids = is.ids;
}

-- where nothing is noted of scans
pub quiet_scans : (old new : ScansValue) → new ≡ old → NotesScan old [] new
quiet_scans old new same = go old.keeps refl
  where
    go : (k : Bool) → old.keeps ≡ k → NotesScan old [] new
    go true k = AreNoted k (same ∙ ap (λ b. record { keeps = b; notes = old.notes }) k ∙ ap (λ ns. record { keeps = true; notes = ns }) (sym (append-nil old.notes)))
    go false k = AreNotKept k same

-- a state whose machine alone is another
machine_alone : {P M : Type 0} (old new : StateValue P M) → new.history ≡ old.history → new.opening ≡ old.opening → new.scans ≡ old.scans → new ≡ record old { machine = new.machine }
machine_alone old new history opening scans =
    ap (λ h. record { machine = new.machine; opening = new.opening; history = h; scans = new.scans }) history ∙ ap (λ o. record { machine = new.machine; opening = o; history = old.history; scans = new.scans }) opening
    ∙ ap (λ s. record { machine = new.machine; opening = old.opening; history = old.history; scans = s }) scans

-- an abandonment, by its parts
pub abandons : {P M : Type 0} (store : P → Store) (number : P → ℕ) (meant : M → Merge) (old new : StateValue P M) (slot : ℕ) (o : Outcome) → MachineStepContract store number meant old.machine (step.Abandon slot) o new.machine
    → new.history ≡ old.history → new.opening ≡ old.opening → new.scans ≡ old.scans → AbandonsSlot store number meant slot o old new
abandons store number meant old new slot o s history opening scans = record { step = s; same = machine_alone old new history opening scans }

-- a caller of which number and list are known
pub caller_is : (more : CallerValue) (number : ℕ) (made : List MadeValue) → more.number ≡ number → more.made ≡ made → more ≡ record { number = number; made = made }
caller_is more number made n m = ap (λ k. record { number = k; made = more.made }) n ∙ ap (λ l. record { number = number; made = l }) m

-- a begin, by how it came out
pub begins_as : {P M : Type 0} (store : P → Store) (number : P → ℕ) (meant : M → Merge) (old new : StateValue P M) (tree : Tree) (call : Call) (r : Result ℕ Error)
    → IfOk r (λ slot. MachineStepContract store number meant old.machine (step.Begin tree call) (outcome.Begun slot) new.machine) → IfErr r (λ e. MachineStepContract store number meant old.machine (step.Begin tree call) (outcome.Refused e) new.machine)
    → new.history ≡ old.history → new.opening ≡ old.opening → IfOk r (λ slot. NotesScan old.scans (noted_at slot (length old.history) (begun_of tree call)) new.scans) → OnErr r (new.scans ≡ old.scans)
    → BeginsCall store number meant tree call r old new
begins_as store number meant old new tree call (Ok slot) ok err history opening scans same = record { step = ok; history = history; opening = opening; scans = scans }
begins_as store number meant old new tree call (Err e) ok err history opening scans same = record { step = err; history = history; opening = opening; scans = quiet_scans old.scans new.scans same }

-- .. under the lock
pub begins : {P M : Type 0} (store : P → Store) (number : P → ℕ) (meant : M → Merge) (old new : StateValue P M) (tree : Tree) (call : Call) (r : Result ℕ Error) → IsHeld store old → IsHeld store new
    → IfOk r (λ slot. MachineStepContract store number meant old.machine (step.Begin tree call) (outcome.Begun slot) new.machine) → IfErr r (λ e. MachineStepContract store number meant old.machine (step.Begin tree call) (outcome.Refused e) new.machine)
    → new.history ≡ old.history → new.opening ≡ old.opening → IfOk r (λ slot. NotesScan old.scans (noted_at slot (length old.history) (begun_of tree call)) new.scans) → OnErr r (new.scans ≡ old.scans)
    → BeginsUnderLock store number meant tree call r
begins store number meant old new tree call r before after ok err history opening scans same =
    IsDone (record { old = old; new = new; before = before; after = after; is = begins_as store number meant old new tree call r ok err history opening scans same })

-- where a call has ended it was stepped under the lock
pub ends_stepped : {P M : Type 0} (store : P → Store) (number : P → ℕ) (meant : M → Merge) (tree : Tree) (call : Call) (me more : CallerValue) (o : Outcome) (slot : ℕ) (left : Option (Job × Job)) (r : Stepped) → TakesOn o slot left r
    → EndsUnderLock store number meant tree call o me more → EndsStepped store number meant tree call r me more
ends_stepped store number meant tree call me more o slot left (Ended e) takes ends = subst (λ x. EndsUnderLock store number meant tree call x me more) (sym takes.0) ends
ends_stepped store number meant tree call me more o slot left (On s jobs) takes ends = tt

-- what is noted of a read, by how it came out
pub read_noted : {A : Type 0} (read_of : A → Read) (r : Result A Error) (noted : List MadeValue) → IfOk r (λ a. noted ≡ ReadMade (read_of a) ∷ []) → OnErr r (noted ≡ []) → noted ≡ read_made read_of r
read_noted read_of (Ok a) noted ok err = ok
read_noted read_of (Err e) noted ok err = err

-- a read, with nothing else that changed
pub looked : {P M A : Type 0} (store : P → Store) (meant : M → Merge) (asked : Asked) (read_of : A → Read) (r : Result A Error) (machine : MachineValue P M) (opening : OpeningValue) (scans : ScansValue) (history longer : List EntryValue) (number : ℕ) (list more : List MadeValue)
    (s : StateValue P M) → record { machine = machine; opening = opening; history = history; scans = scans } ≡ s → (m : CallerValue) → record { number = number; made = list } ≡ m
    → IfOk r (λ a. ReadsNow store meant machine (trees_asked asked) (read_of a)) → IfErr r (RefusesNow store meant machine asked) → longer ≡ history ++ entries_of number (read_made read_of r) → more ≡ list ++ read_made read_of r
    → Looks store meant asked read_of r m (record { number = number; made = more }) s (record { machine = machine; opening = opening; history = longer; scans = scans })
looked store meant asked read_of r machine opening scans history longer number list more s at_s m at_m reads refused grows grows_there =
    subst (λ x. Looks store meant asked read_of r m (record { number = number; made = more }) x (record { machine = machine; opening = opening; history = longer; scans = scans })) at_s
    (subst (λ x. Looks store meant asked read_of r x (record { number = number; made = more }) (record { machine = machine; opening = opening; history = history; scans = scans }) (record { machine = machine; opening = opening; history = longer; scans = scans })) at_m
    (record { reads = reads; refused = refused; machine = refl; adds = record { history = grows; list = ap (λ l. record { number = number; made = l }) grows_there; opening = refl }; scans = refl }))

-- a read whose answer is told as a value of its kind
pub told_as : {P M A B : Type 0} (store : P → Store) (meant : M → Merge) (asked : Asked) (read_of : A → Read) (tell : B → A) (a : A) (b : B) (me more : CallerValue) → a ≡ tell b
    → ReadsUnderLock store meant asked read_of (Ok a) me more → ReadsUnderLock store meant asked (λ x. read_of (tell x)) (Ok b) me more
told_as store meant asked read_of tell a b me more is reads = elim reads [
  | IsTakenOut x ↦ ok_err a Closed (Ok a) refl x.0
  | IsDone u ↦ IsDone (record {
    old = u.old;
    new = u.new;
    before = u.before;
    after = u.after;
    is = record {
      reads = subst (λ z. ReadsNow store meant u.old.machine (trees_asked asked) (read_of z)) is u.is.reads;
      refused = tt;
      machine = u.is.machine;
      adds = subst (λ z. AddsMade u.old me (ReadMade (read_of z) ∷ []) u.new more) is u.is.adds;
      scans = u.is.scans;
    };
  })
]

-- .. and a refusal of the one is one of the other
pub refused_as : {P M A B : Type 0} (store : P → Store) (meant : M → Merge) (asked : Asked) (read_of : A → Read) (other : B → Read) (e : Error) (me more : CallerValue)
    → ReadsUnderLock store meant asked read_of (Err e) me more → ReadsUnderLock store meant asked other (Err e) me more
refused_as store meant asked read_of other e me more reads = elim reads [
  | IsTakenOut x ↦ IsTakenOut (ap (λ c. Err c) (err_is e Closed (Err e) refl x.0), x.1)
  | IsDone u ↦ IsDone (record { old = u.old; new = u.new; before = u.before; after = u.after; is = record { reads = tt; refused = u.is.refused; machine = u.is.machine; adds = u.is.adds; scans = u.is.scans } })
]

-- there was no memory for what is to be asked
pub unread : {A B : Type 0} (r : Result A Error) (e cause : Error) (me : CallerValue) → r ≡ Err e → e ≡ cause → cause ≡ NoMemory → ((r ≡ Err NoMemory) × (me ≡ me)) ⊎ B
unread r e cause me is same lacks = inl (is ∙ ap (λ c. Err c) (same ∙ lacks), refl)

-- a fetch, by how it came out
pub fetched : {P M : Type 0} (store : P → Store) (meant : M → Merge) (machine after : MachineValue P M) (opening : OpeningValue) (scans : ScansValue) (history longer : List EntryValue) (number : ℕ) (list more : List MadeValue)
    (tree : Tree) (key : Key) (r : Result (Option Key × Option Key) Error) (noted : List MadeValue) (s : StateValue P M) → record { machine = machine; opening = opening; history = history; scans = scans } ≡ s → (m : CallerValue) → record { number = number; made = list } ≡ m
    → IfOk r (λ both. SwapsNow store meant machine tree key both.0 both.1 after) → OnErr r (StaysStill store meant machine after) → IfErr r (λ e. RefusesFetch store meant machine.db tree key e after.db) → IfOk r (λ both. noted ≡ swap_made tree key both.0 both.1 ∷ []) → OnErr r (noted ≡ [])
    → after ≡ record machine { db = after.db } → longer ≡ history ++ entries_of number noted → more ≡ list ++ noted
    → FetchesOnce store meant tree key r m (record { number = number; made = more }) s (record { machine = after; opening = opening; history = longer; scans = scans })
fetched {P} {M} store meant machine after opening scans history longer number list more tree key r noted s at_s m at_m swaps stays causes ok err same grows grows_there =
    subst (λ x. FetchesOnce store meant tree key r m (record { number = number; made = more }) x (record { machine = after; opening = opening; history = longer; scans = scans })) at_s
    (subst (λ x. FetchesOnce store meant tree key r x (record { number = number; made = more }) (record { machine = machine; opening = opening; history = history; scans = scans }) (record { machine = after; opening = opening; history = longer; scans = scans })) at_m
    (go r swaps stays causes ok err))
  where
    go : (r : Result (Option Key × Option Key) Error) → IfOk r (λ both. SwapsNow store meant machine tree key both.0 both.1 after) → OnErr r (StaysStill store meant machine after) → IfErr r (λ e. RefusesFetch store meant machine.db tree key e after.db) → IfOk r (λ both. noted ≡ swap_made tree key both.0 both.1 ∷ []) → OnErr r (noted ≡ [])
        → FetchesOnce store meant tree key r (record { number = number; made = list }) (record { number = number; made = more }) (record { machine = machine; opening = opening; history = history; scans = scans }) (record { machine = after; opening = opening; history = longer; scans = scans })
    go (Ok both) swaps stays causes ok err = record { changes = swaps; same = same; adds = record { history = grows ∙ ap (λ n. history ++ entries_of number n) ok; list = ap (λ l. record { number = number; made = l }) (grows_there ∙ ap (λ n. list ++ n) ok); opening = refl }; scans = refl }
    go (Err e) swaps stays causes ok err = record { changes = (stays, causes); same = same; adds = record { history = grows ∙ ap (λ n. history ++ entries_of number n) err; list = ap (λ l. record { number = number; made = l }) (grows_there ∙ ap (λ n. list ++ n) err); opening = refl }; scans = refl }

-- ---- whole calls, by what their short forms return

module _ {P M : Type 0} (store : P → Store) (number : P → ℕ) (meant : M → Merge) (whole : Whole) (me more : CallerValue) where
  -- a call whose reply is told as a value of its kind
  pub whole_told : {B : Type 0} (asked : Whole) (tell : B → Reply) (reply : Reply) (b : B) → asked ≡ whole → reply ≡ tell b → WholesUnderLock store number meant asked (ended_as (Ok reply)) me more → WholesUnderLock store number meant whole (ended_with tell (Ok b)) me more
  whole_told asked tell reply b same is w =
      subst (λ a. WholesUnderLock store number meant a (outcome.Decided (tell b)) me more) same
      (subst (λ r. WholesUnderLock store number meant asked (outcome.Decided r) me more) is w)

  -- the same call may be said in two ways
  pub whole_same : {B : Type 0} (asked : Whole) (tell : B → Reply) (r : Result B CallError) → asked ≡ whole → WholesUnderLock store number meant asked (ended_with tell r) me more → WholesUnderLock store number meant whole (ended_with tell r) me more
  whole_same asked tell r same w = subst (λ a. WholesUnderLock store number meant a (ended_with tell r) me more) same w

  -- .. and one that was refused
  pub whole_refused : {B : Type 0} (asked : Whole) (tell : B → Reply) (e : CallError) → asked ≡ whole → WholesUnderLock store number meant asked (ended_as (Err e)) me more → WholesUnderLock store number meant whole (ended_with tell (Err e)) me more
  whole_refused asked tell (Refused cause) same w = subst (λ a. WholesUnderLock store number meant a (outcome.Refused cause) me more) same w
  whole_refused asked tell NoSuchSlot same w = subst (λ a. WholesUnderLock store number meant a outcome.NoSuchSlot me more) same w

-- there was no memory for what is to be called
pub lacks_call : {A B : Type 0} (tell : B → Reply) (r : Result B CallError) (e : CallError) (cause : Error) (me : CallerValue) → r ≡ Err e → e ≡ Refused cause → cause ≡ NoMemory → ((ended_with tell r ≡ outcome.Refused NoMemory) × (me ≡ me)) ⊎ A
lacks_call tell r e cause me is f g = inl (ap (λ x. ended_with tell x) is ∙ ap (λ x. ended_with tell (Err x)) f ∙ ap (λ c. outcome.Refused c) g, refl)

-- a group, by what it has
module _ {P M : Type 0} (store : P → Store) (number : P → ℕ) (meant : M → Merge) (batches : List (Tree × Writes)) (whole : Whole) (me more : CallerValue) (is : IsGroupOf batches whole) where
  pub group_same : (tell : Unit {0} → Reply) (r : Result (Unit {0}) CallError) → WholesUnderLock store number meant whole (ended_with tell r) me more → GroupsUnderLock store number meant batches (ended_with tell r) me more
  group_same tell r w = inr (is.group, is.holds, whole_same store number meant (Group is.group) me more whole tell r is.is w)

-- ---- reads of a tree, by what their short forms return

module _ {P M B : Type 0} (store : P → Store) (meant : M → Merge) (tree : Tree) (question : Question) (tell : B → Answer) (me more : CallerValue) where
  pub read_told : (asked : Question) (a : Answer) (b : B) → asked ≡ question → a ≡ tell b → ReadsUnderLock store meant (OfTree tree asked) (λ x. read.Tree tree asked x) (Ok a) me more → ReadsUnderLock store meant (OfTree tree question) (λ x. read.Tree tree question (tell x)) (Ok b) me more
  read_told asked a b same is reads = told_as store meant (OfTree tree question) (λ x. read.Tree tree question x) tell a b me more is (subst (λ q. ReadsUnderLock store meant (OfTree tree q) (λ x. read.Tree tree q x) (Ok a) me more) same reads)

  pub read_refused : (asked : Question) (e : Error) → asked ≡ question → ReadsUnderLock store meant (OfTree tree asked) (λ x. read.Tree tree asked x) (Err e) me more → ReadsUnderLock store meant (OfTree tree question) (λ x. read.Tree tree question (tell x)) (Err e) me more
  read_refused asked e same reads = refused_as store meant (OfTree tree question) (λ x. read.Tree tree question x) (λ x. read.Tree tree question (tell x)) e me more (subst (λ q. ReadsUnderLock store meant (OfTree tree q) (λ x. read.Tree tree q x) (Err e) me more) same reads)

-- ---- calls on keys that go on

pub began_stays : {P M : Type 0} (store : P → Store) (number : P → ℕ) (meant : M → Merge) (tree : Tree) (call : Call) (slot : ℕ) (r : Stepped) → StaysIn slot r → UnderLock store (BeginsCall store number meant tree call (Ok slot)) → BeganStepped store number meant tree call r
began_stays store number meant tree call slot (Ended o) same b = tt
began_stays store number meant tree call slot (On s jobs) same b = subst (λ z. UnderLock store (BeginsCall store number meant tree call (Ok z))) (sym same) b

-- where a step was taken on the call stays in its slot
pub stays_in : (o : Outcome) (slot : ℕ) (left : Option (Job × Job)) (r : Stepped) → TakesOn o slot left r → StaysIn slot r
stays_in o slot left (Ended e) t = tt
stays_in o slot left (On s jobs) t = t.0

-- a begin that took a slot
pub begun_under : {P M : Type 0} (store : P → Store) (number : P → ℕ) (meant : M → Merge) (tree : Tree) (call : Call) (slot : ℕ) → BeginsUnderLock store number meant tree call (Ok slot) → UnderLock store (BeginsCall store number meant tree call (Ok slot))
begun_under store number meant tree call slot b = elim b [
  | IsDone u ↦ u
  | IsTakenOut f ↦ ok_err slot Closed (Ok slot) refl f
]
