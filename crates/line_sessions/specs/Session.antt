-- A session: what a command does to its machine, and what is printed.
use Rattle.std.specs.Prelude.{◌≡◌, ◌⊎◌, ℕ, zero, suc, false, List, [], ◌∷◌, ◌++◌, length, Option, Some, None, option_map, slice_get}
use Rattle.std.specs.Global.{Vec}
use Rattle.sled_batch.specs.Batch.{Writes}
use Rattle.sled_store.specs.Store.{Store, now}
use Rattle.sled_nodes.specs.declared.error.Error.{Error}
use Rattle.sled_model.specs.Maps.{Merge}
use Rattle.sled_model.specs.State.{IsOnKey}
use Rattle.sled_model.specs.declared.call.Call.{Call}
use Rattle.sled_model.specs.declared.call.Whole.TheVariants as whole
use Rattle.sled_model.specs.declared.outcome.Step.TheVariants as step
use Rattle.sled_model.specs.declared.outcome.Outcome.{Outcome}
use Rattle.sled_model.specs.declared.outcome.Outcome.TheVariants.{Begun, Decided, Refused, NoSuchSlot}
use Rattle.sled_model.specs.declared.reply.Reply.TheVariants as reply
use Rattle.sled_model.specs.declared.tree.Tree.{Tree}
use Rattle.tree_laws.specs.Contents.{trees_of}
use Rattle.sled.specs.Values.{DbValue}
use Rattle.tree_pages.specs.Export.{collections}
use Rattle.sled.specs.Export.{RefusesExport}
use Rattle.machine_alone.specs.Step.{MachineStepContract}
use Rattle.machine_alone.specs.Finish.{RunsToEnd, Completes}
use Rattle.machine_alone.specs.Values.{MachineValue, slots_of}
use Rattle.line_words.specs.Print.{Prints, shown_of, shown_of_whole, outcome_line, refused_line, dump_text}
use Rattle.line_words.specs.declared.command.Command.{Command}
use Rattle.line_words.specs.declared.command.Command.TheVariants as command
use Rattle.line_words.specs.declared.print.Shown.{Shown}
use Rattle.line_words.specs.declared.print.Shown.TheVariants as shown
use Rattle.line_sessions.specs.declared.session.Act.{Act}
use Rattle.line_sessions.specs.declared.session.Act.TheVariants as act
use Rattle.line_sessions.specs.declared.session.Session.{Session}

-- the slot that the `begin` of a number took, and what the value in its reply is; the first is number 1
abbrev pub slot_at : List (ℕ × Shown) → ℕ → Option (ℕ × Shown)
slot_at slots zero = None
slot_at slots (suc n) = slice_get slots n

-- how often the call in the slot of a number went on so far, if there is the slot, and the call is in flight
abbrev pub turns_at : {P M : Type 0} → MachineValue P M → Option (ℕ × Shown) → Option ℕ
turns_at m None = None
turns_at m (Some at) = option_map (λ f. f.turns) (slots_of m.flights at.0)

-- what a call that begins does to the machine and to the slots that lines began; printed is the number of its slot among them
abbrev pub begins_as : {P M : Type 0} → (P → Store) → (P → ℕ) → (M → Merge) → MachineValue P M → Tree → Call → List (ℕ × Shown) → Outcome → List (ℕ × Shown) → MachineValue P M → Type 0
begins_as store flush_number meant old tree call slots (Begun n) after new = (slot : ℕ) × (after ≡ slots ++ ((slot, shown_of call) ∷ [])) × (n ≡ length after)
    × MachineStepContract store flush_number meant old (step.Begin tree call) (Begun slot) new
begins_as store flush_number meant old tree call slots (Refused e) after new = (after ≡ slots) × MachineStepContract store flush_number meant old (step.Begin tree call) (Refused e) new
begins_as store flush_number meant old tree call slots o after new = ⊥

-- what is done with the call in a slot
abbrev pub acts_on : {P M : Type 0} → (P → Store) → (P → ℕ) → (M → Merge) → MachineValue P M → Act → ℕ → Outcome → MachineValue P M → Type 0
acts_on store flush_number meant old act.Step slot o new = MachineStepContract store flush_number meant old (step.Step slot) o new
acts_on store flush_number meant old act.Finish slot o new = RunsToEnd store flush_number meant old slot o new
acts_on store flush_number meant old act.Abandon slot o new = MachineStepContract store flush_number meant old (step.Abandon slot) o new

-- the same for the slot of a number, if there is one, and what is shown of its reply
abbrev pub acts_at : {P M : Type 0} → (P → Store) → (P → ℕ) → (M → Merge) → MachineValue P M → Act → Option (ℕ × Shown) → Shown → Outcome → MachineValue P M → Type 0
acts_at store flush_number meant old act None shown o new = (o ≡ NoSuchSlot) × (new ≡ old)
acts_at store flush_number meant old act (Some at) shown o new = (shown ≡ at.1) × acts_on store flush_number meant old act at.0 o new

-- a call that ends at once is one on a key: a scan has a pair to give before it ends
abbrev pub CanRun : Command → Type 0
CanRun (command.Point call) = IsOnKey call
CanRun c = Unit {0}

-- the writes of a batch are made in a tree, as a group of it alone
pub record AppliesBatch {P M : Type 0} (store : P → Store) (flush_number : P → ℕ) (meant : M → Merge) (old : MachineValue P M) (tree : Tree) (writes : Writes) (o : Outcome) (new : MachineValue P M) : Type 0 where
  pub batches : Vec (Tree × Writes)
  pub is : batches.items ≡ (tree, writes) ∷ []
  pub reaches : MachineStepContract store flush_number meant old (step.Whole (whole.Group batches)) o new

-- how a command came out that neither dumps nor crashes, and what is shown of the reply
abbrev pub performs : {P M : Type 0} → (P → Store) → (P → ℕ) → (M → Merge) → Session P M → Command → Shown → Outcome → Session P M → Type 0
performs store flush_number meant old (command.Point call) show o new = (show ≡ shown_of call) × Completes store flush_number meant old.machine old.tree call o new.machine × (new.slots ≡ old.slots)
performs store flush_number meant old (command.Begin call) show o new = (show ≡ shown_of call) × begins_as store flush_number meant old.machine old.tree call old.slots.items o new.slots.items new.machine
performs store flush_number meant old (command.Step n) show o new = acts_at store flush_number meant old.machine act.Step (slot_at old.slots.items n) show o new.machine × (new.slots ≡ old.slots)
performs store flush_number meant old (command.Finish n) show o new = acts_at store flush_number meant old.machine act.Finish (slot_at old.slots.items n) show o new.machine × (new.slots ≡ old.slots)
performs store flush_number meant old (command.Abandon n) show o new = acts_at store flush_number meant old.machine act.Abandon (slot_at old.slots.items n) show o new.machine × (new.slots ≡ old.slots)
performs store flush_number meant old (command.Batch writes) show o new = (show ≡ shown.Value) × AppliesBatch store flush_number meant old.machine old.tree writes o new.machine × (new.slots ≡ old.slots)
performs store flush_number meant old command.Flush show o new = (show ≡ shown_of_whole whole.Flush) × MachineStepContract store flush_number meant old.machine (step.Whole whole.Flush) o new.machine × (new.slots ≡ old.slots)
performs store flush_number meant old (command.Crash keep) show o new = ⊥
performs store flush_number meant old command.Dump show o new = ⊥
performs store flush_number meant old (command.OpenTree name) show o new = (show ≡ shown_of_whole (whole.OpenTree name)) × MachineStepContract store flush_number meant old.machine (step.Whole (whole.OpenTree name)) o new.machine × (new.slots ≡ old.slots)

-- what a dump prints: all pairs of the state now, or why they were refused
abbrev pub Dumps : {P M : Type 0} → (P → Store) → DbValue P M → List ℕ → Type 0
Dumps store d text =
    (((now (store d.pages)).in_group ≡ false) × (text ≡ dump_text (collections (trees_of (now (store d.pages))) d.trees)))
    ⊎ ((e : Error) × RefusesExport (store d.pages) e × (text ≡ refused_line e))

-- the tree that was opened, if one was, and else this one
abbrev pub opened_or : Tree → Outcome → Tree
opened_or tree (Decided (reply.Tree opened)) = opened
opened_or tree o = tree

-- the tree that is current after a command came out so
abbrev pub current_after : Command → Tree → Outcome → Tree
current_after (command.OpenTree name) tree o = opened_or tree o
current_after c tree o = tree

-- What a command does to a session, and the text that is printed for it. A crash is nothing that a session does
abbrev pub obeys : {P M : Type 0} → (P → Store) → (P → ℕ) → (M → Merge) → Session P M → Command → List ℕ → Session P M → Type 0
obeys store flush_number meant old (command.Crash keep) text new = (new ≡ old) × (text ≡ [])
obeys store flush_number meant old command.Dump text new = (new ≡ old) × Dumps store old.machine.db text
obeys store flush_number meant old c text new = (show : Shown) × (o : Outcome) × performs store flush_number meant old c show o new × (new.tree ≡ current_after c old.tree o) × (text ≡ outcome_line show o)

-- a command is run, and its text comes behind what a writer holds and what is gathered for it
pub record Obeys {P M : Type 0} (store : P → Store) (flush_number : P → ℕ) (meant : M → Merge) (old : Session P M) (c : Command) (new : Session P M) (held : Option (List ℕ)) (gathered : List ℕ) (held_then : Option (List ℕ)) (gathered_then : List ℕ) : Type 0 where
  pub text : List ℕ
  pub does : obeys store flush_number meant old c text new
  pub prints : Prints held gathered held_then gathered_then text
