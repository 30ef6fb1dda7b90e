-- What a subscriber hears over a list of steps.
use Rattle.std.specs.Prelude.{◌≡◌, ℕ, true, false, List, [], ◌∷◌, ◌++◌, Option, Some}
use Rattle.sled_nodes.specs.Order.{Key}
use Rattle.sled_store.specs.Store.{Store}
use Rattle.sled_model.specs.Maps.{Map, Merge}
use Rattle.sled_model.specs.State.{NamedTree, Queue}
use Rattle.sled_model.specs.Backlog.{no_backlog}
use Rattle.sled_model.specs.Queues.{backlog_in, waiting_in}
use Rattle.sled_model.specs.declared.call.Whole.TheVariants.{Watch}
use Rattle.sled_model.specs.declared.event.Event.{Event}
use Rattle.sled_model.specs.declared.event.Next.{Next}
use Rattle.sled_model.specs.declared.tree.Tree.{Tree}
use Rattle.sled_model.specs.declared.reply.Reply.TheVariants.{Subscriber}
use Rattle.sled_model.specs.declared.outcome.Step.{Step}
use Rattle.sled_model.specs.declared.outcome.Step.TheVariants as step
use Rattle.sled_model.specs.declared.outcome.Outcome.{Outcome}
use Rattle.sled_model.specs.declared.outcome.Outcome.TheVariants.{Decided}
use Rattle.sled_queues.specs.Values.{queue_at}
use Rattle.sled_queues.specs.Queues.{queues_of}
use Rattle.sled_queues.specs.Events.{Turn, after_turns, brought}
use Rattle.sled_queues.specs.Hears as hearing
use Rattle.sled_queues.specs.Copies.{IsCopy, after_events, events_told, TellsEvents}
use Rattle.sled_queues.specs.Turns.{turns_of, told_at, gives_up}
use Rattle.sled_queues.specs.Trees.{drops}
use Rattle.sled.specs.Sound.{IsDb}
use Rattle.sled.specs.Values.{db_state}
use Rattle.machine_alone.specs.Run.{MakesSteps, NoStep, OneStep}
use Rattle.machine_alone.specs.Step.{MachineStep}
use Rattle.machine_alone.specs.Values.{MachineValue, configuration_of}

-- the queues of a machine by subscriber
abbrev pub queues_at : {P M : Type 0} → MachineValue P M → ℕ → Option Queue
queues_at m = queues_of (queue_at m.db.queues)

-- what a step does to the queues
abbrev pub turns_of_step : {P M : Type 0} (store : P → Store) (flush_number : P → ℕ) (meant : M → Merge) (old : MachineValue P M) (s : Step) (o : Outcome) (new : MachineValue P M) → MachineStep store flush_number meant old s o new → List Turn
turns_of_step store flush_number meant old s o new one = turns_of (configuration_of store flush_number meant old) s o (configuration_of store flush_number meant new) one.maps one.step.is

-- .. and what a list of steps does, in order
abbrev pub turns_of_run : {P M : Type 0} (store : P → Store) (flush_number : P → ℕ) (meant : M → Merge) {old new : MachineValue P M} {steps : List Step} {outcomes : List Outcome}
    → MakesSteps store flush_number meant old steps outcomes new → List Turn
turns_of_run store flush_number meant NoStep = []
turns_of_run store flush_number meant (OneStep {a = a} {m = m} {step = s} {outcome = o} one rest) = turns_of_step store flush_number meant a s o m one ++ turns_of_run store flush_number meant rest

-- what a subscriber gets by these steps, in order
abbrev pub told_to : ℕ → List Step → List Outcome → List Next
told_to n (s ∷ ss) (o ∷ os) = told_at n s o ++ told_to n ss os
told_to n ss os = []

-- no step gives the subscriber up
abbrev pub IsKept : ℕ → List Step → Type 0
IsKept n [] = Unit {0}
IsKept n (s ∷ ss) = (gives_up n s ≡ false) × IsKept n ss

-- no step drops the tree of this name
abbrev pub KeepsTree : Key → List Step → List Outcome → Type 0
KeepsTree name (s ∷ ss) (o ∷ os) = (drops name s o ≡ false) × KeepsTree name ss os
KeepsTree name ss os = Unit {0}

-- the name has the tree of this number, and the copy is one of its map under the prefix
pub record IsCopyOfTree {P M : Type 0} (store : P → Store) (meant : M → Merge) (m : MachineValue P M) (name : Key) (number : ℕ) (prefix : Key) (copy : Map) : Type 0 where
  pub tree : NamedTree
  pub there : (db_state store meant m.db).trees name ≡ Some tree
  pub same : tree.number ≡ number
  pub copied : IsCopy prefix copy tree.map

-- What subscribers hear over every list of steps
pub record Hears {P M : Type 0} (store : P → Store) (flush_number : P → ℕ) (meant : M → Merge) : Type 0 where
  -- a subscriber that is added watches its prefix of its tree, and nothing waits for it yet
  pub begins : (a b : MachineValue P M) (tree : Tree) (prefix : Key) (n : ℕ) → MachineStep store flush_number meant a (step.Whole (Watch tree prefix)) (Decided (Subscriber n)) b
      → queues_at b n ≡ Some (record { tree = tree.number; prefix = prefix; backlog = no_backlog })
  -- the queues after the steps are those that their turns make of them
  pub queues : (a b : MachineValue P M) (steps : List Step) (outcomes : List Outcome) (run : MakesSteps store flush_number meant a steps outcomes b)
      → queues_at b ≡ after_turns (turns_of_run store flush_number meant run) (queues_at a)
  -- Two lists are equal while the count was never at the greatest u64. The one is what its calls returned, with n events at each
  -- `Missed(n)`, then as many as its count, and then those that wait for it. The other is what it had at first, and then the events under
  -- its prefix of its tree that the decided calls brought, each once and in the order of their decisions
  pub hears : (a b : MachineValue P M) (steps : List Step) (outcomes : List Outcome) (run : MakesSteps store flush_number meant a steps outcomes b)
      → (n : ℕ) (q : Queue) → queues_at a n ≡ Some q → IsKept n steps
      → hearing.CountsAll n (turns_of_run store flush_number meant run) (queues_at a) → (all : List Event) → hearing.Holds q.backlog all
      → hearing.Hears (told_to n steps outcomes) (all ++ brought q (turns_of_run store flush_number meant run)) (backlog_in (queues_at b n))
  -- while the database is open and it missed none, a copy that it changes by each event that it gets is, once it is changed by those that
  -- wait too, a copy of its tree's map
  pub follows : (a b : MachineValue P M) (steps : List Step) (outcomes : List Outcome) → MakesSteps store flush_number meant a steps outcomes b → IsDb store a.db → (db_state store meant b.db).is_open ≡ true
      → (n : ℕ) (q : Queue) → queues_at a n ≡ Some q → IsKept n steps → (name : Key) → KeepsTree name steps outcomes
      → TellsEvents (told_to n steps outcomes) → (backlog_in (queues_at b n)).missed ≡ 0
      → (copy : Map) → IsCopyOfTree store meant a name q.tree q.prefix (after_events q.backlog.events copy)
      → IsCopyOfTree store meant b name q.tree q.prefix (after_events (waiting_in (queues_at b n)) (after_events (events_told (told_to n steps outcomes)) copy))
