-- What a step of the machine does to queues, by cases of what it was and how it came out.
use Rattle.std.specs.Prelude.{◌≡◌, ◌⊎◌, ℕ, nat_eq, Bool, false, List, [], ◌∷◌, ◌++◌, Option, Some, None, map, if◌then◌else◌}
use mathlib.Core.Logic.{inl, inr}
use Rattle.std.specs.Option.{option_to_list}
use Rattle.sled_nodes.specs.Order.{Key}
use Rattle.sled_store.specs.Store.{Store}
use Rattle.sled_nodes.specs.declared.error.Error.{Error}
use Rattle.sled_model.specs.Maps.{Maps}
use Rattle.sled_model.specs.Answer.{answer_of}
use Rattle.sled_model.specs.State.{State, NamedTree, Queue}
use Rattle.sled_model.specs.Imports.{Part, OpensName, Puts, does_part_as, DoesParts, NoPart, OnePart, Stop, StopsAtPart}
use Rattle.sled_model.specs.Whole.{RemovesLeast, RemovesNone, RemovesOne}
use Rattle.sled_model.specs.Groups.{writes_of, events_of_writes}
use Rattle.sled_model.specs.Refusal.{must_refuse_of, cause_of_import, may_refuse_as}
use Rattle.sled_model.specs.Transition.{Configuration, transition_as, does_of}
use Rattle.sled_model.specs.declared.call.Call.{Call}
use Rattle.sled_model.specs.declared.call.Call.TheVariants.{Insert, Remove}
use Rattle.sled_model.specs.declared.call.Whole.{Whole}
use Rattle.sled_model.specs.declared.call.Whole.TheVariants.{PopMin, PopMax, Clear, Group, Import, Watch, Next, Unsubscribe}
use Rattle.sled_model.specs.declared.event.Event.{Event}
use Rattle.sled_model.specs.declared.event.Next as event
use Rattle.sled_model.specs.declared.tree.Tree.{Tree}
use Rattle.sled_model.specs.declared.reply.Reply.{Reply}
use Rattle.sled_model.specs.declared.reply.Reply.TheVariants as told
use Rattle.sled_model.specs.declared.outcome.Step.{Step}
use Rattle.sled_model.specs.declared.outcome.Step.TheVariants as step
use Rattle.sled_model.specs.declared.outcome.Outcome.{Outcome}
use Rattle.sled_model.specs.declared.outcome.Outcome.TheVariants.{Decided, Refused}
use Rattle.sled_queues.specs.Events.{Turn, Comes, Watches, Takes, Ends, after_turns, taken_by, Stays}

-- an event comes to the tree of this number, if there is one
abbrev pub turns_of_event : ℕ → Option Event → List Turn
turns_of_event tree None = []
turns_of_event tree (Some e) = Comes tree e ∷ []

-- what a call that is decided on a tree brings by its map now
abbrev pub turns_of_call : NamedTree → Call → List Turn
turns_of_call t call = turns_of_event t.number (answer_of t.merge call t.map).event

-- a pop brings what the removal of its pair does
abbrev pub turns_of_pop : NamedTree → Option (Key × Key) → List Turn
turns_of_pop t None = []
turns_of_pop t (Some pair) = turns_of_call t (Remove pair.0)

-- removals bring what each does, in order
abbrev pub turns_of_removals : {tree : Tree} {a b : State} {n : ℕ} {maps : List Maps} → RemovesLeast tree a n b maps → List Turn
turns_of_removals RemovesNone = []
turns_of_removals (RemovesOne named pair rest there first more) = turns_of_call named (Remove pair.0) ++ turns_of_removals more

-- of the parts of an import, a pair that is put brings what its insert does
abbrev pub turns_of_part : (old : State) (part : Part) (new : State) (maps : List Maps) → does_part_as old part new maps → List Turn
turns_of_part old (OpensName name) new maps d = []
turns_of_part old (Puts name key value) new maps d = turns_of_call d.named (Insert key value)

abbrev pub turns_of_parts : {a b : State} {parts : List Part} {maps : List Maps} → DoesParts a parts b maps → List Turn
turns_of_parts NoPart = []
turns_of_parts (OnePart {a = a} {m = m} {part = part} added one more) = turns_of_part a part m added one ++ turns_of_parts more

-- events come, each to the tree of its number, in order
abbrev pub turns_of_events : List (ℕ × Event) → List Turn
turns_of_events es = map (λ e. Comes e.0 e.1) es

-- a whole call that is decided
abbrev pub turns_of_whole : (old : Configuration) (whole : Whole) (reply : Reply) (new : State) (maps : List Maps) → (does_of whole).decides old reply new maps → List Turn
turns_of_whole old (PopMin tree) reply new maps d = turns_of_pop d.named d.found
turns_of_whole old (PopMax tree) reply new maps d = turns_of_pop d.named d.found
turns_of_whole old (Clear tree) reply new maps d = turns_of_removals d.1.removes
turns_of_whole old (Group batches) reply new maps d = turns_of_events (events_of_writes (writes_of batches.items) old.state)
turns_of_whole old (Import collections) reply new maps d = turns_of_parts d.1.does
turns_of_whole old (Watch tree prefix) reply new maps d = Watches d.0 tree.number prefix ∷ []
turns_of_whole old (Next subscriber) reply new maps d = Takes subscriber ∷ []
turns_of_whole old (Unsubscribe subscriber) reply new maps d = Ends subscriber ∷ []
turns_of_whole old whole reply new maps d = []

-- an import that is refused has done none of its parts, or the first
abbrev pub turns_of_stop : {old : State} {a b : Store} {all : List (Key × Key × List (Key × Key))} {e : Error} {new : State} {maps : List Maps}
    → (may_refuse_as (must_refuse_of old []) (cause_of_import all) e × (new ≡ old) × (maps ≡ [])) ⊎ ((stop : Stop) × StopsAtPart old a b all stop e new maps) → List Turn
turns_of_stop (inl none) = []
turns_of_stop (inr s) = turns_of_parts s.1.does

-- a whole call that is refused: of a clear and an import, the parts that were done. A refused group brings
-- nothing, even if it closes the database
abbrev pub turns_of_refusal : (old : State) (a b : Store) (whole : Whole) (e : Error) (new : State) (maps : List Maps) → (does_of whole).refuses old a b e new maps → List Turn
turns_of_refusal old a b (Clear tree) e new maps d = turns_of_removals d.removes
turns_of_refusal old a b (Import collections) e new maps d = turns_of_stop d
turns_of_refusal old a b whole e new maps d = []

-- A step of a slot brings what its call does when it is decided, and a whole call what its cases say. All other steps do nothing to queues
abbrev pub turns_of : (old : Configuration) (s : Step) (o : Outcome) (new : Configuration) (maps : List Maps) → transition_as old s o new maps → List Turn
turns_of old (step.Step slot) (Decided reply) new maps d = turns_of_call d.0.tree d.0.flying.call
turns_of old (step.Whole whole) (Decided reply) new maps d = turns_of_whole old whole reply new.state maps d
turns_of old (step.Whole whole) (Refused e) new maps d = turns_of_refusal old.state old.store new.store whole e new.state maps d
turns_of old s o new maps d = []

-- The queues after a step are those that its turns make of them
abbrev pub TurnsLaw : Type 0
TurnsLaw = (old : Configuration) (s : Step) (o : Outcome) (new : Configuration) (maps : List Maps) (t : transition_as old s o new maps)
    → new.state.queues ≡ after_turns (turns_of old s o new maps t) old.state.queues

-- what a subscriber gets by this step, if it is its `Next`
abbrev pub told_at : ℕ → Step → Outcome → List event.Next
told_at n (step.Whole (Next subscriber)) (Decided (told.Next next)) = if nat_eq subscriber n then option_to_list next else []
told_at n s o = []

-- the step gives the subscriber up
abbrev pub gives_up : ℕ → Step → Bool
gives_up n (step.Whole (Unsubscribe subscriber)) = nat_eq subscriber n
gives_up n s = false

-- A step that does not end a subscriber leaves it its queue, and what it takes then is what it gets
pub record IsHeard (n : ℕ) (s : Step) (o : Outcome) (turns : List Turn) (queues : ℕ → Option Queue) : Type 0 where
  pub stays : Stays n turns
  pub told : told_at n s o ≡ taken_by n turns queues

abbrev pub HeardLaw : Type 0
HeardLaw = (n : ℕ) (q : Queue) (old : Configuration) (s : Step) (o : Outcome) (new : Configuration) (maps : List Maps) (t : transition_as old s o new maps)
    → old.state.queues n ≡ Some q → gives_up n s ≡ false → IsHeard n s o (turns_of old s o new maps t) old.state.queues
