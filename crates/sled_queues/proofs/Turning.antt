-- The queues after a step are those that its turns make of them.
use Rattle.std.proofs.Common.{◌≡◌, ℕ, Bool, true, false, cond, nat_eq, List, [], ◌∷◌, ◌++◌, append-nil, append_assoc, Option, Some, None, refl, sym, ap, ◌∙◌, ◌⊎◌, inl, inr}
use Rattle.std.specs.Option.{option_to_list}
use Rattle.std.proofs.lemmas.Bool.{eqb-true}
use Rattle.sled_nodes.proofs.Basics.{none_some}
use Rattle.sled_nodes.specs.Order.{Key}
use Rattle.sled_store.specs.Store.{Store}
use Rattle.sled_nodes.specs.declared.error.Error.{Error}
use Rattle.sled_model.specs.Collections.{Content}
use Rattle.sled_model.specs.Refusal.{must_refuse_of, cause_of_import, may_refuse_as}
use Rattle.sled_model.specs.Maps.{Maps}
use Rattle.sled_model.specs.State.{State, NamedTree, Queue, queues_after}
use Rattle.sled_model.specs.Imports.{Part, OpensName, Puts, does_part_as, DoesParts, NoPart, OnePart, Stop, StopsAtPart}
use Rattle.sled_model.specs.Whole.{after_pop, RemovesLeast, RemovesNone, RemovesOne, state_opened, state_dropped}
use Rattle.sled_model.specs.Groups.{Closes, writes_of, events_of_writes}
use Rattle.sled_model.specs.Transition.{Configuration, transition_as}
use Rattle.sled_model.specs.declared.call.Whole.{Whole}
use Rattle.sled_model.specs.declared.call.Whole.TheVariants.{Flush, PopMin, PopMax, Clear, Group, OpenTree, DropTree, GenerateId, Import, Watch, Next, Unsubscribe}
use Rattle.sled_model.specs.declared.event.Event.{Event}
use Rattle.sled_model.specs.declared.event.Next as event
use Rattle.sled_model.specs.declared.tree.Tree.{Tree}
use Rattle.sled_model.specs.declared.reply.Reply.{Reply}
use Rattle.sled_model.specs.declared.reply.Reply.TheVariants as told
use Rattle.sled_model.specs.declared.outcome.Step.{Step}
use Rattle.sled_model.specs.declared.outcome.Step.TheVariants as step
use Rattle.sled_model.specs.declared.outcome.Outcome.{Outcome}
use Rattle.sled_model.specs.declared.outcome.Outcome.TheVariants as outcome
use Rattle.sled_model.proofs.Shapes.{next_in}
use Rattle.sled_queues.specs.Events.{Turn, Takes, after_turn, after_turns, taken_at, taken_by, Stays}
use Rattle.sled_queues.specs.Turns.{turns_of_event, turns_of_pop, turns_of_removals, turns_of_part, turns_of_parts, turns_of_events, turns_of_stop, turns_of, told_at, gives_up, IsHeard, TurnsLaw, HeardLaw}
use Rattle.sled_queues.proofs.Grouped.{writes_deliver, turns_deliver}

abbrev Queues : Type 0
Queues = ℕ → Option Queue

pub after_both_turns : (xs ys : List Turn) (queues : Queues) → after_turns (xs ++ ys) queues ≡ after_turns ys (after_turns xs queues)
after_both_turns [] ys queues = refl
after_both_turns (x ∷ xs) ys queues = after_both_turns xs ys (after_turn x queues)

pub stays_both : (n : ℕ) (xs ys : List Turn) → Stays n xs → Stays n ys → Stays n (xs ++ ys)
stays_both n [] ys x y = y
stays_both n (t ∷ xs) ys x y = (x.0, stays_both n xs ys x.1 y)

pub taken_both : (n : ℕ) (xs ys : List Turn) (queues : Queues) → taken_by n (xs ++ ys) queues ≡ taken_by n xs queues ++ taken_by n ys (after_turns xs queues)
taken_both n [] ys queues = refl
taken_both n (t ∷ xs) ys queues = ap (λ l. taken_at n t queues ++ l) (taken_both n xs ys (after_turn t queues)) ∙ sym (append_assoc (taken_at n t queues) (taken_by n xs (after_turn t queues)) (taken_by n ys (after_turns xs (after_turn t queues))))

-- the queues that an event, if there is one, is given to
event_comes : (tree : ℕ) (e : Option Event) (queues : Queues) → queues_after tree e queues ≡ after_turns (turns_of_event tree e) queues
event_comes tree None queues = refl
event_comes tree (Some e) queues = refl

same_queues : (a b : State) → b ≡ a → b.queues ≡ a.queues
same_queues a b e = ap (λ (s : State). s.queues) e

pop_turns : (s : State) (name : Key) (t : NamedTree) (found : Option (Key × Key)) → (after_pop s name t found).queues ≡ after_turns (turns_of_pop t found) s.queues
pop_turns s name t None = refl
pop_turns s name t (Some pair) = event_comes t.number _ s.queues

removal_turns : {tree : Tree} {a b : State} {n : ℕ} {maps : List Maps} → (run : RemovesLeast tree a n b maps) → b.queues ≡ after_turns (turns_of_removals run) a.queues
removal_turns RemovesNone = refl
removal_turns (RemovesOne {a = a} named pair rest there first more) =
    removal_turns more
    ∙ ap (after_turns (turns_of_removals more)) (event_comes named.number _ a.queues)
    ∙ sym (after_both_turns (turns_of_event named.number _) (turns_of_removals more) a.queues)

opened : (o : Option NamedTree) (s : State) (name : Key) → (state_opened o s name).queues ≡ s.queues
opened (Some t) s name = refl
opened None s name = refl

dropped : (o : Option NamedTree) (s : State) (name : Key) → (state_dropped o s name).queues ≡ s.queues
dropped (Some t) s name = refl
dropped None s name = refl

part_turns : (a : State) (part : Part) (b : State) (maps : List Maps) (d : does_part_as a part b maps) → b.queues ≡ after_turns (turns_of_part a part b maps d) a.queues
part_turns a (OpensName name) b maps d = same_queues _ b d.0 ∙ opened (a.trees name) a name
part_turns a (Puts name key value) b maps d = same_queues _ b d.is ∙ event_comes d.named.number _ a.queues

parts_turns : {a b : State} {parts : List Part} {maps : List Maps} → (run : DoesParts a parts b maps) → b.queues ≡ after_turns (turns_of_parts run) a.queues
parts_turns NoPart = refl
parts_turns (OnePart {a = a} {m = m} {part = part} added one more) =
    parts_turns more
    ∙ ap (after_turns (turns_of_parts more)) (part_turns a part m added one)
    ∙ sym (after_both_turns (turns_of_part a part m added one) (turns_of_parts more) a.queues)

-- what an import that is refused has done
abbrev Stopped : State → Store → Store → List Content → Error → State → List Maps → Type 0
Stopped old a b all e new maps = (may_refuse_as (must_refuse_of old []) (cause_of_import all) e × (new ≡ old) × (maps ≡ [])) ⊎ ((stop : Stop) × StopsAtPart old a b all stop e new maps)

stop_turns : {old : State} {a b : Store} {all : List Content} {e : Error} {new : State} {maps : List Maps} (s : Stopped old a b all e new maps) → new.queues ≡ after_turns (turns_of_stop s) old.queues
stop_turns {old = old} {new = new} (inl none) = same_queues old new none.1
stop_turns (inr s) = parts_turns s.1.does

-- a refused group changes no queue, even where it closes the database
group_stops : {P : Type 0} (a b : State) → (b ≡ a) ⊎ (P × Closes a b) → b.queues ≡ a.queues
group_stops a b (inl e) = same_queues a b e
group_stops a b (inr c) = same_queues _ b c.1.is

whole_turns : (a : Configuration) (w : Whole) (o : Outcome) (b : Configuration) (maps : List Maps) (t : transition_as a (step.Whole w) o b maps)
    → b.state.queues ≡ after_turns (turns_of a (step.Whole w) o b maps t) a.state.queues
whole_turns a Flush (outcome.Decided reply) b maps t = same_queues a.state b.state t.2
whole_turns a (PopMin tree) (outcome.Decided reply) b maps t = same_queues _ b.state t.is ∙ pop_turns a.state tree.name t.named t.found
whole_turns a (PopMax tree) (outcome.Decided reply) b maps t = same_queues _ b.state t.is ∙ pop_turns a.state tree.name t.named t.found
whole_turns a (Clear tree) (outcome.Decided reply) b maps t = removal_turns t.1.removes
whole_turns a (Group batches) (outcome.Decided reply) b maps t =
    same_queues _ b.state t.is
    ∙ writes_deliver (writes_of batches.items) a.state
    ∙ sym (turns_deliver (events_of_writes (writes_of batches.items) a.state) a.state.queues)
whole_turns a (OpenTree name) (outcome.Decided reply) b maps t = same_queues _ b.state t.is ∙ opened (a.state.trees name) a.state name
whole_turns a (DropTree name) (outcome.Decided reply) b maps t = same_queues _ b.state t.is ∙ dropped (a.state.trees name) a.state name
whole_turns a GenerateId (outcome.Decided reply) b maps t = same_queues _ b.state t.is
whole_turns a (Import collections) (outcome.Decided reply) b maps t = parts_turns t.1.does
whole_turns a (Watch tree prefix) (outcome.Decided reply) b maps t = same_queues _ b.state t.2.is
whole_turns a (Next subscriber) (outcome.Decided reply) b maps t = same_queues _ b.state t.2.is
whole_turns a (Unsubscribe subscriber) (outcome.Decided reply) b maps t = same_queues _ b.state t.1
whole_turns a Flush (outcome.Refused e) b maps t = same_queues a.state b.state t.1
whole_turns a (PopMin tree) (outcome.Refused e) b maps t = same_queues a.state b.state t.1
whole_turns a (PopMax tree) (outcome.Refused e) b maps t = same_queues a.state b.state t.1
whole_turns a (Clear tree) (outcome.Refused e) b maps t = removal_turns t.removes
whole_turns a (Group batches) (outcome.Refused e) b maps t = group_stops a.state b.state t.is
whole_turns a (OpenTree name) (outcome.Refused e) b maps t = same_queues a.state b.state t.1
whole_turns a (DropTree name) (outcome.Refused e) b maps t = same_queues a.state b.state t.1
whole_turns a GenerateId (outcome.Refused e) b maps t = same_queues a.state b.state t.1
whole_turns a (Import collections) (outcome.Refused e) b maps t = stop_turns t
whole_turns a (Watch tree prefix) (outcome.Refused e) b maps t = same_queues a.state b.state t.1
whole_turns a (Next subscriber) (outcome.Refused e) b maps t = absurd t
whole_turns a (Unsubscribe subscriber) (outcome.Refused e) b maps t = absurd t
whole_turns a w (outcome.Begun slot) b maps t = absurd t
whole_turns a w outcome.Moved b maps t = absurd t
whole_turns a w (outcome.Yielded key value) b maps t = absurd t
whole_turns a w outcome.Abandoned b maps t = absurd t
whole_turns a w outcome.NoSuchSlot b maps t = absurd t

pub turns_law : TurnsLaw
turns_law a (step.Whole w) o b maps t = whole_turns a w o b maps t
turns_law a (step.Begin tree call) (outcome.Begun slot) b maps t = same_queues _ b.state t.0.is
turns_law a (step.Begin tree call) (outcome.Refused e) b maps t = same_queues a.state b.state t.1
turns_law a (step.Begin tree call) outcome.Moved b maps t = absurd t
turns_law a (step.Begin tree call) (outcome.Yielded key value) b maps t = absurd t
turns_law a (step.Begin tree call) (outcome.Decided reply) b maps t = absurd t
turns_law a (step.Begin tree call) outcome.Abandoned b maps t = absurd t
turns_law a (step.Begin tree call) outcome.NoSuchSlot b maps t = absurd t
turns_law a (step.Step slot) outcome.NoSuchSlot b maps t = same_queues a.state b.state t.0.1
turns_law a (step.Step slot) outcome.Moved b maps t = same_queues _ b.state t.0.is
turns_law a (step.Step slot) (outcome.Yielded key value) b maps t = same_queues _ b.state t.0.is
turns_law a (step.Step slot) (outcome.Decided reply) b maps t = same_queues _ b.state t.0.is ∙ event_comes t.0.tree.number _ a.state.queues
turns_law a (step.Step slot) (outcome.Refused e) b maps t = same_queues _ b.state t.0.is
turns_law a (step.Step slot) (outcome.Begun i) b maps t = absurd t
turns_law a (step.Step slot) outcome.Abandoned b maps t = absurd t
turns_law a (step.Abandon slot) outcome.NoSuchSlot b maps t = same_queues a.state b.state t.0.1
turns_law a (step.Abandon slot) outcome.Abandoned b maps t = same_queues _ b.state t.0.is
turns_law a (step.Abandon slot) (outcome.Begun i) b maps t = absurd t
turns_law a (step.Abandon slot) outcome.Moved b maps t = absurd t
turns_law a (step.Abandon slot) (outcome.Yielded key value) b maps t = absurd t
turns_law a (step.Abandon slot) (outcome.Decided reply) b maps t = absurd t
turns_law a (step.Abandon slot) (outcome.Refused e) b maps t = absurd t

-- turns at which the subscriber neither begins nor ends nor takes
record IsQuiet (n : ℕ) (ts : List Turn) : Type 0 where
  stays : Stays n ts
  none : (queues : Queues) → taken_by n ts queues ≡ []

quiet_none : (n : ℕ) → IsQuiet n []
quiet_none n = record { stays = tt; none = λ queues. refl }

quiet_event : (n tree : ℕ) (e : Option Event) → IsQuiet n (turns_of_event tree e)
quiet_event n tree None = quiet_none n
quiet_event n tree (Some e) = record { stays = (refl, tt); none = λ queues. refl }

quiet_events : (n : ℕ) (es : List (ℕ × Event)) → IsQuiet n (turns_of_events es)
quiet_events n [] = quiet_none n
quiet_events n (e ∷ es) = let more = quiet_events n es in record { stays = (refl, more.stays); none = λ queues. more.none (queues_after e.0 (Some e.1) queues) }

quiet_both : (n : ℕ) (xs ys : List Turn) → IsQuiet n xs → IsQuiet n ys → IsQuiet n (xs ++ ys)
quiet_both n xs ys x y = record { stays = stays_both n xs ys x.stays y.stays; none = λ queues. taken_both n xs ys queues ∙ ap (λ l. l ++ taken_by n ys (after_turns xs queues)) (x.none queues) ∙ y.none (after_turns xs queues) }

quiet_pop : (n : ℕ) (t : NamedTree) (found : Option (Key × Key)) → IsQuiet n (turns_of_pop t found)
quiet_pop n t None = quiet_none n
quiet_pop n t (Some pair) = quiet_event n t.number _

quiet_removals : (k : ℕ) {tree : Tree} {a b : State} {n : ℕ} {maps : List Maps} → (run : RemovesLeast tree a n b maps) → IsQuiet k (turns_of_removals run)
quiet_removals k RemovesNone = quiet_none k
quiet_removals k (RemovesOne named pair rest there first more) = quiet_both k (turns_of_event named.number _) (turns_of_removals more) (quiet_event k named.number _) (quiet_removals k more)

quiet_part : (n : ℕ) (a : State) (part : Part) (b : State) (maps : List Maps) (d : does_part_as a part b maps) → IsQuiet n (turns_of_part a part b maps d)
quiet_part n a (OpensName name) b maps d = quiet_none n
quiet_part n a (Puts name key value) b maps d = quiet_event n d.named.number _

quiet_parts : (n : ℕ) {a b : State} {parts : List Part} {maps : List Maps} → (run : DoesParts a parts b maps) → IsQuiet n (turns_of_parts run)
quiet_parts n NoPart = quiet_none n
quiet_parts n (OnePart {a = a} {m = m} {part = part} added one more) = quiet_both n (turns_of_part a part m added one) (turns_of_parts more) (quiet_part n a part m added one) (quiet_parts n more)

quiet_stop : (n : ℕ) {old : State} {a b : Store} {all : List Content} {e : Error} {new : State} {maps : List Maps} (s : Stopped old a b all e new maps) → IsQuiet n (turns_of_stop s)
quiet_stop n (inl none) = quiet_none n
quiet_stop n (inr s) = quiet_parts n s.1.does

heard : (n : ℕ) (s : Step) (o : Outcome) (ts : List Turn) (queues : Queues) → told_at n s o ≡ [] → IsQuiet n ts → IsHeard n s o ts queues
heard n s o ts queues e h = record { stays = h.stays; told = e ∙ sym (h.none queues) }

-- what its own `Next` tells
next_told : (n m : ℕ) (reply : Reply) (e : Option event.Next) (queues : Queues) → reply ≡ told.Next e → e ≡ next_in (queues m) → told_at n (step.Whole (Next m)) (outcome.Decided reply) ≡ taken_by n (Takes m ∷ []) queues
next_told n m reply e queues r is = ap (λ z. told_at n (step.Whole (Next m)) (outcome.Decided z)) r ∙ go (nat_eq m n) refl
  where
    go : (b : Bool) → nat_eq m n ≡ b → cond b (option_to_list e) [] ≡ cond b (option_to_list (next_in (queues n))) [] ++ []
    go true h = ap option_to_list (is ∙ ap (λ k. next_in (queues k)) (eqb-true m n h)) ∙ sym (append-nil (option_to_list (next_in (queues n))))
    go false h = refl

whole_heard : (n : ℕ) (q : Queue) (a : Configuration) (w : Whole) (o : Outcome) (b : Configuration) (maps : List Maps) (t : transition_as a (step.Whole w) o b maps)
    → a.state.queues n ≡ Some q → gives_up n (step.Whole w) ≡ false → IsHeard n (step.Whole w) o (turns_of a (step.Whole w) o b maps t) a.state.queues
whole_heard n q a Flush (outcome.Decided reply) b maps t here kept = heard n _ _ [] _ refl (quiet_none n)
whole_heard n q a (PopMin tree) (outcome.Decided reply) b maps t here kept = heard n _ _ (turns_of_pop t.named t.found) _ refl (quiet_pop n t.named t.found)
whole_heard n q a (PopMax tree) (outcome.Decided reply) b maps t here kept = heard n _ _ (turns_of_pop t.named t.found) _ refl (quiet_pop n t.named t.found)
whole_heard n q a (Clear tree) (outcome.Decided reply) b maps t here kept = heard n _ _ (turns_of_removals t.1.removes) _ refl (quiet_removals n t.1.removes)
whole_heard n q a (Group batches) (outcome.Decided reply) b maps t here kept =
    let es = events_of_writes (writes_of batches.items) a.state in heard n _ _ (turns_of_events es) _ refl (quiet_events n es)
whole_heard n q a (OpenTree name) (outcome.Decided reply) b maps t here kept = heard n _ _ [] _ refl (quiet_none n)
whole_heard n q a (DropTree name) (outcome.Decided reply) b maps t here kept = heard n _ _ [] _ refl (quiet_none n)
whole_heard n q a GenerateId (outcome.Decided reply) b maps t here kept = heard n _ _ [] _ refl (quiet_none n)
whole_heard n q a (Import collections) (outcome.Decided reply) b maps t here kept = heard n _ _ (turns_of_parts t.1.does) _ refl (quiet_parts n t.1.does)
whole_heard n q a (Watch tree prefix) (outcome.Decided reply) b maps t here kept = record { stays = (other (nat_eq t.0 n) refl, tt); told = refl }
  where
    other : (z : Bool) → nat_eq t.0 n ≡ z → z ≡ false
    other false e = refl
    other true e = none_some (sym t.2.fresh ∙ ap a.state.queues (eqb-true t.0 n e) ∙ here)
whole_heard n q a (Next subscriber) (outcome.Decided reply) b maps t here kept = record { stays = (refl, tt); told = next_told n subscriber reply t.0 a.state.queues t.1 t.2.gives }
whole_heard n q a (Unsubscribe subscriber) (outcome.Decided reply) b maps t here kept = record { stays = (kept, tt); told = refl }
whole_heard n q a Flush (outcome.Refused e) b maps t here kept = heard n _ _ [] _ refl (quiet_none n)
whole_heard n q a (PopMin tree) (outcome.Refused e) b maps t here kept = heard n _ _ [] _ refl (quiet_none n)
whole_heard n q a (PopMax tree) (outcome.Refused e) b maps t here kept = heard n _ _ [] _ refl (quiet_none n)
whole_heard n q a (Clear tree) (outcome.Refused e) b maps t here kept = heard n _ _ (turns_of_removals t.removes) _ refl (quiet_removals n t.removes)
whole_heard n q a (Group batches) (outcome.Refused e) b maps t here kept = heard n _ _ [] _ refl (quiet_none n)
whole_heard n q a (OpenTree name) (outcome.Refused e) b maps t here kept = heard n _ _ [] _ refl (quiet_none n)
whole_heard n q a (DropTree name) (outcome.Refused e) b maps t here kept = heard n _ _ [] _ refl (quiet_none n)
whole_heard n q a GenerateId (outcome.Refused e) b maps t here kept = heard n _ _ [] _ refl (quiet_none n)
whole_heard n q a (Import collections) (outcome.Refused e) b maps t here kept = heard n _ _ (turns_of_stop t) _ refl (quiet_stop n t)
whole_heard n q a (Watch tree prefix) (outcome.Refused e) b maps t here kept = heard n _ _ [] _ refl (quiet_none n)
whole_heard n q a (Next subscriber) (outcome.Refused e) b maps t here kept = absurd t
whole_heard n q a (Unsubscribe subscriber) (outcome.Refused e) b maps t here kept = absurd t
whole_heard n q a w (outcome.Begun slot) b maps t here kept = absurd t
whole_heard n q a w outcome.Moved b maps t here kept = absurd t
whole_heard n q a w (outcome.Yielded key value) b maps t here kept = absurd t
whole_heard n q a w outcome.Abandoned b maps t here kept = absurd t
whole_heard n q a w outcome.NoSuchSlot b maps t here kept = absurd t

pub heard_law : HeardLaw
heard_law n q a (step.Whole w) o b maps t here kept = whole_heard n q a w o b maps t here kept
heard_law n q a (step.Step slot) (outcome.Decided reply) b maps t here kept = heard n _ _ (turns_of_event t.0.tree.number _) _ refl (quiet_event n t.0.tree.number _)
heard_law n q a (step.Begin tree call) (outcome.Begun slot) b maps t here kept = heard n _ _ [] _ refl (quiet_none n)
heard_law n q a (step.Begin tree call) (outcome.Refused e) b maps t here kept = heard n _ _ [] _ refl (quiet_none n)
heard_law n q a (step.Begin tree call) outcome.Moved b maps t here kept = absurd t
heard_law n q a (step.Begin tree call) (outcome.Yielded key value) b maps t here kept = absurd t
heard_law n q a (step.Begin tree call) (outcome.Decided reply) b maps t here kept = absurd t
heard_law n q a (step.Begin tree call) outcome.Abandoned b maps t here kept = absurd t
heard_law n q a (step.Begin tree call) outcome.NoSuchSlot b maps t here kept = absurd t
heard_law n q a (step.Step slot) outcome.NoSuchSlot b maps t here kept = heard n _ _ [] _ refl (quiet_none n)
heard_law n q a (step.Step slot) outcome.Moved b maps t here kept = heard n _ _ [] _ refl (quiet_none n)
heard_law n q a (step.Step slot) (outcome.Yielded key value) b maps t here kept = heard n _ _ [] _ refl (quiet_none n)
heard_law n q a (step.Step slot) (outcome.Refused e) b maps t here kept = heard n _ _ [] _ refl (quiet_none n)
heard_law n q a (step.Step slot) (outcome.Begun i) b maps t here kept = absurd t
heard_law n q a (step.Step slot) outcome.Abandoned b maps t here kept = absurd t
heard_law n q a (step.Abandon slot) o b maps t here kept = abandoned o t
  where
    abandoned : (o : Outcome) (t : transition_as a (step.Abandon slot) o b maps) → IsHeard n (step.Abandon slot) o (turns_of a (step.Abandon slot) o b maps t) a.state.queues
    abandoned outcome.NoSuchSlot t = heard n _ _ [] _ refl (quiet_none n)
    abandoned outcome.Abandoned t = heard n _ _ [] _ refl (quiet_none n)
    abandoned (outcome.Begun i) t = absurd t
    abandoned outcome.Moved t = absurd t
    abandoned (outcome.Yielded key value) t = absurd t
    abandoned (outcome.Decided reply) t = absurd t
    abandoned (outcome.Refused e) t = absurd t
