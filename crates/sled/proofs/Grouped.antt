-- What the writes of a group make of the state, by the calls of those that bring an event.
use Rattle.std.proofs.Common.{◌≡◌, ℕ, Bool, true, false, cond, List, [], ◌∷◌, ◌++◌, map, Option, Some, None, is_some, option_map, sym, refl, ap, ◌∙◌, subst}
use Rattle.std.proofs.lemmas.Bool.{eqb-true}
use Rattle.std.specs.FinMap.Entries.{find}
use Rattle.std.specs.Option.{option_to_list}
use Rattle.std.specs.Str.{bytes_eq}
use Rattle.sled_nodes.proofs.Basics.{none_some, some_is}
use Rattle.sled_nodes.specs.Order.{Key, key_cmp}
use Rattle.sled_batch.specs.Batch.{Writes}
use Rattle.sled_store.specs.theory.Facts.{same_name, name_itself}
use Rattle.sled_model.specs.Maps.{Map, Merge}
use Rattle.sled_model.specs.Answer.{answer_of, decision_of, event_of, map_after, key_of}
use Rattle.sled_model.specs.Groups.{Write, writes_on, writes_of, call_with, after_write_on, after_writes, events_of_write, events_of_writes}
use Rattle.sled_model.specs.Refusal.{MustRefuse, IsClosed, IsDropped, is_number, dropped_test, trees_of_batches, must_refuse_of}
use Rattle.sled_model.specs.State.{State, NamedTree, CallInFlight}
use Rattle.sled_model.specs.declared.call.Call.{Call}
use Rattle.sled_model.specs.declared.call.Call.TheVariants as call
use Rattle.sled_model.specs.declared.decision.Effect.{Effect}
use Rattle.sled_model.specs.declared.decision.Effect.TheVariants as effect
use Rattle.sled_model.specs.declared.event.Event.{Event}
use Rattle.sled_model.specs.declared.tree.Tree.{Tree}
use Rattle.sled_model.proofs.Tests.{first_none}
use Rattle.sled_model.proofs.Shapes.{after_write, answer_of_write, call_of_write, same_value}
use Rattle.sled_tree.specs.declared.flight.Job.{Job}
use Rattle.tree_groups.specs.Groups.{AreNumbered, map_after_jobs}
use Rattle.sled.specs.Groups.{jobs_of_write, jobs_of_writes}
use Rattle.sled.specs.theory.Groups.{events_of_call, events_of_jobs}

-- ---- what writes make of the state

-- nothing changes but the trees and the queues
write_changes : (o : Option NamedTree) (w : Write) (s : State) → after_write_on o w s ≡ record s { trees = (after_write_on o w s).trees; queues = (after_write_on o w s).queues }
write_changes None w s = refl
write_changes (Some t) w s = refl

pub writes_change : (ws : List Write) (s : State) → after_writes ws s ≡ record s { trees = (after_writes ws s).trees; queues = (after_writes ws s).queues }
writes_change [] s = refl
writes_change (w ∷ ws) s =
    writes_change ws (after_write w s)
    ∙ ap (λ (z : State). record z { trees = (after_writes ws (after_write w s)).trees; queues = (after_writes ws (after_write w s)).queues }) (write_changes (s.trees w.tree.name) w s)

-- the state with these slots
abbrev pub with_slots : (ℕ → Option CallInFlight) → ℕ → State → State
with_slots slots given s = record s { slots = slots; slots_given = given }

-- calls in flight make no difference
write_beside : (slots : ℕ → Option CallInFlight) (given : ℕ) (o : Option NamedTree) (w : Write) (s : State) → after_write_on o w (with_slots slots given s) ≡ with_slots slots given (after_write_on o w s)
write_beside slots given None w s = refl
write_beside slots given (Some t) w s = refl

pub writes_beside : (slots : ℕ → Option CallInFlight) (given : ℕ) (ws : List Write) (s : State) → after_writes ws (with_slots slots given s) ≡ with_slots slots given (after_writes ws s)
writes_beside slots given [] s = refl
writes_beside slots given (w ∷ ws) s = ap (after_writes ws) (write_beside slots given (s.trees w.tree.name) w s) ∙ writes_beside slots given ws (after_write w s)

-- a call without an event leaves the map alone
effect_quiet : (e : Effect) (key : Key) (m : Map) → event_of e key ≡ None → map_after e key m ≡ m
effect_quiet effect.Nothing key m none = refl
effect_quiet (effect.Set v) key m none = none_some (sym none)
effect_quiet effect.Remove key m none = none_some (sym none)

call_quiet : (merge : Option Merge) (c : Call) (m : Map) → (answer_of merge c m).event ≡ None → (answer_of merge c m).map ≡ m
call_quiet merge c m none = effect_quiet (decision_of merge c (find key_cmp (key_of c) m)).effect (key_of c) m none

-- the same name, the other way round
named_too : (a b : Key) (c : Bool) → bytes_eq a b ≡ c → bytes_eq b a ≡ c
named_too a b true e = subst (λ z. bytes_eq b z ≡ true) (sym (same_name a b e)) (name_itself b)
named_too a b false e = go (bytes_eq b a) refl
  where
    apart : true ≡ false → ⊥
    apart e = cc

    go : (c : Bool) → bytes_eq b a ≡ c → bytes_eq b a ≡ false
    go false f = f
    go true f = absurd (apart (sym (name_itself a) ∙ ap (λ z. bytes_eq a z) (sym (same_name b a f)) ∙ e))

-- a tree after calls: its number and its operator stay
abbrev pub tree_after : List Job → Key → NamedTree → NamedTree
tree_after js name t = record t { map = map_after_jobs t.merge js name t.map }

-- the calls of one write, on its own tree and on any other
jobs_here : (merge : Option Merge) (tree : Tree) (c : Call) (js : List Job) (m : Map) (event : Option Event) → (answer_of merge c m).event ≡ event
    → map_after_jobs merge (map (λ e. record { tree = tree; call = c }) (option_to_list event) ++ js) tree.name m ≡ map_after_jobs merge js tree.name (answer_of merge c m).map
jobs_here merge tree c js m None none = ap (map_after_jobs merge js tree.name) (sym (call_quiet merge c m none))
jobs_here merge tree c js m (Some event) some = ap (λ b. map_after_jobs merge js tree.name (cond b (answer_of merge c m).map m)) (name_itself tree.name)

jobs_elsewhere : (merge : Option Merge) (tree : Tree) (c : Call) (js : List Job) (name : Key) (m : Map) (event : Option Event) → bytes_eq tree.name name ≡ false
    → map_after_jobs merge (map (λ e. record { tree = tree; call = c }) (option_to_list event) ++ js) name m ≡ map_after_jobs merge js name m
jobs_elsewhere merge tree c js name m None off = refl
jobs_elsewhere merge tree c js name m (Some event) off = ap (λ b. map_after_jobs merge js name (cond b (answer_of merge c m).map m)) off

-- one write, on a tree that is there
module _ (t : NamedTree) (w : Write) (js : List Job) (trees : Key → Option NamedTree) (there : trees w.tree.name ≡ Some t) where
  tree_written : (name : Key) (b : Bool) → bytes_eq name w.tree.name ≡ b → option_map (tree_after js name) (cond b (Some (record t { map = (answer_of_write t w).map })) (trees name)) ≡ option_map (tree_after (jobs_of_write (Some t) w ++ js) name) (trees name)
  tree_written name true e =
      ap (λ z. option_map (tree_after js z) (Some (record t { map = (answer_of_write t w).map }))) (same_name name w.tree.name e)
      ∙ ap (λ m. Some (record t { map = m })) (sym (jobs_here t.merge w.tree (call_of_write w) js t.map (answer_of_write t w).event refl))
      ∙ ap (option_map (tree_after (jobs_of_write (Some t) w ++ js) w.tree.name)) (sym there)
      ∙ ap (λ z. option_map (tree_after (jobs_of_write (Some t) w ++ js) z) (trees z)) (sym (same_name name w.tree.name e))
  tree_written name false e = go (trees name)
    where
      go : (o : Option NamedTree) → option_map (tree_after js name) o ≡ option_map (tree_after (jobs_of_write (Some t) w ++ js) name) o
      go None = refl
      go (Some u) = ap (λ m. Some (record u { map = m })) (sym (jobs_elsewhere u.merge w.tree (call_of_write w) js name u.map (answer_of_write t w).event (named_too name w.tree.name false e)))

-- The trees after writes are those before, each with the map that the calls of those writes that bring an event make of its own
pub trees_written : (ws : List Write) (s : State) (name : Key) → (after_writes ws s).trees name ≡ option_map (tree_after (jobs_of_writes ws s) name) (s.trees name)
trees_written [] s name = go (s.trees name)
  where
    go : (o : Option NamedTree) → o ≡ option_map (tree_after [] name) o
    go None = refl
    go (Some t) = refl
trees_written (w ∷ ws) s name = trees_written ws (after_write w s) name ∙ go (s.trees w.tree.name) refl
  where
    go : (o : Option NamedTree) → s.trees w.tree.name ≡ o
        → option_map (tree_after (jobs_of_writes ws (after_write_on o w s)) name) ((after_write_on o w s).trees name) ≡ option_map (tree_after (jobs_of_write o w ++ jobs_of_writes ws (after_write_on o w s)) name) (s.trees name)
    go None here = refl
    go (Some t) here = tree_written t w (jobs_of_writes ws (after_write_on (Some t) w s)) s.trees here name (bytes_eq name w.tree.name) refl

-- ---- their events

-- The trees of these writes have their numbers
abbrev pub AreCurrent : List Write → State → Type 0
AreCurrent [] s = Unit {0}
AreCurrent (w ∷ ws) s = (is_number w.tree.number (s.trees w.tree.name) ≡ true) × AreCurrent ws s

abbrev number_in : (Key → Option NamedTree) → Key → Option ℕ
number_in trees name = option_map (λ (t : NamedTree). t.number) (trees name)

-- a write changes no number
number_stays : (o : Option NamedTree) (w : Write) (s : State) → s.trees w.tree.name ≡ o → (name : Key) (n : ℕ) → is_number n ((after_write_on o w s).trees name) ≡ is_number n (s.trees name)
number_stays None w s here name n = refl
number_stays (Some t) w s here name n = go (bytes_eq name w.tree.name) refl
  where
    go : (b : Bool) → bytes_eq name w.tree.name ≡ b → is_number n (cond b (Some (record t { map = (answer_of_write t w).map })) (s.trees name)) ≡ is_number n (s.trees name)
    go true e = ap (is_number n) (sym here) ∙ ap (λ z. is_number n (s.trees z)) (sym (same_name name w.tree.name e))
    go false e = refl

current_still : (ws : List Write) (a b : State) → ((name : Key) (n : ℕ) → is_number n (b.trees name) ≡ is_number n (a.trees name)) → AreCurrent ws a → AreCurrent ws b
current_still [] a b same c = tt
current_still (w ∷ ws) a b same c = (same w.tree.name w.tree.number ∙ c.0, current_still ws a b same c.1)

-- the event of a write that brings one is that of its call
event_is : (n : ℕ) (merge : Option Merge) (key : Key) (value : Option Key) (m : Map) (e : Event) → (answer_of merge (call_with key value) m).event ≡ Some e → events_of_call n (call_with key value) ≡ (n, e) ∷ []
event_is n merge key None m e is = go (is_some (find key_cmp key m)) is
  where
    go : (b : Bool) → event_of (cond b effect.Remove effect.Nothing) key ≡ Some e → events_of_call n (call.Remove key) ≡ (n, e) ∷ []
    go true is = ap (λ (z : Event). (n, z) ∷ []) (some_is is)
    go false is = none_some is
event_is n merge key (Some v) m e is = go (same_value (find key_cmp key m) (Some v)) is
  where
    go : (b : Bool) → event_of (cond b effect.Nothing (effect.Set v)) key ≡ Some e → events_of_call n (call.Insert key v) ≡ (n, e) ∷ []
    go true is = none_some is
    go false is = ap (λ (z : Event). (n, z) ∷ []) (some_is is)

-- one write, whose tree has its number
event_written : (t : NamedTree) (w : Write) (js : List Job) (event : Option Event) → (answer_of_write t w).event ≡ event → is_number w.tree.number (Some t) ≡ true
    → events_of_jobs (map (λ e. record { tree = w.tree; call = call_of_write w }) (option_to_list event) ++ js) ≡ map {B = ℕ × Event} (λ e. (t.number, e)) (option_to_list event) ++ events_of_jobs js
event_written t w js None is current = refl
event_written t w js (Some e) is current =
    ap (λ l. l ++ events_of_jobs js) (event_is w.tree.number t.merge w.key w.value t.map e is)
    ∙ ap (λ (n : ℕ). (n, e) ∷ events_of_jobs js) (sym (eqb-true t.number w.tree.number current))

-- The calls of those writes that bring an event bring the same events
pub events_written : (ws : List Write) (s : State) → AreCurrent ws s → events_of_jobs (jobs_of_writes ws s) ≡ events_of_writes ws s
events_written [] s c = refl
events_written (w ∷ ws) s c = go (s.trees w.tree.name) refl ∙ ap (λ l. events_of_write (s.trees w.tree.name) w ++ l) (events_written ws (after_write w s) (current_still ws s (after_write w s) (number_stays (s.trees w.tree.name) w s refl) c.1))
  where
    go : (o : Option NamedTree) → s.trees w.tree.name ≡ o → events_of_jobs (jobs_of_write o w ++ jobs_of_writes ws (after_write w s)) ≡ events_of_write o w ++ events_of_jobs (jobs_of_writes ws (after_write w s))
    go None here = refl
    go (Some t) here = event_written t w (jobs_of_writes ws (after_write w s)) (answer_of_write t w).event refl (ap (is_number w.tree.number) (sym here) ∙ c.0)

-- .. and where there are none there is no call
no_event : {X Y : Type 0} (f : Event → X) (g : Event → Y) (o : Option Event) (xs : List X) (ys : List Y) → (xs ≡ [] → ys ≡ []) → map f (option_to_list o) ++ xs ≡ [] → map g (option_to_list o) ++ ys ≡ []
no_event f g None xs ys more none = more none
no_event f g (Some e) xs ys more none = cc

pub no_events : (ws : List Write) (s : State) → events_of_writes ws s ≡ [] → jobs_of_writes ws s ≡ []
no_events [] s none = refl
no_events (w ∷ ws) s none = go (s.trees w.tree.name) (no_events ws (after_write w s)) none
  where
    go : (o : Option NamedTree) → (events_of_writes ws (after_write w s) ≡ [] → jobs_of_writes ws (after_write w s) ≡ []) → events_of_write o w ++ events_of_writes ws (after_write w s) ≡ [] → jobs_of_write o w ++ jobs_of_writes ws (after_write w s) ≡ []
    go None more none = more none
    go (Some t) more none = no_event (λ e. (t.number, e)) (λ e. record { tree = w.tree; call = call_of_write w }) (answer_of_write t w).event (events_of_writes ws (after_write w s)) (jobs_of_writes ws (after_write w s)) more none

-- ---- their calls

pub jobs_numbered : (numbers : Key → Option ℕ) (ws : List Write) (s : State) → ((name : Key) (n : ℕ) → is_number n (s.trees name) ≡ true → numbers name ≡ Some n) → AreCurrent ws s → AreNumbered numbers (jobs_of_writes ws s)
jobs_numbered numbers [] s at c = tt
jobs_numbered numbers (w ∷ ws) s at c =
    go (s.trees w.tree.name) (at w.tree.name w.tree.number c.0)
    (jobs_numbered numbers ws (after_write w s) (λ name n is. at name n (sym (number_stays (s.trees w.tree.name) w s refl name n) ∙ is)) (current_still ws s (after_write w s) (number_stays (s.trees w.tree.name) w s refl) c.1))
  where
    one : (o : Option Event) (js : List Job) → numbers w.tree.name ≡ Some w.tree.number → AreNumbered numbers js → AreNumbered numbers (map (λ e. record { tree = w.tree; call = call_of_write w }) (option_to_list o) ++ js)
    one None js is more = more
    one (Some e) js is more = (is, more)

    go : (o : Option NamedTree) → numbers w.tree.name ≡ Some w.tree.number → AreNumbered numbers (jobs_of_writes ws (after_write w s)) → AreNumbered numbers (jobs_of_write o w ++ jobs_of_writes ws (after_write w s))
    go None is more = more
    go (Some t) is more = one (answer_of_write t w).event (jobs_of_writes ws (after_write w s)) is more

-- ---- the tests

batch_current : (tree : Tree) (writes : Writes) (more : List Write) (s : State) → is_number tree.number (s.trees tree.name) ≡ true → AreCurrent more s → AreCurrent (writes_on tree writes ++ more) s
batch_current tree [] more s is c = c
batch_current tree (w ∷ writes) more s is c = (is, batch_current tree writes more s is c)

batches_current : (batches : List (Tree × Writes)) (s : State) → dropped_test s (trees_of_batches batches) ≡ None → AreCurrent (writes_of batches) s
batches_current [] s none = tt
batches_current (b ∷ bs) s none =
    let k = go (is_number b.0.number (s.trees b.0.name)) (dropped_test s (trees_of_batches bs)) none in batch_current b.0 b.1 (writes_of bs) s k.0 (batches_current bs s k.1)
  where
    go : (c : Bool) (o : Option MustRefuse) → cond c o (Some (IsDropped b.0.name)) ≡ None → (c ≡ true) × (o ≡ None)
    go true o e = (refl, e)
    go false o e = none_some (sym e)

-- where the tests pass each write's tree has its number,
pub tested_current : (batches : List (Tree × Writes)) (s : State) → must_refuse_of s (trees_of_batches batches) ≡ None → AreCurrent (writes_of batches) s
tested_current batches s none = batches_current batches s (first_none _ _ (first_none _ _ none).1).1

-- .. and the database is open
pub tested_open : (s : State) (trees : List Tree) → must_refuse_of s trees ≡ None → s.is_open ≡ true
tested_open s trees none = go s.is_open (first_none _ _ none).0
  where
    go : (b : Bool) → cond b None (Some IsClosed) ≡ None → b ≡ true
    go true e = refl
    go false e = none_some (sym e)
