-- What a step leaves as it was: the calls in other slots, and that maps ascend while the database is open.
use Rattle.std.proofs.Common.{◌≡◌, ◌≤◌, ◌+◌, ◌∙◌, ◌⊎◌, inl, inr, ℕ, nat_eq, Bool, true, false, cond, List, [], ◌∷◌, Option, Some, None, option_map, sym, refl, ap, subst, T, arith, le_of_eq}
use Rattle.std.specs.FinMap.Entries.{is_sorted, is_sorted-put, is_sorted-where_key}
use Rattle.std.specs.Str.{bytes_eq}
use Rattle.std.proofs.lemmas.Bool.{eq-eqb}
use Rattle.sled_nodes.proofs.Basics.{none_some, some_is, true_false, true_of, of_true, key_total}
use Rattle.sled_nodes.specs.Order.{Key, key_cmp}
use Rattle.sled_store.specs.Update.{put_at, put_name}
use Rattle.sled_store.specs.Store.{Store}
use Rattle.sled_store.specs.theory.Facts.{put_elsewhere}
use Rattle.sled_nodes.specs.declared.error.Error.{Error}
use Rattle.sled_model.specs.Maps.{Map, Maps}
use Rattle.sled_model.specs.Answer.{answer_of, map_after}
use Rattle.sled_model.specs.State.{State, NamedTree, CallInFlight, after_decision_on}
use Rattle.sled_model.specs.Collections.{Content}
use Rattle.sled_model.specs.Refusal.{must_refuse_of, cause_of_import, may_refuse_as}
use Rattle.sled_model.specs.Imports.{Part, OpensName, Puts, does_part_as, DoesParts, NoPart, OnePart, Stop, StopsAtPart}
use Rattle.sled_model.specs.Whole.{after_pop, RemovesLeast, RemovesNone, RemovesOne, state_opened, state_dropped}
use Rattle.sled_model.specs.Groups.{Write, after_write_on, after_writes, writes_of, Closes}
use Rattle.sled_model.specs.Transition.{Configuration, transition_as}
use Rattle.sled_model.specs.declared.call.Call.{Call}
use Rattle.sled_model.specs.declared.call.Call.TheVariants.{Insert, Remove}
use Rattle.sled_model.specs.declared.call.Whole.{Whole}
use Rattle.sled_model.specs.declared.call.Whole.TheVariants.{Flush, PopMin, PopMax, Clear, Group, OpenTree, DropTree, GenerateId, Import, Watch, Next, Unsubscribe}
use Rattle.sled_model.specs.declared.decision.Effect.{Effect}
use Rattle.sled_model.specs.declared.decision.Effect.TheVariants as effect
use Rattle.sled_model.specs.declared.tree.Tree.{Tree}
use Rattle.sled_model.specs.declared.outcome.Step.{Step}
use Rattle.sled_model.specs.declared.outcome.Step.TheVariants as step
use Rattle.sled_model.specs.declared.outcome.Outcome.{Outcome}
use Rattle.sled_model.specs.declared.outcome.Outcome.TheVariants as outcome
use Rattle.sled_model.proofs.Shapes.{after_write, call_of_write}
use Rattle.scan_laws.specs.Scanned.{Ascend, is_own}

abbrev Trees : Type 0
Trees = Key → Option NamedTree

abbrev Rising : Trees → Type 0
Rising trees = (name : Key) (t : NamedTree) → trees name ≡ Some t → T (is_sorted key_cmp t.map)

ascending : (s : State) → Rising s.trees → Ascend s
ascending s r name map h = go (s.trees name) refl h
  where
    go : (o : Option NamedTree) → s.trees name ≡ o → option_map (λ (t : NamedTree). t.map) o ≡ Some map → is_sorted key_cmp map ≡ true
    go None e g = none_some g
    go (Some t) e g = ap (λ m. is_sorted key_cmp m) (sym (some_is g)) ∙ true_of _ (r name t e)

rising : (s : State) → Ascend s → Rising s.trees
rising s a name t h = of_true _ (a name t.map (ap (λ o. option_map (λ (t : NamedTree). t.map) o) h))

rises_put : (trees : Trees) (name : Key) (t : NamedTree) → Rising trees → T (is_sorted key_cmp t.map) → Rising (put_name trees name (Some t))
rises_put trees name t r h q u = go (bytes_eq q name)
  where
    go : (b : Bool) → cond b (Some t) (trees q) ≡ Some u → T (is_sorted key_cmp u.map)
    go true e = subst (λ (z : NamedTree). T (is_sorted key_cmp z.map)) (some_is e) h
    go false e = r q u e

rises_none : (trees : Trees) (name : Key) → Rising trees → Rising (put_name trees name None)
rises_none trees name r q u = go (bytes_eq q name)
  where
    go : (b : Bool) → cond b None (trees q) ≡ Some u → T (is_sorted key_cmp u.map)
    go true e = none_some e
    go false e = r q u e

rises_after : (e : Effect) (k : Key) (m : Map) → T (is_sorted key_cmp m) → T (is_sorted key_cmp (map_after e k m))
rises_after effect.Nothing k m h = h
rises_after (effect.Set v) k m h = is_sorted-put key_cmp key_total k v m h
rises_after effect.Remove k m h = is_sorted-where_key key_cmp _ m h

-- The slots are as they were, no closed database is opened, and while it is open maps that ascend do so after it
pub record Stays (a b : State) : Type 0 where
  pub slots : b.slots ≡ a.slots
  pub given : b.slots_given ≡ a.slots_given
  pub was_open : b.is_open ≡ true → a.is_open ≡ true
  pub rises : b.is_open ≡ true → Rising a.trees → Rising b.trees

stays : (a : State) → Stays a a
stays a = record { slots = refl; given = refl; was_open = λ h. h; rises = λ h r. r }

then : {a b c : State} → Stays a b → Stays b c → Stays a c
then p q = record { slots = q.slots ∙ p.slots; given = q.given ∙ p.given; was_open = λ h. p.was_open (q.was_open h); rises = λ h r. q.rises h (p.rises (q.was_open h) r) }

like : {a b c : State} → Stays a b → c ≡ b → Stays a c
like {a = a} p e = subst (λ s. Stays a s) (sym e) p

same : {a c : State} → c ≡ a → Stays a c
same {a = a} e = like (stays a) e

decided : (s : State) (name : Key) (t : NamedTree) (call : Call) → s.trees name ≡ Some t → Stays s (after_decision_on s name t (answer_of t.merge call t.map))
decided s name t call h = record { slots = refl; given = refl; was_open = λ h. h; rises = λ o r. rises_put s.trees name _ r (rises_after _ _ t.map (r name t h)) }

popped : (s : State) (name : Key) (t : NamedTree) (found : Option (Key × Key)) → s.trees name ≡ Some t → Stays s (after_pop s name t found)
popped s name t None h = stays s
popped s name t (Some pair) h = decided s name t (Remove pair.0) h

removed : {tree : Tree} {a b : State} {n : ℕ} {maps : List Maps} → RemovesLeast tree a n b maps → Stays a b
removed (RemovesNone {s = s}) = stays s
removed {tree = tree} (RemovesOne {a = a} named pair rest there first more) = then (decided a tree.name named (Remove pair.0) there) (removed more)

opened : (o : Option NamedTree) (s : State) (name : Key) → Stays s (state_opened o s name)
opened (Some t) s name = stays s
opened None s name = record { slots = refl; given = refl; was_open = λ h. h; rises = λ h r. rises_put s.trees name _ r tt }

dropped : (o : Option NamedTree) (s : State) (name : Key) → Stays s (state_dropped o s name)
dropped (Some t) s name = record { slots = refl; given = refl; was_open = λ h. h; rises = λ h r. rises_none s.trees name r }
dropped None s name = stays s

part : (a : State) (p : Part) (b : State) (maps : List Maps) → does_part_as a p b maps → Stays a b
part a (OpensName name) b maps d = like (opened (a.trees name) a name) d.0
part a (Puts name key value) b maps d = like (decided a name d.named (Insert key value) d.there) d.is

parts : {a b : State} {ps : List Part} {maps : List Maps} → DoesParts a ps b maps → Stays a b
parts (NoPart {s = s}) = stays s
parts (OnePart {a = a} {m = m} {part = p} added one more) = then (part a p m added one) (parts more)

-- the writes of a group
written : (o : Option NamedTree) (w : Write) (s : State) → s.trees w.tree.name ≡ o → Stays s (after_write_on o w s)
written None w s h = stays s
written (Some t) w s h = decided s w.tree.name t (call_of_write w) h

all_written : (ws : List Write) (s : State) → Stays s (after_writes ws s)
all_written [] s = stays s
all_written (w ∷ ws) s = then (written (s.trees w.tree.name) w s refl) (all_written ws (after_write w s))

-- of the maps of a database that a group closes nothing is said
closed : {a b : State} → Closes a b → Stays a b
closed {b = b} c = record {
  slots = ap (λ (s : State). s.slots) c.is;
  given = ap (λ (s : State). s.slots_given) c.is;
  was_open = λ h. is_closed h;
  rises = λ h r. is_closed h;
}
  where
    is_closed : {P : Type 0} → b.is_open ≡ true → P
    is_closed h = true_false (sym h ∙ ap (λ (s : State). s.is_open) c.is)

group_stopped : {P : Type 0} {a b : State} → (b ≡ a) ⊎ (P × Closes a b) → Stays a b
group_stopped (inl e) = same e
group_stopped (inr c) = closed c.1

abbrev Stopped : State → Store → Store → List Content → Error → State → List Maps → Type 0
Stopped old a b all e new maps = (may_refuse_as (must_refuse_of old []) (cause_of_import all) e × (new ≡ old) × (maps ≡ [])) ⊎ ((stop : Stop) × StopsAtPart old a b all stop e new maps)

stopped : {old : State} {a b : Store} {all : List Content} {e : Error} {new : State} {maps : List Maps} → Stopped old a b all e new maps → Stays old new
stopped (inl none) = same none.1
stopped (inr s) = parts s.1.does

pub whole_stays : (a : Configuration) (w : Whole) (o : Outcome) (b : Configuration) (maps : List Maps) → transition_as a (step.Whole w) o b maps → Stays a.state b.state
whole_stays a Flush (outcome.Decided reply) b maps t = same t.2
whole_stays a (PopMin tree) (outcome.Decided reply) b maps t = like (popped a.state tree.name t.named t.found t.there) t.is
whole_stays a (PopMax tree) (outcome.Decided reply) b maps t = like (popped a.state tree.name t.named t.found t.there) t.is
whole_stays a (Clear tree) (outcome.Decided reply) b maps t = removed t.1.removes
whole_stays a (Group batches) (outcome.Decided reply) b maps t = like (all_written (writes_of batches.items) a.state) t.is
whole_stays a (OpenTree name) (outcome.Decided reply) b maps t = like (opened (a.state.trees name) a.state name) t.is
whole_stays a (DropTree name) (outcome.Decided reply) b maps t = like (dropped (a.state.trees name) a.state name) t.is
whole_stays a GenerateId (outcome.Decided reply) b maps t = like (record { slots = refl; given = refl; was_open = λ h. h; rises = λ h r. r }) t.is
whole_stays a (Import collections) (outcome.Decided reply) b maps t = parts t.1.does
whole_stays a (Watch tree prefix) (outcome.Decided reply) b maps t = like (record { slots = refl; given = refl; was_open = λ h. h; rises = λ h r. r }) t.2.is
whole_stays a (Next subscriber) (outcome.Decided reply) b maps t = like (record { slots = refl; given = refl; was_open = λ h. h; rises = λ h r. r }) t.2.is
whole_stays a (Unsubscribe subscriber) (outcome.Decided reply) b maps t = like (record { slots = refl; given = refl; was_open = λ h. h; rises = λ h r. r }) t.1
whole_stays a Flush (outcome.Refused e) b maps t = same t.1
whole_stays a (PopMin tree) (outcome.Refused e) b maps t = same t.1
whole_stays a (PopMax tree) (outcome.Refused e) b maps t = same t.1
whole_stays a (Clear tree) (outcome.Refused e) b maps t = removed t.removes
whole_stays a (Group batches) (outcome.Refused e) b maps t = group_stopped t.is
whole_stays a (OpenTree name) (outcome.Refused e) b maps t = same t.1
whole_stays a (DropTree name) (outcome.Refused e) b maps t = same t.1
whole_stays a GenerateId (outcome.Refused e) b maps t = same t.1
whole_stays a (Import collections) (outcome.Refused e) b maps t = stopped t
whole_stays a (Watch tree prefix) (outcome.Refused e) b maps t = same t.1
whole_stays a (Next subscriber) (outcome.Refused e) b maps t = absurd t
whole_stays a (Unsubscribe subscriber) (outcome.Refused e) b maps t = absurd t
whole_stays a w (outcome.Begun slot) b maps t = absurd t
whole_stays a w outcome.Moved b maps t = absurd t
whole_stays a w (outcome.Yielded key value) b maps t = absurd t
whole_stays a w outcome.Abandoned b maps t = absurd t
whole_stays a w outcome.NoSuchSlot b maps t = absurd t

-- the maps ascend while the database is open
abbrev pub AscendOpen : State → Type 0
AscendOpen s = s.is_open ≡ true → Ascend s

-- What a step leaves of a slot that was given: the call there, where the step is not of the slot, or none
pub record Leaves (slot : ℕ) (s : Step) (a b : State) : Type 0 where
  pub given : a.slots_given ≤ b.slots_given
  pub ascend : AscendOpen a → AscendOpen b
  pub slots : slot ≤ a.slots_given → is_own slot s ≡ false → (b.slots slot ≡ a.slots slot) ⊎ (b.slots slot ≡ None)

from_stays : (slot : ℕ) (s : Step) {a b : State} → Stays a b → Leaves slot s a b
from_stays slot s {a = a} {b = b} h = record {
  given = le_of_eq (sym h.given);
  ascend = λ r o. ascending b (h.rises o (rising a (r (h.was_open o))));
  slots = λ l o. inl (ap (λ f. f slot) h.slots);
}

-- only the slot's own call is changed
one_slot : {X : Type 0} (slot i : ℕ) (f : ℕ → X) (x : X) → nat_eq i slot ≡ false → put_at f i x slot ≡ f slot
one_slot slot i f x e = put_elsewhere f i slot x (λ h. true_false (sym (eq-eqb i slot (sym h)) ∙ e))

-- a step of a slot changes that slot alone
of_slot : {slot i : ℕ} {a b : State} (x : Option CallInFlight) → b.slots ≡ put_at a.slots i x → b.slots_given ≡ a.slots_given → b.is_open ≡ a.is_open → (Rising a.trees → Rising b.trees) → Leaves slot (step.Step i) a b
of_slot {slot = slot} {i = i} {a = a} {b = b} x e g p r = record {
  given = le_of_eq (sym g);
  ascend = λ h o. ascending b (r (rising a (h (sym p ∙ o))));
  slots = λ l o. inl (ap (λ f. f slot) e ∙ one_slot slot i a.slots x o);
}

trees_same : (a b : State) → b.trees ≡ a.trees → Rising a.trees → Rising b.trees
trees_same a b e r = subst Rising (sym e) r

pub leaves : (slot : ℕ) (a : Configuration) (s : Step) (o : Outcome) (b : Configuration) (maps : List Maps) → transition_as a s o b maps → Leaves slot s a.state b.state
leaves slot a (step.Whole w) o b maps t = from_stays slot (step.Whole w) (whole_stays a w o b maps t)
leaves slot a (step.Begin tree call) (outcome.Begun i) b maps t = record {
  given = subst (λ n. a.state.slots_given ≤ n) (sym (ap (λ (z : State). z.slots_given) t.0.is ∙ t.0.next)) (omega arith);
  ascend = λ h o. ascending b.state (trees_same a.state b.state (ap (λ (z : State). z.trees) t.0.is) (rising a.state (h (sym (ap (λ (z : State). z.is_open) t.0.is) ∙ o))));
  slots = λ l o. inl (ap (λ (z : State). z.slots slot) t.0.is ∙ put_elsewhere a.state.slots i slot _ (λ e. later slot i a.state.slots_given l t.0.next e));
}
  where
    later : (n m g : ℕ) → n ≤ g → m ≡ g + 1 → n ≡ m → ⊥
    later n m g l e f = absurd (omega arith)
leaves slot a (step.Begin tree call) (outcome.Refused e) b maps t = from_stays slot (step.Begin tree call) (same t.1)
leaves slot a (step.Begin tree call) outcome.Moved b maps t = absurd t
leaves slot a (step.Begin tree call) (outcome.Yielded key value) b maps t = absurd t
leaves slot a (step.Begin tree call) (outcome.Decided reply) b maps t = absurd t
leaves slot a (step.Begin tree call) outcome.Abandoned b maps t = absurd t
leaves slot a (step.Begin tree call) outcome.NoSuchSlot b maps t = absurd t
leaves slot a (step.Step i) outcome.NoSuchSlot b maps t = from_stays slot (step.Step i) (same t.0.1)
leaves slot a (step.Step i) outcome.Moved b maps t = of_slot _ (ap (λ (z : State). z.slots) t.0.is) (ap (λ (z : State). z.slots_given) t.0.is) (ap (λ (z : State). z.is_open) t.0.is) (trees_same a.state b.state (ap (λ (z : State). z.trees) t.0.is))
leaves slot a (step.Step i) (outcome.Yielded key value) b maps t = of_slot _ (ap (λ (z : State). z.slots) t.0.is) (ap (λ (z : State). z.slots_given) t.0.is) (ap (λ (z : State). z.is_open) t.0.is) (trees_same a.state b.state (ap (λ (z : State). z.trees) t.0.is))
leaves slot a (step.Step i) (outcome.Decided reply) b maps t = of_slot _ (ap (λ (z : State). z.slots) t.0.is) (ap (λ (z : State). z.slots_given) t.0.is) (ap (λ (z : State). z.is_open) t.0.is)
    (λ r. subst (λ (z : State). Rising z.trees) (sym t.0.is) (rises_put a.state.trees t.0.flying.tree.name _ r (rises_after _ _ t.0.tree.map (r t.0.flying.tree.name t.0.tree t.0.there))))
leaves slot a (step.Step i) (outcome.Refused e) b maps t = of_slot _ (ap (λ (z : State). z.slots) t.0.is) (ap (λ (z : State). z.slots_given) t.0.is) (ap (λ (z : State). z.is_open) t.0.is) (trees_same a.state b.state (ap (λ (z : State). z.trees) t.0.is))
leaves slot a (step.Step i) (outcome.Begun k) b maps t = absurd t
leaves slot a (step.Step i) outcome.Abandoned b maps t = absurd t
leaves slot a (step.Abandon i) outcome.NoSuchSlot b maps t = from_stays slot (step.Abandon i) (same t.0.1)
leaves slot a (step.Abandon i) outcome.Abandoned b maps t = record {
  given = le_of_eq (sym (ap (λ (z : State). z.slots_given) t.0.is));
  ascend = λ h o. ascending b.state (trees_same a.state b.state (ap (λ (z : State). z.trees) t.0.is) (rising a.state (h (sym (ap (λ (z : State). z.is_open) t.0.is) ∙ o))));
  slots = λ l o. subst (λ r. (r ≡ a.state.slots slot) ⊎ (r ≡ None)) (sym (ap (λ (z : State). z.slots slot) t.0.is)) (gone (nat_eq slot i));
}
  where
    gone : (c : Bool) → (cond c None (a.state.slots slot) ≡ a.state.slots slot) ⊎ (cond c None (a.state.slots slot) ≡ None)
    gone true = inr refl
    gone false = inl refl
leaves slot a (step.Abandon i) (outcome.Begun k) b maps t = absurd t
leaves slot a (step.Abandon i) outcome.Moved b maps t = absurd t
leaves slot a (step.Abandon i) (outcome.Yielded key value) b maps t = absurd t
leaves slot a (step.Abandon i) (outcome.Decided reply) b maps t = absurd t
leaves slot a (step.Abandon i) (outcome.Refused e) b maps t = absurd t
