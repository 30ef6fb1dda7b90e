-- No step opens a closed database.
use Rattle.std.proofs.Common.{◌≡◌, ℕ, true, List, [], ◌∷◌, Option, Some, None, refl, sym, ap, ◌∙◌, ◌⊎◌, inl, inr}
use Rattle.sled_nodes.proofs.Basics.{true_false}
use Rattle.sled_nodes.specs.Order.{Key}
use Rattle.sled_store.specs.Store.{Store}
use Rattle.sled_nodes.specs.declared.error.Error.{Error}
use Rattle.sled_model.specs.Maps.{Maps}
use Rattle.sled_model.specs.State.{State, NamedTree}
use Rattle.sled_model.specs.Collections.{Content}
use Rattle.sled_model.specs.Imports.{Part, OpensName, Puts, does_part_as, DoesParts, NoPart, OnePart, Stop, StopsAtPart}
use Rattle.sled_model.specs.Refusal.{must_refuse_of, cause_of_import, may_refuse_as}
use Rattle.sled_model.specs.Whole.{after_pop, RemovesLeast, RemovesNone, RemovesOne, state_opened, state_dropped}
use Rattle.sled_model.specs.Groups.{Write, after_write_on, after_writes, writes_of, Closes}
use Rattle.sled_model.specs.Transition.{Configuration, transition_as}
use Rattle.sled_model.specs.declared.call.Whole.{Whole}
use Rattle.sled_model.specs.declared.call.Whole.TheVariants.{Flush, PopMin, PopMax, Clear, Group, OpenTree, DropTree, GenerateId, Import, Watch, Next, Unsubscribe}
use Rattle.sled_model.specs.declared.tree.Tree.{Tree}
use Rattle.sled_model.specs.declared.outcome.Step.{Step}
use Rattle.sled_model.specs.declared.outcome.Step.TheVariants as step
use Rattle.sled_model.specs.declared.outcome.Outcome.{Outcome}
use Rattle.sled_model.specs.declared.outcome.Outcome.TheVariants as outcome
use Rattle.sled_model.proofs.Shapes.{after_write}

-- the database is open after it exactly where it was before
abbrev Stays : State → State → Type 0
Stays a b = b.is_open ≡ a.is_open

along : (a b c : State) → c ≡ b → Stays a b → Stays a c
along a b c e h = ap (λ (s : State). s.is_open) e ∙ h

popped : (s : State) (name : Key) (t : NamedTree) (found : Option (Key × Key)) → Stays s (after_pop s name t found)
popped s name t None = refl
popped s name t (Some pair) = refl

removed : {tree : Tree} {a b : State} {k : ℕ} {maps : List Maps} → RemovesLeast tree a k b maps → Stays a b
removed RemovesNone = refl
removed (RemovesOne named pair rest there first more) = removed more

opened : (o : Option NamedTree) (s : State) (name : Key) → Stays s (state_opened o s name)
opened None s name = refl
opened (Some t) s name = refl

dropped : (o : Option NamedTree) (s : State) (name : Key) → Stays s (state_dropped o s name)
dropped None s name = refl
dropped (Some t) s name = refl

part_done : (a : State) (part : Part) (b : State) (maps : List Maps) → does_part_as a part b maps → Stays a b
part_done a (OpensName name) b maps d = along a (state_opened (a.trees name) a name) b d.0 (opened (a.trees name) a name)
part_done a (Puts name key value) b maps d = ap (λ (s : State). s.is_open) d.is

parts_done : {a b : State} {parts : List Part} {maps : List Maps} → DoesParts a parts b maps → Stays a b
parts_done NoPart = refl
parts_done (OnePart {a = a} {m = m} {part = part} added one more) = parts_done more ∙ part_done a part m added one

stopped : (old : State) (a b : Store) (all : List Content) (e : Error) (new : State) (maps : List Maps)
    → (may_refuse_as (must_refuse_of old []) (cause_of_import all) e × (new ≡ old) × (maps ≡ [])) ⊎ ((stop : Stop) × StopsAtPart old a b all stop e new maps) → Stays old new
stopped old a b all e new maps (inl none) = ap (λ (s : State). s.is_open) none.1
stopped old a b all e new maps (inr s) = parts_done s.1.does

same : (a b : State) → b ≡ a → Stays a b
same a b e = ap (λ (s : State). s.is_open) e

write_done : (o : Option NamedTree) (w : Write) (s : State) → Stays s (after_write_on o w s)
write_done None w s = refl
write_done (Some t) w s = refl

writes_done : (ws : List Write) (s : State) → Stays s (after_writes ws s)
writes_done [] s = refl
writes_done (w ∷ ws) s = writes_done ws (after_write w s) ∙ write_done (s.trees w.tree.name) w s

-- a refused group leaves all as it was, or closes the database
group_stops : {P : Type 0} (a b : State) → (b ≡ a) ⊎ (P × Closes a b) → b.is_open ≡ true → Stays a b
group_stops a b (inl e) h = same a b e
group_stops a b (inr c) h = true_false (sym h ∙ ap (λ (s : State). s.is_open) c.1.is)

whole_done : (a : Configuration) (w : Whole) (o : Outcome) (b : Configuration) (maps : List Maps) → transition_as a (step.Whole w) o b maps → b.state.is_open ≡ true → Stays a.state b.state
whole_done a Flush (outcome.Decided reply) b maps t h = same a.state b.state t.2
whole_done a (PopMin tree) (outcome.Decided reply) b maps t h = along a.state _ b.state t.is (popped a.state tree.name t.named t.found)
whole_done a (PopMax tree) (outcome.Decided reply) b maps t h = along a.state _ b.state t.is (popped a.state tree.name t.named t.found)
whole_done a (Clear tree) (outcome.Decided reply) b maps t h = removed t.1.removes
whole_done a (Group batches) (outcome.Decided reply) b maps t h = along a.state _ b.state t.is (writes_done (writes_of batches.items) a.state)
whole_done a (OpenTree name) (outcome.Decided reply) b maps t h = along a.state _ b.state t.is (opened (a.state.trees name) a.state name)
whole_done a (DropTree name) (outcome.Decided reply) b maps t h = along a.state _ b.state t.is (dropped (a.state.trees name) a.state name)
whole_done a GenerateId (outcome.Decided reply) b maps t h = ap (λ (s : State). s.is_open) t.is
whole_done a (Import collections) (outcome.Decided reply) b maps t h = parts_done t.1.does
whole_done a (Watch tree prefix) (outcome.Decided reply) b maps t h = ap (λ (s : State). s.is_open) t.2.is
whole_done a (Next subscriber) (outcome.Decided reply) b maps t h = ap (λ (s : State). s.is_open) t.2.is
whole_done a (Unsubscribe subscriber) (outcome.Decided reply) b maps t h = ap (λ (s : State). s.is_open) t.1
whole_done a Flush (outcome.Refused e) b maps t h = same a.state b.state t.1
whole_done a (PopMin tree) (outcome.Refused e) b maps t h = same a.state b.state t.1
whole_done a (PopMax tree) (outcome.Refused e) b maps t h = same a.state b.state t.1
whole_done a (Clear tree) (outcome.Refused e) b maps t h = removed t.removes
whole_done a (Group batches) (outcome.Refused e) b maps t h = group_stops a.state b.state t.is h
whole_done a (OpenTree name) (outcome.Refused e) b maps t h = same a.state b.state t.1
whole_done a (DropTree name) (outcome.Refused e) b maps t h = same a.state b.state t.1
whole_done a GenerateId (outcome.Refused e) b maps t h = same a.state b.state t.1
whole_done a (Import collections) (outcome.Refused e) b maps t h = stopped a.state a.store b.store _ e b.state maps t
whole_done a (Watch tree prefix) (outcome.Refused e) b maps t h = same a.state b.state t.1
whole_done a (Next subscriber) (outcome.Refused e) b maps t h = absurd t
whole_done a (Unsubscribe subscriber) (outcome.Refused e) b maps t h = absurd t
whole_done a w (outcome.Begun slot) b maps t h = absurd t
whole_done a w outcome.Moved b maps t h = absurd t
whole_done a w (outcome.Yielded key value) b maps t h = absurd t
whole_done a w outcome.Abandoned b maps t h = absurd t
whole_done a w outcome.NoSuchSlot b maps t h = absurd t

step_done : (a : Configuration) (s : Step) (o : Outcome) (b : Configuration) (maps : List Maps) → transition_as a s o b maps → b.state.is_open ≡ true → Stays a.state b.state
step_done a (step.Whole w) o b maps t h = whole_done a w o b maps t h
step_done a (step.Begin tree call) (outcome.Begun slot) b maps t h = ap (λ (s : State). s.is_open) t.0.is
step_done a (step.Begin tree call) (outcome.Refused e) b maps t h = same a.state b.state t.1
step_done a (step.Begin tree call) outcome.Moved b maps t h = absurd t
step_done a (step.Begin tree call) (outcome.Yielded key value) b maps t h = absurd t
step_done a (step.Begin tree call) (outcome.Decided reply) b maps t h = absurd t
step_done a (step.Begin tree call) outcome.Abandoned b maps t h = absurd t
step_done a (step.Begin tree call) outcome.NoSuchSlot b maps t h = absurd t
step_done a (step.Step slot) outcome.NoSuchSlot b maps t h = same a.state b.state t.0.1
step_done a (step.Step slot) outcome.Moved b maps t h = ap (λ (s : State). s.is_open) t.0.is
step_done a (step.Step slot) (outcome.Yielded key value) b maps t h = ap (λ (s : State). s.is_open) t.0.is
step_done a (step.Step slot) (outcome.Decided reply) b maps t h = ap (λ (s : State). s.is_open) t.0.is
step_done a (step.Step slot) (outcome.Refused e) b maps t h = ap (λ (s : State). s.is_open) t.0.is
step_done a (step.Step slot) (outcome.Begun i) b maps t h = absurd t
step_done a (step.Step slot) outcome.Abandoned b maps t h = absurd t
step_done a (step.Abandon slot) outcome.NoSuchSlot b maps t h = same a.state b.state t.0.1
step_done a (step.Abandon slot) outcome.Abandoned b maps t h = ap (λ (s : State). s.is_open) t.0.is
step_done a (step.Abandon slot) (outcome.Begun i) b maps t h = absurd t
step_done a (step.Abandon slot) outcome.Moved b maps t h = absurd t
step_done a (step.Abandon slot) (outcome.Yielded key value) b maps t h = absurd t
step_done a (step.Abandon slot) (outcome.Decided reply) b maps t h = absurd t
step_done a (step.Abandon slot) (outcome.Refused e) b maps t h = absurd t

pub opens_none : (a : Configuration) (s : Step) (o : Outcome) (b : Configuration) (maps : List Maps) → transition_as a s o b maps → b.state.is_open ≡ true → a.state.is_open ≡ true
opens_none a s o b maps t is_open = sym (step_done a s o b maps t is_open) ∙ is_open
