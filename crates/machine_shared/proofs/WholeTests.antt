-- Whole calls that are kept, copied, and refused by a test.
use Rattle.std.proofs.Common.{◌≡◌, ◌≢◌, ◌∙◌, ℕ, zero, suc, Bool, true, false, if◌then◌else◌, List, [], ◌∷◌, Option, Some, None, IfSome, All, sym, refl, ap, subst, inl, inr}
use Rattle.std.proofs.lemmas.List.Elements.{All-nil, All-cons, All-head, All-tail}
use Rattle.std.specs.Global.{Vec}
use Rattle.std.specs.Str.{bytes_eq}
use Rattle.sled_nodes.proofs.Basics.{some_none}
use Rattle.sled_nodes.specs.Order.{Key}
use Rattle.sled_nodes.specs.declared.error.Error.{Error}
use Rattle.sled_nodes.specs.declared.error.Error.TheVariants.{NoMemory}
use Rattle.sled_batch.specs.Batch.{Writes}
use Rattle.sled_store.specs.Store.{Store}
use Rattle.sled_model.specs.Maps.{Maps, Merge}
use Rattle.sled_model.specs.State.{State}
use Rattle.sled_model.specs.Collections.{contents_of}
use Rattle.sled_model.specs.Refusal.{MustRefuse, IsClosed, IsForeign, IsDropped, must_refuse_of, first_of, foreign_test, dropped_test, is_number, trees_of_batches}
use Rattle.sled_model.specs.Whole.{IsSameWhole, is_same_whole, RemovesLeast, RemovesNone}
use Rattle.sled_model.specs.declared.call.Whole.{Whole}
use Rattle.sled_model.specs.declared.call.Whole.TheVariants.{Flush, Clear, Group, Import, Watch, Next, Unsubscribe}
use Rattle.sled_model.specs.declared.tree.Tree.{Tree}
use Rattle.sled_model.specs.declared.reply.Reply.{Reply}
use Rattle.sled_model.specs.declared.outcome.Outcome.{Outcome}
use Rattle.sled_model.specs.declared.outcome.Outcome.TheVariants as outcome
use Rattle.sled_model.specs.declared.outcome.Step.TheVariants as step
use Rattle.sled_model.specs.Transition.{transition_as}
use Rattle.sled_model.proofs.Tests.{first_none, none_first}
use Rattle.tree_steps.specs.Outcomes.{kept_of}
use Rattle.sled.specs.Parts.{ImportRefusedAfter}
use Rattle.sled.specs.Imports.{ImportRefused}
use Rattle.sled.specs.Values.{DbValue, db_state, state_of}
use Rattle.sled.proofs.Grouped.{tested_open}
use Rattle.sled.proofs.Testing.{first_alone}
use Rattle.machine_alone.specs.Kept.{kept_of_whole, CountsParts}
use Rattle.machine_alone.specs.Step.{MachineStepContract}
use Rattle.machine_alone.specs.Values.{MachineValue, configuration_of}
use Rattle.machine_shared.specs.Made.{MadeValue, PartsMade, whole_value}
use Rattle.machine_shared.specs.Wholes.{WholeValue}
use Rattle.machine_shared.specs.Wholes as value
use Rattle.machine_shared.specs.WholeNotes.{noted_with, whole_test, DoesWhole, ComesToWhole}

-- copies
group_same : (x : Vec (Tree × Writes)) (b : Whole) → is_same_whole (Group x) b → whole_value (Group x) ≡ whole_value b
group_same x (Group y) h = ap value.Group h
group_same x other h = absurd h

import_same : (x : Vec (Vec ℕ × Vec ℕ × Vec (Key × Key))) (b : Whole) → is_same_whole (Import x) b → whole_value (Import x) ≡ whole_value b
import_same x (Import y) h = ap value.Import h
import_same x other h = absurd h

same_value : (a b : Whole) → is_same_whole a b → whole_value a ≡ whole_value b
same_value (Group x) b h = group_same x b h
same_value (Import x) b h = import_same x b h
same_value other b h = ap whole_value h

pub same_whole_value : (a b : Whole) → IsSameWhole a b → whole_value a ≡ whole_value b
same_whole_value a b h = same_value a b h.is

-- two equal replies are kept
reply_twice : (o : Outcome) → IfSome (kept_of o) (λ k. k.1 ≡ k.0)
reply_twice (outcome.Decided reply) = refl
reply_twice other = tt

done_twice : (subscriber : ℕ) (o : Outcome) → IfSome (kept_of_whole (Next subscriber) o) (λ k. k.1 ≡ k.0)
done_twice subscriber (outcome.Decided reply) = refl
done_twice subscriber other = tt

whole_twice : (w : Whole) (o : Outcome) → IfSome (kept_of_whole w o) (λ k. k.1 ≡ k.0)
whole_twice (Next subscriber) o = done_twice subscriber o
whole_twice other o = reply_twice o

pub kept_twice : (w : Whole) (o : Outcome) (kept : Option (Reply × Reply)) → kept ≡ kept_of_whole w o → IfSome kept (λ k. k.1 ≡ k.0)
kept_twice w o kept e = subst (λ (k : Option (Reply × Reply)). IfSome k (λ k. k.1 ≡ k.0)) (sym e) (whole_twice w o)

-- nothing is kept of a call that is refused
pub refused_kept : (w : Whole) (x : Error) → kept_of_whole w (outcome.Refused x) ≡ None
refused_kept Flush x = refl
refused_kept other x = refl

-- parts that were done are noted
pub some_parts : (v : WholeValue) (n : ℕ) → n ≢ 0 → noted_with v None n ≡ PartsMade v n ∷ []
some_parts v zero h = absurd (h refl)
some_parts v (suc n) h = refl

pub no_parts : (v : WholeValue) (n : ℕ) → n ≡ 0 → noted_with v None n ≡ []
no_parts v n e = ap (noted_with v None) e

-- tests
then_none : (t : Bool) (a : Option MustRefuse) (x : MustRefuse) → (if t then a else Some x) ≡ None → (t ≡ true) × (a ≡ None)
then_none true a x e = (refl, e)
then_none false a x e = some_none e

pub open_passes : (s : State) → s.is_open ≡ true → must_refuse_of s [] ≡ None
open_passes s e = ap (λ t. first_of (if t then None else Some IsClosed) None) e

-- each tree passes alone
abbrev pub PassesAlone : State → Tree → Type 0
PassesAlone s t = must_refuse_of s (t ∷ []) ≡ None

abbrev pub BatchPasses : State → Tree × Writes → Type 0
BatchPasses s b = PassesAlone s b.0

pub own : (s : State) (t : Tree) → PassesAlone s t → (bytes_eq t.database s.name ≡ true) × (is_number t.number (s.trees t.name) ≡ true)
own s t e =
    let closed : Option MustRefuse = if s.is_open then None else Some IsClosed in
    let foreign : Option MustRefuse = foreign_test s.name (t ∷ []) in
    let dropped : Option MustRefuse = dropped_test s (t ∷ []) in
    let rest = first_none foreign dropped (first_none closed (first_of foreign dropped) e).1 in
    ((then_none (bytes_eq t.database s.name) None IsForeign rest.0).0, (then_none (is_number t.number (s.trees t.name)) None (IsDropped t.name) rest.1).0)

none_foreign : (s : State) (bs : List (Tree × Writes)) → All (BatchPasses s) bs → foreign_test s.name (trees_of_batches bs) ≡ None
none_foreign s [] h = refl
none_foreign s (b ∷ bs) h = ap (λ t. if t then foreign_test s.name (trees_of_batches bs) else Some IsForeign) (own s b.0 (All-head (BatchPasses s) b bs h)).0 ∙ none_foreign s bs (All-tail (BatchPasses s) b bs h)

none_dropped : (s : State) (bs : List (Tree × Writes)) → All (BatchPasses s) bs → dropped_test s (trees_of_batches bs) ≡ None
none_dropped s [] h = refl
none_dropped s (b ∷ bs) h = ap (λ t. if t then dropped_test s (trees_of_batches bs) else Some (IsDropped b.0.name)) (own s b.0 (All-head (BatchPasses s) b bs h)).1 ∙ none_dropped s bs (All-tail (BatchPasses s) b bs h)

-- all trees pass where each does
pub all_pass : (s : State) (bs : List (Tree × Writes)) → s.is_open ≡ true → All (BatchPasses s) bs → must_refuse_of s (trees_of_batches bs) ≡ None
all_pass s bs opens h = none_first (if s.is_open then None else Some IsClosed) (first_of (foreign_test s.name (trees_of_batches bs)) (dropped_test s (trees_of_batches bs))) (ap (λ t. if t then None else Some IsClosed) opens)
    (none_first (foreign_test s.name (trees_of_batches bs)) (dropped_test s (trees_of_batches bs)) (none_foreign s bs h) (none_dropped s bs h))

pub alone : (s : State) (t : Tree) → s.is_open ≡ true → bytes_eq t.database s.name ≡ true → is_number t.number (s.trees t.name) ≡ true → PassesAlone s t
alone s t o d n = none_first (if s.is_open then None else Some IsClosed) (first_of (foreign_test s.name (t ∷ [])) (dropped_test s (t ∷ []))) (ap (λ t. if t then None else Some IsClosed) o)
    (none_first (foreign_test s.name (t ∷ [])) (dropped_test s (t ∷ [])) (ap (λ b. if b then None else Some IsForeign) d) (ap (λ b. if b then None else Some (IsDropped t.name)) n))

each : (s : State) (bs : List (Tree × Writes)) → s.is_open ≡ true → foreign_test s.name (trees_of_batches bs) ≡ None → dropped_test s (trees_of_batches bs) ≡ None → All (BatchPasses s) bs
each s [] o f d = All-nil (BatchPasses s)
each s (b ∷ bs) o f d =
    let mine = then_none (bytes_eq b.0.database s.name) (foreign_test s.name (trees_of_batches bs)) IsForeign f in
    let there = then_none (is_number b.0.number (s.trees b.0.name)) (dropped_test s (trees_of_batches bs)) (IsDropped b.0.name) d in
    All-cons (BatchPasses s) b bs (alone s b.0 o mine.0 there.0) (each s bs o mine.1 there.1)

-- .. and each does where all do
pub pass_each : (s : State) (bs : List (Tree × Writes)) → must_refuse_of s (trees_of_batches bs) ≡ None → All (BatchPasses s) bs
pass_each s bs e =
    let rest = first_none (foreign_test s.name (trees_of_batches bs)) (dropped_test s (trees_of_batches bs)) (first_none (if s.is_open then None else Some IsClosed) (first_of (foreign_test s.name (trees_of_batches bs)) (dropped_test s (trees_of_batches bs))) e).1 in
    each s bs (tested_open s (trees_of_batches bs) e) rest.0 rest.1

pub test_of : (o : Option MustRefuse) → first_of o None ≡ None → o ≡ None
test_of o e = sym (first_alone o) ∙ e

pub of_test : (o : Option MustRefuse) → o ≡ None → first_of o None ≡ None
of_test o e = first_alone o ∙ e

module _ {P M : Type 0} (store : P → Store) (number : P → ℕ) (meant : M → Merge) (a b : MachineValue P M) where
  -- a call that no test refuses, and that cannot be noted
  pub unnoted : (w : Whole) → whole_test (db_state store meant a.db) w ≡ None → a ≡ b → ComesToWhole store number meant a w (outcome.Refused NoMemory) b []
  unnoted w e same = inr (record { free = e; refused = refl; same = sym same; none = refl })

  -- a call that a test refuses is refused
  abbrev Tested : Whole → Type 0
  Tested w = whole_test (db_state store meant a.db) w ≢ None

  refused_by_test : (w : Whole) (reply : Reply) (maps : List Maps) → transition_as (configuration_of store number meant a) (step.Whole w) (outcome.Decided reply) (configuration_of store number meant b) maps → Tested w → ⊥
  refused_by_test Flush reply maps t h = h t.0
  refused_by_test (Clear tree) reply maps t h = h t.1.free
  refused_by_test (Group batches) reply maps t h = h (of_test _ t.free)
  refused_by_test (Import collections) reply maps t h = h (of_test _ t.1.free)
  refused_by_test (Watch tree prefix) reply maps t h = h t.2.free
  refused_by_test (Next subscriber) reply maps t h = h refl
  refused_by_test (Unsubscribe subscriber) reply maps t h = h refl
  refused_by_test other reply maps t h = h t.free

  import_counts : (all : List (Key × Key × List (Key × Key))) (x : Error) (r : ImportRefused store meant a.db all x b.db) → must_refuse_of (db_state store meant a.db) [] ≢ None → ImportRefusedAfter store meant a.db all 0 x b.db
  import_counts all x r h = elim r.refuses [
    | inl none ↦ record { is = record { maps = r.maps; refuses = inl none; acts = r.acts; leaves = r.leaves; same = r.same; tested = r.tested }; told = refl }
    | inr s ↦ absurd (h (s.state (λ n. None) 0).free)
  ]

  counts : (w : Whole) (x : Error) → MachineStepContract store number meant a (step.Whole w) (outcome.Refused x) b → Tested w → CountsParts store meant a.db w (outcome.Refused x) 0 b.db
  counts (Clear tree) x c h = record { is = record { parts = 0; told = refl; maps = []; removes = λ slots given. subst (λ (d : DbValue P M). RemovesLeast tree (state_of store meant a.db slots given) 0 (state_of store meant d slots given) []) (sym (ap (λ (m : MachineValue P M). m.db) (c.tested.is h))) RemovesNone } }
  counts (Import collections) x c h = record { is = import_counts (contents_of collections.items) x c.way.is (λ e. h (of_test _ e)) }
  counts other x c h = record { is = refl }

  -- .. and nothing is noted of it
  pub tested : (w : Whole) (o : Outcome) → MachineStepContract store number meant a (step.Whole w) o b → Tested w → ComesToWhole store number meant a w o b []
  tested w (outcome.Refused x) c h = inl (record { step = c; number = 0; counts = counts w x c h; notes = sym (ap (λ k. noted_with (whole_value w) k 0) (refused_kept w x)) })
  tested w (outcome.Decided reply) c h = absurd (refused_by_test w reply c.step.maps c.step.step.is h)
  tested w other c h = absurd c.step.step.is

  -- a whole call whose reply is kept
  pub does_whole : (w : Whole) (v : WholeValue) (o : Outcome) (kept : Option (Reply × Reply)) (n : ℕ) (noted : List MadeValue) → v ≡ whole_value w → MachineStepContract store number meant a (step.Whole w) o b → kept ≡ kept_of_whole w o
      → CountsParts store meant a.db w o n b.db → noted ≡ noted_with v kept n → DoesWhole store number meant a w o b noted
  does_whole w v o kept n noted same c k counts e = record { step = c; number = n; counts = counts; notes = e ∙ ap (λ x. noted_with x kept n) same ∙ ap (λ x. noted_with (whole_value w) x n) k }
