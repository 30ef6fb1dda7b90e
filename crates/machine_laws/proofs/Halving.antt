-- The calls in flight of a machine have the halves of the splits that they have begun.
use Rattle.std.proofs.Common.{◌≡◌, ◌≢◌, ℕ, zero, suc, ◌<◌, List, Option, Some, None, option_map, sym, refl, ap, ◌∙◌, subst, inl, inr}
use Rattle.std.proofs.lemmas.List.{append_cancel_left}
use Rattle.sled_nodes.proofs.Basics.{none_some, some_is, same_or_not}
use Rattle.sled_nodes.specs.Ranges.{Range}
use Rattle.sled_nodes.specs.declared.node.Data.{Data}
use Rattle.sled_nodes.specs.declared.node.Data.TheVariants.{Leaf, Index}
use Rattle.sled_nodes.specs.declared.node.Node.{Node}
use Rattle.sled_store.specs.State.{nodes_of}
use Rattle.sled_store.specs.Store.{Store, now}
use Rattle.sled_store.specs.Update.{put_at}
use Rattle.sled_store.specs.declared.page.Page.{Page}
use Rattle.sled_store.specs.theory.Facts.{put_here}
use Rattle.sled_model.specs.Maps.{Maps, Merge}
use Rattle.sled_model.specs.Refusal.{ToStep, must_refuse, turns_limit}
use Rattle.sled_model.specs.State.{State, CallInFlight, range_of}
use Rattle.sled_model.specs.Transition.{transition_as}
use Rattle.sled_model.specs.declared.call.Call.{Call}
use Rattle.sled_model.specs.declared.outcome.Outcome.{Outcome}
use Rattle.sled_model.specs.declared.outcome.Outcome.TheVariants as outcome
use Rattle.sled_model.specs.declared.outcome.Step.{Step}
use Rattle.sled_model.specs.declared.outcome.Step.TheVariants as step
use Rattle.sled_model.specs.declared.tree.Tree.{Tree}
use Rattle.tree_laws.proofs.Stable.{is_number}
use Rattle.tree_laws.specs.Action.{AreHalvesOf, IsSplit}
use Rattle.tree_laws.specs.Forest.{Forest}
use Rattle.tree_laws.specs.Snapshot.{Snapshot}
use Rattle.tree_laws.specs.declared.flight.Stage.{Stage}
use Rattle.tree_laws.specs.declared.flight.Stage.TheVariants as stage
use Rattle.sled_tree.specs.Course.{Course, course_of}
use Rattle.sled_tree.specs.Follows.{FollowsOn}
use Rattle.sled_tree.specs.Stages.{Knows}
use Rattle.sled_tree.specs.declared.flight.Aim.TheVariants.{Own}
use Rattle.sled_tree.specs.declared.flight.InFlight.{InFlight}
use Rattle.sled_tree.specs.declared.flight.Sequel.TheVariants.{Go}
use Rattle.sled_tree.specs.declared.flight.Went.{Went}
use Rattle.sled_tree.specs.declared.flight.Went.TheVariants.{Moved, Yielded, Decided, Refused}
use Rattle.tree_scans.specs.Scans.{ScanStep, Gives, Ends, GoesOn, Walks, Lacks, behind}
use Rattle.tree_progress.proofs.Halves.{halves_law}
use Rattle.tree_progress.specs.Steps.{HasHalves}
use Rattle.sled.specs.Flights.{call_in_flight_of, WalksOn, follows_as, HasMore}
use Rattle.sled.specs.Values.{db_state, snapshot_of_db}
use Rattle.machine_alone.specs.Finish.{steps_of, outcomes_of, RunsToEnd, Completes}
use Rattle.machine_alone.specs.Run.{MachineSteps, NoCalls, OneCall}
use Rattle.machine_alone.specs.Step.{MachineStepContract, FollowsAt, slot_of}
use Rattle.machine_alone.specs.StepsInSlot.{flight_after}
use Rattle.machine_alone.specs.Values.{MachineValue, kept_at, slots_of, configuration_of}
use Rattle.machine_laws.specs.Moves.{IsSound, IsReached, BeginsEmpty, Steps, Finishes, CompletesOne, Calls, MachineHalvesLaw}

-- A page that is split and its left half tell the right half
same_entries : (n l a b : Data) → AreHalvesOf n l a → AreHalvesOf n l b → a ≡ b
same_entries (Leaf es) (Leaf l) (Leaf a) (Leaf b) e f = ap Leaf (append_cancel_left l a b (sym e ∙ f))
same_entries (Index es) (Index l) (Index a) (Index b) e f = ap Index (append_cancel_left l a b (sym e ∙ f))
same_entries (Leaf es) (Leaf l) (Leaf a) (Index b) e f = absurd f
same_entries (Leaf es) (Leaf l) (Index a) b e f = absurd e
same_entries (Leaf es) (Index l) a b e f = absurd e
same_entries (Index es) (Leaf l) a b e f = absurd e
same_entries (Index es) (Index l) (Leaf a) b e f = absurd e
same_entries (Index es) (Index l) (Index a) (Leaf b) e f = absurd f

same_right : (h k : ℕ) (n l a b : Node) (q : ℕ) → IsSplit h n l a q → IsSplit k n l b q → a ≡ b
same_right h k n l a b q x y =
    ap (λ z. record { lo = z; hi = a.hi; next = a.next; merging = a.merging; merging_child = a.merging_child; content = a.content }) (sym x.left_hi ∙ y.left_hi)
    ∙ ap (λ z. record { lo = b.lo; hi = z; next = a.next; merging = a.merging; merging_child = a.merging_child; content = a.content }) (x.right_hi ∙ sym y.right_hi)
    ∙ ap (λ z. record { lo = b.lo; hi = b.hi; next = z; merging = a.merging; merging_child = a.merging_child; content = a.content }) (x.right_next ∙ sym y.right_next)
    ∙ ap (λ z. record { lo = b.lo; hi = b.hi; next = b.next; merging = z; merging_child = a.merging_child; content = a.content }) (x.calm.2 ∙ sym y.calm.2)
    ∙ ap (λ z. record { lo = b.lo; hi = b.hi; next = b.next; merging = b.merging; merging_child = z; content = a.content }) (x.calm.3 ∙ sym y.calm.3)
    ∙ ap (λ z. record { lo = b.lo; hi = b.hi; next = b.next; merging = b.merging; merging_child = b.merging_child; content = z }) (same_entries n.content l.content a.content b.content x.halves y.halves)

-- so what a call knows at two moments keeps its halves between them
known_halves : (m k : Snapshot) (w v : Forest) (j : Course) (a : Stage) → Knows m w j a → Knows k v j a → HasHalves (nodes_of m.state) a → HasHalves (nodes_of k.state) a
known_halves m k w v j (stage.InstallLeft a) x y h = (
  h.0,
  h.1,
  ap (option_map (λ (g : Page). g.node)) y.0.own.live
      ∙ ap Some (sym (same_right x.0.height y.0.height a.page.node a.left x.0.right y.0.right a.right x.0.split y.0.split))
      ∙ sym (ap (option_map (λ (g : Page). g.node)) x.0.own.live)
      ∙ h.2,
)
known_halves m k w v j other x y h = tt

-- a call that goes on has halves then
went_on : (old new : Store) (f g : InFlight) (went : Went) → HasMore went → FollowsOn old f went new g → HasHalves (nodes_of (now new)) g.stage
went_on old new f g Moved more k = halves_law.steps (course_of f) old new f.stage (Go g.stage) k.is
went_on old new f g (Yielded key value) more k = absurd k.is
went_on old new f g (Decided reply) more k = absurd more
went_on old new f g (Refused e) more k = absurd more

scanned : (old new : Store) (f g : InFlight) (went : Went) → HasMore went → ScanStep WalksOn old f went new g → HasHalves (nodes_of (now new)) g.stage
scanned old new f g went more (Gives a key value rest e waits) = tt
scanned old new f g went more (Ends x can none read) = absurd more
scanned old new f g went more (GoesOn a r x y z e range none read k) = went_on old new (behind f a r) g went more k.follows
scanned old new f g went more (Walks x y z way reads k) = went_on old new f g went more k.follows
scanned old new f g went more (Lacks a x e) = absurd more

followed : (range : Option Range) (old new : Store) (f g : InFlight) (went : Went) → HasMore went → follows_as range old f went new g → HasHalves (nodes_of (now new)) g.stage
followed None old new f g went more k = went_on old new f g went more k
followed (Some range) old new f g went more k = scanned old new f g went more k

kept_after : (went : Went) (next g : InFlight) → flight_after went next ≡ Some g → HasMore went × (next ≡ g)
kept_after Moved next g e = (tt, some_is e)
kept_after (Yielded key value) next g e = (tt, some_is e)
kept_after (Decided reply) next g e = none_some e
kept_after (Refused r) next g e = none_some e

-- the call that the model has in a slot is one in flight
pub flying_there : (o : Option InFlight) (x : CallInFlight) → option_map call_in_flight_of o ≡ Some x → (f : InFlight) × (o ≡ Some f) × (call_in_flight_of f ≡ x)
flying_there None x e = none_some e
flying_there (Some f) x e = (f, refl, some_is e)

none_here : {X : Type 0} (o : Option InFlight) (g : InFlight) → option_map call_in_flight_of o ≡ None → o ≡ Some g → X
none_here None g e there = none_some there
none_here (Some f) g e there = none_some (sym e)

module _ {P M : Type 0} (store : P → Store) (number : P → ℕ) (meant : M → Merge) where
  abbrev HasAll : MachineValue P M → Type 0
  HasAll m = (slot : ℕ) (f : InFlight) → kept_at m.flights slot ≡ Some f → HasHalves (nodes_of (now (store m.db.pages))) f.stage

  -- what is known before and after
  still : (a b : MachineValue P M) → IsSound store a → IsSound store b → (slot : ℕ) (f : InFlight) → kept_at a.flights slot ≡ Some f → kept_at b.flights slot ≡ Some f → HasHalves (nodes_of (now (store a.db.pages))) f.stage → HasHalves (nodes_of (now (store b.db.pages))) f.stage
  still a b x y slot f was is h = known_halves (snapshot_of_db store a.db) (snapshot_of_db store b.db) x.db.forest y.db.forest (course_of f) f.stage
      ((x.calls.known slot f was).is x.db.forest x.db.is) ((y.calls.known slot f is).is y.db.forest y.db.is) h

  module _ (a b : MachineValue P M) (q : ℕ) (g : InFlight) (is : kept_at b.flights q ≡ Some g) where
    abbrev Has : Type 0
    Has = HasHalves (nodes_of (now (store b.db.pages))) g.stage

    gone : (x : Option CallInFlight) → slots_of b.flights ≡ put_at (slots_of a.flights) q x → x ≡ None → Has
    gone x e none = none_here (kept_at b.flights q) g (ap (λ (slots : ℕ → Option CallInFlight). slots q) e ∙ put_here (slots_of a.flights) q x ∙ none) is

    free : slots_of b.flights ≡ slots_of a.flights → slots_of a.flights q ≡ None → Has
    free e none = none_here (kept_at b.flights q) g (ap (λ (slots : ℕ → Option CallInFlight). slots q) e ∙ none) is

    follow : (o : Outcome) → MachineStepContract store number meant a (step.Step q) o b → (flying : CallInFlight) → slots_of a.flights q ≡ Some flying → must_refuse (db_state store meant a.db) (ToStep flying) ≡ None → flying.turns < turns_limit → Has
    follow o k flying here may fits =
        let f = flying_there (kept_at a.flights q) flying here in
        let at : FollowsAt store a f.0 q o b = k.follows.is f.0 f.1 (subst (λ z. must_refuse (db_state store meant a.db) (ToStep z) ≡ None) (sym f.2) may) (subst (λ (z : CallInFlight). z.turns < turns_limit) (sym f.2) fits) in
        let more = kept_after at.went at.next g (sym at.there ∙ is) in
        subst (λ (z : InFlight). HasHalves (nodes_of (now (store b.db.pages))) z.stage) more.1 (followed (range_of f.0.job.call) (store a.db.pages) (store b.db.pages) f.0 at.next at.went more.0 at.follows)

    stepped : (o : Outcome) (maps : List Maps) → MachineStepContract store number meant a (step.Step q) o b → transition_as (configuration_of store number meant a) (step.Step q) o (configuration_of store number meant b) maps → Has
    stepped outcome.NoSuchSlot maps k t = free (ap (λ (s : State). s.slots) t.0.1) t.0.0
    stepped outcome.Moved maps k t = follow outcome.Moved k t.0.flying t.0.here t.0.free t.0.fits
    stepped (outcome.Yielded key value) maps k t = follow (outcome.Yielded key value) k t.0.flying t.0.here t.0.free t.0.fits
    stepped (outcome.Decided reply) maps k t = follow (outcome.Decided reply) k t.0.flying t.0.here t.0.free t.0.fits
    stepped (outcome.Refused e) maps k t = gone None (ap (λ (s : State). s.slots) t.0.is) refl
    stepped (outcome.Begun slot) maps k t = absurd t
    stepped outcome.Abandoned maps k t = absurd t

    abandoned : (o : Outcome) (maps : List Maps) → transition_as (configuration_of store number meant a) (step.Abandon q) o (configuration_of store number meant b) maps → Has
    abandoned outcome.NoSuchSlot maps t = free (ap (λ (s : State). s.slots) t.0.1) t.0.0
    abandoned outcome.Abandoned maps t = gone None (ap (λ (s : State). s.slots) t.0.is) refl
    abandoned outcome.Moved maps t = absurd t
    abandoned (outcome.Yielded key value) maps t = absurd t
    abandoned (outcome.Decided reply) maps t = absurd t
    abandoned (outcome.Refused e) maps t = absurd t
    abandoned (outcome.Begun slot) maps t = absurd t

    -- a call that begins
    at_root : (x : InFlight) → x.stage ≡ stage.Root → kept_at b.flights q ≡ Some x → Has
    at_root x root there = subst (λ z. HasHalves (nodes_of (now (store b.db.pages))) z) (sym (ap (λ (z : InFlight). z.stage) (some_is (sym is ∙ there)) ∙ root)) (halves_law.begins (nodes_of (now (store b.db.pages))))

    -- the call that a step is about
    own : (s : Step) (o : Outcome) → MachineStepContract store number meant a s o b → slot_of s o ≡ Some q → Has
    own (step.Begin tree call) (outcome.Begun slot) k e = at_root (record { job = record { tree = tree; call = call }; aim = Own; stage = stage.Root; turns = 0 }) refl (subst (λ z. kept_at b.flights z ≡ Some (record { job = record { tree = tree; call = call }; aim = Own; stage = stage.Root; turns = 0 })) (some_is e) k.slots.starts)
    own (step.Begin tree call) outcome.NoSuchSlot k e = none_some e
    own (step.Begin tree call) outcome.Abandoned k e = none_some e
    own (step.Begin tree call) outcome.Moved k e = none_some e
    own (step.Begin tree call) (outcome.Yielded key value) k e = none_some e
    own (step.Begin tree call) (outcome.Decided reply) k e = none_some e
    own (step.Begin tree call) (outcome.Refused r) k e = none_some e
    own (step.Step slot) o k e =
        let here = subst (λ z. MachineStepContract store number meant a (step.Step z) o b) (some_is e) k in
        stepped o here.step.maps here here.step.step.is
    own (step.Abandon slot) o k e =
        let here = subst (λ z. MachineStepContract store number meant a (step.Abandon z) o b) (some_is e) k in
        abandoned o here.step.maps here.step.step.is
    own (step.Whole whole) o k e = none_some e

  steps_on : (a b : MachineValue P M) (s : Step) (o : Outcome) → IsSound store a → IsSound store b → MachineStepContract store number meant a s o b → HasAll a → HasAll b
  steps_on a b s o x y k h slot f is = elim (is_number (slot_of s o) slot) [
    | inl e ↦ own a b slot f is s o k e
    | inr off ↦ let was = sym (k.slots.others slot off) ∙ is in still a b x y slot f was is (h slot f was)
  ]

  -- steps of one slot alone: what stands in it then has its halves by the last of them, and the other slots are as they were
  finished_own : (slot n : ℕ) (o : Outcome) (a b : MachineValue P M) → MachineSteps store number meant a (steps_of slot n) (outcomes_of n o) b → (g : InFlight) → kept_at b.flights slot ≡ Some g → HasHalves (nodes_of (now (store b.db.pages))) g.stage
  finished_own slot zero o a b (OneCall k NoCalls) g is = own a b slot g is (step.Step slot) o k refl
  finished_own slot (suc n) o a b (OneCall {m = m} k rest) g is = finished_own slot n o m b rest g is

  finished_others : (slot n : ℕ) (o : Outcome) (a b : MachineValue P M) → MachineSteps store number meant a (steps_of slot n) (outcomes_of n o) b → (q : ℕ) → q ≢ slot → kept_at b.flights q ≡ kept_at a.flights q
  finished_others slot zero o a b (OneCall k NoCalls) q off = k.slots.others q (λ e. off (sym (some_is e)))
  finished_others slot (suc n) o a b (OneCall {m = m} k rest) q off = finished_others slot n o m b rest q off ∙ k.slots.others q (λ e. off (sym (some_is e)))

  finishes_on : (a m b : MachineValue P M) (slot : ℕ) (o : Outcome) → IsSound store a → IsSound store b → ((q : ℕ) → q ≢ slot → kept_at m.flights q ≡ kept_at a.flights q) → RunsToEnd store number meant m slot o b → HasAll a → HasAll b
  finishes_on a m b slot o x y same k h q f is = elim (same_or_not q slot) [
    | inl e ↦ finished_own slot k.moves o m b k.each f (ap (kept_at b.flights) (sym e) ∙ is)
    | inr off ↦ let was = sym (finished_others slot k.moves o m b k.each q off ∙ same q off) ∙ is in still a b x y q f was is (h q f was)
  ]

  completes_on : (a b : MachineValue P M) (tree : Tree) (call : Call) (o : Outcome) → IsSound store a → IsSound store b → Completes store number meant a tree call o b → HasAll a → HasAll b
  completes_on a b tree call o x y (inl k) h = steps_on a b (step.Begin tree call) o x y k.reaches h
  completes_on a b tree call o x y (inr k) h = finishes_on a k.begun b k.slot o x y (λ q off. k.begins.slots.others q (λ e. off (sym (some_is e)))) k.finishes h

  pub reached_sound : (m : MachineValue P M) → IsReached store number meant m → IsSound store m
  reached_sound m (BeginsEmpty is none) = is
  reached_sound m (Steps before k is) = is
  reached_sound m (Finishes before k is) = is
  reached_sound m (CompletesOne before k is) = is
  reached_sound m (Calls before k is) = is

  pub machine_halves_law : MachineHalvesLaw store number meant
  machine_halves_law m (BeginsEmpty is none) slot f there = none_some (sym (none slot) ∙ there)
  machine_halves_law m (Steps {a = a} {s = s} {o = o} before k is) slot f there = steps_on a m s o (reached_sound a before) is k (machine_halves_law a before) slot f there
  machine_halves_law m (Finishes {a = a} {slot = own} {o = o} before k is) slot f there = finishes_on a a m own o (reached_sound a before) is (λ q off. refl) k (machine_halves_law a before) slot f there
  machine_halves_law m (CompletesOne {a = a} {tree = tree} {call = call} {o = o} before k is) slot f there = completes_on a m tree call o (reached_sound a before) is k (machine_halves_law a before) slot f there
  machine_halves_law m (Calls {a = a} before k is) slot f there = still a m (reached_sound a before) is slot f (k slot f there) there (machine_halves_law a before slot f (k slot f there))
