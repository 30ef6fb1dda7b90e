-- What the steps of a call in flight do to the maps.
use Rattle.std.specs.Prelude.{MatchOption}
use Rattle.std.proofs.Common.{◌≡◌, ◌≢◌, ℕ, zero, suc, ◌+◌, Bool, true, false, cond, List, [], ◌∷◌, Option, Some, None, option_map, map, Result, Ok, Err, IfOk, sym, refl, ap, ◌∙◌, subst, inl, inr, arith}
use Rattle.std.proofs.Math.Path.{fun_ext}
use Rattle.std.specs.Str.{bytes_eq}
use Rattle.std.specs.declared.ops.Bound.TheVariants.{Included}
use Rattle.sled_nodes.proofs.Basics.{none_some, some_is, same_or_not}
use Rattle.sled_nodes.specs.Order.{Key}
use Rattle.sled_store.specs.Update.{put_at, put_name}
use Rattle.sled_store.specs.theory.Facts.{same_name, put_here, put_elsewhere, put_name_here, put_name_elsewhere}
use Rattle.sled_store.specs.State.{State as PageState}
use Rattle.sled_store.specs.Store.{Store, now}
use Rattle.sled_store.specs.Crash.{crash_states}
use Rattle.tree_laws.specs.Contents.{trees_of}
use Rattle.tree_laws.proofs.Crashing.{matches_same}
use Rattle.sled_model.specs.Maps.{Maps, Merge}
use Rattle.sled_model.specs.State.{State, NamedTree, CallInFlight}
use Rattle.sled_model.specs.Answer.{answer_of}
use Rattle.sled_model.specs.Transition.{Configuration, Transition, Decide}
use Rattle.sled_model.specs.Runs.{RunsBy, NoSteps, OneMore}
use Rattle.sled_model.specs.declared.call.Call.{Call}
use Rattle.sled_model.specs.declared.call.Call.TheVariants.{Get, Insert}
use Rattle.sled_model.specs.declared.tree.Tree.{Tree}
use Rattle.sled_model.specs.declared.reply.Reply.{Reply}
use Rattle.sled_model.specs.declared.reply.Reply.TheVariants.{Value}
use Rattle.sled_model.specs.declared.outcome.Outcome.{Outcome}
use Rattle.sled_model.specs.declared.outcome.Outcome.TheVariants as outcome
use Rattle.sled_model.specs.declared.outcome.Step.TheVariants as step
use Rattle.sled.specs.Values.{db_state}
use Rattle.machine_alone.specs.Values.{MachineValue, configuration_of, slots_of}
use Rattle.machine_alone.specs.Step.{MachineStep, MachineStepContract}
use Rattle.machine_alone.specs.Finish.{RunsToEnd, FinishesWithin, steps_of, outcomes_of}
use Rattle.sled.specs.Opens.{IsOnePage}
use Rattle.tree_laws.specs.Paths.{IsClean}
use Rattle.sled_model.specs.Refusal.{TellsTurns}
use Rattle.sled_nodes.specs.declared.error.Error.{Error}
use Rattle.sled_model.proofs.Shapes.{call_begun}
use Rattle.machine_alone.proofs.Runs.{model_run}
use Rattle.example_parts.specs.Reads.{found_in, maps_now}
use Rattle.example_parts.proofs.Keys.{insert_here, insert_there}
use Rattle.example_machines.specs.Callers.{ReadsAs, HasTurns, PutsOne, later}

-- whatever is in the slot is this call
pub record Means (slots : ℕ → Option CallInFlight) (slot : ℕ) (tree : Tree) (call : Call) : Type 0 where
  pub tree_is : (f : CallInFlight) → slots slot ≡ Some f → f.tree ≡ tree
  pub call_is : (f : CallInFlight) → slots slot ≡ Some f → f.call ≡ call

-- the slot was emptied, or another has changed
means_after : (slots : ℕ → Option CallInFlight) (at : ℕ) (x : Option CallInFlight) (slot : ℕ) (tree : Tree) (call : Call) → Means slots slot tree call
    → ((f : CallInFlight) → x ≡ Some f → slot ≡ at → (f.tree ≡ tree) × (f.call ≡ call)) → Means (put_at slots at x) slot tree call
means_after slots at x slot tree call m h = elim (same_or_not slot at) [
  | inl s ↦
      let put : put_at slots at x slot ≡ x = ap (put_at slots at x) s ∙ put_here slots at x in
      record { tree_is = λ f e. (h f (sym put ∙ e) s).0; call_is = λ f e. (h f (sym put ∙ e) s).1 }
  | inr o ↦
      let put : put_at slots at x slot ≡ slots slot = put_elsewhere slots at slot x o in
      record { tree_is = λ f e. m.tree_is f (sym put ∙ e); call_is = λ f e. m.call_is f (sym put ∙ e) }
]

-- a call was put into the slot
means_new : (slots : ℕ → Option CallInFlight) (slot : ℕ) (tree : Tree) (call : Call) → Means (put_at slots slot (Some (call_begun tree call))) slot tree call
means_new slots slot tree call =
    let put : put_at slots slot (Some (call_begun tree call)) slot ≡ Some (call_begun tree call) = put_here slots slot (Some (call_begun tree call)) in
    record { tree_is = λ f e. ap (λ (g : CallInFlight). g.tree) (some_is (sym e ∙ put)); call_is = λ f e. ap (λ (g : CallInFlight). g.call) (some_is (sym e ∙ put)) }

-- the trees of a database by name
abbrev Trees : Type 0
Trees = Key → Option NamedTree

-- what a decided call made of its tree
pub record Answered (old new : Key → Option NamedTree) (tree : Tree) (call : Call) (reply : Reply) : Type 0 where
  pub was : NamedTree
  pub there : old tree.name ≡ Some was
  pub replies : reply ≡ (answer_of was.merge call was.map).reply
  pub is : new ≡ put_name old tree.name (Some (record was { map = (answer_of was.merge call was.map).map }))

-- a step of the slot, by what it does to the trees
abbrev pub told_as : Outcome → (Key → Option NamedTree) → (Key → Option NamedTree) → Tree → Call → Type 0
told_as (outcome.Decided reply) old new tree call = Answered old new tree call reply
told_as o old new tree call = new ≡ old

decides : (old new : State) (slot : ℕ) (reply : Reply) (tree : Tree) (call : Call) → Means old.slots slot tree call → Decide old slot reply new → Answered old.trees new.trees tree call reply
decides old new slot reply tree call m d =
    subst (λ t. Answered old.trees new.trees t call reply) (m.tree_is d.flying d.here)
    (subst (λ c. Answered old.trees new.trees d.flying.tree c reply) (m.call_is d.flying d.here)
    (record { was = d.tree; there = d.there; replies = d.replies; is = ap (λ (s : State). s.trees) d.is }))

pub step_told : (old new : Configuration) (slot : ℕ) (o : Outcome) (maps : List Maps) (tree : Tree) (call : Call) → Means old.state.slots slot tree call → Transition old (step.Step slot) o new maps → told_as o old.state.trees new.state.trees tree call
step_told old new slot outcome.NoSuchSlot maps tree call m s = ap (λ (z : State). z.trees) s.is.0.1
step_told old new slot outcome.Moved maps tree call m s = ap (λ (z : State). z.trees) s.is.0.is
step_told old new slot (outcome.Yielded key value) maps tree call m s = ap (λ (z : State). z.trees) s.is.0.is
step_told old new slot (outcome.Decided reply) maps tree call m s = decides old.state new.state slot reply tree call m s.is.0
step_told old new slot (outcome.Refused e) maps tree call m s = ap (λ (z : State). z.trees) s.is.0.is
step_told old new slot (outcome.Begun i) maps tree call m s = absurd s.is
step_told old new slot outcome.Abandoned maps tree call m s = absurd s.is

-- a step of one slot leaves in every slot the call that was there
pub step_means : (old new : Configuration) (at : ℕ) (o : Outcome) (maps : List Maps) (slot : ℕ) (tree : Tree) (call : Call) → Transition old (step.Step at) o new maps → Means old.state.slots slot tree call → Means new.state.slots slot tree call
step_means old new at outcome.NoSuchSlot maps slot tree call s m = subst (λ (z : State). Means z.slots slot tree call) (sym s.is.0.1) m
step_means old new at outcome.Moved maps slot tree call s m =
    let k = s.is.0 in
    subst (λ (z : State). Means z.slots slot tree call) (sym k.is)
    (means_after old.state.slots at _ slot tree call m (λ f e same.
    let here : old.state.slots slot ≡ Some k.flying = ap old.state.slots same ∙ k.here in
    let is : record (k.flying) { turns = k.flying.turns + 1; waiting = k.waiting; rest = k.rest } ≡ f = some_is e in
    (ap (λ (g : CallInFlight). g.tree) (sym is) ∙ m.tree_is k.flying here, ap (λ (g : CallInFlight). g.call) (sym is) ∙ m.call_is k.flying here)))
step_means old new at (outcome.Yielded key value) maps slot tree call s m =
    let k = s.is.0 in
    subst (λ (z : State). Means z.slots slot tree call) (sym k.is)
    (means_after old.state.slots at _ slot tree call m (λ f e same.
    let here : old.state.slots slot ≡ Some k.flying = ap old.state.slots same ∙ k.here in
    let is : record (k.flying) { turns = 0; waiting = k.more } ≡ f = some_is e in
    (ap (λ (g : CallInFlight). g.tree) (sym is) ∙ m.tree_is k.flying here, ap (λ (g : CallInFlight). g.call) (sym is) ∙ m.call_is k.flying here)))
step_means old new at (outcome.Decided reply) maps slot tree call s m =
    subst (λ (z : State). Means z.slots slot tree call) (sym s.is.0.is) (means_after old.state.slots at None slot tree call m (λ f e same. none_some e))
step_means old new at (outcome.Refused e) maps slot tree call s m =
    subst (λ (z : State). Means z.slots slot tree call) (sym s.is.0.is) (means_after old.state.slots at None slot tree call m (λ f e same. none_some e))
step_means old new at (outcome.Begun i) maps slot tree call s m = absurd s.is
step_means old new at outcome.Abandoned maps slot tree call s m = absurd s.is

-- the maps of these trees
abbrev maps_at : (Key → Option NamedTree) → Maps
maps_at trees name = option_map (λ (t : NamedTree). t.map) (trees name)

-- what is said of a tree of one page is said of its name
pub prompt_named : (s : PageState) (a b : Key) (r : Result Outcome Error) → a ≡ b → IfOk r (λ got. IsOnePage s a → HasTurns got) → IfOk r (λ got. IsOnePage s b → HasTurns got)
prompt_named s a b r e h = subst (λ n. IfOk r (λ got. IsOnePage s n → HasTurns got)) e h

-- what has turns where this is so has them, since it is so
pub with_turns : {X : Type 0} (r : Result Outcome Error) → X → IfOk r (λ got. X → HasTurns got) → IfOk r HasTurns
with_turns (Ok got) x h = h x
with_turns (Err e) x h = tt

-- an insert that was decided changes one value
insert_puts : (old new : Trees) (tree : Tree) (key value : Key) (reply : Reply) → Answered old new tree (Insert key value) reply → PutsOne (maps_at old) (maps_at new) tree.name key value
insert_puts old new tree key value reply a =
    let here : maps_at new tree.name ≡ Some (answer_of a.was.merge (Insert key value) a.was.map).map =
    ap (option_map (λ (t : NamedTree). t.map)) (ap (λ (ts : Trees). ts tree.name) a.is ∙ put_name_here old tree.name _) in
    let there : maps_at old tree.name ≡ Some a.was.map = ap (option_map (λ (t : NamedTree). t.map)) a.there in
    record {
      here = ap (λ m. found_in m key) here ∙ insert_here a.was.merge key value a.was.map;
      keys = λ other off. ap (λ m. found_in m other) here ∙ (insert_there a.was.merge other key value a.was.map off ∙ sym (ap (λ m. found_in m other) there));
      trees = λ other off. ap (option_map (λ (t : NamedTree). t.map)) (ap (λ (ts : Trees). ts other) a.is ∙ put_name_elsewhere old tree.name other _ off);
    }

-- the later of two values stands
puts_twice : (old middle new : Maps) (tree key first second : Key) → PutsOne old middle tree key first → PutsOne middle new tree key second → PutsOne old new tree key second
puts_twice old middle new tree key first second p q = record {
  here = q.here;
  keys = λ other off. q.keys other off ∙ p.keys other off;
  trees = λ other off. q.trees other off ∙ p.trees other off;
}

-- a get that was decided replies the value that stands
get_reads : (old new : Trees) (tree : Tree) (key : Key) (reply : Reply) → Answered old new tree (Get key) reply → reply ≡ Value (found_in (maps_at old tree.name) key)
get_reads old new tree key reply a =
    let there : maps_at old tree.name ≡ Some a.was.map = ap (option_map (λ (t : NamedTree). t.map)) a.there in
    a.replies ∙ ap (λ m. Value (found_in m key)) (sym there)

-- .. and changes no tree
get_keeps : (old new : Trees) (tree : Tree) (key : Key) (reply : Reply) → Answered old new tree (Get key) reply → maps_at new ≡ maps_at old
get_keeps old new tree key reply a = fun_ext (λ t. ap (option_map (λ (n : NamedTree). n.map)) (ap (λ (ts : Trees). ts t) a.is ∙ go t (bytes_eq t tree.name) refl))
  where
    go : (t : Key) (b : Bool) → bytes_eq t tree.name ≡ b → cond b (Some a.was) (old t) ≡ old t
    go t true e = sym (ap old (same_name t tree.name e) ∙ a.there)
    go t false e = refl

-- all steps of a slot until the last
ends_as : (slot : ℕ) (tree : Tree) (call : Call) (o : Outcome) (n : ℕ) (old new : Configuration) (maps : List Maps) → Means old.state.slots slot tree call → RunsBy Transition old (steps_of slot n) (outcomes_of n o) new maps → told_as o old.state.trees new.state.trees tree call
ends_as slot tree call o zero old new maps m (OneMore s NoSteps) = step_told old new slot o _ tree call m s
ends_as slot tree call o (suc n) old new maps m (OneMore {m = middle} {maps = rest} s run) =
    let same : middle.state.trees ≡ old.state.trees = step_told old middle slot outcome.Moved _ tree call m s in
    let then = ends_as slot tree call o n middle new rest (step_means old middle slot outcome.Moved _ slot tree call s m) run in
    subst (λ ts. told_as o ts new.state.trees tree call) same then

-- the same of a machine
module _ {P M : Type 0} (store : P → Store) (number : P → ℕ) (meant : M → Merge) where
  abbrev slots_at : MachineValue P M → ℕ → Option CallInFlight
  slots_at m = slots_of m.flights

  abbrev trees_at : MachineValue P M → Trees
  trees_at m = (db_state store meant m.db).trees

  pub begun_means : (old new : MachineValue P M) (tree : Tree) (call : Call) (slot : ℕ) → MachineStepContract store number meant old (step.Begin tree call) (outcome.Begun slot) new → Means (slots_at new) slot tree call
  begun_means old new tree call slot r = subst (λ (z : State). Means z.slots slot tree call) (sym r.step.step.is.0.is) (means_new (slots_at old) slot tree call)

  pub begun_keeps : (old new : MachineValue P M) (tree : Tree) (call : Call) (slot : ℕ) → MachineStepContract store number meant old (step.Begin tree call) (outcome.Begun slot) new → trees_at new ≡ trees_at old
  begun_keeps old new tree call slot r = ap (λ (z : State). z.trees) r.step.step.is.0.is

  pub finish_told : (old new : MachineValue P M) (slot : ℕ) (tree : Tree) (call : Call) (o : Outcome) → Means (slots_at old) slot tree call → RunsToEnd store number meant old slot o new → told_as o (trees_at old) (trees_at new) tree call
  finish_told old new slot tree call o m f =
      let k = f.run.keeps (map trees_of (crash_states (store old.db.pages))) (record { is = matches_same _ }) in
      let run = model_run store number meant old new _ (steps_of slot f.moves) (outcomes_of f.moves o) k.last k.run in
      ends_as slot tree call o f.moves (configuration_of store number meant old) (configuration_of store number meant new) run.0 m run.1

  -- an insert that was begun and decided
  pub inserted : (old call_begun new : MachineValue P M) (slot : ℕ) (tree : Tree) (key value : Key) (reply : Reply)
      → MachineStepContract store number meant old (step.Begin tree (Insert key value)) (outcome.Begun slot) call_begun → RunsToEnd store number meant call_begun slot (outcome.Decided reply) new → PutsOne (maps_now store meant old.db) (maps_now store meant new.db) tree.name key value
  inserted old call_begun new slot tree key value reply b f =
      insert_puts (trees_at old) (trees_at new) tree key value reply
      (subst (λ ts. Answered ts (trees_at new) tree (Insert key value) reply) (begun_keeps old call_begun tree (Insert key value) slot b)
      (finish_told call_begun new slot tree (Insert key value) (outcome.Decided reply) (begun_means old call_begun tree (Insert key value) slot b) f))

  -- a call that was begun and not decided
  pub undecided : (old call_begun new : MachineValue P M) (slot : ℕ) (tree : Tree) (call : Call) (o : Outcome) → ((reply : Reply) → o ≡ outcome.Decided reply → ⊥)
      → MachineStepContract store number meant old (step.Begin tree call) (outcome.Begun slot) call_begun → RunsToEnd store number meant call_begun slot o new → maps_now store meant new.db ≡ maps_now store meant old.db
  undecided old call_begun new slot tree call o off b f =
      go o off (subst (λ ts. told_as o ts (trees_at new) tree call) (begun_keeps old call_begun tree call slot b) (finish_told call_begun new slot tree call o (begun_means old call_begun tree call slot b) f))
    where
      go : (o : Outcome) → ((reply : Reply) → o ≡ outcome.Decided reply → ⊥) → told_as o (trees_at old) (trees_at new) tree call → maps_now store meant new.db ≡ maps_now store meant old.db
      go (outcome.Decided reply) off t = absurd (off reply refl)
      go (outcome.Begun i) off t = ap maps_at t
      go outcome.Moved off t = ap maps_at t
      go (outcome.Yielded key value) off t = ap maps_at t
      go (outcome.Refused e) off t = ap maps_at t
      go outcome.Abandoned off t = ap maps_at t
      go outcome.NoSuchSlot off t = ap maps_at t

  -- a get that was begun, and ended
  pub got : (old call_begun new : MachineValue P M) (slot : ℕ) (tree : Tree) (key : Key) (o : Outcome)
      → MachineStepContract store number meant old (step.Begin tree (Get key)) (outcome.Begun slot) call_begun → RunsToEnd store number meant call_begun slot o new
      → ReadsAs (found_in (maps_now store meant old.db tree.name) key) o × (maps_now store meant new.db ≡ maps_now store meant old.db)
  got old call_begun new slot tree key o b f =
      go o (subst (λ ts. told_as o ts (trees_at new) tree (Get key)) (begun_keeps old call_begun tree (Get key) slot b) (finish_told call_begun new slot tree (Get key) o (begun_means old call_begun tree (Get key) slot b) f))
    where
      go : (o : Outcome) → told_as o (trees_at old) (trees_at new) tree (Get key) → ReadsAs (found_in (maps_now store meant old.db tree.name) key) o × (maps_now store meant new.db ≡ maps_now store meant old.db)
      go (outcome.Decided reply) t = (get_reads (trees_at old) (trees_at new) tree key reply t, get_keeps (trees_at old) (trees_at new) tree key reply t)
      go (outcome.Begun i) t = (tt, ap maps_at t)
      go outcome.Moved t = (tt, ap maps_at t)
      go (outcome.Yielded key value) t = (tt, ap maps_at t)
      go (outcome.Refused e) t = (tt, ap maps_at t)
      go outcome.Abandoned t = (tt, ap maps_at t)
      go outcome.NoSuchSlot t = (tt, ap maps_at t)

  -- an insert was decided, and then a get of its key ended
  pub inserted_got : (old a middle new : MachineValue P M) (slot : ℕ) (tree : Tree) (key value : Key) (put : Call) (reply : Reply) (o : Outcome) → put ≡ Insert key value
      → MachineStepContract store number meant old (step.Begin tree put) (outcome.Begun slot) a → RunsToEnd store number meant a slot (outcome.Decided reply) middle
      → ReadsAs (found_in (maps_now store meant middle.db tree.name) key) o → maps_now store meant new.db ≡ maps_now store meant middle.db
      → ReadsAs (Some value) o × PutsOne (maps_now store meant old.db) (maps_now store meant new.db) tree.name key value
  inserted_got old a middle new slot tree key value put reply o e b f reads same =
      let puts : PutsOne (maps_now store meant old.db) (maps_now store meant middle.db) tree.name key value =
      inserted old a middle slot tree key value reply (subst (λ c. MachineStepContract store number meant old (step.Begin tree c) (outcome.Begun slot) a) e b) f in (
        subst (λ v. ReadsAs v o) puts.here reads,
        subst (λ m. PutsOne (maps_now store meant old.db) m tree.name key value) (sym same) puts,
      )

  -- two inserts at one key, each in its slot: what is known between their steps

  -- both have begun, and no map has changed
  pub races_begin : (start a m : MachineValue P M) (one two : ℕ) (tree : Tree) (key first second : Key) (put_one put_two : Call) → put_one ≡ Insert key first → put_two ≡ Insert key second
      → MachineStepContract store number meant start (step.Begin tree put_one) (outcome.Begun one) a → MachineStepContract store number meant a (step.Begin tree put_two) (outcome.Begun two) m
      → Means (slots_at m) one tree (Insert key first) × Means (slots_at m) two tree (Insert key second) × (maps_now store meant m.db ≡ maps_now store meant start.db)
  races_begin start a m one two tree key first second put_one put_two e1 e2 r s =
      let off : one ≢ two = λ same. greater one (same ∙ s.step.step.is.0.next ∙ ap (λ (z : State). z.slots_given + 1) r.step.step.is.0.is) in
      let earlier : Means (slots_at m) one tree put_one =
      subst (λ (z : State). Means z.slots one tree put_one) (sym s.step.step.is.0.is) (means_after (slots_at a) two _ one tree put_one (begun_means start a tree put_one one r) (λ f e same. absurd (off same))) in (
        subst (Means (slots_at m) one tree) e1 earlier,
        subst (Means (slots_at m) two tree) e2 (begun_means a m tree put_two two s),
        ap maps_at (begun_keeps a m tree put_two two s ∙ begun_keeps start a tree put_one one r),
      )
    where
      greater : (n : ℕ) → n ≡ n + 1 → ⊥
      greater n e = omega arith

  pub steps_mean : (old new : MachineValue P M) (at : ℕ) (o : Outcome) (slot : ℕ) (tree : Tree) (call : Call) → MachineStep store number meant old (step.Step at) o new → Means (slots_at old) slot tree call → Means (slots_at new) slot tree call
  steps_mean old new at o slot tree call r m = step_means (configuration_of store number meant old) (configuration_of store number meant new) at o r.maps slot tree call r.step m

  -- what the last step that was decided made of the maps
  abbrev pub LastPut : Maps → Tree → Key → Key → Key → Option Bool → Maps → Type 0
  LastPut old tree key first second None new = new ≡ old
  LastPut old tree key first second (Some is_second) new = PutsOne old new tree.name key (cond is_second second first)

  pub last_none : (old new : Maps) (tree : Tree) (key first second : Key) (last : Option Bool) → LastPut old tree key first second last new → MatchOption last (new ≡ old) (λ is_second. Unit {0})
  last_none old new tree key first second None l = l
  last_none old new tree key first second (Some is_second) l = tt

  last_put : (start old new : Maps) (tree : Tree) (key first second value : Key) (is_second : Bool) (last : Option Bool) → value ≡ cond is_second second first → LastPut start tree key first second last old → PutsOne old new tree.name key value → PutsOne start new tree.name key (cond is_second second first)
  last_put start old new tree key first second value is_second None e l p = subst (λ v. PutsOne start new tree.name key v) e (subst (λ m. PutsOne m new tree.name key value) l p)
  last_put start old new tree key first second value is_second (Some before) e l p = subst (λ v. PutsOne start new tree.name key v) e (puts_twice start old new tree.name key _ value l p)

  pub races : (start : Maps) (old new : MachineValue P M) (slot : ℕ) (o : Outcome) (tree : Tree) (key first second value : Key) (is_second : Bool) (last : Option Bool) → value ≡ cond is_second second first
      → Means (slots_at old) slot tree (Insert key value) → MachineStep store number meant old (step.Step slot) o new → LastPut start tree key first second last (maps_now store meant old.db) → LastPut start tree key first second (later o is_second last) (maps_now store meant new.db)
  races start old new slot o tree key first second value is_second last e m r l = go o (step_told (configuration_of store number meant old) (configuration_of store number meant new) slot o r.maps tree (Insert key value) m r.step)
    where
      same : trees_at new ≡ trees_at old → LastPut start tree key first second last (maps_now store meant new.db)
      same t = subst (LastPut start tree key first second last) (sym (ap maps_at t)) l

      go : (o : Outcome) → told_as o (trees_at old) (trees_at new) tree (Insert key value) → LastPut start tree key first second (later o is_second last) (maps_now store meant new.db)
      go (outcome.Decided reply) t = last_put start (maps_now store meant old.db) (maps_now store meant new.db) tree key first second value is_second last e l (insert_puts (trees_at old) (trees_at new) tree key value reply t)
      go (outcome.Begun i) t = same t
      go outcome.Moved t = same t
      go (outcome.Yielded key value) t = same t
      go (outcome.Refused e) t = same t
      go outcome.Abandoned t = same t
      go outcome.NoSuchSlot t = same t

  -- a get of a tree that is one page
  pub got_promptly : (old begun_now new : MachineValue P M) (slot : ℕ) (tree : Tree) (key : Key) (o : Outcome)
      → MachineStepContract store number meant old (step.Begin tree (Get key)) (outcome.Begun slot) begun_now → RunsToEnd store number meant begun_now slot o new → IsOnePage (now (store old.db.pages)) tree.name → HasTurns o
  got_promptly old begun_now new slot tree key o b f one = go o prompt.unlimited
    where
      here : slots_at begun_now slot ≡ Some (call_begun tree (Get key))
      here = ap (λ (z : State). z.slots slot) b.step.step.is.0.is ∙ put_here (slots_at old) slot (Some (call_begun tree (Get key)))

      clean : IsClean (now (store begun_now.db.pages)) tree.name (Included key) (one.0 ∷ [])
      clean = subst (λ (s : Store). IsClean (now s) tree.name (Included key) (one.0 ∷ [])) (sym b.does.is) (one.1 key)

      prompt : FinishesWithin f.moves o (one.0 ∷ [])
      prompt = f.passes (call_begun tree (Get key)) (one.0 ∷ []) here refl refl clean (omega arith)

      go : (o : Outcome) → ((e : Error) → o ≡ outcome.Refused e → TellsTurns e → ⊥) → HasTurns o
      go (outcome.Refused e) u = u e refl
      go o u = tt
