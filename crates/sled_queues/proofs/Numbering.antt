-- The map of a tree after a step is what the events that came to it made of it.
use Rattle.std.proofs.Common.{◌≡◌, ℕ, ◌+◌, ◌≤◌, Bool, true, false, cond, nat_eq, List, [], ◌∷◌, ◌++◌, Option, Some, None, option_map, refl, sym, ap, subst, ◌∙◌, ◌⊎◌, inl, inr, arith}
use Rattle.std.specs.Prelude.{map}
use Rattle.std.specs.Option.{option_to_list}
use Rattle.std.specs.Str.{bytes_eq}
use Rattle.std.proofs.lemmas.List.{map-append}
use Rattle.std.proofs.lemmas.Bool.{eq-eqb, eqb-true}
use Rattle.sled_nodes.proofs.Basics.{none_some, some_is, true_false}
use Rattle.sled_nodes.specs.Order.{Key}
use Rattle.sled_store.specs.Update.{put_name}
use Rattle.sled_store.specs.Store.{Store}
use Rattle.sled_store.specs.theory.Facts.{same_name, name_itself}
use Rattle.sled_nodes.specs.declared.error.Error.{Error}
use Rattle.sled_model.specs.Collections.{Content}
use Rattle.sled_model.specs.Refusal.{must_refuse_of, cause_of_import, may_refuse_as}
use Rattle.sled_model.specs.Maps.{Maps, Map, Merge}
use Rattle.sled_model.specs.Answer.{answer_of, key_of}
use Rattle.sled_model.specs.State.{State, NamedTree, after_decision_on}
use Rattle.sled_model.specs.Imports.{Part, OpensName, Puts, does_part_as, DoesParts, NoPart, OnePart, Stop, StopsAtPart}
use Rattle.sled_model.specs.Whole.{after_pop, RemovesLeast, RemovesNone, RemovesOne, state_opened, state_dropped}
use Rattle.sled_model.specs.Groups.{Write, after_write_on, after_writes, events_of_write, events_of_writes, writes_of, Closes}
use Rattle.sled_model.specs.Transition.{Configuration, transition_as}
use Rattle.sled_model.specs.declared.call.Call.{Call}
use Rattle.sled_model.specs.declared.call.Call.TheVariants.{Remove, Insert}
use Rattle.sled_model.specs.declared.call.Whole.{Whole}
use Rattle.sled_model.specs.declared.call.Whole.TheVariants.{Flush, PopMin, PopMax, Clear, Group, OpenTree, DropTree, GenerateId, Import, Watch, Next, Unsubscribe}
use Rattle.sled_model.specs.declared.event.Event.{Event}
use Rattle.sled_model.specs.declared.tree.Tree.{Tree}
use Rattle.sled_model.specs.declared.reply.Reply.{Reply}
use Rattle.sled_model.specs.declared.outcome.Step.{Step}
use Rattle.sled_model.specs.declared.outcome.Step.TheVariants as step
use Rattle.sled_model.specs.declared.outcome.Outcome.{Outcome}
use Rattle.sled_model.specs.declared.outcome.Outcome.TheVariants as outcome
use Rattle.sled_model.proofs.Shapes.{after_decision, after_write, answer_of_write, call_of_write, new_tree, tag_of}
use Rattle.sled_queues.specs.Events.{Turn, Comes, Watches, Takes, Ends}
use Rattle.sled_queues.specs.Copies.{after_event_of, after_events, came_to, came_to_at}
use Rattle.sled_queues.specs.Turns.{turns_of_event, turns_of_call, turns_of_pop, turns_of_removals, turns_of_part, turns_of_parts, turns_of_events, turns_of_stop, turns_of}
use Rattle.sled_queues.specs.Trees.{AreNumbered, drops, IsTreeAfter, TellsTrees, TreesLaw}
use Rattle.sled_queues.proofs.Copied.{changes_law, after_both}

-- the same of trees alone: they are those of the state after, and some are dropped
record Tells (a : State) (keeps : Key → Bool) (turns : List Turn) (b : State) : Type 0 where
  numbered : AreNumbered b
  maps : (name : Key) (t : NamedTree) → a.trees name ≡ Some t → keeps name ≡ false → IsTreeAfter name t turns b

abbrev keeps_all : Key → Bool
keeps_all name = false

came_both : (n : ℕ) (xs ys : List Turn) → came_to n (xs ++ ys) ≡ came_to n xs ++ came_to n ys
came_both n [] ys = refl
came_both n (Watches m tree prefix ∷ xs) ys = came_both n xs ys
came_both n (Takes m ∷ xs) ys = came_both n xs ys
came_both n (Ends m ∷ xs) ys = came_both n xs ys
came_both n (Comes tree e ∷ xs) ys = go (nat_eq n tree) (came_both n xs ys)
  where
    go : (b : Bool) → came_to n (xs ++ ys) ≡ came_to n xs ++ came_to n ys → cond b (e ∷ []) [] ++ came_to n (xs ++ ys) ≡ (cond b (e ∷ []) [] ++ came_to n xs) ++ came_to n ys
    go true more = ap (λ l. e ∷ l) more
    go false more = more

-- one state after another
pub tree_after_both : (name : Key) (t : NamedTree) (xs ys : List Turn) (m b : State) (x : IsTreeAfter name t xs m) → IsTreeAfter name x.tree ys b → IsTreeAfter name t (xs ++ ys) b
tree_after_both name t xs ys m b x y = record {
  tree = y.tree;
  there = y.there;
  number = y.number ∙ x.number;
  map = y.map
      ∙ ap (λ n. after_events (came_to n ys) x.tree.map) x.number
      ∙ ap (after_events (came_to t.number ys)) x.map
      ∙ sym (after_both (came_to t.number xs) (came_to t.number ys) t.map)
      ∙ ap (λ l. after_events l t.map) (sym (came_both t.number xs ys));
}

both : (a m b : State) (xs ys : List Turn) → Tells a keeps_all xs m → Tells m keeps_all ys b → Tells a keeps_all (xs ++ ys) b
both a m b xs ys x y = record {
  numbered = y.numbered;
  maps = λ name t there kept. let u = x.maps name t there kept in tree_after_both name t xs ys m b u (y.maps name u.tree u.there refl);
}

-- nothing comes, and the trees are the same
same_trees : (a b : State) → b.trees ≡ a.trees → b.trees_given ≡ a.trees_given → AreNumbered a → Tells a keeps_all [] b
same_trees a b e g n = record {
  numbered = record {
    given = λ name t there. subst (λ k. t.number ≤ k) (sym g) (n.given name t (sym (ap (λ (f : Key → Option NamedTree). f name) e) ∙ there));
    apart = λ x y t u p q s. n.apart x y t u (sym (ap (λ (f : Key → Option NamedTree). f x) e) ∙ p) (sym (ap (λ (f : Key → Option NamedTree). f y) e) ∙ q) s;
  };
  maps = λ name t there kept. record { tree = t; there = ap (λ (f : Key → Option NamedTree). f name) e ∙ there; number = refl; map = refl };
}

-- what a decision on one tree makes of the map of that tree, and of no other
came_of_event : (n : ℕ) (e : Option Event) (m : Map) → after_event_of e m ≡ after_events (came_to n (turns_of_event n e)) m
came_of_event n None m = refl
came_of_event n (Some e) m = ap (λ b. after_events (cond b (e ∷ []) [] ++ []) m) (sym (eq-eqb n n refl))

none_of_event : (n k : ℕ) (e : Option Event) (m : Map) → nat_eq n k ≡ false → m ≡ after_events (came_to n (turns_of_event k e)) m
none_of_event n k None m off = refl
none_of_event n k (Some e) m off = ap (λ b. after_events (cond b (e ∷ []) [] ++ []) m) (sym off)

-- each tree has the number that a tree of its name had
numbered_as : (a b : State) → b.trees_given ≡ a.trees_given → ((name : Key) (u : NamedTree) → b.trees name ≡ Some u → (v : NamedTree) × (a.trees name ≡ Some v) × (u.number ≡ v.number))
    → AreNumbered a → AreNumbered b
numbered_as a b g was n = record {
  given = λ name u there. let w = was name u there in low u.number w.0.number w.2 (n.given name w.0 w.1);
  apart = λ x y u v p q same. let w = was x u p in let z = was y v q in n.apart x y w.0 z.0 w.1 z.1 (sym w.2 ∙ same ∙ z.2);
}
  where
    low : (i j : ℕ) → i ≡ j → j ≤ a.trees_given → i ≤ b.trees_given
    low i j e h = omega (arith, e, h, g)

decided : (s : State) (at : Key) (t : NamedTree) (call : Call) → s.trees at ≡ Some t → AreNumbered s → Tells s keeps_all (turns_of_call t call) (after_decision_on s at t (answer_of t.merge call t.map))
decided s at t call here n = record {
  numbered = numbered_as s (after_decision_on s at t (answer_of t.merge call t.map)) refl was n;
  maps = λ name u there kept. after name u there (bytes_eq name at) refl;
}
  where
    changed : NamedTree
    changed = record t { map = (answer_of t.merge call t.map).map }

    trees : Key → Option NamedTree
    trees = put_name s.trees at (Some changed)

    was : (name : Key) (u : NamedTree) → trees name ≡ Some u → (v : NamedTree) × (s.trees name ≡ Some v) × (u.number ≡ v.number)
    was name u there = go (bytes_eq name at) refl there
      where
        go : (b : Bool) → bytes_eq name at ≡ b → cond b (Some changed) (s.trees name) ≡ Some u → (v : NamedTree) × (s.trees name ≡ Some v) × (u.number ≡ v.number)
        go true e h = (t, ap s.trees (same_name name at e) ∙ here, sym (ap (λ (z : NamedTree). z.number) (some_is h)))
        go false e h = (u, h, refl)

    after : (name : Key) (u : NamedTree) → s.trees name ≡ Some u → (b : Bool) → bytes_eq name at ≡ b → IsTreeAfter name u (turns_of_call t call) (after_decision_on s at t (answer_of t.merge call t.map))
    after name u there true e =
        let same : u ≡ t = some_is (sym there ∙ ap s.trees (same_name name at e) ∙ here) in record {
          tree = changed;
          there = ap (λ b. cond b (Some changed) (s.trees name)) e;
          number = ap (λ (z : NamedTree). z.number) (sym same);
          map = changes_law _ (key_of call) t.map
              ∙ came_of_event t.number (answer_of t.merge call t.map).event t.map
              ∙ ap (λ (z : NamedTree). after_events (came_to z.number (turns_of_call t call)) z.map) (sym same);
        }
    after name u there false e = record {
      tree = u;
      there = ap (λ b. cond b (Some changed) (s.trees name)) e ∙ there;
      number = refl;
      map = none_of_event u.number t.number (answer_of t.merge call t.map).event u.map (off (nat_eq u.number t.number) refl);
    }
      where
        off : (b : Bool) → nat_eq u.number t.number ≡ b → b ≡ false
        off false h = refl
        off true h = true_false (sym (name_itself at) ∙ ap (λ k. bytes_eq k at) (sym (n.apart name at u t there here (eqb-true u.number t.number h))) ∙ e)

-- the state is another, but has its trees
with_state : (a b c : State) (keeps : Key → Bool) (turns : List Turn) → c ≡ b → Tells a keeps turns b → Tells a keeps turns c
with_state a b c keeps turns e h = subst (Tells a keeps turns) (sym e) h

popped : (s : State) (name : Key) (t : NamedTree) (found : Option (Key × Key)) → s.trees name ≡ Some t → AreNumbered s → Tells s keeps_all (turns_of_pop t found) (after_pop s name t found)
popped s name t None here n = same_trees s s refl refl n
popped s name t (Some pair) here n = decided s name t (Remove pair.0) here n

removed : {tree : Tree} {a b : State} {k : ℕ} {maps : List Maps} → (run : RemovesLeast tree a k b maps) → AreNumbered a → Tells a keeps_all (turns_of_removals run) b
removed (RemovesNone {s = s}) n = same_trees s s refl refl n
removed {tree = tree} (RemovesOne {a = a} {b = b} named pair rest there first more) n =
    let one = decided a tree.name named (Remove pair.0) there n in
    both a (after_decision_on a tree.name named (answer_of named.merge (Remove pair.0) named.map)) b (turns_of_call named (Remove pair.0)) (turns_of_removals more) one (removed more one.numbered)

-- a name is opened: a new tree has a number that none has
opened : (o : Option NamedTree) (s : State) (name : Key) → s.trees name ≡ o → AreNumbered s → Tells s keeps_all [] (state_opened o s name)
opened (Some t) s name here n = same_trees s s refl refl n
opened None s at here n = record {
  numbered = record {
    given = λ name u there. low name u there (bytes_eq name at) refl there;
    apart = λ x y u v p q same. alone x y u v (bytes_eq x at) refl (bytes_eq y at) refl p q same;
  };
  maps = λ name u there kept. record { tree = u; there = stays name u there (bytes_eq name at) refl; number = refl; map = refl };
}
  where
    trees : Key → Option NamedTree
    trees = put_name s.trees at (Some (new_tree s))

    low : (name : Key) (u : NamedTree) → trees name ≡ Some u → (b : Bool) → bytes_eq name at ≡ b → cond (bytes_eq name at) (Some (new_tree s)) (s.trees name) ≡ Some u → u.number ≤ s.trees_given + 1
    low name u there true e h = let is : u.number ≡ s.trees_given + 1 = ap (λ (z : NamedTree). z.number) (sym (some_is (sym (ap (λ b. cond b (Some (new_tree s)) (s.trees name)) e) ∙ h))) in omega (arith, is)
    low name u there false e h = let g = n.given name u (sym (ap (λ b. cond b (Some (new_tree s)) (s.trees name)) e) ∙ h) in omega (arith, g)

    number_new : (name : Key) (u : NamedTree) → bytes_eq name at ≡ true → trees name ≡ Some u → u.number ≡ s.trees_given + 1
    number_new name u e h = ap (λ (z : NamedTree). z.number) (sym (some_is (sym (ap (λ b. cond b (Some (new_tree s)) (s.trees name)) e) ∙ h)))

    number_old : (name : Key) (u : NamedTree) → bytes_eq name at ≡ false → trees name ≡ Some u → s.trees name ≡ Some u
    number_old name u e h = sym (ap (λ b. cond b (Some (new_tree s)) (s.trees name)) e) ∙ h

    clash : (p q : ℕ) → p ≡ s.trees_given + 1 → q ≤ s.trees_given → p ≡ q → ⊥
    clash p q e l same = omega (arith, e, l, same)

    alone : (x y : Key) (u v : NamedTree) (b : Bool) → bytes_eq x at ≡ b → (c : Bool) → bytes_eq y at ≡ c → trees x ≡ Some u → trees y ≡ Some v → u.number ≡ v.number → x ≡ y
    alone x y u v true e true f p q same = same_name x at e ∙ sym (same_name y at f)
    alone x y u v true e false f p q same = absurd (clash u.number v.number (number_new x u e p) (n.given y v (number_old y v f q)) same)
    alone x y u v false e true f p q same = absurd (clash v.number u.number (number_new y v f q) (n.given x u (number_old x u e p)) (sym same))
    alone x y u v false e false f p q same = n.apart x y u v (number_old x u e p) (number_old y v f q) same

    stays : (name : Key) (u : NamedTree) → s.trees name ≡ Some u → (b : Bool) → bytes_eq name at ≡ b → trees name ≡ Some u
    stays name u there true e = none_some (sym here ∙ ap s.trees (sym (same_name name at e)) ∙ there)
    stays name u there false e = ap (λ b. cond b (Some (new_tree s)) (s.trees name)) e ∙ there

-- a name is dropped: all other names have their trees
dropped : (o : Option NamedTree) (s : State) (at : Key) → AreNumbered s → Tells s (λ name. bytes_eq name at) [] (state_dropped o s at)
dropped None s at n = record { numbered = n; maps = λ name t there kept. record { tree = t; there = there; number = refl; map = refl } }
dropped (Some t) s at n = record {
  numbered = record {
    given = λ name u there. n.given name u (old name u (bytes_eq name at) there);
    apart = λ x y u v p q same. n.apart x y u v (old x u (bytes_eq x at) p) (old y v (bytes_eq y at) q) same;
  };
  maps = λ name u there kept. record { tree = u; there = ap (λ b. cond b None (s.trees name)) kept ∙ there; number = refl; map = refl };
}
  where
    old : (name : Key) (u : NamedTree) (b : Bool) → cond b None (s.trees name) ≡ Some u → s.trees name ≡ Some u
    old name u true h = none_some h
    old name u false h = h

part_told : (a : State) (part : Part) (b : State) (maps : List Maps) (d : does_part_as a part b maps) → AreNumbered a → Tells a keeps_all (turns_of_part a part b maps d) b
part_told a (OpensName name) b maps d n = with_state a (state_opened (a.trees name) a name) b keeps_all [] d.0 (opened (a.trees name) a name refl n)
part_told a (Puts name key value) b maps d n = with_state a (after_decision_on a name d.named (answer_of d.named.merge (Insert key value) d.named.map)) b keeps_all (turns_of_call d.named (Insert key value)) d.is (decided a name d.named (Insert key value) d.there n)

parts_told : {a b : State} {parts : List Part} {maps : List Maps} → (run : DoesParts a parts b maps) → AreNumbered a → Tells a keeps_all (turns_of_parts run) b
parts_told (NoPart {s = s}) n = same_trees s s refl refl n
parts_told (OnePart {a = a} {m = m} {b = b} {part = part} added one more) n =
    let first = part_told a part m added one n in
    both a m b (turns_of_part a part m added one) (turns_of_parts more) first (parts_told more first.numbered)

-- the event of a write comes as that of its call
event_turns : (tree : ℕ) (e : Option Event) → turns_of_event tree e ≡ turns_of_events (map (λ e. (tree, e)) (option_to_list e))
event_turns tree None = refl
event_turns tree (Some e) = refl

-- a write does what its call would, and writes one after the other
write_told : (o : Option NamedTree) (w : Write) (s : State) → s.trees w.tree.name ≡ o → AreNumbered s → Tells s keeps_all (turns_of_events (events_of_write o w)) (after_write_on o w s)
write_told None w s here n = same_trees s s refl refl n
write_told (Some t) w s here n = subst (λ (turns : List Turn). Tells s keeps_all turns (after_write_on (Some t) w s)) (event_turns t.number (answer_of_write t w).event) (decided s w.tree.name t (call_of_write w) here n)

writes_told : (ws : List Write) (s : State) → AreNumbered s → Tells s keeps_all (turns_of_events (events_of_writes ws s)) (after_writes ws s)
writes_told [] s n = same_trees s s refl refl n
writes_told (w ∷ ws) s n =
    let m : State = after_write w s in
    let first = events_of_write (s.trees w.tree.name) w in let rest = events_of_writes ws m in
    let one = write_told (s.trees w.tree.name) w s refl n in
    subst (λ (turns : List Turn). Tells s keeps_all turns (after_writes ws m)) (sym (map-append (λ e. Comes e.0 e.1) first rest))
    (both s m (after_writes ws m) (turns_of_events first) (turns_of_events rest) one (writes_told ws m one.numbered))

same_state : (a b : State) → b ≡ a → AreNumbered a → Tells a keeps_all [] b
same_state a b e n = same_trees a b (ap (λ (s : State). s.trees) e) (ap (λ (s : State). s.trees_given) e) n

-- a turn that brings no event
quiet : (t : Turn) (a b : State) → ((k : ℕ) → came_to_at k t ≡ []) → b.trees ≡ a.trees → b.trees_given ≡ a.trees_given → AreNumbered a → Tells a keeps_all (t ∷ []) b
quiet t a b none e g n = let h = same_trees a b e g n in record {
  numbered = h.numbered;
  maps = λ name u there kept. let x = h.maps name u there kept in record { tree = x.tree; there = x.there; number = x.number; map = x.map ∙ ap (λ l. after_events (l ++ []) u.map) (sym (none u.number)) };
}

-- a decision in a slot does to trees what it does without one
slot_decided : (a b : State) (slot : ℕ) (name : Key) (t : NamedTree) (call : Call) → b ≡ after_decision a slot name t (answer_of t.merge call t.map) → a.trees name ≡ Some t → AreNumbered a
    → Tells a keeps_all (turns_of_call t call) b
slot_decided a b slot name t call is there n =
    let c : State = after_decision_on a name t (answer_of t.merge call t.map) in
    let h : Tells a keeps_all (turns_of_call t call) c = decided a name t call there n in
    let e : b.trees ≡ c.trees = ap (λ (s : State). s.trees) is in
    let same = same_trees c b e (ap (λ (s : State). s.trees_given) is) h.numbered in record {
      numbered = same.numbered;
      maps = λ k u here kept. let x = h.maps k u here kept in record { tree = x.tree; there = ap (λ (f : Key → Option NamedTree). f k) e ∙ x.there; number = x.number; map = x.map };
    }

-- what an import that is refused has done
abbrev Stopped : State → Store → Store → List Content → Error → State → List Maps → Type 0
Stopped old a b all e new maps = (may_refuse_as (must_refuse_of old []) (cause_of_import all) e × (new ≡ old) × (maps ≡ [])) ⊎ ((stop : Stop) × StopsAtPart old a b all stop e new maps)

stop_told : {old : State} {a b : Store} {all : List Content} {e : Error} {new : State} {maps : List Maps} (s : Stopped old a b all e new maps) → AreNumbered old → Tells old keeps_all (turns_of_stop s) new
stop_told {old = old} {new = new} (inl none) n = same_state old new none.1 n
stop_told (inr s) n = parts_told s.1.does n

decided_told : (a : Configuration) (w : Whole) (reply : Reply) (b : Configuration) (maps : List Maps) (t : transition_as a (step.Whole w) (outcome.Decided reply) b maps)
    → AreNumbered a.state → Tells a.state (λ name. drops name (step.Whole w) (outcome.Decided reply)) (turns_of a (step.Whole w) (outcome.Decided reply) b maps t) b.state
decided_told a Flush reply b maps t n = same_state a.state b.state t.2 n
decided_told a (PopMin tree) reply b maps t n = with_state a.state _ b.state keeps_all _ t.is (popped a.state tree.name t.named t.found t.there n)
decided_told a (PopMax tree) reply b maps t n = with_state a.state _ b.state keeps_all _ t.is (popped a.state tree.name t.named t.found t.there n)
decided_told a (Clear tree) reply b maps t n = removed t.1.removes n
decided_told a (Group batches) reply b maps t n = with_state a.state _ b.state keeps_all _ t.is (writes_told (writes_of batches.items) a.state n)
decided_told a (OpenTree name) reply b maps t n = with_state a.state _ b.state keeps_all [] t.is (opened (a.state.trees name) a.state name refl n)
decided_told a (DropTree name) reply b maps t n = with_state a.state _ b.state (λ k. bytes_eq k name) [] t.is (dropped (a.state.trees name) a.state name n)
decided_told a GenerateId reply b maps t n = same_trees a.state b.state (ap (λ (s : State). s.trees) t.is) (ap (λ (s : State). s.trees_given) t.is) n
decided_told a (Import collections) reply b maps t n = parts_told t.1.does n
decided_told a (Watch tree prefix) reply b maps t n = quiet (Watches t.0 tree.number prefix) a.state b.state (λ k. refl) (ap (λ (s : State). s.trees) t.2.is) (ap (λ (s : State). s.trees_given) t.2.is) n
decided_told a (Next subscriber) reply b maps t n = quiet (Takes subscriber) a.state b.state (λ k. refl) (ap (λ (s : State). s.trees) t.2.is) (ap (λ (s : State). s.trees_given) t.2.is) n
decided_told a (Unsubscribe subscriber) reply b maps t n = quiet (Ends subscriber) a.state b.state (λ k. refl) (ap (λ (s : State). s.trees) t.1) (ap (λ (s : State). s.trees_given) t.1) n

-- maps are told of an open database alone
where_open : (a : State) (s : Step) (o : Outcome) (turns : List Turn) (b : State) → Tells a (λ name. drops name s o) turns b → TellsTrees a s o turns b
where_open a s o turns b h = record { numbered = h.numbered; maps = λ is_open. h.maps }

-- a database that is closed has the numbers of its trees still
closed_told : (a b : State) (s : Step) (o : Outcome) → Closes a b → AreNumbered a → TellsTrees a s o [] b
closed_told a b s o c n = record {
  numbered = numbered_as a b (ap (λ (z : State). z.trees_given) c.is) (λ name u there. was name u (a.trees name) refl (ap (λ (z : State). z.trees name) (sym c.is) ∙ there)) n;
  maps = λ is_open. true_false (sym is_open ∙ ap (λ (z : State). z.is_open) c.is);
}
  where
    was : (name : Key) (u : NamedTree) (o : Option NamedTree) → a.trees name ≡ o → c.trees name ≡ Some u → (v : NamedTree) × (a.trees name ≡ Some v) × (u.number ≡ v.number)
    was name u None e h = none_some (sym (c.tags name ∙ ap (option_map tag_of) e) ∙ ap (option_map tag_of) h)
    was name u (Some v) e h = (v, e, ap (λ (z : ℕ × Option Merge). z.0) (some_is (sym (ap (option_map tag_of) h) ∙ c.tags name ∙ ap (option_map tag_of) e)))

group_told : {P : Type 0} (a b : State) (w : Whole) (e : Error) → (b ≡ a) ⊎ (P × Closes a b) → AreNumbered a → TellsTrees a (step.Whole w) (outcome.Refused e) [] b
group_told a b w e (inl is) n = let h = same_state a b is n in record { numbered = h.numbered; maps = λ is_open name t there kept. h.maps name t there refl }
group_told a b w e (inr c) n = closed_told a b (step.Whole w) (outcome.Refused e) c.1 n

refused_told : (a : Configuration) (w : Whole) (e : Error) (b : Configuration) (maps : List Maps) (t : transition_as a (step.Whole w) (outcome.Refused e) b maps)
    → AreNumbered a.state → TellsTrees a.state (step.Whole w) (outcome.Refused e) (turns_of a (step.Whole w) (outcome.Refused e) b maps t) b.state
refused_told a Flush e b maps t n = where_open a.state (step.Whole Flush) (outcome.Refused e) _ b.state (same_state a.state b.state t.1 n)
refused_told a (PopMin tree) e b maps t n = where_open a.state (step.Whole (PopMin tree)) (outcome.Refused e) _ b.state (same_state a.state b.state t.1 n)
refused_told a (PopMax tree) e b maps t n = where_open a.state (step.Whole (PopMax tree)) (outcome.Refused e) _ b.state (same_state a.state b.state t.1 n)
refused_told a (Clear tree) e b maps t n = where_open a.state (step.Whole (Clear tree)) (outcome.Refused e) _ b.state (removed t.removes n)
refused_told a (Group batches) e b maps t n = group_told a.state b.state (Group batches) e t.is n
refused_told a (OpenTree name) e b maps t n = where_open a.state (step.Whole (OpenTree name)) (outcome.Refused e) _ b.state (same_state a.state b.state t.1 n)
refused_told a (DropTree name) e b maps t n = where_open a.state (step.Whole (DropTree name)) (outcome.Refused e) _ b.state (same_state a.state b.state t.1 n)
refused_told a GenerateId e b maps t n = where_open a.state (step.Whole GenerateId) (outcome.Refused e) _ b.state (same_state a.state b.state t.1 n)
refused_told a (Import collections) e b maps t n = where_open a.state (step.Whole (Import collections)) (outcome.Refused e) _ b.state (stop_told t n)
refused_told a (Watch tree prefix) e b maps t n = where_open a.state (step.Whole (Watch tree prefix)) (outcome.Refused e) _ b.state (same_state a.state b.state t.1 n)
refused_told a (Next subscriber) e b maps t n = absurd t
refused_told a (Unsubscribe subscriber) e b maps t n = absurd t

whole_told : (a : Configuration) (w : Whole) (o : Outcome) (b : Configuration) (maps : List Maps) (t : transition_as a (step.Whole w) o b maps)
    → AreNumbered a.state → TellsTrees a.state (step.Whole w) o (turns_of a (step.Whole w) o b maps t) b.state
whole_told a w (outcome.Decided reply) b maps t n = where_open a.state (step.Whole w) (outcome.Decided reply) _ b.state (decided_told a w reply b maps t n)
whole_told a w (outcome.Refused e) b maps t n = refused_told a w e b maps t n
whole_told a w (outcome.Begun slot) b maps t n = absurd t
whole_told a w outcome.Moved b maps t n = absurd t
whole_told a w (outcome.Yielded key value) b maps t n = absurd t
whole_told a w outcome.Abandoned b maps t n = absurd t
whole_told a w outcome.NoSuchSlot b maps t n = absurd t

begin_told : (a : Configuration) (tree : Tree) (call : Call) (o : Outcome) (b : Configuration) (maps : List Maps) (t : transition_as a (step.Begin tree call) o b maps)
    → AreNumbered a.state → Tells a.state keeps_all (turns_of a (step.Begin tree call) o b maps t) b.state
begin_told a tree call (outcome.Begun slot) b maps t n = same_trees a.state b.state (ap (λ (s : State). s.trees) t.0.is) (ap (λ (s : State). s.trees_given) t.0.is) n
begin_told a tree call (outcome.Refused e) b maps t n = same_state a.state b.state t.1 n
begin_told a tree call outcome.Moved b maps t n = absurd t
begin_told a tree call (outcome.Yielded key value) b maps t n = absurd t
begin_told a tree call (outcome.Decided reply) b maps t n = absurd t
begin_told a tree call outcome.Abandoned b maps t n = absurd t
begin_told a tree call outcome.NoSuchSlot b maps t n = absurd t

step_told : (a : Configuration) (slot : ℕ) (o : Outcome) (b : Configuration) (maps : List Maps) (t : transition_as a (step.Step slot) o b maps)
    → AreNumbered a.state → Tells a.state keeps_all (turns_of a (step.Step slot) o b maps t) b.state
step_told a slot outcome.NoSuchSlot b maps t n = same_state a.state b.state t.0.1 n
step_told a slot outcome.Moved b maps t n = same_trees a.state b.state (ap (λ (s : State). s.trees) t.0.is) (ap (λ (s : State). s.trees_given) t.0.is) n
step_told a slot (outcome.Yielded key value) b maps t n = same_trees a.state b.state (ap (λ (s : State). s.trees) t.0.is) (ap (λ (s : State). s.trees_given) t.0.is) n
step_told a slot (outcome.Decided reply) b maps t n = slot_decided a.state b.state slot t.0.flying.tree.name t.0.tree t.0.flying.call t.0.is t.0.there n
step_told a slot (outcome.Refused e) b maps t n = same_trees a.state b.state (ap (λ (s : State). s.trees) t.0.is) (ap (λ (s : State). s.trees_given) t.0.is) n
step_told a slot (outcome.Begun i) b maps t n = absurd t
step_told a slot outcome.Abandoned b maps t n = absurd t

abandon_told : (a : Configuration) (slot : ℕ) (o : Outcome) (b : Configuration) (maps : List Maps) (t : transition_as a (step.Abandon slot) o b maps)
    → AreNumbered a.state → Tells a.state keeps_all (turns_of a (step.Abandon slot) o b maps t) b.state
abandon_told a slot outcome.NoSuchSlot b maps t n = same_state a.state b.state t.0.1 n
abandon_told a slot outcome.Abandoned b maps t n = same_trees a.state b.state (ap (λ (s : State). s.trees) t.0.is) (ap (λ (s : State). s.trees_given) t.0.is) n
abandon_told a slot (outcome.Begun i) b maps t n = absurd t
abandon_told a slot outcome.Moved b maps t n = absurd t
abandon_told a slot (outcome.Yielded key value) b maps t n = absurd t
abandon_told a slot (outcome.Decided reply) b maps t n = absurd t
abandon_told a slot (outcome.Refused e) b maps t n = absurd t

pub trees_law : TreesLaw
trees_law a (step.Whole w) o b maps t n = whole_told a w o b maps t n
trees_law a (step.Begin tree call) o b maps t n = where_open a.state (step.Begin tree call) o _ b.state (begin_told a tree call o b maps t n)
trees_law a (step.Step slot) o b maps t n = where_open a.state (step.Step slot) o _ b.state (step_told a slot o b maps t n)
trees_law a (step.Abandon slot) o b maps t n = where_open a.state (step.Abandon slot) o _ b.state (abandon_told a slot o b maps t n)
