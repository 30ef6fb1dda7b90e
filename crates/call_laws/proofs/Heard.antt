-- What a subscriber hears of one call, and of calls one after the other, by what they make of the state.
use Rattle.std.proofs.Common.{◌≡◌, ◌∙◌, ℕ, ◌≤◌, Bool, true, false, cond, ◌&&◌, not, List, [], ◌∷◌, ◌++◌, Option, Some, None, option_map, refl, sym, ap, subst, ◌⊎◌, inl, inr, arith}
use Rattle.std.specs.Prelude.{map, is_none}
use Rattle.std.specs.Option.{option_to_list}
use Rattle.std.specs.Str.{bytes_eq}
use Rattle.std.proofs.lemmas.List.{map-append}
use Rattle.std.proofs.lemmas.Bool.{eq-eqb}
use Rattle.sled_nodes.proofs.Basics.{none_some, some_is, true_false}
use Rattle.sled_nodes.specs.Order.{Key}
use Rattle.sled_store.specs.Store.{Store}
use Rattle.sled_store.specs.Update.{put_name}
use Rattle.sled_store.specs.theory.Facts.{same_name, name_itself}
use Rattle.sled_model.specs.Answer.{answer_of}
use Rattle.sled_model.specs.Maps.{Maps, Merge}
use Rattle.sled_model.specs.State.{State, NamedTree, CallInFlight, Queue, maps_of, after_decision_on}
use Rattle.sled_model.specs.Refusal.{ToPoint, MustRefuse, IsForeign, IsDropped, HasNoOperator, first_of, is_number, must_refuse, needs_operator, has_operator}
use Rattle.sled_model.specs.Groups.{Write, call_with, after_write_on, after_writes, events_of_write, events_of_writes, Closes}
use Rattle.sled_model.specs.Imports.{Part, OpensName, Puts, does_part_as, DoesParts, NoPart, OnePart}
use Rattle.sled_model.specs.Whole.{DecidesPoint, SetsOperator, OpensTree, number_opened, state_opened, maps_if}
use Rattle.sled_model.specs.Transition.{Configuration, transition_as, Decide}
use Rattle.sled_model.specs.declared.call.Call.{Call}
use Rattle.sled_model.specs.declared.call.Call.TheVariants.{Insert}
use Rattle.sled_model.specs.declared.call.Whole.TheVariants.{OpenTree}
use Rattle.sled_model.specs.declared.event.Event.{Event}
use Rattle.sled_model.specs.declared.event.Next.{Next}
use Rattle.sled_model.specs.declared.reply.Reply.{Reply}
use Rattle.sled_model.specs.declared.reply.Reply.TheVariants as reply
use Rattle.sled_model.specs.declared.tree.Tree.{Tree}
use Rattle.sled_model.specs.declared.outcome.Step.{Step}
use Rattle.sled_model.specs.declared.outcome.Step.TheVariants as step
use Rattle.sled_model.specs.declared.outcome.Outcome.{Outcome}
use Rattle.sled_model.specs.declared.outcome.Outcome.TheVariants as outcome
use Rattle.sled_model.proofs.Shapes.{after_decision, after_write, answer_of_write, call_of_write, tag_of}
use Rattle.sled_queues.specs.Events.{Turn, Comes, after_turns, taken_by, Stays}
use Rattle.sled_queues.specs.Turns.{turns_of_event, turns_of_call, turns_of_part, turns_of_parts, turns_of_events, turns_of, told_at, gives_up}
use Rattle.sled_queues.specs.Trees.{AreNumbered, drops, IsTreeAfter}
use Rattle.sled_queues.proofs.Closing.{opens_none}
use Rattle.sled_queues.proofs.Hearing.{stays_there}
use Rattle.sled_queues.proofs.Lawful.{map_twice}
use Rattle.sled_queues.proofs.Numbering.{tree_after_both, trees_law}
use Rattle.sled_queues.proofs.Turning.{after_both_turns, stays_both, taken_both, turns_law, heard_law}

-- From the one state to the other these turns happened. A subscriber for whom the first test holds was told this, and a tree whose name passes
-- the other has the map that the events which came to it made
pub record Heard (old new : State) (ts : List Turn) (told : ℕ → List Next) (kept : ℕ → Type 0) (keeps : Key → Type 0) : Type 0 where
  pub queues : new.queues ≡ after_turns ts old.queues
  pub heard : (n : ℕ) (q : Queue) → old.queues n ≡ Some q → kept n → Stays n ts × (told n ≡ taken_by n ts old.queues)
  pub opens : new.is_open ≡ true → old.is_open ≡ true
  pub numbered : AreNumbered old → AreNumbered new
  pub trees : AreNumbered old → new.is_open ≡ true → (name : Key) (t : NamedTree) → old.trees name ≡ Some t → keeps name → IsTreeAfter name t ts new

-- what gives up no subscriber, drops no tree and tells nobody anything
abbrev pub all_kept : ℕ → Type 0
all_kept n = Unit {0}

abbrev pub all_stay : Key → Type 0
all_stay name = Unit {0}

abbrev pub nothing_told : ℕ → List Next
nothing_told n = []

-- the tests may ask more, and what was told may be said in other words
pub when : {a b : State} {ts : List Turn} {told said : ℕ → List Next} {kept stays : ℕ → Type 0} {keeps holds : Key → Type 0}
    → ((n : ℕ) → said n ≡ told n) → ((n : ℕ) → stays n → kept n) → ((name : Key) → holds name → keeps name) → Heard a b ts told kept keeps → Heard a b ts said stays holds
when same k l h = record {
  queues = h.queues;
  heard = λ n q here s. let x = h.heard n q here (k n s) in (x.0, same n ∙ x.1);
  opens = h.opens;
  numbered = h.numbered;
  trees = λ numbers is_open name t there s. h.trees numbers is_open name t there (l name s);
}

-- a step of the model
pub by_step : (a : Configuration) (s : Step) (o : Outcome) (b : Configuration) (maps : List Maps) (t : transition_as a s o b maps)
    → Heard a.state b.state (turns_of a s o b maps t) (λ n. told_at n s o) (λ n. gives_up n s ≡ false) (λ name. drops name s o ≡ false)
by_step a s o b maps t = record {
  queues = turns_law a s o b maps t;
  heard = λ n q here kept. let x = heard_law n q a s o b maps t here kept in (x.stays, x.told);
  opens = opens_none a s o b maps t;
  numbered = λ numbers. (trees_law a s o b maps t numbers).numbered;
  trees = λ numbers is_open. (trees_law a s o b maps t numbers).maps is_open;
}

-- one after the other
pub both : (a m b : State) (ts us : List Turn) (told more : ℕ → List Next) (kept stays : ℕ → Type 0) (keeps holds : Key → Type 0) → Heard a m ts told kept keeps → Heard m b us more stays holds
    → Heard a b (ts ++ us) (λ n. told n ++ more n) (λ n. kept n × stays n) (λ name. keeps name × holds name)
both a m b ts us told more kept stays keeps holds x y = record {
  queues = y.queues ∙ ap (after_turns us) x.queues ∙ sym (after_both_turns ts us a.queues);
  heard = λ n q here k.
      let h = x.heard n q here k.0 in
      let r = stays_there ts n a.queues q here h.0 in
      let i = y.heard n r.0 (ap (λ (f : ℕ → Option Queue). f n) x.queues ∙ r.1) k.1 in (
        stays_both n ts us h.0 i.0,
        ap (λ l. l ++ more n) h.1 ∙ ap (λ l. taken_by n ts a.queues ++ l) (i.1 ∙ ap (taken_by n us) x.queues) ∙ sym (taken_both n ts us a.queues),
      );
  opens = λ is_open. x.opens (y.opens is_open);
  numbered = λ numbers. y.numbered (x.numbered numbers);
  trees = λ numbers is_open name t there k.
      let u = x.trees numbers (y.opens is_open) name t there k.0 in
      tree_after_both name t ts us m b u (y.trees (x.numbered numbers) is_open name u.tree u.there k.1);
}

-- calls in flight make no difference
pub beside : (a b : State) (ts : List Turn) (told : ℕ → List Next) (kept : ℕ → Type 0) (keeps : Key → Type 0) (p q : ℕ → Option CallInFlight) (i j : ℕ)
    → Heard (record a { slots = p; slots_given = i }) (record b { slots = q; slots_given = j }) ts told kept keeps → Heard a b ts told kept keeps
beside a b ts told kept keeps p q i j h = record {
  queues = h.queues;
  heard = h.heard;
  opens = h.opens;
  numbered = λ n. let x = h.numbered (record { given = n.given; apart = n.apart }) in record { given = x.given; apart = x.apart };
  trees = λ n is_open name t there k. let x = h.trees (record { given = n.given; apart = n.apart }) is_open name t there k in record { tree = x.tree; there = x.there; number = x.number; map = x.map };
}

-- nor does it whether the database is open, where it stays so
as_open : (a b : State) (ts : List Turn) (told : ℕ → List Next) (kept : ℕ → Type 0) (keeps : Key → Type 0) → (b.is_open ≡ true → a.is_open ≡ true)
    → Heard (record a { is_open = true }) (record b { is_open = true }) ts told kept keeps → Heard a b ts told kept keeps
as_open a b ts told kept keeps opens h = record {
  queues = h.queues;
  heard = h.heard;
  opens = opens;
  numbered = λ n. let x = h.numbered (record { given = n.given; apart = n.apart }) in record { given = x.given; apart = x.apart };
  trees = λ n is_open name t there k. let x = h.trees (record { given = n.given; apart = n.apart }) refl name t there k in record { tree = x.tree; there = x.there; number = x.number; map = x.map };
}

-- a state whose trees have the numbers that they had
renumbered : (a b : State) → b.trees_given ≡ a.trees_given → ((name : Key) → option_map (λ (t : NamedTree). t.number) (b.trees name) ≡ option_map (λ (t : NamedTree). t.number) (a.trees name)) → AreNumbered a → AreNumbered b
renumbered a b g same n = record {
  given = λ name u there. let w = was name u there in low u.number w.0.number w.2 (n.given name w.0 w.1);
  apart = λ x y u v p q e. let w = was x u p in let z = was y v q in n.apart x y w.0 z.0 w.1 z.1 (sym w.2 ∙ e ∙ z.2);
}
  where
    low : (i j : ℕ) → i ≡ j → j ≤ a.trees_given → i ≤ b.trees_given
    low i j e h = omega (arith, e, h, g)

    go : (u : NamedTree) (o : Option NamedTree) → Some u.number ≡ option_map (λ (t : NamedTree). t.number) o → (v : NamedTree) × (o ≡ Some v) × (u.number ≡ v.number)
    go u None e = none_some (sym e)
    go u (Some v) e = (v, refl, some_is e)

    was : (name : Key) (u : NamedTree) → b.trees name ≡ Some u → (v : NamedTree) × (a.trees name ≡ Some v) × (u.number ≡ v.number)
    was name u there = go u (a.trees name) (sym (ap (option_map (λ (t : NamedTree). t.number)) there) ∙ same name)

-- nothing happened to queues and trees
pub rests : (a b : State) → b.queues ≡ a.queues → b.trees ≡ a.trees → b.trees_given ≡ a.trees_given → b.is_open ≡ a.is_open → Heard a b [] nothing_told all_kept all_stay
rests a b queues trees given is_open = record {
  queues = queues;
  heard = λ n q here k. (tt, refl);
  opens = λ o. sym is_open ∙ o;
  numbered = renumbered a b given (λ name. ap (λ (f : Key → Option NamedTree). option_map (λ (t : NamedTree). t.number) (f name)) trees);
  trees = λ numbers o name t there k. record { tree = t; there = ap (λ (f : Key → Option NamedTree). f name) trees ∙ there; number = refl; map = refl };
}

pub stands : (a b : State) → b ≡ a → Heard a b [] nothing_told all_kept all_stay
stands a b e = rests a b (ap (λ (s : State). s.queues) e) (ap (λ (s : State). s.trees) e) (ap (λ (s : State). s.trees_given) e) (ap (λ (s : State). s.is_open) e)

-- what happens at a part of a state that is told again
pub told_again : (a b c : State) (ts : List Turn) (told : ℕ → List Next) (kept : ℕ → Type 0) (keeps : Key → Type 0) → c ≡ b → Heard a b ts told kept keeps → Heard a c ts told kept keeps
told_again a b c ts told kept keeps e h = subst (λ s. Heard a s ts told kept keeps) (sym e) h

-- ---- decisions on trees, over any store

module _ (x : Store) where
  abbrev at : State → Configuration
  at s = record { state = s; store = x; flush_number = 0 }

  -- a call on a key, as that of a call in flight
  decides : (s : State) (tree : Tree) (call : Call) (t : NamedTree) → must_refuse s (ToPoint tree call) ≡ None → s.trees tree.name ≡ Some t
      → Heard s (after_decision_on s tree.name t (answer_of t.merge call t.map)) (turns_of_call t call) nothing_told all_kept all_stay
  decides s tree call t free there =
      let f : CallInFlight = record { tree = tree; call = call; turns = 0; waiting = []; rest = None } in
      let a : State = record s { slots = λ i. Some f } in
      let b : State = after_decision a 0 tree.name t (answer_of t.merge call t.map) in
      let d : Decide a 0 (answer_of t.merge call t.map).reply b = record { flying = f; here = refl; free = free; fits = omega arith; tree = t; there = there; none = refl; done = refl; replies = refl; is = refl } in
      beside s (after_decision_on s tree.name t (answer_of t.merge call t.map)) (turns_of_call t call) nothing_told all_kept all_stay a.slots b.slots a.slots_given b.slots_given
      (when (λ n. refl) (λ n k. refl) (λ name k. refl) (by_step (at a) (step.Step 0) (outcome.Decided (answer_of t.merge call t.map).reply) (at b) (maps_of b ∷ []) (d, refl)))

  pub point : (a b : State) (tree : Tree) (call : Call) (reply : Reply) (d : DecidesPoint a tree call reply b) → Heard a b (turns_of_call d.named call) nothing_told all_kept all_stay
  point a b tree call reply d = told_again a _ b (turns_of_call d.named call) nothing_told all_kept all_stay d.is (decides a tree call d.named d.free d.there)

  -- the tests pass a call that needs no operator, on a tree that is there
  passes : (s : State) (name : Key) (t : NamedTree) (call : Call) → needs_operator call ≡ false → s.trees name ≡ Some t
      → must_refuse (record s { is_open = true }) (ToPoint (record { database = s.name; name = name; number = t.number }) call) ≡ None
  passes s name t call none there =
      let last : Bool → Option MustRefuse = λ b. cond (b && not (has_operator (s.trees name))) (Some HasNoOperator) None in
      ap (λ b. first_of (first_of (cond b None (Some IsForeign)) (cond (is_number t.number (s.trees name)) None (Some (IsDropped name)))) (last (needs_operator call))) (name_itself s.name)
      ∙ ap (λ o. first_of (cond (is_number t.number o) None (Some (IsDropped name))) (last (needs_operator call))) there
      ∙ ap (λ b. first_of (cond b None (Some (IsDropped name))) (last (needs_operator call))) (eq-eqb t.number t.number refl)
      ∙ ap last none

  decides_here : (s : State) (name : Key) (t : NamedTree) (call : Call) → needs_operator call ≡ false → s.trees name ≡ Some t
      → Heard s (after_decision_on s name t (answer_of t.merge call t.map)) (turns_of_call t call) nothing_told all_kept all_stay
  decides_here s name t call none there =
      as_open s (after_decision_on s name t (answer_of t.merge call t.map)) (turns_of_call t call) nothing_told all_kept all_stay (λ o. o)
      (decides (record s { is_open = true }) (record { database = s.name; name = name; number = t.number }) call t (passes s name t call none there) there)

  -- ---- a group

  write : (o : Option NamedTree) (w : Write) (s : State) → s.trees w.tree.name ≡ o → Heard s (after_write_on o w s) (turns_of_events (events_of_write o w)) nothing_told all_kept all_stay
  write None w s here = stands s s refl
  write (Some t) w s here = subst (λ ts. Heard s (after_write_on (Some t) w s) ts nothing_told all_kept all_stay) (event_turns (answer_of_write t w).event) (decides_here s w.tree.name t (call_of_write w) (no_operator w.value) here)
    where
      event_turns : (e : Option Event) → turns_of_event t.number e ≡ turns_of_events (map (λ e. (t.number, e)) (option_to_list e))
      event_turns None = refl
      event_turns (Some e) = refl

      no_operator : (value : Option Key) → needs_operator (call_with w.key value) ≡ false
      no_operator None = refl
      no_operator (Some value) = refl

  pub writes : (ws : List Write) (s : State) → Heard s (after_writes ws s) (turns_of_events (events_of_writes ws s)) nothing_told all_kept all_stay
  writes [] s = stands s s refl
  writes (w ∷ ws) s =
      let m : State = after_write w s in
      let first = events_of_write (s.trees w.tree.name) w in let rest = events_of_writes ws m in
      subst (λ ts. Heard s (after_writes ws m) ts nothing_told all_kept all_stay) (sym (map-append (λ e. Comes e.0 e.1) first rest))
      (when (λ n. refl) (λ n k. (tt, tt)) (λ name k. (tt, tt))
      (both s m (after_writes ws m) (turns_of_events first) (turns_of_events rest) nothing_told nothing_told all_kept all_kept all_stay all_stay (write (s.trees w.tree.name) w s refl) (writes ws m)))

  -- ---- an import

  opened : (o : Option NamedTree) (s : State) (name : Key) → s.trees name ≡ o → Heard s (state_opened o s name) [] nothing_told all_kept all_stay
  opened (Some t) s name here = stands s s refl
  opened None s name here =
      let a : State = record s { is_open = true } in
      let b : State = state_opened None a name in
      let d : OpensTree a name (reply.Tree (record { database = a.name; name = name; number = number_opened (a.trees name) a })) b (maps_if (is_none (a.trees name)) b) = record { free = refl; replies = refl; is = ap (λ o. state_opened o a name) (sym here); added = refl } in
      as_open s (state_opened None s name) [] nothing_told all_kept all_stay (λ o. o)
      (when (λ n. refl) (λ n k. refl) (λ name k. refl) (by_step (at a) (step.Whole (OpenTree name)) (outcome.Decided (reply.Tree (record { database = a.name; name = name; number = number_opened (a.trees name) a }))) (at b) (maps_if (is_none (a.trees name)) b) d))

  part : (a : State) (p : Part) (b : State) (maps : List Maps) (d : does_part_as a p b maps) → Heard a b (turns_of_part a p b maps d) nothing_told all_kept all_stay
  part a (OpensName name) b maps d = told_again a (state_opened (a.trees name) a name) b [] nothing_told all_kept all_stay d.0 (opened (a.trees name) a name refl)
  part a (Puts name key value) b maps d =
      told_again a (after_decision_on a name d.named (answer_of d.named.merge (Insert key value) d.named.map)) b (turns_of_call d.named (Insert key value)) nothing_told all_kept all_stay d.is (decides_here a name d.named (Insert key value) refl d.there)

  pub parts : {a b : State} {ps : List Part} {maps : List Maps} → (run : DoesParts a ps b maps) → Heard a b (turns_of_parts run) nothing_told all_kept all_stay
  parts (NoPart {s = s}) = stands s s refl
  parts (OnePart {a = a} {m = m} {b = b} {part = p} added one more) =
      when (λ n. refl) (λ n k. (tt, tt)) (λ name k. (tt, tt)) (both a m b (turns_of_part a p m added one) (turns_of_parts more) nothing_told nothing_told all_kept all_kept all_stay all_stay (part a p m added one) (parts more))

-- ---- a group that is refused

-- a database that is closed has the numbers of its trees still
closes : (a b : State) → Closes a b → Heard a b [] nothing_told all_kept all_stay
closes a b c = record {
  queues = ap (λ (s : State). s.queues) c.is;
  heard = λ n q here k. (tt, refl);
  opens = λ o. closed o;
  numbered = renumbered a b (ap (λ (s : State). s.trees_given) c.is)
      (λ name. ap (λ (s : State). option_map (λ (t : NamedTree). t.number) (s.trees name)) c.is
      ∙ sym (map_twice tag_of (λ (z : ℕ × Option Merge). z.0) (c.trees name)) ∙ ap (option_map (λ (z : ℕ × Option Merge). z.0)) (c.tags name) ∙ map_twice tag_of (λ (z : ℕ × Option Merge). z.0) (a.trees name));
  trees = λ numbers o. closed o;
}
  where
    closed : {T : Type 0} → b.is_open ≡ true → T
    closed o = true_false (sym o ∙ ap (λ (s : State). s.is_open) c.is)

pub stops : {P : Type 0} (a b : State) → (b ≡ a) ⊎ (P × Closes a b) → Heard a b [] nothing_told all_kept all_stay
stops a b (inl e) = stands a b e
stops a b (inr c) = closes a b c.1

-- ---- a merge operator

pub operated : (a b : State) (tree : Tree) (merge : Merge) → SetsOperator a tree merge b → Heard a b [] nothing_told all_kept all_stay
operated a b tree merge d = told_again a c b [] nothing_told all_kept all_stay d.is (record {
  queues = refl;
  heard = λ n q here k. (tt, refl);
  opens = λ o. o;
  numbered = renumbered a c refl (λ name. numbers name (bytes_eq name tree.name) refl);
  trees = λ n o name t there k. after name t there (bytes_eq name tree.name) refl;
})
  where
    set : NamedTree
    set = record d.named { merge = Some merge }

    c : State
    c = record a { trees = put_name a.trees tree.name (Some set) }

    numbers : (name : Key) (h : Bool) → bytes_eq name tree.name ≡ h → option_map (λ (t : NamedTree). t.number) (cond h (Some set) (a.trees name)) ≡ option_map (λ (t : NamedTree). t.number) (a.trees name)
    numbers name true e = ap (option_map (λ (t : NamedTree). t.number)) (sym (ap a.trees (same_name name tree.name e) ∙ d.there))
    numbers name false e = refl

    after : (name : Key) (t : NamedTree) → a.trees name ≡ Some t → (h : Bool) → bytes_eq name tree.name ≡ h → IsTreeAfter name t [] c
    after name t there true e = let same : t ≡ d.named = some_is (sym there ∙ ap a.trees (same_name name tree.name e) ∙ d.there) in record {
      tree = set;
      there = ap (λ h. cond h (Some set) (a.trees name)) e;
      number = ap (λ (z : NamedTree). z.number) (sym same);
      map = ap (λ (z : NamedTree). z.map) (sym same);
    }
    after name t there false e = record { tree = t; there = ap (λ h. cond h (Some set) (a.trees name)) e ∙ there; number = refl; map = refl }
