-- The number before a crash, and the one that is found after it.
use Rattle.std.proofs.Common.{◌≡◌, ◌∙◌, ℕ, ◌+◌, ◌≤◌, Bool, true, false, List, [], ◌∷◌, Option, Some, None, option_map, Result, Ok, Err, IfOk, sym, refl, ap, subst, inl, inr, arith}
use Rattle.std.specs.FinMap.Entries.{find}
use Rattle.sled_nodes.proofs.Basics.{false_true}
use Rattle.sled_nodes.specs.Order.{Key, key_cmp}
use Rattle.sled_store.specs.In.{In}
use Rattle.sled_store.specs.State.{State}
use Rattle.sled_store.specs.Store.{Store, now}
use Rattle.sled_store.specs.Crash.{crash_states, Crashes}
use Rattle.sled_store.specs.theory.Facts.{may_leave_crashed}
use Rattle.sled_model.specs.Maps.{Map, Maps, Merge}
use Rattle.sled_model.specs.State.{NamedTree, maps_of}
use Rattle.sled_model.specs.declared.call.Whole.TheVariants.{OpenTree}
use Rattle.sled_model.specs.declared.reply.Reply.{Reply}
use Rattle.sled_model.specs.declared.reply.Reply.TheVariants as told
use Rattle.sled_model.specs.declared.tree.Tree.{Tree}
use Rattle.tree_laws.specs.Contents.{trees_of}
use Rattle.sled.specs.Direct.{WholeDecided}
use Rattle.sled.specs.Opens.{Opens}
use Rattle.sled.specs.Promises.{OpensMap, map_opened}
use Rattle.sled.specs.Reads.{ReadsMap}
use Rattle.sled.specs.Sound.{IsDb}
use Rattle.sled.specs.Values.{DbValue, db_state}
use Rattle.sled_model.specs.State.{default_name}
use Rattle.machine_shared.specs.History.{maps_from}
use Rattle.machine_shared.specs.Sound.{maps_now}
use Rattle.machine_shared.specs.Values.{StateValue}
use Rattle.example_parts.specs.Counters.{number_in}
use Rattle.example_parts.proofs.Maps.{maps_are, with_tree_alike}
use Rattle.example_shared.specs.Places.{found_in}
use Rattle.example_crashes.specs.Crashing.{Survives, number_stored, number_under}
use Rattle.example_crashes.specs.theory.Raised.{IsRaised, LeavesNumber, MayLeave}

-- ---- answers

pub ok_is : {E : Type 0} (r : Result ℕ E) (m n : ℕ) → m ≡ n → IfOk r (λ x. x ≡ m) → IfOk r (λ x. x ≡ n)
ok_is (Ok x) m n e h = h ∙ e
ok_is (Err x) m n e h = tt

pub ok_first : {X E : Type 0} (r : Result (ℕ × X) E) (m n : ℕ) → m ≡ n → IfOk r (λ x. x.0 ≡ m) → IfOk r (λ x. x.0 ≡ n)
ok_first (Ok x) m n e h = h ∙ e
ok_first (Err x) m n e h = tt

pub ok_left : {X E : Type 0} (r : Result (ℕ × X) E) (m : ℕ) (s : Store) (tree key : Key) → ((n : ℕ) → n ≡ m → MayLeave s tree key n) → IfOk r (λ x. x.0 ≡ m) → IfOk r (λ x. MayLeave s tree key x.0)
ok_left (Ok x) m s tree key go h = go x.0 h
ok_left (Err x) m s tree key go h = tt

-- ---- reads

abbrev name_told : Key → Reply → Key
name_told other (told.Tree tree) = tree.name
name_told other reply = other

-- a tree that is new has no key
opened_alike : (o : Option Map) (key : Key) → found_in (Some (map_opened o)) key ≡ found_in o key
opened_alike None key = refl
opened_alike (Some map) key = refl

module _ {P M : Type 0} (store : P → Store) (meant : M → Merge) where
  pub number_read : (d : DbValue P M) (tree : Tree) (key : Key) (value : Option Key) → IsDb store d → ReadsMap store meant d tree (λ map. value ≡ find key_cmp key map) → number_in value ≡ number_stored (store d.pages) tree.name key
  number_read d tree key value sound r =
      ap number_in (r.is ∙ ap (λ o. found_in (option_map (λ (t : NamedTree). t.map) o) key) (sym r.there) ∙ ap (λ (m : Maps). found_in (m tree.name) key) (maps_are store meant d sound))

  pub opened_name : (old new : DbValue P M) (name : Key) (tree : Tree) → WholeDecided store meant old (OpenTree name) (told.Tree tree) new → tree.name ≡ name
  opened_name old new name tree w = ap (name_told name) (w.decides (λ n. None) 0 0).replies

  -- a tree that is opened has the number that it had
  pub opened_same : (old new : DbValue P M) (name key : Key) → IsDb store old → IsDb store new → OpensMap store meant old name new → number_stored (store new.pages) name key ≡ number_stored (store old.pages) name key
  opened_same old new name key before after o =
      ap number_in
      (ap (λ (m : Maps). found_in (m name) key) (sym (maps_are store meant new after))
      ∙ ap (λ m. found_in m key) o.becomes
      ∙ opened_alike (maps_of (db_state store meant old) name) key
      ∙ ap (λ (m : Maps). found_in (m name) key) (maps_are store meant old before))

  pub same_trees : (old new : DbValue P M) → IsDb store old → IsDb store new → maps_of (db_state store meant new) ≡ maps_of (db_state store meant old) → trees_of (now (store new.pages)) ≡ trees_of (now (store old.pages))
  same_trees old new before after e = sym (maps_are store meant new after) ∙ e ∙ maps_are store meant old before

-- ---- a crash

only_one : (s : State) (l : List State) (x : State) → l ≡ s ∷ [] → In x l → x ≡ s
only_one s l x e i = go (subst (In x) e i)
  where
    go : In x (s ∷ []) → x ≡ s
    go (inl e) = e
    go (inr none) = absurd none

-- where all is durable a crash leaves the maps now alone
pub leaves_one : (s : Store) (tree key : Key) (n m : ℕ) → crash_states s ≡ now s ∷ [] → n ≡ number_stored s tree key → MayLeave s tree key m → m ≡ n
leaves_one s tree key n m one is left = left.is ∙ ap (λ (x : State). number_under (trees_of x) tree key) (only_one (now s) (crash_states s) left.left one left.may.is) ∙ sym is

-- what is opened has the number that was left
pub opened_number : {P M : Type 0} (store : P → Store) (left : Store) (name tree key : Key) (d : DbValue P M) → Opens store left name d → number_stored (store d.pages) tree key ≡ number_stored left tree key
opened_number store left name tree key d o =
    ap (λ (m : Maps). number_under m tree key) o.maps
    ∙ ap number_in (with_tree_alike default_name (trees_of (now left)) tree key)

-- .. by a crash
pub crash_leaves : (keep : ℕ) (before left : Store) (tree key : Key) (n : ℕ) → Crashes keep before left → n ≡ number_stored left tree key → MayLeave before tree key n
crash_leaves keep before left tree key n crash is = record {
  left = left.base;
  may = may_leave_crashed _ _ _ crash;
  is = is ∙ ap (λ (x : State). number_under (trees_of x) tree key) (ap now crash.is ∙ sym (ap (λ (s : Store). s.base) crash.is));
}

pub leaves_number : {P M : Type 0} (store : P → Store) (flushes : Bool) (old new : DbValue P M) (tree key : Key) (n : ℕ) → (flushes ≡ false → new ≡ old) → (flushes ≡ true → crash_states (store new.pages) ≡ now (store new.pages) ∷ [])
    → n ≡ number_stored (store new.pages) tree key → LeavesNumber flushes (store old.pages) (store new.pages) tree key n
leaves_number {P = P} {M = M} store flushes old new tree key n same one is = record {
  same = λ f. ap (λ (d : DbValue P M). store d.pages) (same f);
  one = λ f m left. leaves_one (store new.pages) tree key n m (one f) is left;
}

-- ---- the whole

not_below : (first by raised found : ℕ) → raised ≡ first + by → found ≡ raised → first ≤ found
not_below first by raised found e f = omega arith

not_above : (raised found : ℕ) → found ≡ raised → found ≤ raised
not_above raised found e = omega arith

above_same : (a b c : ℕ) → a ≡ b → c ≤ b → c ≤ a
above_same a b c e l = omega arith

module _ {P M : Type 0} (store : P → Store) (s : StateValue P M) (tree : Tree) (key : Key) (by raised found : ℕ) where
  abbrev first : ℕ
  first = number_under (maps_from s.opening.contents) tree.name key

  pub survives : (flushes : Bool) (new : Store) → IsDb store s.machine.db → raised ≡ number_stored (store s.machine.db.pages) tree.name key → LeavesNumber flushes (store s.machine.db.pages) new tree.name key raised → MayLeave new tree.name key found
      → IsRaised store tree key by s → Survives flushes first by raised found
  survives flushes new sound is leaves may r = go flushes leaves
    where
      there : raised ≡ number_under (maps_now store s.machine) tree.name key
      there = is ∙ ap (λ (m : Maps). number_under m tree.name key) (sym (maps_are store (λ (o : M) k value bytes. None) s.machine.db sound))

      all : raised ≡ first + by
      all = there ∙ r.stands

      go : (b : Bool) → LeavesNumber b (store s.machine.db.pages) new tree.name key raised → Survives b first by raised found
      go true l =
          let same : found ≡ raised = l.one refl found may in
          record { all = all; least = not_below first by raised found all same; most = not_above raised found same; flushed = λ e. same }
      go false l =
          let left : MayLeave (store s.machine.db.pages) tree.name key found = subst (λ (x : Store). MayLeave x tree.name key found) (l.same refl) may in
          let between = r.safe left.left left.may in
          record {
            all = all;
            least = above_same found _ first left.is between.0;
            most = subst (λ n. found ≤ n) (sym there) (subst (λ n. n ≤ number_under (maps_now store s.machine) tree.name key) (sym left.is) between.1);
            flushed = λ e. false_true e;
          }

  -- .. of the database that was taken out of the state
  pub survives_from : (flushes : Bool) (d : DbValue P M) (new : Store) (called : Key) → called ≡ tree.name → d ≡ s.machine.db → IsDb store s.machine.db → raised ≡ number_stored (store d.pages) tree.name key
      → LeavesNumber flushes (store d.pages) new tree.name key raised → MayLeave new called key found → IsRaised store tree key by s → Survives flushes first by raised found
  survives_from flushes d new called name same sound is leaves may r =
      survives flushes new sound (subst (λ (x : DbValue P M). raised ≡ number_stored (store x.pages) tree.name key) same is) (subst (λ (x : DbValue P M). LeavesNumber flushes (store x.pages) new tree.name key raised) same leaves)
      (subst (λ n. MayLeave new n key found) name may) r
