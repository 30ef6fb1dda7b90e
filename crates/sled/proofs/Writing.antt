-- What batches and groups make of the maps.
use Rattle.std.proofs.Common.{◌≡◌, Bool, true, false, not, cond, T, List, [], ◌∷◌, Option, Some, None, option_map, Result, Ok, Err, OnOk, sym, refl, ap, ◌∙◌, subst}
use Rattle.std.specs.FinMap.Entries.{is_sorted, is_sorted-put, is_sorted-where_key}
use Rattle.std.specs.Ordering.{eq_by_cmp}
use Rattle.std.specs.Str.{bytes_eq}
use Rattle.sled_nodes.proofs.Basics.{of_true, key_total}
use Rattle.sled_nodes.specs.Order.{Key, key_cmp}
use Rattle.sled_nodes.specs.declared.error.Error.{Error}
use Rattle.sled_batch.specs.Batch.{Writes}
use Rattle.sled_store.specs.Store.{Store}
use Rattle.sled_store.specs.theory.Facts.{same_name, name_itself, other_name, put_name_here}
use Rattle.sled_model.specs.Maps.{Map, Merge}
use Rattle.sled_model.specs.Answer.{answer_of}
use Rattle.sled_model.specs.Groups.{Write, writes_on, writes_of, call_with, after_write_on, after_writes}
use Rattle.sled_model.specs.Refusal.{must_refuse_of}
use Rattle.sled_model.specs.State.{State, NamedTree, maps_of}
use Rattle.sled_model.specs.declared.tree.Tree.{Tree}
use Rattle.sled_model.proofs.Shapes.{after_write, answer_of_write}
use Rattle.sled.specs.Values.{DbValue, db_state}
use Rattle.sled.specs.Sound.{IsDb}
use Rattle.sled.specs.Groups.{GroupDecided}
use Rattle.sled.specs.Promises.{with_value}
use Rattle.sled.specs.Written.{with_writes, map_after_batches, WritesMap, WritesMaps}
use Rattle.sled.proofs.Bounding.{there_is}
use Rattle.sled.proofs.Clearing.{map_in}
use Rattle.sled.proofs.Promising.{insert_puts, remove_takes}
use Rattle.sled.proofs.Trees.{maps_ascend}
use Rattle.sled.proofs.Written.{after_both, writes_elsewhere}

-- ---- one write

write_is : (merge : Option Merge) (key : Key) (value : Option Key) (m : Map) → T (is_sorted key_cmp m) → (answer_of merge (call_with key value) m).map ≡ with_value key value m
write_is merge key None m sorted = remove_takes merge key m sorted
write_is merge key (Some value) m sorted = insert_puts merge key value m sorted

value_sorted : (key : Key) (value : Option Key) (m : Map) → T (is_sorted key_cmp m) → T (is_sorted key_cmp (with_value key value m))
value_sorted key None m sorted = is_sorted-where_key key_cmp (λ x. not (eq_by_cmp key_cmp key x)) m sorted
value_sorted key (Some value) m sorted = is_sorted-put key_cmp key_total key value m sorted

-- ---- those of a batch

-- the pairs of a map rise by key, if there is one
abbrev Ascends : Option Map → Type 0
Ascends None = Unit {0}
Ascends (Some m) = T (is_sorted key_cmp m)

batch_sorted : (ws : Writes) (o : Option Map) → Ascends o → Ascends (option_map (with_writes ws) o)
batch_sorted ws None sorted = tt
batch_sorted [] (Some m) sorted = sorted
batch_sorted (w ∷ ws) (Some m) sorted = batch_sorted ws (Some (with_value w.0 w.1 m)) (value_sorted w.0 w.1 m sorted)

batch_here : (tree : Tree) (ws : Writes) (s : State) (o : Option NamedTree) → s.trees tree.name ≡ o → Ascends (map_in o) → maps_of (after_writes (writes_on tree ws) s) tree.name ≡ option_map (with_writes ws) (map_in o)
batch_here tree [] s None there sorted = ap map_in there
batch_here tree [] s (Some t) there sorted = ap map_in there
batch_here tree (w ∷ ws) s None there sorted =
    let first : Write = record { tree = tree; key = w.0; value = w.1 } in
    batch_here tree ws (after_write first s) None (ap (λ o. (after_write_on o first s).trees tree.name) there ∙ there) sorted
batch_here tree (w ∷ ws) s (Some t) there sorted =
    let first : Write = record { tree = tree; key = w.0; value = w.1 } in
    let next : NamedTree = record t { map = (answer_of_write t first).map } in
    let is : next.map ≡ with_value w.0 w.1 t.map = write_is t.merge w.0 w.1 t.map sorted in
    batch_here tree ws (after_write first s) (Some next) (ap (λ o. (after_write_on o first s).trees tree.name) there ∙ put_name_here s.trees tree.name (Some next)) (subst (λ (m : Map). T (is_sorted key_cmp m)) (sym is) (value_sorted w.0 w.1 t.map sorted))
    ∙ ap (λ m. Some (with_writes ws m)) is

batch_maps : (b : Tree × Writes) (s : State) → Ascends (maps_of s b.0.name) → (name : Key) → maps_of (after_writes (writes_on b.0 b.1) s) name ≡ cond (bytes_eq name b.0.name) (option_map (with_writes b.1) (maps_of s name)) (maps_of s name)
batch_maps b s sorted name = go (bytes_eq name b.0.name) refl
  where
    go : (same : Bool) → bytes_eq name b.0.name ≡ same → maps_of (after_writes (writes_on b.0 b.1) s) name ≡ cond same (option_map (with_writes b.1) (maps_of s name)) (maps_of s name)
    go true e = let is = same_name name b.0.name e in ap (maps_of (after_writes (writes_on b.0 b.1) s)) is ∙ batch_here b.0 b.1 s (s.trees b.0.name) refl sorted ∙ ap (λ n. option_map (with_writes b.1) (maps_of s n)) (sym is)
    go false e = ap map_in (writes_elsewhere b.0 b.1 s name (λ is. apart (sym e ∙ ap (λ n. bytes_eq n b.0.name) is ∙ name_itself b.0.name)))
      where
        apart : false ≡ true → ⊥
        apart e = cc

-- ---- and of a group

group_maps : (bs : List (Tree × Writes)) (s : State) → ((name : Key) → Ascends (maps_of s name)) → (name : Key) → maps_of (after_writes (writes_of bs) s) name ≡ map_after_batches bs name (maps_of s name)
group_maps [] s sorted name = refl
group_maps (b ∷ bs) s sorted name =
    ap (λ z. maps_of z name) (after_both (writes_on b.0 b.1) (writes_of bs) s)
    ∙ group_maps bs (after_writes (writes_on b.0 b.1) s) (λ n. subst Ascends (sym (batch_maps b s (sorted b.0.name) n)) (either (bytes_eq n b.0.name) (maps_of s n) (sorted n))) name
    ∙ ap (map_after_batches bs name) (batch_maps b s (sorted b.0.name) name)
  where
    either : (same : Bool) (o : Option Map) → Ascends o → Ascends (cond same (option_map (with_writes b.1) o) o)
    either true o sorted = batch_sorted b.1 o sorted
    either false o sorted = sorted

-- ---- in a database

module _ {P M : Type 0} (store : P → Store) (meant : M → Merge) (old new : DbValue P M) where
  pub group_writes : IsDb store old → (batches : List (Tree × Writes)) → GroupDecided store meant old batches new → WritesMaps store meant old batches new
  group_writes db batches g name = ap (λ s. maps_of s name) (g.decides (λ n. None) 0).is ∙ group_maps batches (db_state store meant old) (λ n. ascends n (maps_of (db_state store meant old) n) refl) name
    where
      ascends : (n : Key) (o : Option Map) → maps_of (db_state store meant old) n ≡ o → Ascends o
      ascends n None e = tt
      ascends n (Some m) e = of_true (is_sorted key_cmp m) ((maps_ascend store meant old db).is n m e)

  -- .. where the method knows the database by its fields
  pub group_wrote : (inside : DbValue P M) → inside ≡ old → IsDb store inside → (batches : List (Tree × Writes)) {A : Type 0} (r : Result A Error) → OnOk r (GroupDecided store meant old batches new) → OnOk r (WritesMaps store meant old batches new)
  group_wrote inside same db batches (Ok done) g = group_writes (subst (IsDb store) same db) batches g
  group_wrote inside same db batches (Err e) g = tt

  -- a batch of one tree
  pub batch_writes : (tree : Tree) (writes : Writes) → must_refuse_of (db_state store meant old) (tree ∷ []) ≡ None → WritesMaps store meant old ((tree, writes) ∷ []) new → WritesMap store meant old tree writes new
  batch_writes tree writes tested wrote =
      let has = there_is (db_state store meant old) tree tested in record {
        before = has.0.map;
        was = ap map_in has.1;
        after = with_writes writes has.0.map;
        becomes = wrote tree.name ∙ ap (λ b. cond b (option_map (with_writes writes) (maps_of (db_state store meant old) tree.name)) (maps_of (db_state store meant old) tree.name)) (name_itself tree.name) ∙ ap (λ o. option_map (with_writes writes) (map_in o)) has.1;
        is = refl;
        others = λ name off. wrote name ∙ ap (λ b. cond b (option_map (with_writes writes) (maps_of (db_state store meant old) name)) (maps_of (db_state store meant old) name)) (other_name name tree.name off);
      }

  pub batch_wrote : (tree : Tree) (writes : Writes) → must_refuse_of (db_state store meant old) (tree ∷ []) ≡ None → {A : Type 0} (r : Result A Error) → OnOk r (WritesMaps store meant old ((tree, writes) ∷ []) new) → OnOk r (WritesMap store meant old tree writes new)
  batch_wrote tree writes tested (Ok done) w = batch_writes tree writes tested w
  batch_wrote tree writes tested (Err e) w = tt
