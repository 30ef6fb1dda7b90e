-- What the writes of a batch make of a tree.
use Rattle.std.proofs.Common.{◌≡◌, Bool, true, false, not, cond, ◌&&◌, T, [], ◌∷◌, Option, Some, None, is_some, unwrap_or, Less, Equal, Greater, is_eq, sym, refl, ap, ◌∙◌}
use Rattle.std.specs.FinMap.Entries.{find, is_sorted, below_all, find-where_key}
use Rattle.std.specs.Ordering.{is_lt, ordering_reverse, eq_by_cmp}
use Rattle.std.specs.declared.cmp.Ordering.{Ordering}
use Rattle.sled_nodes.proofs.Basics.{key_total, key_same}
use Rattle.sled_nodes.specs.Order.{Key, key_cmp}
use Rattle.sled_nodes.specs.Node.{without}
use Rattle.sled_batch.specs.Batch.{Writes}
use Rattle.sled_store.specs.theory.Facts.{put_name_here}
use Rattle.sled_model.specs.Maps.{Map, Merge}
use Rattle.sled_model.specs.Answer.{answer_of, map_after}
use Rattle.sled_model.specs.Groups.{writes_on, call_with, after_write_on, after_writes}
use Rattle.sled_model.specs.State.{State, NamedTree}
use Rattle.sled_model.specs.declared.decision.Effect.TheVariants as effect
use Rattle.sled_model.specs.declared.tree.Tree.{Tree}
use Rattle.sled_model.proofs.Shapes.{after_write}
use Rattle.example_parts.proofs.Keys.{apart, insert_here, insert_there}

-- ---- one write

pub tied_back : (q k : Key) (o : Ordering) → key_cmp q k ≡ o → eq_by_cmp key_cmp k q ≡ is_eq o
tied_back q k Less e = ap is_eq (key_total.antisymm k q ∙ ap ordering_reverse e)
tied_back q k Equal e = ap is_eq (key_total.antisymm k q ∙ ap ordering_reverse e)
tied_back q k Greater e = ap is_eq (key_total.antisymm k q ∙ ap ordering_reverse e)

set : (merge : Option Merge) (q k v : Key) (m : Map) (o : Ordering) → key_cmp q k ≡ o → find key_cmp q (answer_of merge (call_with k (Some v)) m).map ≡ cond (is_eq o) (Some v) (find key_cmp q m)
set merge q k v m Less e = insert_there merge q k v m (apart q k (ap is_eq e))
set merge q k v m Equal e = ap (λ x. find key_cmp x (answer_of merge (call_with k (Some v)) m).map) (key_same q k e) ∙ insert_here merge k v m
set merge q k v m Greater e = insert_there merge q k v m (apart q k (ap is_eq e))

taken : (q k : Key) (m : Map) (o : Ordering) → key_cmp q k ≡ o → find key_cmp q (without k m) ≡ cond (is_eq o) None (find key_cmp q m)
taken q k m o e =
    find-where_key key_cmp (λ x. not (eq_by_cmp key_cmp k x)) q (λ x same. ap (λ z. not (eq_by_cmp key_cmp k z)) (sym (key_same q x same))) m
    ∙ ap (λ b. cond (not b) (find key_cmp q m) None) (tied_back q k o e)
    ∙ turn (is_eq o)
  where
    turn : (b : Bool) → cond (not b) (find key_cmp q m) None ≡ cond b None (find key_cmp q m)
    turn true = refl
    turn false = refl

removed : (merge : Option Merge) (q k : Key) (m : Map) (o : Ordering) → key_cmp q k ≡ o → find key_cmp q (answer_of merge (call_with k None) m).map ≡ cond (is_eq o) None (find key_cmp q m)
removed merge q k m o e = go (find key_cmp k m) refl
  where
    absent : (o : Ordering) → key_cmp q k ≡ o → find key_cmp k m ≡ None → find key_cmp q m ≡ cond (is_eq o) None (find key_cmp q m)
    absent Less e none = refl
    absent Equal e none = ap (λ x. find key_cmp x m) (key_same q k e) ∙ none
    absent Greater e none = refl

    go : (v : Option Key) → find key_cmp k m ≡ v → find key_cmp q (map_after (cond (is_some v) effect.Remove effect.Nothing) k m) ≡ cond (is_eq o) None (find key_cmp q m)
    go None none = absent o e none
    go (Some v) there = taken q k m o e

-- the key has what was written, and every other key what it had
written_at : (merge : Option Merge) (q k : Key) (v : Option Key) (m : Map) → find key_cmp q (answer_of merge (call_with k v) m).map ≡ cond (is_eq (key_cmp q k)) v (find key_cmp q m)
written_at merge q k None m = removed merge q k m (key_cmp q k) refl
written_at merge q k (Some v) m = set merge q k v m (key_cmp q k) refl

-- ---- the writes of a batch

-- what a key has after these writes, by what it had
abbrev over : Key → Writes → Option Key → Option Key
over q [] value = value
over q (w ∷ ws) value = over q ws (cond (is_eq (key_cmp q w.0)) w.1 value)

below_less : (o : Ordering) (b : Bool) → T (is_lt o && b) → (o ≡ Less) × T b
below_less Less b t = (refl, t)
below_less Equal b t = absurd t
below_less Greater b t = absurd t

sorted_both : (a b : Bool) → T (a && b) → T a × T b
sorted_both true b t = (tt, t)
sorted_both false b t = absurd t

-- a key below all others is not among them
unwritten : (k : Key) (ws : Writes) → T (below_all key_cmp k ws) → find key_cmp k ws ≡ None
unwritten k [] low = refl
unwritten k (w ∷ ws) low =
    let both = below_less (key_cmp k w.0) (below_all key_cmp k ws) low in
    ap (λ o. cond (is_eq o) (Some w.1) (find key_cmp k ws)) both.0 ∙ unwritten k ws both.1

-- of writes whose keys rise each key has one at most
over_found : (q : Key) (ws : Writes) (value : Option Key) → T (is_sorted key_cmp ws) → over q ws value ≡ unwrap_or (find key_cmp q ws) value
over_found q [] value rises = refl
over_found q (w ∷ ws) value rises =
    let both = sorted_both (below_all key_cmp w.0 ws) (is_sorted key_cmp ws) rises in
    over_found q ws (cond (is_eq (key_cmp q w.0)) w.1 value) both.1 ∙ go (key_cmp q w.0) refl both.0
  where
    go : (o : Ordering) → key_cmp q w.0 ≡ o → T (below_all key_cmp w.0 ws) → unwrap_or (find key_cmp q ws) (cond (is_eq o) w.1 value) ≡ unwrap_or (cond (is_eq o) (Some w.1) (find key_cmp q ws)) value
    go Less e low = refl
    go Equal e low = ap (λ x. unwrap_or (find key_cmp x ws) w.1) (key_same q w.0 e) ∙ ap (λ f. unwrap_or f w.1) (unwritten w.0 ws low)
    go Greater e low = refl

-- a tree of this name, by what its keys have
pub record Holds (s : State) (name : Key) (value : Key → Option Key) : Type 0 where
  pub tree : NamedTree
  pub there : s.trees name ≡ Some tree
  pub has : (q : Key) → find key_cmp q tree.map ≡ value q

write_holds : (tree : Tree) (k : Key) (v : Option Key) (s : State) (value : Key → Option Key) → Holds s tree.name value → Holds (after_write (record { tree = tree; key = k; value = v }) s) tree.name (λ q. cond (is_eq (key_cmp q k)) v (value q))
write_holds tree k v s value h = record {
  tree = record (h.tree) { map = (answer_of h.tree.merge (call_with k v) h.tree.map).map };
  there = ap (λ (o : Option NamedTree). (after_write_on o (record { tree = tree; key = k; value = v }) s).trees tree.name) h.there ∙ put_name_here s.trees tree.name _;
  has = λ q. written_at h.tree.merge q k v h.tree.map ∙ ap (cond (is_eq (key_cmp q k)) v) (h.has q);
}

batch_holds : (tree : Tree) (ws : Writes) (s : State) (value : Key → Option Key) → Holds s tree.name value → Holds (after_writes (writes_on tree ws) s) tree.name (λ q. over q ws (value q))
batch_holds tree [] s value h = h
batch_holds tree (w ∷ ws) s value h = batch_holds tree ws _ _ (write_holds tree w.0 w.1 s value h)

-- the keys of the tree have what the batch writes there, and else what they had
pub batch_there : (tree : Tree) (ws : Writes) (s : State) (value : Key → Option Key) → T (is_sorted key_cmp ws) → Holds s tree.name value → Holds (after_writes (writes_on tree ws) s) tree.name (λ q. unwrap_or (find key_cmp q ws) (value q))
batch_there tree ws s value rises h =
    let b = batch_holds tree ws s value h in
    record { tree = b.tree; there = b.there; has = λ q. b.has q ∙ over_found q ws (value q) rises }
