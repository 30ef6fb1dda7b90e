-- What the removal of all keys within two bounds makes of the map.
use Rattle.std.proofs.Common.{◌≡◌, ◌≢◌, ℕ, suc, Bool, true, false, not, ◌&&◌, cond, T, [], ◌∷◌, append-nil, length, Option, Some, None, is_some, Less, Equal, Greater, is_eq, sym, refl, ap, ◌∙◌, subst}
use Rattle.std.specs.FinMap.Entries.{find, is_sorted, same_entries, where_key, is_sorted-where_key, find-where_key}
use Rattle.std.specs.Ordering.{eq_by_cmp, ordering_reverse}
use Rattle.std.specs.declared.cmp.Ordering.{Ordering}
use Rattle.std.specs.declared.ops.Bound.{Bound}
use Rattle.sled_nodes.proofs.Basics.{of_true, key_total, key_same}
use Rattle.sled_nodes.specs.Among.{is_from, is_up_to}
use Rattle.sled_nodes.specs.Order.{Key, key_cmp}
use Rattle.sled_nodes.specs.Node.{without}
use Rattle.sled_store.specs.Store.{Store}
use Rattle.sled_store.specs.theory.Facts.{put_name_here, put_name_elsewhere}
use Rattle.sled_model.specs.Maps.{Map, Merge}
use Rattle.sled_model.specs.Groups.{writes_on, after_write_on, after_writes, DecidesGroup}
use Rattle.sled_model.specs.Refusal.{is_number, must_refuse_of}
use Rattle.sled_model.specs.State.{State, NamedTree, maps_of}
use Rattle.sled_model.specs.declared.reply.Reply.TheVariants.{Done}
use Rattle.sled_model.specs.declared.tree.Tree.{Tree}
use Rattle.tree_reads.specs.Ranges.{pairs_within}
use Rattle.sled.specs.Values.{DbValue, db_state}
use Rattle.sled.specs.Sound.{IsDb}
use Rattle.sled.specs.ManyKeys.{RemovesWithin}
use Rattle.sled.specs.Removals.{removals, removals_within, range_group, RangeRemoved}
use Rattle.sled.proofs.Clearing.{map_in, after_removal, left_over}
use Rattle.sled.proofs.Promising.{remove_takes}
use Rattle.sled.proofs.Trees.{maps_ascend, current}

-- ---- maps

-- the map without the keys of these pairs, one after the other
abbrev without_all : Map → Map → Map
without_all [] m = m
without_all (p ∷ ps) m = without_all ps (without p.0 m)

sorted_all : (ps m : Map) → T (is_sorted key_cmp m) → T (is_sorted key_cmp (without_all ps m))
sorted_all [] m sorted = sorted
sorted_all (p ∷ ps) m sorted = sorted_all ps (without p.0 m) (is_sorted-where_key key_cmp (λ x. not (eq_by_cmp key_cmp p.0 x)) m sorted)

find_where : (p : Key → Bool) (q : Key) (m : Map) → find key_cmp q (where_key key_cmp p m) ≡ cond (p q) (find key_cmp q m) None
find_where p q m = find-where_key key_cmp p q (λ x e. ap p (sym (key_same q x e))) m

abbrev unless : Option Key → Option Key → Option Key
unless gone value = cond (is_some gone) None value

-- a key is found in it if it is none of theirs
find_all : (ps m : Map) (q : Key) → find key_cmp q (without_all ps m) ≡ unless (find key_cmp q ps) (find key_cmp q m)
find_all [] m q = refl
find_all (p ∷ ps) m q =
    find_all ps (without p.0 m) q
    ∙ ap (unless (find key_cmp q ps)) (find_where (λ x. not (eq_by_cmp key_cmp p.0 x)) q m ∙ ap (λ b. cond (not b) (find key_cmp q m) None) (turned p.0 q))
    ∙ go (eq_by_cmp key_cmp q p.0) (find key_cmp q ps) (find key_cmp q m)
  where
    back : (o : Ordering) → is_eq (ordering_reverse o) ≡ is_eq o
    back Less = refl
    back Equal = refl
    back Greater = refl

    turned : (a b : Key) → eq_by_cmp key_cmp a b ≡ eq_by_cmp key_cmp b a
    turned a b = ap is_eq (key_total.antisymm a b) ∙ back (key_cmp b a)

    go : (b : Bool) (gone value : Option Key) → unless gone (cond (not b) value None) ≡ unless (cond b (Some p.1) gone) value
    go true None value = refl
    go true (Some v) value = refl
    go false gone value = refl

without_these : (within : Key → Bool) (m : Map) → T (is_sorted key_cmp m) → without_all (where_key key_cmp within m) m ≡ where_key key_cmp (λ k. not (within k)) m
without_these within m sorted =
    same_entries key_cmp key_total key_same (without_all (where_key key_cmp within m) m) (where_key key_cmp (λ k. not (within k)) m) (sorted_all (where_key key_cmp within m) m sorted) (is_sorted-where_key key_cmp (λ k. not (within k)) m sorted) (λ q.
    find_all (where_key key_cmp within m) m q
    ∙ ap (λ o. unless o (find key_cmp q m)) (find_where within q m)
    ∙ go (within q) (find key_cmp q m)
    ∙ sym (find_where (λ k. not (within k)) q m)
    )
  where
    go : (b : Bool) (value : Option Key) → unless (cond b value None) value ≡ cond (not b) value None
    go true None = refl
    go true (Some v) = refl
    go false value = refl

as_many : (pairs : Map) → length (removals pairs) ≡ length pairs
as_many [] = refl
as_many (p ∷ ps) = ap suc (as_many ps)

-- ---- states

module _ (tree : Tree) where
  -- the tree has this map
  pub record HasMap (s : State) (m : Map) : Type 0 where
    pub named : NamedTree
    pub there : s.trees tree.name ≡ Some named
    pub is : named.map ≡ m

  -- and all others are as they were
  pub record Removed (s : State) (m : Map) (after : State) : Type 0 where
    pub has : HasMap after m
    pub others : (name : Key) → name ≢ tree.name → maps_of after name ≡ maps_of s name

  removed_all : (ps : Map) (s : State) (t : NamedTree) → s.trees tree.name ≡ Some t → T (is_sorted key_cmp t.map) → Removed s (without_all ps t.map) (after_writes (writes_on tree (removals ps)) s)
  removed_all [] s t there sorted = record { has = record { named = t; there = there; is = refl }; others = λ name off. refl }
  removed_all (p ∷ ps) s t there sorted =
      let out = remove_takes t.merge p.0 t.map sorted in
      let next = after_removal s tree.name t p.0 in
      let k = removed_all ps next (left_over t p.0) (put_name_here s.trees tree.name (Some (left_over t p.0))) (subst (λ (m : Map). T (is_sorted key_cmp m)) (sym out) (is_sorted-where_key key_cmp (λ x. not (eq_by_cmp key_cmp p.0 x)) t.map sorted)) in
      subst (λ (z : State). Removed s (without_all ps (without p.0 t.map)) (after_writes (writes_on tree (removals ps)) z)) (sym (ap (λ o. after_write_on o (record { tree = tree; key = p.0; value = None }) s) there)) (record {
        has = record { named = k.has.named; there = k.has.there; is = k.has.is ∙ ap (without_all ps) out };
        others = λ name off. k.others name off ∙ ap map_in (put_name_elsewhere s.trees tree.name name (Some (left_over t p.0)) off);
      })

pub there_is : (s : State) (t : Tree) → must_refuse_of s (t ∷ []) ≡ None → (named : NamedTree) × (s.trees t.name ≡ Some named)
there_is s t tested = go (s.trees t.name) refl
  where
    go : (o : Option NamedTree) → s.trees t.name ≡ o → (named : NamedTree) × (s.trees t.name ≡ Some named)
    go (Some named) e = (named, e)
    go None e = absurd (apart (ap (is_number t.number) (sym e) ∙ current s t tested))
      where
        apart : false ≡ true → ⊥
        apart e = cc

-- ---- the call

module _ {P M : Type 0} (store : P → Store) (meant : M → Merge) (old : DbValue P M) (db : IsDb store old) (tree : Tree) (lo hi : Bound Key) (count : ℕ) (new : DbValue P M) where
  pub range_changes : RangeRemoved store meant old tree lo hi count new → RemovesWithin store meant old tree lo hi count new
  range_changes r = record {
    before = named.map;
    was = was;
    after = all.has.named.map;
    becomes = ap (λ s. maps_of s tree.name) is ∙ ap map_in all.has.there;
    is = (r.counts ∙ ap (λ o. length (removals_within lo hi o)) has.1 ∙ as_many (pairs_within lo hi named.map), all.has.is ∙ without_these (λ key. is_from lo key && is_up_to hi key) named.map sorted);
    others = λ name off. ap (λ s. maps_of s name) is ∙ all.others name off;
  }
    where
      d : DecidesGroup (db_state store meant old) (range_group store meant old tree lo hi) Done (db_state store meant new) r.group.maps
      d = r.group.decides (λ n. None) 0

      has : (named : NamedTree) × ((db_state store meant old).trees tree.name ≡ Some named)
      has = there_is (db_state store meant old) tree d.free

      named : NamedTree
      named = has.0

      was : maps_of (db_state store meant old) tree.name ≡ Some named.map
      was = ap map_in has.1

      sorted : T (is_sorted key_cmp named.map)
      sorted = of_true (is_sorted key_cmp named.map) ((maps_ascend store meant old db).is tree.name named.map was)

      all : Removed tree (db_state store meant old) (without_all (pairs_within lo hi named.map) named.map) (after_writes (writes_on tree (removals (pairs_within lo hi named.map))) (db_state store meant old))
      all = removed_all tree (pairs_within lo hi named.map) (db_state store meant old) named has.1 sorted

      is : db_state store meant new ≡ after_writes (writes_on tree (removals (pairs_within lo hi named.map))) (db_state store meant old)
      is =
          d.is
          ∙ ap (λ ws. after_writes ws (db_state store meant old)) (append-nil (writes_on tree (removals_within lo hi ((db_state store meant old).trees tree.name))))
          ∙ ap (λ o. after_writes (writes_on tree (removals_within lo hi o)) (db_state store meant old)) has.1
