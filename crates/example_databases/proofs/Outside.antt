-- What is left of a map once the keys within two bounds were removed.
use Rattle.std.proofs.Common.{◌≡◌, ◌&&◌, ℕ, length, Bool, true, false, not, cond, T, List, [], ◌∷◌, Option, Some, None, option_map, unwrap_or, is_eq, is_lt, map, sym, refl, ap, ◌∙◌, subst}
use Rattle.std.proofs.Math.Path.{fun_ext}
use Rattle.std.proofs.lemmas.List.{length-map}
use Rattle.std.specs.FinMap.Entries.{find, is_sorted, below_all, same_entries, is_sorted-where_key, find-where_key}
use Rattle.std.specs.Str.{bytes_eq}
use Rattle.std.specs.declared.ops.Bound.{Bound}
use Rattle.sled_nodes.proofs.Basics.{key_total, key_same}
use Rattle.sled_nodes.specs.Among.{is_from, is_up_to}
use Rattle.sled_nodes.specs.Order.{Key, key_cmp}
use Rattle.sled_store.specs.Store.{Store}
use Rattle.sled_store.specs.theory.Facts.{same_name, name_itself}
use Rattle.sled_model.specs.Maps.{Map, Merge}
use Rattle.sled_model.specs.Groups.{writes_on, after_writes}
use Rattle.sled_model.specs.State.{State, NamedTree, maps_of}
use Rattle.sled_model.specs.declared.tree.Tree.{Tree}
use Rattle.tree_reads.specs.Ranges.{pairs_within}
use Rattle.sled.specs.Removals.{removals, removals_within, RangeRemoved}
use Rattle.sled.specs.Sound.{MapsAscend}
use Rattle.sled.specs.Values.{DbValue, db_state}
use Rattle.sled.proofs.Written.{after_both, writes_elsewhere}
use Rattle.example_parts.specs.Reads.{maps_now}
use Rattle.example_parts.proofs.Maps.{first_there}
use Rattle.example_parts.proofs.Written.{Holds, batch_there}
use Rattle.example_databases.specs.Ranges.{pairs_outside, outside_alone, IsCountWithin}

-- ---- maps

-- a removal, where there is a value
abbrev removal_of : Option Key → Option (Option Key)
removal_of None = None
removal_of (Some value) = Some None

removed_found : (q : Key) (ps : Map) → find key_cmp q (removals ps) ≡ removal_of (find key_cmp q ps)
removed_found q [] = refl
removed_found q (p ∷ ps) = ap (cond (is_eq (key_cmp q p.0)) (Some None)) (removed_found q ps) ∙ go (is_eq (key_cmp q p.0))
  where
    go : (b : Bool) → cond b (Some None) (removal_of (find key_cmp q ps)) ≡ removal_of (cond b (Some p.1) (find key_cmp q ps))
    go true = refl
    go false = refl

-- the keys of these pairs rise, whatever stands at them
removed_below : (k : Key) (ps : Map) → below_all key_cmp k (removals ps) ≡ below_all key_cmp k ps
removed_below k [] = refl
removed_below k (p ∷ ps) = ap (λ b. is_lt (key_cmp k p.0) && b) (removed_below k ps)

removed_rises : (ps : Map) → is_sorted key_cmp (removals ps) ≡ is_sorted key_cmp ps
removed_rises [] = refl
removed_rises (p ∷ ps) = ap (λ b. b && is_sorted key_cmp (removals ps)) (removed_below p.0 ps) ∙ ap (λ b. below_all key_cmp p.0 ps && b) (removed_rises ps)

module _ (lo hi : Bound Key) where
  abbrev is_within : Key → Bool
  is_within k = is_from lo k && is_up_to hi k

  left_found : (q : Key) (m : Map) → unwrap_or (find key_cmp q (removals (pairs_within lo hi m))) (find key_cmp q m) ≡ find key_cmp q (pairs_outside lo hi m)
  left_found q m =
      ap (λ o. unwrap_or o (find key_cmp q m)) (removed_found q (pairs_within lo hi m) ∙ ap removal_of (find-where_key key_cmp is_within q (λ x e. ap is_within (sym (key_same q x e))) m))
      ∙ go (is_within q) (find key_cmp q m)
      ∙ sym (find-where_key key_cmp (λ k. not (is_within k)) q (λ x e. ap (λ k. not (is_within k)) (sym (key_same q x e))) m)
    where
      go : (b : Bool) (o : Option Key) → unwrap_or (removal_of (cond b o None)) o ≡ cond (not b) o None
      go true None = refl
      go true (Some v) = refl
      go false None = refl
      go false (Some v) = refl

  -- a tree whose keys within the bounds were removed has just its pairs outside of them
  left_outside : (tree : Tree) (old new : State) (t : NamedTree) → old.trees tree.name ≡ Some t → new ≡ after_writes (writes_on tree (removals (pairs_within lo hi t.map))) old → T (is_sorted key_cmp t.map)
      → ((name : Key) (map : Map) → maps_of new name ≡ Some map → T (is_sorted key_cmp map)) → maps_of new ≡ outside_alone tree.name lo hi (maps_of old)
  left_outside tree old new t there is rises all-rise = fun_ext (λ name. go name (bytes_eq name tree.name) refl)
    where
      ws : List (Key × Option Key)
      ws = removals (pairs_within lo hi t.map)

      held : Holds new tree.name (λ q. unwrap_or (find key_cmp q ws) (find key_cmp q t.map))
      held = subst (λ s. Holds s tree.name (λ q. unwrap_or (find key_cmp q ws) (find key_cmp q t.map))) (sym is)
          (batch_there tree ws old (λ q. find key_cmp q t.map) (subst T (sym (removed_rises (pairs_within lo hi t.map))) (is_sorted-where_key key_cmp is_within t.map rises)) (record { tree = t; there = there; has = λ q. refl }))

      same : held.tree.map ≡ pairs_outside lo hi t.map
      same = same_entries key_cmp key_total key_same held.tree.map (pairs_outside lo hi t.map) (all-rise tree.name held.tree.map (ap (option_map (λ (n : NamedTree). n.map)) held.there))
          (is_sorted-where_key key_cmp (λ k. not (is_within k)) t.map rises) (λ q. held.has q ∙ left_found q t.map)

      go : (name : Key) (b : Bool) → bytes_eq name tree.name ≡ b → maps_of new name ≡ cond b (option_map (pairs_outside lo hi) (maps_of old name)) (maps_of old name)
      go name true e =
          let named : name ≡ tree.name = same_name name tree.name e in
          ap (maps_of new) named ∙ ap (option_map (λ (n : NamedTree). n.map)) held.there ∙ ap Some same
          ∙ sym (ap (option_map (pairs_outside lo hi)) (ap (maps_of old) named ∙ ap (option_map (λ (n : NamedTree). n.map)) there))
      go name false e =
          ap (λ (s : State). maps_of s name) is
          ∙ ap (option_map (λ (n : NamedTree). n.map)) (writes_elsewhere tree ws old name (λ named. apart (sym e ∙ ap (λ n. bytes_eq n tree.name) named ∙ name_itself tree.name)))
        where
          apart : false ≡ true → ⊥
          apart f = cc

  -- ---- and of a database

  module _ {P M : Type 0} (store : P → Store) (meant : M → Merge) (old : DbValue P M) (tree : Tree) (count : ℕ) (new : DbValue P M) (r : RangeRemoved store meant old tree lo hi count new) where
    pub is_left : MapsAscend (maps_now store meant old) → MapsAscend (maps_now store meant new) → maps_now store meant new ≡ outside_alone tree.name lo hi (maps_now store meant old)
    is_left before after =
        let made = r.group.decides (λ n. None) 0 in
        let n = first_there (db_state store meant old) tree [] made.free in
        let ws = removals_within lo hi ((db_state store meant old).trees tree.name) in
        left_outside tree (db_state store meant old) (db_state store meant new) n.0 n.1
        (made.is ∙ after_both (writes_on tree ws) [] (db_state store meant old) ∙ ap (λ o. after_writes (writes_on tree (removals_within lo hi o)) (db_state store meant old)) n.1)
        (subst T (sym (before.is tree.name n.0.map (ap (option_map (λ (t : NamedTree). t.map)) n.1))) tt) (λ name map there. subst T (sym (after.is name map there)) tt)

    pub counts_within : IsCountWithin tree.name lo hi (maps_now store meant old) count
    counts_within =
        let made = r.group.decides (λ n. None) 0 in
        let n = first_there (db_state store meant old) tree [] made.free in
        record {
          map = n.0.map;
          there = ap (option_map (λ (t : NamedTree). t.map)) n.1;
          is = r.counts ∙ ap (λ o. length (removals_within lo hi o)) n.1 ∙ length-map (pairs_within lo hi n.0.map) (λ (p : Key × Key). (p.0, None));
        }
