-- What pairs that are put one after the other make of a map, and of its tree when they are written in a batch.
use Rattle.std.proofs.Common.{◌≡◌, ℕ, ◌+◌, ◌<◌, ◌≤◌, min, nat_lt, length, take, drop, Bool, true, false, cond, T, [], ◌∷◌, ◌++◌, Option, Some, None, option_map, unwrap_or, is_eq, sym, refl, ap, ◌∙◌, subst, arith}
use Rattle.std.proofs.Math.Path.{fun_ext}
use Rattle.std.proofs.Math.Seq.{take-add}
use Rattle.std.proofs.lemmas.Bool.Decides.{nat_tests}
use Rattle.std.proofs.lemmas.List.{drop-drop, drop_all, take_min}
use Rattle.std.specs.FinMap.Entries.{find, put, is_sorted, find-put, is_sorted-put, same_entries}
use Rattle.std.specs.Str.{bytes_eq}
use Rattle.sled_nodes.proofs.Basics.{key_total, key_same}
use Rattle.sled_nodes.specs.Order.{Key, key_cmp}
use Rattle.sled_batch.specs.Batch.{Writes}
use Rattle.sled_store.specs.theory.Facts.{same_name, name_itself}
use Rattle.sled_model.specs.Maps.{Map, Maps}
use Rattle.sled_model.specs.Groups.{writes_on, after_writes}
use Rattle.sled_model.specs.State.{State, NamedTree, maps_of}
use Rattle.sled_model.specs.declared.tree.Tree.{Tree}
use Rattle.sled.proofs.Written.{writes_elsewhere}
use Rattle.example_parts.proofs.Written.{Holds, batch_there}
use Rattle.example_databases.specs.Batches.{put_all, with_pairs, written}

-- ---- maps

-- what a key has after these pairs, by what it had
abbrev after : Key → Map → Option Key → Option Key
after q [] value = value
after q (p ∷ ps) value = after q ps (cond (is_eq (key_cmp q p.0)) (Some p.1) value)

put_found : (q : Key) (ps m : Map) → find key_cmp q (put_all ps m) ≡ after q ps (find key_cmp q m)
put_found q [] m = refl
put_found q (p ∷ ps) m = put_found q ps (put key_cmp p.0 p.1 m) ∙ ap (after q ps) (find-put key_cmp key_total q p.0 p.1 m)

written_found : (q : Key) (ps : Map) (ws : Writes) (value : Option Key) → unwrap_or (find key_cmp q (written ps ws)) value ≡ after q ps (unwrap_or (find key_cmp q ws) value)
written_found q [] ws value = refl
written_found q (p ∷ ps) ws value =
    written_found q ps (put key_cmp p.0 (Some p.1) ws) value
    ∙ ap (λ o. after q ps (unwrap_or o value)) (find-put key_cmp key_total q p.0 (Some p.1) ws)
    ∙ ap (after q ps) (go (is_eq (key_cmp q p.0)))
  where
    go : (b : Bool) → unwrap_or (cond b (Some (Some p.1)) (find key_cmp q ws)) value ≡ cond b (Some p.1) (unwrap_or (find key_cmp q ws) value)
    go true = refl
    go false = refl

put_rises : (ps m : Map) → T (is_sorted key_cmp m) → T (is_sorted key_cmp (put_all ps m))
put_rises [] m rises = rises
put_rises (p ∷ ps) m rises = put_rises ps (put key_cmp p.0 p.1 m) (is_sorted-put key_cmp key_total p.0 p.1 m rises)

written_rises : (ps : Map) (ws : Writes) → T (is_sorted key_cmp ws) → T (is_sorted key_cmp (written ps ws))
written_rises [] ws rises = rises
written_rises (p ∷ ps) ws rises = written_rises ps (put key_cmp p.0 (Some p.1) ws) (is_sorted-put key_cmp key_total p.0 (Some p.1) ws rises)

put_more : (a b m : Map) → put_all (a ++ b) m ≡ put_all b (put_all a m)
put_more [] b m = refl
put_more (p ∷ a) b m = put_more a b (put key_cmp p.0 p.1 m)

-- ---- the maps of a database

pub with_none : (tree : Key) (maps : Maps) → with_pairs tree [] maps ≡ maps
with_none tree maps = fun_ext (λ name. go name (bytes_eq name tree) (maps name))
  where
    same : (o : Option Map) → option_map (put_all []) o ≡ o
    same None = refl
    same (Some m) = refl

    go : (name : Key) (b : Bool) (o : Option Map) → cond b (option_map (put_all []) o) o ≡ o
    go name true o = same o
    go name false o = refl

pub with_more : (tree : Key) (a b : Map) (maps : Maps) → with_pairs tree b (with_pairs tree a maps) ≡ with_pairs tree (a ++ b) maps
with_more tree a b maps = fun_ext (λ name. go (bytes_eq name tree) (maps name))
  where
    more : (o : Option Map) → option_map (put_all b) (option_map (put_all a) o) ≡ option_map (put_all (a ++ b)) o
    more None = refl
    more (Some m) = ap Some (sym (put_more a b m))

    go : (c : Bool) (o : Option Map) → cond c (option_map (put_all b) (cond c (option_map (put_all a) o) o)) (cond c (option_map (put_all a) o) o) ≡ cond c (option_map (put_all (a ++ b)) o) o
    go true o = more o
    go false o = refl

-- a tree whose map rises still once these pairs were written has all of them
pub batch_puts : (tree : Tree) (ps : Map) (old new : State) (t : NamedTree) → old.trees tree.name ≡ Some t → new ≡ after_writes (writes_on tree (written ps [])) old → T (is_sorted key_cmp t.map)
    → ((name : Key) (map : Map) → maps_of new name ≡ Some map → T (is_sorted key_cmp map)) → maps_of new ≡ with_pairs tree.name ps (maps_of old)
batch_puts tree ps old new t there is rises all-rise = fun_ext (λ name. go name (bytes_eq name tree.name) refl)
  where
    held : Holds new tree.name (λ q. unwrap_or (find key_cmp q (written ps [])) (find key_cmp q t.map))
    held = subst (λ s. Holds s tree.name (λ q. unwrap_or (find key_cmp q (written ps [])) (find key_cmp q t.map))) (sym is)
        (batch_there tree (written ps []) old (λ q. find key_cmp q t.map) (written_rises ps [] tt) (record { tree = t; there = there; has = λ q. refl }))

    same : held.tree.map ≡ put_all ps t.map
    same = same_entries key_cmp key_total key_same held.tree.map (put_all ps t.map) (all-rise tree.name held.tree.map (ap (option_map (λ (n : NamedTree). n.map)) held.there)) (put_rises ps t.map rises)
        (λ q. held.has q ∙ written_found q ps [] (find key_cmp q t.map) ∙ sym (put_found q ps t.map))

    go : (name : Key) (b : Bool) → bytes_eq name tree.name ≡ b → maps_of new name ≡ cond b (option_map (put_all ps) (maps_of old name)) (maps_of old name)
    go name true e =
        let named : name ≡ tree.name = same_name name tree.name e in
        ap (maps_of new) named ∙ ap (option_map (λ (n : NamedTree). n.map)) held.there ∙ ap Some same
        ∙ sym (ap (option_map (put_all ps)) (ap (maps_of old) named ∙ ap (option_map (λ (n : NamedTree). n.map)) there))
    go name false e =
        ap (λ (s : State). maps_of s name) is
        ∙ ap (option_map (λ (n : NamedTree). n.map)) (writes_elsewhere tree (written ps []) old name (λ named. apart (sym e ∙ ap (λ n. bytes_eq n tree.name) named ∙ name_itself tree.name)))
      where
        apart : false ≡ true → ⊥
        apart f = cc

-- ---- batches of a list

drop_min : (n : ℕ) (xs : Map) → drop (min n (length xs)) xs ≡ drop n xs
drop_min n xs = go (nat_lt (length xs) n) refl
  where
    go : (b : Bool) → nat_lt (length xs) n ≡ b → drop (min n (length xs)) xs ≡ drop n xs
    go true e =
        let less : length xs < n = grind (arith, nat_tests) in
        let all : min n (length xs) ≡ length xs = omega (arith, less) in
        ap (λ m. drop m xs) all ∙ drop_all (length xs) xs (omega arith) ∙ sym (drop_all n xs (omega (arith, less)))
    go false e =
        let more : n ≤ length xs = grind (arith, nat_tests) in
        let all : min n (length xs) ≡ n = omega (arith, more) in
        ap (λ m. drop m xs) all

-- the next pairs of a list, at most so many, are those behind the ones before
pub next_taken : (size n : ℕ) (pairs rest : Map) → rest ≡ drop n pairs → take n pairs ++ take (min size (length rest)) rest ≡ take (n + size) pairs
next_taken size n pairs rest is = ap (λ l. take n pairs ++ l) (take_min size rest ∙ ap (take size) is) ∙ sym (take-add n size pairs)

pub next_left : (size n : ℕ) (pairs rest : Map) → rest ≡ drop n pairs → drop (min size (length rest)) rest ≡ drop (n + size) pairs
next_left size n pairs rest is = drop_min size rest ∙ ap (drop size) is ∙ drop-drop size n pairs
