-- The maps of an export are the maps of the database.
use Rattle.std.proofs.Common.{◌≡◌, ◌∙◌, ℕ, Bool, true, false, cond, List, [], ◌∷◌, Option, Some, None, option_map, unwrap_or, sym, refl, ap, subst}
use Rattle.std.proofs.Math.Path.{fun_ext}
use Rattle.std.specs.Ordering.{eq_by_cmp}
use Rattle.std.specs.FinMap.Entries.{find}
use Rattle.std.specs.Str.{bytes_eq}
use Rattle.sled_nodes.proofs.Basics.{none_some}
use Rattle.sled_nodes.specs.Order.{Key, key_cmp}
use Rattle.sled_store.specs.Store.{Store, now}
use Rattle.sled_store.specs.theory.Facts.{same_name}
use Rattle.sled_model.specs.Collections.{Content}
use Rattle.sled_model.specs.Maps.{Map, Maps, Merge}
use Rattle.sled_model.specs.State.{NamedTree}
use Rattle.sled_store.specs.State.{nodes_of}
use Rattle.tree_laws.specs.Contents.{trees_of, pairs_under}
use Rattle.tree_pages.specs.Export.{collections}
use Rattle.sled.specs.Sound.{IsDb}
use Rattle.sled.specs.Values.{DbValue, named, numbers_of}
use Rattle.sled.proofs.Planting.{same_test}
use Rattle.machine_alone.specs.Values.{MachineValue}
use Rattle.machine_shared.specs.History.{maps_from}
use Rattle.machine_shared.specs.Sound.{maps_now}

-- what the collections of these trees have of a name
of_collections : (maps : Maps) (trees : List (Key × ℕ)) (name : Key) → maps_from (collections maps trees) name ≡ option_map (λ (n : ℕ). unwrap_or (maps name) []) (find key_cmp name trees)
of_collections maps [] name = refl
of_collections maps (t ∷ ts) name = go (of_collections maps ts name) (bytes_eq name t.0) refl
  where
    go : maps_from (collections maps ts) name ≡ option_map (λ (n : ℕ). unwrap_or (maps name) []) (find key_cmp name ts)
        → (b : Bool) → bytes_eq name t.0 ≡ b → cond b (Some (unwrap_or (maps t.0) [])) (maps_from (collections maps ts) name) ≡ option_map (λ (n : ℕ). unwrap_or (maps name) []) (cond (eq_by_cmp key_cmp name t.0) (Some t.1) (find key_cmp name ts))
    go rest true e = ap (λ k. Some (unwrap_or (maps k) [])) (sym (same_name name t.0 e)) ∙ sym (ap (λ b. option_map (λ (n : ℕ). unwrap_or (maps name) []) (cond b (Some t.1) (find key_cmp name ts))) (same_test name t.0 ∙ e))
    go rest false e = rest ∙ sym (ap (λ b. option_map (λ (n : ℕ). unwrap_or (maps name) []) (cond b (Some t.1) (find key_cmp name ts))) (same_test name t.0 ∙ e))

-- a name with a number has a map
by_number : (map : Option Map) (number : Option ℕ) (merges : ℕ → Option Merge) → ((n : ℕ) → number ≡ Some n → (x : Map) × (map ≡ Some x))
    → option_map (λ (n : ℕ). unwrap_or map []) number ≡ option_map (λ (t : NamedTree). t.map) (named number map merges)
by_number map None merges h = refl
by_number None (Some n) merges h = none_some (h n refl).1
by_number (Some x) (Some n) merges h = refl

-- a database begins with the maps that its export has
pub opened : {P M : Type 0} (store : P → Store) (d : DbValue P M) → IsDb store d → (opening : List Content) → opening ≡ collections (trees_of (now (store d.pages))) d.trees
    → (m : MachineValue P M) → m.db ≡ d → maps_from opening ≡ maps_now store m
opened {P} {M} store d sound opening is m same = subst (λ (x : DbValue P M). maps_from opening ≡ maps_now store (record m { db = x })) (sym same) (fun_ext at)
  where
    at : (name : Key) → maps_from opening name ≡ maps_now store (record m { db = d }) name
    at name = ap (λ c. maps_from c name) is ∙ of_collections (trees_of (now (store d.pages))) d.trees name ∙ by_number (trees_of (now (store d.pages)) name) (numbers_of d.trees name) _ (λ n e. let r = sound.is.rooted name n e in (pairs_under (nodes_of (now (store d.pages))) r.0, ap (option_map (pairs_under (nodes_of (now (store d.pages))))) r.1))
