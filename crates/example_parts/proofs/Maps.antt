-- The maps of a database and of its pages, and what the tests of a call tell of both.
use Rattle.std.proofs.Common.{◌≡◌, ℕ, Bool, true, false, not, cond, List, ◌∷◌, Option, Some, None, option_map, is_some, sym, refl, ◌∙◌}
use Rattle.std.proofs.Math.Path.{fun_ext}
use Rattle.std.specs.Str.{bytes_eq}
use Rattle.sled_nodes.proofs.Basics.{none_some, false_true, not_true}
use Rattle.sled_nodes.specs.Order.{Key}
use Rattle.sled_store.specs.State.{nodes_of}
use Rattle.sled_store.specs.Store.{Store, now}
use Rattle.sled_model.specs.Maps.{Map, Maps, Merge}
use Rattle.sled_model.specs.Refusal.{MustRefuse, IsClosed, IsDropped, first_of, foreign_test, dropped_test, is_number, must_refuse_of}
use Rattle.sled_model.specs.State.{State, NamedTree}
use Rattle.sled_model.specs.declared.tree.Tree.{Tree}
use Rattle.tree_laws.specs.Contents.{trees_of, pairs_under}
use Rattle.sled.specs.Opens.{or_empty, with_tree}
use Rattle.sled.specs.Sound.{IsDb}
use Rattle.sled.specs.Values.{DbValue, db_state, numbers_of, named}
use Rattle.sled.proofs.Grouped.{tested_open}
use Rattle.example_parts.specs.Reads.{found_in, maps_now}

-- ---- maps and pages

-- a tree that has a number and a map has that map
pub map_of_named : (n : Option ℕ) (m : Option Map) (merge : ℕ → Option Merge) → is_some n ≡ is_some m → option_map (λ (t : NamedTree). t.map) (named n m merge) ≡ m
map_of_named None None merge e = refl
map_of_named None (Some m) merge e = false_true e
map_of_named (Some n) None merge e = false_true (sym e)
map_of_named (Some n) (Some m) merge e = refl

-- a name has a number where it has a map
pub numbered : {P M : Type 0} (store : P → Store) (d : DbValue P M) → IsDb store d → (t : Key) → is_some (numbers_of d.trees t) ≡ is_some (trees_of (now (store d.pages)) t)
numbered store d is t = go (numbers_of d.trees t) ((now (store d.pages)).roots t) refl refl
  where
    go : (n r : Option ℕ) → numbers_of d.trees t ≡ n → (now (store d.pages)).roots t ≡ r → is_some n ≡ is_some (option_map (pairs_under (nodes_of (now (store d.pages)))) r)
    go None None e f = refl
    go (Some n) (Some r) e f = refl
    go None (Some r) e f = let k = is.is.numbered t r f in none_some (sym e ∙ k.1)
    go (Some n) None e f = let k = is.is.rooted t n e in none_some (sym f ∙ k.1)

-- an empty tree that is new has no key
pub with_tree_alike : (tree : Key) (maps : Maps) (name key : Key) → found_in (with_tree tree maps name) key ≡ found_in (maps name) key
with_tree_alike tree maps name key = go (bytes_eq name tree) (maps name)
  where
    go : (b : Bool) (o : Option Map) → found_in (cond b (or_empty o) o) key ≡ found_in o key
    go true None = refl
    go true (Some m) = refl
    go false o = refl

-- ---- tests

pub second_none : (a b : Option MustRefuse) → first_of a b ≡ None → b ≡ None
second_none None b e = e
second_none (Some m) b e = absurd cc

numbered_tree : (n : ℕ) (o : Option NamedTree) (name : Key) (later : Option MustRefuse) → cond (is_number n o) later (Some (IsDropped name)) ≡ None → ((t : NamedTree) × (o ≡ Some t)) × (later ≡ None)
numbered_tree n None name later e = none_some (sym e)
numbered_tree n (Some t) name later e = go (is_number n (Some t)) e
  where
    go : (b : Bool) → cond b later (Some (IsDropped name)) ≡ None → ((x : NamedTree) × (Some t ≡ Some x)) × (later ≡ None)
    go true e = ((t, refl), e)
    go false e = none_some (sym e)

not_dropped : (s : State) (trees : List Tree) → must_refuse_of s trees ≡ None → dropped_test s trees ≡ None
not_dropped s trees e = second_none (foreign_test s.name trees) (dropped_test s trees) (second_none (cond s.is_open None (Some IsClosed)) _ e)

-- where the tests pass each tree is there
pub first_there : (s : State) (t : Tree) (more : List Tree) → must_refuse_of s (t ∷ more) ≡ None → (n : NamedTree) × (s.trees t.name ≡ Some n)
first_there s t more e = (numbered_tree t.number (s.trees t.name) t.name (dropped_test s more) (not_dropped s (t ∷ more) e)).0

pub second_there : (s : State) (t u : Tree) (more : List Tree) → must_refuse_of s (t ∷ u ∷ more) ≡ None → (n : NamedTree) × (s.trees u.name ≡ Some n)
second_there s t u more e = (numbered_tree u.number (s.trees u.name) u.name (dropped_test s more) (numbered_tree t.number (s.trees t.name) t.name (dropped_test s (u ∷ more)) (not_dropped s (t ∷ u ∷ more) e)).1).0

-- ---- databases

not_not : (a b : Bool) → not a ≡ not b → a ≡ false → b ≡ false
not_not true b e f = cc
not_not false true e f = absurd cc
not_not false false e f = refl

module _ {P M : Type 0} (store : P → Store) (meant : M → Merge) where
  -- the maps are the contents of the pages
  pub maps_are : (d : DbValue P M) → IsDb store d → maps_now store meant d ≡ trees_of (now (store d.pages))
  maps_are d is = fun_ext (λ t. map_of_named (numbers_of d.trees t) (trees_of (now (store d.pages)) t) _ (numbered store d is t))

  -- where the tests pass no group is open
  pub open_now : (d : DbValue P M) (trees : List Tree) → must_refuse_of (db_state store meant d) trees ≡ None → (now (store d.pages)).in_group ≡ false
  open_now d trees free = not_true (now (store d.pages)).in_group (tested_open (db_state store meant d) trees free)

  module _ (old new : DbValue P M) (sound : IsDb store old) where
    pub open_before : (db_state store meant new).is_open ≡ (db_state store meant old).is_open → (now (store new.pages)).in_group ≡ false → (now (store old.pages)).in_group ≡ false
    open_before same is = not_not (now (store new.pages)).in_group (now (store old.pages)).in_group same is
