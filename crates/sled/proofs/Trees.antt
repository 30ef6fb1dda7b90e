-- The trees of a database's state are the contents of its pages.
use Rattle.std.proofs.Common.{◌≡◌, ◌≢◌, ℕ, Bool, true, false, cond, T, [], ◌∷◌, Option, Some, None, option_map, sym, refl, ap, ◌∙◌}
use Rattle.std.proofs.Math.Path.{fun_ext}
use Rattle.std.proofs.lemmas.Bool.{eqb-true}
use Rattle.std.specs.FinMap.Entries.{is_sorted}
use Rattle.std.specs.Str.{bytes_eq}
use Rattle.sled_nodes.proofs.Basics.{none_some, some_is}
use Rattle.sled_nodes.specs.Order.{Key, key_cmp}
use Rattle.sled_store.specs.Update.{put_name}
use Rattle.sled_store.specs.theory.Facts.{same_name}
use Rattle.sled_store.specs.State.{nodes_of}
use Rattle.sled_store.specs.Store.{Store, now}
use Rattle.sled_model.specs.Maps.{Map, Merge}
use Rattle.sled_model.specs.State.{State, NamedTree, maps_of}
use Rattle.sled_model.specs.Refusal.{IsDropped, is_number, must_refuse_of}
use Rattle.sled_model.specs.declared.tree.Tree.{Tree}
use Rattle.sled_model.proofs.Tests.{first_none}
use Rattle.tree_laws.specs.Forest.{Forest, contents}
use Rattle.tree_laws.specs.Contents.{trees_of}
use Rattle.tree_laws.specs.Snapshot.{snapshot_of, HasForest}
use Rattle.tree_laws.proofs.Fuel.{contents_law}
use Rattle.tree_laws.proofs.Reading.{sorted_law}
use Rattle.sled.specs.Values.{DbValue, numbers_of, given_to, named, db_state, snapshot_of_db}
use Rattle.sled.specs.Sound.{IsDb, MapsAscend}

-- the contents of each name that has a number
pub trees_at : (s : Store) (numbers : Key → Option ℕ) (given : ℕ → Bool) (w : Forest) → HasForest (snapshot_of s numbers given) w → (t : Key) → trees_of (now s) t ≡ option_map (λ _. contents (nodes_of (now s)) w t) (numbers t)
trees_at s numbers given w is t = contents_law (now s) w is.formed is.below t ∙ go ((now s).roots t) (numbers t) refl refl
  where
    go : (r n : Option ℕ) → (now s).roots t ≡ r → numbers t ≡ n → option_map (λ _. contents (nodes_of (now s)) w t) r ≡ option_map (λ _. contents (nodes_of (now s)) w t) n
    go None None a b = refl
    go (Some r) (Some n) a b = refl
    go None (Some n) a b = let k = is.rooted t n b in none_some (sym a ∙ k.1)
    go (Some r) None a b = let k = is.numbered t r a in none_some (sym b ∙ k.1)

-- where no contents change the trees are the same
pub trees_same : (a b : Store) (numbers : Key → Option ℕ) (given : ℕ → Bool) (w v : Forest) → HasForest (snapshot_of a numbers given) w → HasForest (snapshot_of b numbers given) v
    → ((t : Key) → contents (nodes_of (now b)) v t ≡ contents (nodes_of (now a)) w t) → trees_of (now b) ≡ trees_of (now a)
trees_same a b numbers given w v is on same = fun_ext (λ t. trees_at b numbers given v on t ∙ ap (λ c. option_map (λ _. c) (numbers t)) (same t) ∙ sym (trees_at a numbers given w is t))

-- where those of one tree change its map is another
pub trees_put : (a b : Store) (numbers : Key → Option ℕ) (given : ℕ → Bool) (w v : Forest) → HasForest (snapshot_of a numbers given) w → HasForest (snapshot_of b numbers given) v
    → (u : Key) (n : ℕ) → numbers u ≡ Some n → ((t : Key) → t ≢ u → contents (nodes_of (now b)) v t ≡ contents (nodes_of (now a)) w t) → trees_of (now b) ≡ put_name (trees_of (now a)) u (Some (contents (nodes_of (now b)) v u))
trees_put a b numbers given w v is on u n e others = fun_ext (λ t. go t (bytes_eq t u) refl)
  where
    go : (t : Key) (b' : Bool) → bytes_eq t u ≡ b' → trees_of (now b) t ≡ cond (bytes_eq t u) (Some (contents (nodes_of (now b)) v u)) (trees_of (now a) t)
    go t true q =
        let s : t ≡ u = same_name t u q in
        trees_at b numbers given v on t
        ∙ ap (λ z. option_map (λ _. contents (nodes_of (now b)) v z) (numbers z)) s
        ∙ ap (option_map (λ _. contents (nodes_of (now b)) v u)) e
        ∙ ap (λ z. cond z (Some (contents (nodes_of (now b)) v u)) (trees_of (now a) t)) (sym q)
    go t false q =
        trees_at b numbers given v on t
        ∙ ap (λ c. option_map (λ _. c) (numbers t)) (others t (λ s. apart (sym q ∙ ap (λ z. bytes_eq z u) s ∙ Rattle.sled_store.specs.theory.Facts.name_itself u)))
        ∙ sym (trees_at a numbers given w is t)
        ∙ ap (λ z. cond z (Some (contents (nodes_of (now b)) v u)) (trees_of (now a) t)) (sym q)
      where
        apart : false ≡ true → ⊥
        apart e = cc

-- the maps of the state are the contents
module _ {P M : Type 0} (store : P → Store) (meant : M → Merge) where
  pub maps_are : (d : DbValue P M) (w : Forest) → HasForest (snapshot_of_db store d) w → maps_of (db_state store meant d) ≡ trees_of (now (store d.pages))
  maps_are d w is = fun_ext (λ t. go _ _ (numbers_of d.trees t) (trees_of (now (store d.pages)) t) (trees_at (store d.pages) (numbers_of d.trees) (given_to d.trees_given) w is t))
    where
      go : (merge : ℕ → Option Merge) (c : Map) (n : Option ℕ) (m : Option Map) → m ≡ option_map (λ _. c) n → option_map (λ (z : NamedTree). z.map) (named n m merge) ≡ m
      go merge c None m e = sym e
      go merge c (Some n) None e = none_some e
      go merge c (Some n) (Some m) e = refl

-- the maps rise by key
module _ {P M : Type 0} (store : P → Store) (meant : M → Merge) where
  pub maps_ascend : (d : DbValue P M) → IsDb store d → MapsAscend (maps_of (db_state store meant d))
  maps_ascend d db = record { is = λ t map e. go t map (numbers_of d.trees t) (sym (trees_at (store d.pages) (numbers_of d.trees) (given_to d.trees_given) db.forest db.is t) ∙ sym (ap (λ maps. maps t) (maps_are store meant d db.forest db.is)) ∙ e) }
    where
      holds : (b : Bool) → T b → b ≡ true
      holds true t = refl
      holds false t = absurd t

      go : (t : Key) (map : Map) (n : Option ℕ) → option_map (λ _. contents (nodes_of (now (store d.pages))) db.forest t) n ≡ Some map → is_sorted key_cmp map ≡ true
      go t map None e = none_some e
      go t map (Some n) e = ap (is_sorted key_cmp) (sym (some_is e)) ∙ holds (is_sorted key_cmp (contents (nodes_of (now (store d.pages))) db.forest t)) (sorted_law (nodes_of (now (store d.pages))) (now (store d.pages)).roots db.forest db.is.formed t)

-- a tree that passes the tests is current
pub current : (s : State) (t : Tree) → must_refuse_of s (t ∷ []) ≡ None → is_number t.number (s.trees t.name) ≡ true
current s t e = go (is_number t.number (s.trees t.name)) (first_none _ _ (first_none _ _ e).1).1
  where
    go : (b : Bool) → cond b None (Some (IsDropped t.name)) ≡ None → b ≡ true
    go true f = refl
    go false f = none_some (sym f)

pub numbered : (n : ℕ) (number : Option ℕ) (m : Option Map) (merge : ℕ → Option Merge) → is_number n (named number m merge) ≡ true → number ≡ Some n
numbered n None m merge e = absurd (apart e)
  where
    apart : false ≡ true → ⊥
    apart e = cc
numbered n (Some k) None merge e = absurd (apart e)
  where
    apart : false ≡ true → ⊥
    apart e = cc
numbered n (Some k) (Some m) merge e = ap Some (eqb-true k n e)
