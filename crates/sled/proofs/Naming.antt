-- The names of all trees.
use Rattle.std.proofs.Common.{◌≡◌, ℕ, Bool, true, false, not, cond, List, [], ◌∷◌, map, Option, Some, None, option_map, Less, Equal, Greater, is_eq, refl, sym, ap, ◌∙◌, subst, inl, inr, ◌⊎◌}
use Rattle.std.specs.FinMap.Entries.{find, is_sorted, below_all}
use Rattle.std.specs.Ordering.{eq_by_cmp, is_lt, nat_cmp}
use Rattle.std.specs.declared.cmp.Ordering.{Ordering}
use Rattle.std.proofs.lemmas.Cmp.{tied_itself}
use Rattle.sled_nodes.proofs.Basics.{none_some, false_true, both_true, key_total, key_same}
use Rattle.sled_store.specs.In.{In}
use Rattle.sled_nodes.specs.Order.{Key, key_cmp, Below}
use Rattle.sled_store.specs.State.{nodes_of}
use Rattle.sled_store.specs.Store.{Store, now}
use Rattle.sled_model.specs.Maps.{Map, Merge}
use Rattle.sled_model.specs.State.{NamedTree}
use Rattle.tree_laws.specs.Forest.{contents}
use Rattle.tree_laws.specs.Contents.{trees_of}
use Rattle.sled.specs.Values.{DbValue, numbers_of, given_to, named, db_state}
use Rattle.sled.specs.Sound.{IsDb}
use Rattle.sled.specs.Names.{Ascend, AreNames}
use Rattle.sled.proofs.Trees.{trees_at}

-- a name that is listed has a number
listed : (ts : List (Key × ℕ)) (t : Key) → In t (map (λ r. r.0) ts) → (n : ℕ) × (find key_cmp t ts ≡ Some n)
listed [] t i = absurd i
listed (r ∷ rs) t i = go (listed rs t) (eq_by_cmp key_cmp t r.0) refl i
  where
    go : (In t (map (λ r. r.0) rs) → (n : ℕ) × (find key_cmp t rs ≡ Some n)) → (b : Bool) → eq_by_cmp key_cmp t r.0 ≡ b → (t ≡ r.0) ⊎ In t (map (λ r. r.0) rs) → (n : ℕ) × (cond b (Some r.1) (find key_cmp t rs) ≡ Some n)
    go rest true e j = (r.1, refl)
    go rest false e (inl s) = false_true (sym e ∙ ap is_eq (ap (λ z. key_cmp z r.0) s ∙ tied_itself key_total r.0))
    go rest false e (inr j) = rest j

-- a name that has a number is listed
numbered_in : (ts : List (Key × ℕ)) (t : Key) (n : ℕ) → find key_cmp t ts ≡ Some n → In t (map (λ r. r.0) ts)
numbered_in [] t n e = none_some e
numbered_in (r ∷ rs) t n e = go (numbered_in rs t n) (eq_by_cmp key_cmp t r.0) refl e
  where
    order : (o : Ordering) → is_eq o ≡ true → o ≡ Equal
    order Less q = false_true q
    order Equal q = refl
    order Greater q = false_true q

    go : (find key_cmp t rs ≡ Some n → In t (map (λ r. r.0) rs)) → (b : Bool) → eq_by_cmp key_cmp t r.0 ≡ b → cond b (Some r.1) (find key_cmp t rs) ≡ Some n → (t ≡ r.0) ⊎ In t (map (λ r. r.0) rs)
    go rest true q f = inl (key_same t r.0 (order (key_cmp t r.0) q))
    go rest false q f = inr (rest f)

below_later : (k : Key) (ts : List (Key × ℕ)) → below_all key_cmp k ts ≡ true → (other : Key) → In other (map (λ r. r.0) ts) → Below k other
below_later k [] e other i = absurd i
below_later k (r ∷ rs) e other i = let b = both_true _ _ e in go (below_later k rs b.1 other) b.0 i
  where
    less : (o : Ordering) → is_lt o ≡ true → o ≡ Less
    less Less q = refl
    less Equal q = false_true q
    less Greater q = false_true q

    go : (In other (map (λ r. r.0) rs) → Below k other) → is_lt (key_cmp k r.0) ≡ true → (other ≡ r.0) ⊎ In other (map (λ r. r.0) rs) → Below k other
    go rest e (inl s) = subst (λ z. Below k z) (sym s) (less (key_cmp k r.0) e)
    go rest e (inr j) = rest j

ascending : (ts : List (Key × ℕ)) → is_sorted key_cmp ts ≡ true → Ascend (map (λ r. r.0) ts)
ascending [] e = tt
ascending (r ∷ rs) e = let b = both_true _ _ e in (below_later r.0 rs b.0, ascending rs b.1)

-- the names that are listed are those of the state's trees
pub names_are : {P M : Type 0} (store : P → Store) (meant : M → Merge) (d : DbValue P M) → IsDb store d → (now (store d.pages)).in_group ≡ false → (names : List Key) → names ≡ map (λ r. r.0) d.trees → AreNames (db_state store meant d) names
names_are store meant d db no_group names is = subst (λ l. AreNames (db_state store meant d) l) (sym is) (record {
  is_open = ap not no_group;
  ascend = ascending d.trees db.ascends;
  each = λ name i. let k = listed d.trees name i in (_, there name k.0 k.1);
  all = λ name tree e. go name tree (numbers_of d.trees name) (trees_of (now (store d.pages)) name) refl e;
})
  where
    operator : ℕ → Option Merge
    operator n = option_map meant (find nat_cmp n d.operators)

    there : (name : Key) (n : ℕ) → numbers_of d.trees name ≡ Some n → (db_state store meant d).trees name ≡ Some (record { number = n; map = contents (nodes_of (now (store d.pages))) db.forest name; merge = operator n })
    there name n e =
        ap (λ k. named k (trees_of (now (store d.pages)) name) operator) e
        ∙ ap (λ m. named (Some n) m operator)
        (trees_at (store d.pages) (numbers_of d.trees) (given_to d.trees_given) db.forest db.is name ∙ ap (option_map (λ _. contents (nodes_of (now (store d.pages))) db.forest name)) e)

    go : (name : Key) (tree : NamedTree) (k : Option ℕ) (m : Option Map) → numbers_of d.trees name ≡ k → named k m operator ≡ Some tree → In name (map (λ r. r.0) d.trees)
    go name tree None m e f = none_some f
    go name tree (Some n) m e f = numbered_in d.trees name n e

-- the same, where the method knows the database by its fields
module _ {P M : Type 0} (store : P → Store) (meant : M → Merge) (inside d : DbValue P M) (same : inside ≡ d) where
  pub names_seen : IsDb store inside → (now (store inside.pages)).in_group ≡ false → (names : List Key) → names ≡ map (λ r. r.0) inside.trees → AreNames (db_state store meant d) names
  names_seen db no_group names is = subst (λ (z : DbValue P M). AreNames (db_state store meant z) names) same (names_are store meant inside db no_group names is)
