-- Reads of a tree's map.
use Rattle.std.proofs.Common.{◌≡◌, ℕ, ◌+◌, ◌<◌, Bool, true, false, not, ◌↔◌, IsTrue, [], ◌∷◌, ◌++◌, length, Option, Some, None, option_map, is_some, is_none, sym, refl, ap, ◌∙◌, subst, arith}
use Rattle.std.specs.FinMap.Entries.{find}
use Rattle.std.specs.declared.ops.Bound.{Bound}
use Rattle.std.specs.declared.ops.Bound.TheVariants.{Included, Unbounded}
use Rattle.sled_nodes.proofs.Basics.{none_some, some_is}
use Rattle.sled_nodes.specs.Order.{Key, key_cmp}
use Rattle.sled_nodes.specs.Among.{IsSuccessor}
use Rattle.sled_nodes.specs.Ranges.{is_reversed}
use Rattle.sled_store.specs.State.{nodes_of}
use Rattle.sled_store.specs.Store.{Store, now, AreGiven}
use Rattle.sled_nodes.specs.declared.error.Error.{Error}
use Rattle.sled_nodes.specs.declared.error.Error.TheVariants.{ReportableBug, Io, NoMemory}
use Rattle.sled_model.specs.Maps.{Map, Merge}
use Rattle.sled_model.specs.State.{NamedTree}
use Rattle.sled_model.specs.Refusal.{MustRefuse, is_number, must_refuse_of}
use Rattle.sled_model.specs.declared.tree.Tree.{Tree}
use Rattle.tree_laws.specs.Contents.{pairs_under}
use Rattle.tree_reads.specs.Walk.{RefusesWalk, refuses_walk_as, GivesUp, gives_up_as}
use Rattle.tree_reads.specs.Leaves.{OfContents}
use Rattle.tree_reads.specs.Ranges.{IsRoot, Coming, pairs_within}
use Rattle.tree_reads.specs.declared.TheConstants.{MOST_PAGES}
use Rattle.tree_reads.proofs.Ranging.{of_pairs}
use Rattle.sled.specs.Values.{DbValue, numbers_of, named, db_state}
use Rattle.sled.specs.Sound.{IsDb}
use Rattle.sled.specs.Calls.{MustBeRefused, must_be_refused_as}
use Rattle.sled.specs.Reads.{ReadsMap, BeginsRange, RefusesReading, refuses_reading_as, stops_reading, RefusesRange, refuses_range_as, GivesUpGet, gives_up_get_as}
use Rattle.sled.proofs.Testing.{untold_bug}
use Rattle.sled.proofs.Trees.{current}

-- what reads need of a database between two calls: a forest that shows its pages well formed, and that its pages were given
pub root_is : {P M : Type 0} (store : P → Store) (d : DbValue P M) → IsDb store d → (t : Key) (root : ℕ) → (now (store d.pages)).roots t ≡ Some root → IsRoot (now (store d.pages)) root
root_is store d db t root e = record { forest = db.forest; formed = db.is.formed; tree = t; is = e }

pub pages_given : {P M : Type 0} (store : P → Store) (d : DbValue P M) → IsDb store d → AreGiven (store d.pages)
pages_given store d db = record { pid = db.is.pids; version = db.is.versions; numbered = db.is.below }

module _ {P M : Type 0} (store : P → Store) (meant : M → Merge) (d : DbValue P M) (tree : Tree) where
  -- a tree that passes the tests has a root, and its map is what stands under it
  pub tree_under : must_refuse_of (db_state store meant d) (tree ∷ []) ≡ None
      → (found : NamedTree) × (root : ℕ) × ((db_state store meant d).trees tree.name ≡ Some found) × ((now (store d.pages)).roots tree.name ≡ Some root) × (found.map ≡ pairs_under (nodes_of (now (store d.pages))) root)
  tree_under tested = go _ (numbers_of d.trees tree.name) ((now (store d.pages)).roots tree.name) refl refl (current (db_state store meant d) tree tested)
    where
      false_true : {X : Type 0} → false ≡ true → X
      false_true e = cc

      go : (merge : ℕ → Option Merge) (n r : Option ℕ) → numbers_of d.trees tree.name ≡ n → (now (store d.pages)).roots tree.name ≡ r → is_number tree.number (named n (option_map (pairs_under (nodes_of (now (store d.pages)))) r) merge) ≡ true
          → (found : NamedTree) × (root : ℕ) × (named (numbers_of d.trees tree.name) (option_map (pairs_under (nodes_of (now (store d.pages)))) ((now (store d.pages)).roots tree.name)) merge ≡ Some found) × ((now (store d.pages)).roots tree.name ≡ Some root) × (found.map ≡ pairs_under (nodes_of (now (store d.pages))) root)
      go merge None r a b e = false_true e
      go merge (Some n) None a b e = false_true e
      go merge (Some n) (Some r) a b e = (
        record { number = n; map = pairs_under (nodes_of (now (store d.pages))) r; merge = merge n },
        r,
        ap (λ z. named z (option_map (pairs_under (nodes_of (now (store d.pages)))) ((now (store d.pages)).roots tree.name)) merge) a ∙ ap (λ z. named (Some n) (option_map (pairs_under (nodes_of (now (store d.pages)))) z) merge) b,
        b,
        refl,
      )

  pub no_root : {X : Type 0} → must_refuse_of (db_state store meant d) (tree ∷ []) ≡ None → None ≡ (now (store d.pages)).roots tree.name → X
  no_root tested e = let k = tree_under tested in none_some (e ∙ k.3)

  module _ (tested : must_refuse_of (db_state store meant d) (tree ∷ []) ≡ None) (root : ℕ) (there : (now (store d.pages)).roots tree.name ≡ Some root) where
    map_under : (k : (found : NamedTree) × (r : ℕ) × ((db_state store meant d).trees tree.name ≡ Some found) × ((now (store d.pages)).roots tree.name ≡ Some r) × (found.map ≡ pairs_under (nodes_of (now (store d.pages))) r)) → pairs_under (nodes_of (now (store d.pages))) root ≡ k.0.map
    map_under k = ap (pairs_under (nodes_of (now (store d.pages)))) (some_is (sym there ∙ k.3)) ∙ sym k.4

    pub reads : (db : IsDb store d) (so : Map → Type 0) → OfContents (now (store d.pages)) root so → ReadsMap store meant d tree so
    reads db so near =
        let k = tree_under tested in
        record { tested = tested; named = k.0; there = k.2; is = subst so (map_under k) (of_pairs (store d.pages) root (pages_given store d db) (root_is store d db tree.name root there) so near) }

    pub begins : (lo hi : Bound Key) (pairs : Coming P) → pairs ≡ record { pages = d.pages; root = root; pairs = pairs_within lo hi (pairs_under (nodes_of (now (store d.pages))) root); ended = is_reversed lo hi } → BeginsRange store meant d tree lo hi pairs
    begins lo hi pairs is =
        let k = tree_under tested in
        record {
          over = ap (λ (z : Coming P). z.pages) is;
          root = there ∙ sym (ap (λ (z : Coming P). Some z.root) is);
          all = record { tested = tested; named = k.0; there = k.2; is = ap (λ (z : Coming P). z.pairs) is ∙ ap (pairs_within lo hi) (map_under k) };
          ended = ap (λ (z : Coming P). z.ended) is;
        }

    pub refuses : (db : IsDb store d) (of : ℕ → ℕ) (e : Error) → RefusesWalk of (store d.pages) root e → RefusesReading store meant d tree of e
    refuses db of e r = record { is = subst (λ m. refuses_reading_as store meant d tree of m e) (sym tested) (go e r.is) }
      where
        go : (e : Error) → refuses_walk_as of (store d.pages) root e → stops_reading store meant d tree of e
        go NoMemory k = tt
        go (Io fault) k = (k.0, k.1, k.2 tree.name there)
        go (ReportableBug text) k = (k.0, k.1 db.forest db.is.formed tree.name there)
        go other k = absurd k

    pub gives_up : (key : Key) (e : Error) → GivesUp (now (store d.pages)) root (Included key) 0 e → GivesUpGet store meant d tree key e
    gives_up key e g = record { is = go e (g.is key refl) }
      where
        at_zero : (n : ℕ) → MOST_PAGES < 0 + n → MOST_PAGES < n
        at_zero n h = omega arith

        go : (e : Error) → gives_up_as (now (store d.pages)) root key 0 e → gives_up_get_as store meant d tree key e
        go (ReportableBug text) k = λ path c. at_zero (length path) (k true path (subst (λ r. Rattle.tree_laws.specs.Paths.CleanFrom (nodes_of (now (store d.pages))) (Included key) r true path) (some_is (sym c.is_root ∙ there)) c.clean))
        go other k = tt

    pub no_memory : RefusesRange store meant d tree NoMemory
    no_memory = record { is = subst (λ m. refuses_range_as store meant d tree m NoMemory) (sym tested) refl }

  pub must_read : (of : ℕ → ℕ) (e : Error) → MustBeRefused (must_refuse_of (db_state store meant d) (tree ∷ [])) e → RefusesReading store meant d tree of e
  must_read of e m = record { is = go (must_refuse_of (db_state store meant d) (tree ∷ [])) m.is }
    where
      go : (o : Option MustRefuse) → must_be_refused_as o e → refuses_reading_as store meant d tree of o e
      go None k = absurd k
      go (Some must) k = k

  pub must_range : (e : Error) → MustBeRefused (must_refuse_of (db_state store meant d) (tree ∷ [])) e → RefusesRange store meant d tree e
  must_range e m = record { is = go (must_refuse_of (db_state store meant d) (tree ∷ [])) m.is }
    where
      go : (o : Option MustRefuse) → must_be_refused_as o e → refuses_range_as store meant d tree o e
      go None k = absurd k
      go (Some must) k = k

  pub must_give_up : (key : Key) (e : Error) → MustBeRefused (must_refuse_of (db_state store meant d) (tree ∷ [])) e → GivesUpGet store meant d tree key e
  must_give_up key e m = record { is = go (must_refuse_of (db_state store meant d) (tree ∷ [])) e m.is }
    where
      go : (o : Option MustRefuse) (e : Error) → must_be_refused_as o e → gives_up_get_as store meant d tree key e
      go o (ReportableBug text) k = absurd (untold_bug o text k)
      go o other k = tt

  -- what follows of a map
  pub reads_more : (so more : Map → Type 0) → ((m : Map) → so m → more m) → ReadsMap store meant d tree so → ReadsMap store meant d tree more
  reads_more so more then r = record { tested = r.tested; named = r.named; there = r.there; is = then r.named.map r.is }

  pub reads_some : (key : Key) (value : Option Key) (there : Bool) → there ≡ is_some value → ReadsMap store meant d tree (λ map. value ≡ find key_cmp key map) → ReadsMap store meant d tree (λ map. there ≡ is_some (find key_cmp key map))
  reads_some key value there e r = reads_more _ _ (λ m k. e ∙ ap is_some k) r

  pub reads_empty : (found : Option (Key × Key)) (empty : Bool) → is_some found ≡ not empty → ReadsMap store meant d tree (λ map. IsSuccessor Unbounded map found) → ReadsMap store meant d tree (λ map. IsTrue empty ↔ (map ≡ []))
  reads_empty found empty e r = reads_more _ _ (λ m k. subst (λ b. IsTrue b ↔ (m ≡ [])) (none_of found empty e) (go found m k)) r
    where
      none_of : (found : Option (Key × Key)) (b : Bool) → is_some found ≡ not b → is_none found ≡ b
      none_of None true e = refl
      none_of None false e = cc
      none_of (Some x) true e = cc
      none_of (Some x) false e = refl

      not_empty : (xs ys : Map) (x : Key × Key) → xs ++ x ∷ ys ≡ [] → ⊥
      not_empty [] ys x e = cc
      not_empty (y ∷ xs) ys x e = cc

      go : (found : Option (Key × Key)) (m : Map) → IsSuccessor Unbounded m found → IsTrue (is_none found) ↔ (m ≡ [])
      go None [] k = (λ t. refl, λ i. refl)
      go None (x ∷ xs) k = absurd (apart k)
        where
          apart : true ≡ false → ⊥
          apart e = cc
      go (Some x) m k = (λ t. untrue t, λ i. absurd (not_empty k.before k.after x (sym k.is ∙ i)))
        where
          untrue : false ≡ true → m ≡ []
          untrue t = cc

-- the same of a database that is seen as this value
module _ {P M : Type 0} (store : P → Store) (meant : M → Merge) (tree : Tree) (d seen : DbValue P M) (same : d ≡ seen) (tested : must_refuse_of (db_state store meant seen) (tree ∷ []) ≡ None) (root : ℕ) (there : (now (store seen.pages)).roots tree.name ≡ Some root) where
  pub reads_in : IsDb store d → (so : Map → Type 0) → OfContents (now (store d.pages)) root so → ReadsMap store meant seen tree so
  reads_in db so near = reads store meant seen tree tested root there (subst (λ (z : DbValue P M). IsDb store z) same db) so (subst (λ (z : DbValue P M). OfContents (now (store z.pages)) root so) same near)

  pub refuses_in : IsDb store d → (of : ℕ → ℕ) (e : Error) → RefusesWalk of (store d.pages) root e → RefusesReading store meant seen tree of e
  refuses_in db of e r = refuses store meant seen tree tested root there (subst (λ (z : DbValue P M). IsDb store z) same db) of e (subst (λ (z : DbValue P M). RefusesWalk of (store z.pages) root e) same r)

  pub begins_in : (lo hi : Bound Key) (pairs : Coming P) → pairs ≡ record { pages = d.pages; root = root; pairs = pairs_within lo hi (pairs_under (nodes_of (now (store d.pages))) root); ended = is_reversed lo hi } → BeginsRange store meant seen tree lo hi pairs
  begins_in lo hi pairs is = begins store meant seen tree tested root there lo hi pairs
      (is ∙ ap (λ (z : DbValue P M). record { pages = z.pages; root = root; pairs = pairs_within lo hi (pairs_under (nodes_of (now (store z.pages))) root); ended = is_reversed lo hi }) same)

  pub begins_between : (a b lo hi : Bound Key) → a ≡ lo → b ≡ hi → (pairs : Coming P) → pairs ≡ record { pages = d.pages; root = root; pairs = pairs_within a b (pairs_under (nodes_of (now (store d.pages))) root); ended = is_reversed a b } → BeginsRange store meant seen tree lo hi pairs
  begins_between a b lo hi e f pairs is = subst (λ z. BeginsRange store meant seen tree lo z pairs) f (subst (λ z. BeginsRange store meant seen tree z b pairs) e (begins_in a b pairs is))
