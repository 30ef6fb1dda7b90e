-- Of Drops, for proofs. The pages of a tree that is dropped.
use Rattle.std.specs.Prelude.{◌≡◌, ℕ, ◌+◌, ◌<◌, ◌^◌, ◌⊎◌, List, [], ◌∷◌, length, get_or, Option, Some, None}
use Rattle.std.specs.List.{concat}
use Rattle.sled_store.specs.In.{In}
use Rattle.sled_nodes.specs.Order.{Key}
use Rattle.sled_store.specs.State.{Nodes, nodes_of, RootBecomes, PageBecomes}
use Rattle.sled_store.specs.Store.{Store, now, after_action}
use Rattle.sled_store.specs.declared.page.Page.{Page}
use Rattle.tree_laws.specs.Forest.{Tree, Forest, place, head, WellFormed}
use Rattle.tree_laws.specs.Contents.{first_of}
use Rattle.tree_pages.specs.Drops.{IsBeginning}

-- the first pages of so many levels at most, from this page down by first pointers
abbrev pub first_pages_down : ℕ → Nodes → Option ℕ → List ℕ
first_pages_down ℕ.zero nodes p = []
first_pages_down (ℕ.suc n) nodes None = []
first_pages_down (ℕ.suc n) nodes (Some p) = p ∷ first_pages_down n nodes (first_of (nodes p))

-- faults may be counted, and nothing else changes
pub record CountsFaults (old new : Store) : Type 0 where
  pub is : (new ≡ old) ⊎ (new ≡ record old { faults = old.faults + 1 })

-- the page is there and goes, and this is its next page; or it stays, at a refusal or if it is not there
abbrev pub frees_page_as : ℕ → Store → Option ℕ → Store → Type 0
frees_page_as pid old next new =
    ((page : Page) × ((now old).pages pid ≡ Some page) × (next ≡ page.node.next) × (new ≡ after_action (PageBecomes pid None) old))
    ⊎ ((next ≡ None) × CountsFaults old new)

pub record FreesPage (pid : ℕ) (old : Store) (next : Option ℕ) (new : Store) : Type 0 where
  pub is : frees_page_as pid old next new

-- these pages, which were in the tree's chains, go, one after the other, and faults are counted
pub data FreesPages (was : Forest) (t : Tree) : List ℕ → Store → Store → Type 0 where
  FreesNone : {a : Store} → FreesPages was t [] a a
  FreesOne : {ps : List ℕ} {a b : Store} (p h : ℕ) (page : Page) → In p (was.chain (place t h)) → (now a).pages p ≡ Some page → FreesPages was t ps (after_action (PageBecomes p None) a) b → FreesPages was t (p ∷ ps) a b
  Counts : {ps : List ℕ} {a b : Store} → FreesPages was t ps (record a { faults = a.faults + 1 }) b → FreesPages was t ps a b

-- each page of the tree's chains is as it was, or is gone
pub record KeepsOrFrees (nodes : Nodes) (was : Forest) (t : Tree) (s : Store) : Type 0 where
  pub is : (p h : ℕ) → In p (was.chain (place t h)) → (nodes_of (now s) p ≡ nodes p) ⊎ (nodes_of (now s) p ≡ None)

-- the first pages of all levels of a tree, the highest level first
abbrev pub AreFirsts : Forest → Tree → List ℕ → Type 0
AreFirsts w t [] = Unit {0}
AreFirsts w t (p ∷ ps) = (head (w.chain (place t (length ps))) ≡ Some p) × AreFirsts w t ps

-- Of a tree that was well formed once, and of whose pages some are gone since, a beginning of the level that begins so goes
pub record FreesLevel (first : ℕ) (old new : Store) : Type 0 where
  pub is : (nodes : Nodes) (roots : Tree → Option ℕ) (was : Forest) → WellFormed nodes roots was → (t : Tree) → KeepsOrFrees nodes was t old
      → (h : ℕ) → head (was.chain (place t h)) ≡ Some first → (ps : List ℕ) × IsBeginning ps (was.chain (place t h)) × FreesPages was t ps old new

-- so many levels of a tree, from the leaves up: of each a beginning goes
pub record FreesLevels (was : Forest) (t : Tree) (many : ℕ) (old new : Store) : Type 0 where
  pub levels : List (List ℕ)
  pub many_are : length levels ≡ many
  pub begins : (h : ℕ) → IsBeginning (get_or levels h []) (was.chain (place t h))
  pub freed : FreesPages was t (concat levels) old new

-- .. of those that begin with these pages
pub record FreesFrom (firsts : List ℕ) (many : ℕ) (old new : Store) : Type 0 where
  pub is : (nodes : Nodes) (roots : Tree → Option ℕ) (was : Forest) → WellFormed nodes roots was → (t : Tree) → KeepsOrFrees nodes was t old → AreFirsts was t firsts → FreesLevels was t many old new

-- the root of the name goes, and then pages of its tree
pub record DropsRoot (name : Key) (old new : Store) : Type 0 where
  pub is : (was : Forest) → WellFormed (nodes_of (now old)) (now old).roots was → ((p : ℕ) (g : Page) → (now old).pages p ≡ Some g → p < 2 ^ 64) → (many : ℕ) × FreesLevels was name many (after_action (RootBecomes name None) old) new
