-- What a walk over the pages of a tree has found, step by step.
use Rattle.std.specs.Prelude.{◌≡◌, ℕ, ◌<◌, ◌≤◌, ◌⊎◌, Bool, true, List, [], ◌∷◌, ◌++◌, ◌-◌, Option, Some, None, map, length, slice_get, cond, nat_eq}
use Rattle.std.specs.Ordering.{nat_cmp}
use Rattle.std.specs.BTreeMap.{BTreeMap, get}
use Rattle.std.specs.FinMap.Entries.{find}
use Rattle.sled_nodes.specs.Order.{Key, key_cmp, Below}
use Rattle.sled_nodes.specs.Node.{pointers, count}
use Rattle.sled_nodes.specs.declared.node.Node.{Node}
use Rattle.sled_nodes.specs.declared.error.Error.{Error}
use Rattle.sled_nodes.specs.declared.error.Error.TheVariants.{NoMemory, Corruption}
use Rattle.sled_store.specs.In.{In}
use Rattle.sled_store.specs.State.{State, nodes_of}
use Rattle.sled_store.specs.declared.page.View.{View}
use Rattle.tree_laws.specs.Forest.{Forest, Place, WellFormed, IsSized, Run, first_child}
use Rattle.tree_check.specs.Check.{IsFinding}
use Rattle.tree_check.specs.theory.Tree.{IsPage, IsTreeFrom, IsTop}
use Rattle.tree_check.specs.declared.levels.Level.{Level}

abbrev pub refuses_page_as : Error → Type 0
refuses_page_as NoMemory = Unit {0}
refuses_page_as (Corruption fault) = IsFinding fault
refuses_page_as e = ⊥

-- the test of a page that was read is refused: for want of memory, or with the code of what was found
pub record RefusesPage (e : Error) : Type 0 where
  pub is : refuses_page_as e

-- the level of each page that was found, by its number
abbrev pub Levels : Type 0
Levels = BTreeMap ℕ Level

abbrev pub level_of : Levels → ℕ → Option Level
level_of levels p = get nat_cmp levels p

-- the page was read
pub record IsRead (s : State) (pid : ℕ) (v : View) : Type 0 where
  pub is : v.pid ≡ pid
  pub live : nodes_of s v.pid ≡ Some v.node

-- a page that was not found before was found on this level
pub record SetsLevel (pid : ℕ) (level : Level) (old new : Levels) : Type 0 where
  pub free : level_of old pid ≡ None
  pub here : level_of new pid ≡ Some level
  pub kept : (q : ℕ) (z : Level) → level_of old q ≡ Some z → level_of new q ≡ Some z
  pub adds : (q : ℕ) (z : Level) → level_of new q ≡ Some z → (level_of old q ≡ Some z) ⊎ ((q ≡ pid) × (z ≡ level))

-- the numbers of pages
abbrev pub pids : List View → List ℕ
pids vs = map (λ v. v.pid) vs

-- some page of these has this merging child
abbrev pub HasMergingChild : List View → ℕ → Type 0
HasMergingChild above c = (v : View) × In v above × (v.node.merging_child ≡ Some c)

-- the key that a chain of these pages has reached
abbrev pub end_at : Option View → Key
end_at None = []
end_at (Some v) = v.node.hi

abbrev pub end_of : List View → Key
end_of vs = end_at (slice_get vs (length vs - 1))

-- a page of a chain on this level, merging only as one of the merging children
pub record IsChained (s : State) (children : ℕ → Bool) (level : Level) (levels : Levels) (v : View) : Type 0 where
  pub live : nodes_of s v.pid ≡ Some v.node
  pub page : IsPage level.height v.node
  pub found : level_of levels v.pid ≡ Some level
  pub parent : v.node.merging ≡ true → children v.pid ≡ true

-- the page was read, and was found on this level
pub record IsFoundOn (s : State) (level : Level) (levels : Levels) (v : View) : Type 0 where
  pub live : nodes_of s v.pid ≡ Some v.node
  pub found : level_of levels v.pid ≡ Some level

-- the page v is the next one of a chain that has reached the page pid at the key lo, and was not found before
pub record AddsPage (s : State) (children : ℕ → Bool) (level : Level) (pid : ℕ) (lo : Key) (v : View) (old new : Levels) : Type 0 where
  pub read : IsRead s pid v
  pub begins : lo ≡ v.node.lo
  pub rises : (v.node.next ≡ None) ⊎ Below v.node.lo v.node.hi
  pub ends : v.node.next ≡ None → v.node.hi ≡ []
  pub page : IsPage level.height v.node
  pub parent : v.node.merging ≡ true → children pid ≡ true
  pub sets : SetsLevel pid level old new

-- one page more follows these, and leads on to this one
pub record Extends (s : State) (children : ℕ → Bool) (level : Level) (pid : ℕ) (to : Option ℕ) (vs ws : List View) (old new : Levels) : Type 0 where
  pub view : View
  pub is : AddsPage s children level pid (end_of vs) view old new
  pub next : view.node.next ≡ to
  pub pushed : ws ≡ vs ++ view ∷ []

-- a part of a chain from the first page on, up to an edge
pub record ReadsChain (s : State) (children : ℕ → Bool) (level : Level) (first : ℕ) (chain : List View) (to : Option ℕ) (hi : Key) (old new : Levels) : Type 0 where
  pub run : Run (nodes_of s) (pids chain) (Some first) [] to hi
  pub each : (v : View) → In v chain → IsChained s children level new v
  pub kept : (q : ℕ) (z : Level) → level_of old q ≡ Some z → level_of new q ≡ Some z
  pub adds : (q : ℕ) (z : Level) → level_of new q ≡ Some z → (level_of old q ≡ Some z) ⊎ (In q (pids chain) × (z ≡ level))

-- the pointer of the page v at the key k leads to the page c on this level
pub record LeadsTo (s : State) (v : View) (level : Level) (levels : Levels) (k : Key) (c : ℕ) : Type 0 where
  pub node : Node
  pub live : nodes_of s c ≡ Some node
  pub found : level_of levels c ≡ Some level
  pub key : node.lo ≡ k
  pub merged : node.merging ≡ true → v.node.merging_child ≡ Some c
  pub few : v.node.merging_child ≡ Some c → count node.content ≤ 17

-- the page p was received, and v has it as its merging child still
pub record IsReceived (s : State) (v : View) (level : Level) (p : ℕ) : Type 0 where
  pub node : Node
  pub live : nodes_of s p ≡ Some node
  pub page : IsPage level.height node
  pub merging : node.merging ≡ true
  pub child : v.node.merging_child ≡ Some p

-- pages that were received were found on this level, under pages of these
pub record FindsReceived (s : State) (above : List View) (level : Level) (old new : Levels) : Type 0 where
  pub kept : (q : ℕ) (z : Level) → level_of old q ≡ Some z → level_of new q ≡ Some z
  pub adds : (q : ℕ) (z : Level) → level_of new q ≡ Some z → (level_of old q ≡ Some z) ⊎ ((z ≡ level) × (v : View) × In v above × IsReceived s v level q)

-- the first pointer of the first of these pages leads to the page c
abbrev pub leads_down_as : List View → ℕ → Type 0
leads_down_as [] c = ⊥
leads_down_as (v ∷ vs) c = first_child (pointers v.node.content) ≡ Some c

pub record LeadsDown (above : List View) (c : ℕ) : Type 0 where
  pub is : leads_down_as above c

-- the level below these pages: its chain, and the pages that were received
pub record FindsLevel (s : State) (above : List View) (level : Level) (pages : List View) (old new : Levels) : Type 0 where
  pub first : ℕ
  pub down : LeadsDown above first
  pub children : ℕ → Bool
  pub has : (c : ℕ) → children c ≡ true → HasMergingChild above c
  pub middle : Levels
  pub chain : ReadsChain s children level first pages None [] old middle
  pub lead : (v : View) → In v above → (k : Key) (c : ℕ) → In (k, c) (pointers v.node.content) → LeadsTo s v level new k c
  pub received : FindsReceived s above level middle new

-- no page of this tree was found yet, nor one of a later tree
abbrev pub IsNewTree : ℕ → Levels → Type 0
IsNewTree tree levels = (p : ℕ) (z : Level) → level_of levels p ≡ Some z → z.tree < tree

-- the height of a page in the tree of this position
abbrev pub height_in : ℕ → Option Level → Option ℕ
height_in tree None = None
height_in tree (Some z) = cond (nat_eq z.tree tree) (Some z.height) None

abbrev pub home_in : ℕ → Levels → ℕ → Option ℕ
home_in tree levels p = height_in tree (level_of levels p)

-- what was found before stays, and pages of this tree were added
pub record AddsTree (tree : ℕ) (old new : Levels) : Type 0 where
  pub kept : (q : ℕ) (z : Level) → level_of old q ≡ Some z → level_of new q ≡ Some z
  pub adds : (q : ℕ) (z : Level) → level_of new q ≡ Some z → (level_of old q ≡ Some z) ⊎ (z.tree ≡ tree)

-- all levels of a tree
pub record FindsTree (s : State) (root tree : ℕ) (old new : Levels) : Type 0 where
  pub chain : ℕ → List ℕ
  pub is : IsTreeFrom (nodes_of s) 0 chain (home_in tree new)
  pub top : IsTop root 0 chain
  pub adds : AddsTree tree old new

-- the levels of a tree down to this height, whose pages are these
pub record WalksTree (s : State) (root tree h : ℕ) (above : List View) (old new : Levels) : Type 0 where
  pub chain : ℕ → List ℕ
  pub is : IsTreeFrom (nodes_of s) h chain (home_in tree new)
  pub top : IsTop root h chain
  pub here : chain h ≡ pids above
  pub live : (v : View) → In v above → nodes_of s v.pid ≡ Some v.node
  pub adds : AddsTree tree old new

-- a forest of the trees of these roots
pub record Verifies (s : State) (roots : List (Key × ℕ)) (tree : ℕ) (levels : Levels) : Type 0 where
  pub forest : Forest
  pub formed : WellFormed (nodes_of s) (λ t. find key_cmp t roots) forest
  pub sized : IsSized (nodes_of s) forest
  pub seen : (p : ℕ) (x : Place) → forest.home p ≡ Some x → (z : Level) × (level_of levels p ≡ Some z)
  pub below : IsNewTree tree levels
