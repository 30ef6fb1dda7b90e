-- The laws of reading walks and of clean paths, as types.
use Rattle.std.specs.Prelude.{◌≡◌, ◌≢◌, ℕ, suc, ◌<◌, ◌≤◌, Bool, false, List, [], ◌∷◌, Option, Some}
use Rattle.std.specs.declared.ops.Bound.{Bound}
use Rattle.sled_nodes.specs.Order.{Key}
use Rattle.sled_store.specs.In.{In}
use Rattle.sled_nodes.specs.Among.{IsPointer}
use Rattle.sled_nodes.specs.Node.{pointers}
use Rattle.sled_store.specs.State.{Nodes}
use Rattle.sled_nodes.specs.declared.node.Node.{Node}
use Rattle.sled_nodes.specs.declared.node.Data.TheVariants.{Leaf, Index}
use Rattle.tree_laws.specs.Forest.{Tree, Forest, Place, place, WellFormed, later}
use Rattle.tree_laws.specs.Paths.{NeedsNoRepair, CleanFrom, pages_below, IsAhead}

-- the page that a pointer of a chain page names, unless it is the merging child, is in the chain below, and begins at the pointer's key
abbrev pub PointerInLaw : Type 0
PointerInLaw = (nodes : Nodes) (roots : Tree → Option ℕ) (w : Forest) → WellFormed nodes roots w → (t : Tree) (h p : ℕ) (n : Node) (k : Key) (c : ℕ) → In p (w.chain (place t (suc h))) → nodes p ≡ Some n → In (k, c) (pointers n.content) → n.merging_child ≢ Some c
    → (d : Node) × In c (w.chain (place t h)) × (nodes c ≡ Some d) × (d.lo ≡ k)

-- the next page is in the chain too, and begins where this one ends; a page with an upper bound has a next page
abbrev pub NextInLaw : Type 0
NextInLaw = (nodes : Nodes) (roots : Tree → Option ℕ) (w : Forest) → WellFormed nodes roots w → (x : Place) (p : ℕ) (n : Node) → In p (w.chain x) → nodes p ≡ Some n
    → ((q : ℕ) → n.next ≡ Some q → (d : Node) × In q (w.chain x) × (nodes q ≡ Some d) × (d.lo ≡ n.hi)) × (n.hi ≢ [] → (q : ℕ) × (n.next ≡ Some q))

-- how many pages are ahead of a reading walk: no more than those of its level and below, and fewer with each step
pub record Aheads (nodes : Nodes) (w : Forest) (t : Tree) : Type 0 where
  pub begins : (h p : ℕ) → In p (w.chain (place t h)) → (n : ℕ) × IsAhead w t h p n
  pub fits : (h p n : ℕ) → IsAhead w t h p n → n ≤ pages_below w t (suc h)
  pub along : (h p q n : ℕ) (d : Node) → IsAhead w t h p n → nodes p ≡ Some d → d.next ≡ Some q → (k : ℕ) × (k < n) × IsAhead w t h q k
  pub down : (h p c n : ℕ) → IsAhead w t (suc h) p n → In c (w.chain (place t h)) → (k : ℕ) × (k < n) × IsAhead w t h c k

abbrev pub AheadLaw : Type 0
AheadLaw = (nodes : Nodes) (roots : Tree → Option ℕ) (w : Forest) → WellFormed nodes roots w → (t : Tree) → Aheads nodes w t

-- a walk that is at the first page of a clean path passes it, goes one down the path from an index, and ends at a leaf
pub record CleanStep (nodes : Nodes) (aim : Bound Key) (path : List ℕ) (p : ℕ) (first : Bool) (n : Node) : Type 0 where
  pub passed : NeedsNoRepair nodes aim p first n
  pub down : (es : List (Key × ℕ)) (c : ℕ) (b : Bool) → n.content ≡ Index es → IsPointer aim es c b → (rest : List ℕ) × (path ≡ p ∷ rest) × CleanFrom nodes aim c b rest
  pub leaf : (es : List (Key × Key)) → n.content ≡ Leaf es → path ≡ p ∷ []

abbrev pub CleanStepLaw : Type 0
CleanStepLaw = (nodes : Nodes) (aim : Bound Key) (path : List ℕ) (p : ℕ) (first : Bool) (n : Node) → CleanFrom nodes aim p first path → nodes p ≡ Some n → CleanStep nodes aim path p first n

-- the last pointer within a bound is a pointer of the index, a later one if it is not the first, and one alone
abbrev pub LastPointerLaw : Type 0
LastPointerLaw = (bound : Bound Key) (es : List (Key × ℕ)) (c : ℕ) (b : Bool) → (k : IsPointer bound es c b)
    → In (k.key, c) es × (b ≡ false → In (k.key, c) (later es)) × ((d : ℕ) (a : Bool) → IsPointer bound es d a → (c ≡ d) × (b ≡ a))
