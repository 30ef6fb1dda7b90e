-- The outcome of taking the pair at an end of a tree, step by step, and when it is refused for its turns.
use Rattle.std.specs.Prelude.{◌≡◌, ℕ, ◌≤◌, ◌⊎◌, List, length, Option, Some, None}
use Rattle.std.specs.declared.ops.Bound.TheVariants.{Included}
use Rattle.sled_nodes.specs.Order.{Key}
use Rattle.sled_store.specs.Store.{Store, now}
use Rattle.sled_nodes.specs.declared.error.Error.{Error}
use Rattle.sled_nodes.specs.declared.error.Error.TheVariants.{NoMemory}
use Rattle.sled_model.specs.Maps.{Map, Merge, IsLeast, IsGreatest}
use Rattle.sled_model.specs.State.{NamedTree}
use Rattle.sled_model.specs.Refusal.{TellsTurns, turns_limit}
use Rattle.sled_model.specs.declared.call.Call.TheVariants.{Remove}
use Rattle.sled_model.specs.declared.call.Whole.{Whole}
use Rattle.sled_model.specs.declared.call.Whole.TheVariants.{PopMin, PopMax}
use Rattle.sled_model.specs.declared.reply.Reply.{Reply}
use Rattle.sled_model.specs.declared.tree.Tree.{Tree}
use Rattle.tree_laws.specs.Paths.{IsClean, tree_pages}
use Rattle.tree_reads.specs.Walk.{once, for_each}
use Rattle.tree_reads.specs.declared.TheConstants.{MOST_PAGES}
use Rattle.sled.specs.Values.{DbValue, db_state}
use Rattle.sled.specs.Reads.{RefusesReading}
use Rattle.sled.specs.Direct.{PointDecided, PointRefused}
use Rattle.sled.specs.declared.whole.Side.{Side}
use Rattle.sled.specs.declared.whole.Side.TheVariants.{Least, Greatest}

-- what the pair at an end of a tree is in its map
abbrev pub end_of : Side → Map → Option (Key × Key) → Type 0
end_of Least = IsLeast
end_of Greatest = IsGreatest

-- how many pages its read may look at, by those of the tree
abbrev pub pages_of : Side → ℕ → ℕ
pages_of Least = once
pages_of Greatest = for_each

-- the call that takes it out
abbrev pub pop_of : Side → Tree → Whole
pop_of Least = PopMin
pop_of Greatest = PopMax

module _ {P M : Type 0} (store : P → Store) (meant : M → Merge) (old : DbValue P M) (tree : Tree) where
  -- the pair was taken out, and is the answer
  pub record TakesOut (pair : Key × Key) (found : Option (Key × Key)) (new : DbValue P M) : Type 0 where
    pub answers : found ≡ Some pair
    pub reply : Reply
    pub decided : PointDecided store meant old tree (Remove pair.0) reply new

  -- its removal was refused, or there was no memory for a copy of its key
  pub record RefusesToTake (pair : Key × Key) (e : Error) (new : DbValue P M) : Type 0 where
    pub is : PointRefused store meant old tree (Remove pair.0) e new ⊎ ((e ≡ NoMemory) × (new ≡ old))

  -- the pair is at this end of the tree's map
  pub record IsAtEnd (is_end : Map → Option (Key × Key) → Type 0) (pair : Key × Key) : Type 0 where
    pub named : NamedTree
    pub there : (db_state store meant old).trees tree.name ≡ Some named
    pub ends : is_end named.map (Some pair)

  -- A pop found no pair and did nothing, or did the steps of the removal of the pair at this end, and no others
  pub record PopsBySteps (is_end : Map → Option (Key × Key) → Type 0) (found : Option (Key × Key)) (new : DbValue P M) : Type 0 where
    pub is : ((found ≡ None) × (new ≡ old)) ⊎ ((pair : Key × Key) × IsAtEnd is_end pair × TakesOut pair found new)

  -- .. or it was refused: the read of that pair was, which may look at so many pages of the tree, and nothing was done; or the steps of
  -- that removal were done until one was refused
  pub record PopRefusedBySteps (is_end : Map → Option (Key × Key) → Type 0) (of : ℕ → ℕ) (e : Error) (new : DbValue P M) : Type 0 where
    pub is : (RefusesReading store meant old tree of e × (new ≡ old)) ⊎ ((pair : Key × Key) × IsAtEnd is_end pair × RefusesToTake pair e new)

  -- the way to the key of the pair at this end is not clean, or it has as many levels as a call has turns
  pub record IsLongWay (is_end : Map → Option (Key × Key) → Type 0) : Type 0 where
    pub named : NamedTree
    pub there : (db_state store meant old).trees tree.name ≡ Some named
    pub pair : Key × Key
    pub ends : is_end named.map (Some pair)
    pub long : (path : List ℕ) → IsClean (now (store old.pages)) tree.name (Included pair.0) path → turns_limit ≤ length path

  -- A pop is refused for its turns only in three cases. The tree has so many pages that this function of their number reaches the limit of
  -- a read, or there was something to repair on the way to the key, or the way has so many levels
  pub record GivesUpPop (is_end : Map → Option (Key × Key) → Type 0) (of : ℕ → ℕ) (e : Error) : Type 0 where
    pub is : TellsTurns e → (MOST_PAGES ≤ of (tree_pages (now (store old.pages)) tree.name)) ⊎ IsLongWay is_end

-- Keys of a tree were removed one after the other, each the least of those that were left, and each by the steps of its removal
pub data ClearsBySteps {P M : Type 0} (store : P → Store) (meant : M → Merge) (tree : Tree) : DbValue P M → DbValue P M → Type 0 where
  ClearsNone : {db : DbValue P M} → ClearsBySteps store meant tree db db
  ClearsMore : {old mid new : DbValue P M} {pair : Key × Key} {reply : Reply}
      → ClearsBySteps store meant tree old mid → IsAtEnd store meant mid tree IsLeast pair → PointDecided store meant mid tree (Remove pair.0) reply new → ClearsBySteps store meant tree old new

-- A clear removed some so, and the next removal was refused; because turns were used up only if a pop there may be refused for that
pub record ClearRefusedBySteps {P M : Type 0} (store : P → Store) (meant : M → Merge) (old : DbValue P M) (tree : Tree) (e : Error) (new : DbValue P M) : Type 0 where
  pub mid : DbValue P M
  pub clears : ClearsBySteps store meant tree old mid
  pub refused : PopRefusedBySteps store meant mid tree IsLeast once e new
  pub gives_up : GivesUpPop store meant mid tree IsLeast once e
