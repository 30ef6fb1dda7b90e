-- A whole call on a key over a clean path, as the steps of a call in flight: those of its walk, and one more that ends it.
use Rattle.std.specs.Prelude.{◌≡◌, ℕ, ◌+◌, ◌<◌, ◌≤◌, Bool, true, false, Option, Some, None, Result, Ok, Err}
use Rattle.std.specs.declared.ops.Bound.TheVariants.{Included}
use Rattle.sled_nodes.specs.Order.{Key}
use Rattle.sled_nodes.specs.Node.{count, after_link}
use Rattle.sled_nodes.specs.Posting.{IsOpen}
use Rattle.sled_nodes.specs.declared.error.Error.{Error}
use Rattle.sled_nodes.specs.declared.node.Node.{Node}
use Rattle.sled_nodes.specs.declared.node.Data.{Data}
use Rattle.sled_store.specs.Store.{Store, now, view_of, Changes, IsRefused}
use Rattle.sled_store.specs.declared.page.View.{View}
use Rattle.sled_model.specs.Answer.{key_of}
use Rattle.sled_model.specs.Maps.{Merge}
use Rattle.sled_model.specs.State.{IsOnKey}
use Rattle.sled_model.specs.declared.TheConstants.{MAX_LOOPS}
use Rattle.sled_model.specs.declared.call.Call.{Call}
use Rattle.sled_model.specs.declared.call.Call.TheVariants.{Get}
use Rattle.sled_model.specs.declared.reply.Reply.{Reply}
use Rattle.sled_model.specs.declared.tree.Tree.{Tree}
use Rattle.tree_laws.specs.Snapshot.{LiesUnder}
use Rattle.tree_laws.specs.declared.flight.Stage.TheVariants.{Root}
use Rattle.sled_tree.specs.Change.{reply_at}
use Rattle.sled_tree.specs.Course.{course_of}
use Rattle.sled_tree.specs.theory.Change.{IsLeaf, IsChangeOf}
use Rattle.sled_tree.specs.theory.Descent.{IsClean, Meets, way_of}
use Rattle.sled_tree.specs.theory.Linking.{StepsBy}
use Rattle.sled_tree.specs.theory.Stages.{IsOffWalk}
use Rattle.sled_tree.specs.theory.Walking.{WalksTo}
use Rattle.sled_tree.specs.declared.act.Change.{Change}
use Rattle.sled_tree.specs.declared.flight.Aim.TheVariants.{Own}
use Rattle.sled_tree.specs.declared.flight.InFlight.{InFlight}
use Rattle.tree_quick.specs.Outcomes.{went_of}
use Rattle.tree_quick.specs.declared.quick.AtLeaf.{AtLeaf}
use Rattle.tree_quick.specs.declared.quick.AtLeaf.TheVariants.{Replies, Links}

-- a call as it begins
abbrev pub as_begun : Tree → Call → InFlight
as_begun tree call = record { job = record { tree = tree; call = call }; aim = Own; stage = Root; turns = 0 }

-- The call in flight walks to its last step, which leaves the store as it is, and ends by that step, as `advance` makes it
pub record RunsStraight (operator : Option Merge) (old : Store) (f : InFlight) (made : Result Reply Error) (new : Store) : Type 0 where
  pub last : InFlight
  pub walks : WalksTo old f last
  pub has_turns : last.turns < MAX_LOOPS
  pub ends : StepsBy operator old last (went_of made) new last

-- The key is under the node, and nothing is to be repaired there. At a page that is not the root, and which the walk did not reach by the
-- first pointer of an index, nothing is to be merged either
pub record IsCleanFor (key : Key) (first : Bool) (n : Node) : Type 0 where
  pub is_open : IsOpen n
  pub fits : count n.content ≤ 16
  pub settled : first ≡ false → 3 < count n.content
  pub under : LiesUnder (Included key) n

abbrev pub IsGet : Call → Type 0
IsGet (Get key) = Unit {0}
IsGet other = ⊥

-- the page as the store has it, which is readable
pub record IsRead (s : Store) (pid : ℕ) (view : View) : Type 0 where
  pub is : Some view ≡ view_of pid ((now s).pages pid)
  pub readable : s.is_readable pid ≡ true

-- the call in flight walks to the step that reads this leaf, if nothing is to be repaired, and may go on twice from there
pub record FindsLeaf (s : Store) (f : InFlight) (view : View) : Type 0 where
  pub last : InFlight
  pub walks : WalksTo s f last
  pub job : last.job ≡ f.job
  pub fits : last.turns + 1 < MAX_LOOPS
  pub on_walk : IsOffWalk last.stage → ⊥
  pub leaf : IsLeaf view.node.content
  pub clean : IsClean (course_of last) (way_of last.stage) view
  pub meets : Meets s (course_of last) last.stage view

-- so does each call on this key of a tree with this root
pub record LeadsToLeaf (s : Store) (root : ℕ) (key : Key) (view : View) : Type 0 where
  pub is : (tree : Tree) (call : Call) → (now s).roots tree.name ≡ Some root → IsOnKey call → key_of call ≡ key → FindsLeaf s (as_begun tree call) view

-- the outcome of the call at a leaf: its reply if it changes nothing, or its change, by the operator of its tree
abbrev pub comes_to : Option Merge → Call → Data → AtLeaf → Type 0
comes_to operator call content (Replies reply) = reply_at call content ≡ Some reply
comes_to operator call content (Links change) = (reply_at call content ≡ None) × IsChangeOf operator call content (Some change)

-- the change was linked to the leaf as it was read, and its reply is returned; or the store refused it
abbrev pub links_now : Change → View → Store → Result Reply Error → Store → Type 0
links_now change leaf old (Ok reply) new = (reply ≡ change.reply) × (given : ℕ) × Changes (after_link change.link) leaf.pid leaf.version old new (Ok given)
links_now change leaf old (Err e) new = IsRefused e old new
