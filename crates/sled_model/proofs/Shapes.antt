-- Short names for what the model writes out.
use Rattle.std.proofs.Common.{◌≡◌, ◌⊎◌, ℕ, ◌+◌, Bool, List, [], Option, Some, None}
use Rattle.std.specs.Global.{Vec}
use Rattle.std.specs.Option.{option_eq}
use Rattle.std.specs.Str.{bytes_eq}
use Rattle.sled_nodes.specs.Order.{Key}
use Rattle.sled_nodes.specs.Ranges.{Range}
use Rattle.sled_store.specs.Update.{put_at}
use Rattle.sled_model.specs.Maps.{Map, Merge}
use Rattle.sled_model.specs.Answer.{Answer, answer_of}
use Rattle.sled_model.specs.State.{State, NamedTree, CallInFlight, Queue, range_of, after_decision_on}
use Rattle.sled_model.specs.Backlog.{next_of}
use Rattle.sled_model.specs.Scan.{ReadsPart}
use Rattle.sled_model.specs.Queues.{backlog_in}
use Rattle.sled_model.specs.Collections.{Content}
use Rattle.sled_model.specs.Groups.{Write, call_with, after_write_on}
use Rattle.sled_model.specs.declared.call.Call.{Call}
use Rattle.sled_model.specs.declared.event.Next.{Next}
use Rattle.sled_model.specs.declared.tree.Tree.{Tree}

-- a call as it begins
abbrev pub call_begun : Tree → Call → CallInFlight
call_begun tree call = record { tree = tree; call = call; turns = 0; waiting = []; rest = range_of call }

-- the state after the call in a slot was decided on the tree of this name
abbrev pub after_decision : State → ℕ → Key → NamedTree → Answer → State
after_decision s slot name t a = record (after_decision_on s name t a) { slots = put_at s.slots slot None }

-- a new tree
abbrev pub new_tree : State → NamedTree
new_tree s = record { number = s.trees_given + 1; map = []; merge = None }

-- what a collection holds
abbrev pub content_of : Vec ℕ × Vec ℕ × Vec (Key × Key) → Content
content_of c = (c.0.items, c.1.items, c.2.items)

-- the call that a write is
abbrev pub call_of_write : Write → Call
call_of_write w = call_with w.key w.value

-- .. its answer on its tree, and the state after it
abbrev pub answer_of_write : NamedTree → Write → Answer
answer_of_write t w = answer_of t.merge (call_with w.key w.value) t.map

abbrev pub after_write : Write → State → State
after_write w s = after_write_on (s.trees w.tree.name) w s

-- the two are the same value, or both are none
abbrev pub same_value : Option Key → Option Key → Bool
same_value = option_eq bytes_eq

-- what a subscriber gets next
abbrev pub next_in : Option Queue → Option Next
next_in q = next_of (backlog_in q)

-- a call that goes on has the pairs and the range that it had, or reads a part
abbrev pub Reads : Map → List (Key × Key) → Option Range → List (Key × Key) → Option Range → Type 0
Reads map waiting rest after left = ((after ≡ waiting) × (left ≡ rest)) ⊎ ReadsPart map waiting rest after left

-- what a tree has besides its map
abbrev pub tag_of : NamedTree → ℕ × Option Merge
tag_of t = (t.number, t.merge)
