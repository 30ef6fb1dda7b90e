-- An index of the entries of a tree by how their keys end, which follows the tree by its events, and begins anew if it missed some.
use Rattle.std.specs.Prelude.{◌≡◌, ◌≢◌, ◌≤◌, ◌+◌, ◌&&◌, ◌||◌, ℕ, not, nat_eq, Bool, true, false, reverse, map, filter, length, List, [], ◌∷◌, ◌++◌, Option, Some, None, if◌then◌else◌}
use Rattle.std.specs.FinMap.Entries.{find, is_sorted}
use Rattle.std.specs.List.{starts_with, ends_with}
use Rattle.std.specs.Option.{option_to_list}
use Rattle.sled_nodes.specs.Order.{Key, key_cmp}
use Rattle.sled_model.specs.Backlog.{Backlog, queue_limit}
use Rattle.sled_model.specs.Maps.{Map}
use Rattle.sled_model.specs.Queues.{backlog_in, waiting_in}
use Rattle.sled_model.specs.State.{State, NamedTree, Queue}
use Rattle.sled_model.specs.declared.event.Event.{Event}
use Rattle.sled_model.specs.declared.event.Next.{Next}
use Rattle.sled_model.specs.declared.event.Next.TheVariants as next
use Rattle.sled_model.specs.declared.tree.Tree.{Tree}
use Rattle.sled_queues.specs.Copies.{IsCopy, after_events}
use Rattle.sled_queues.specs.Events.{Turn, after_turns, taken_by, brought, Stays}
use Rattle.sled_queues.specs.Trees.{IsTreeAfter}
use Rattle.example_databases.specs.declared.endings.Progress.{Progress}
use Rattle.example_databases.specs.declared.endings.Progress.TheVariants.{UpToDate, Partly, Lost}

-- the entries, with each key read from its end
abbrev pub turned : Map → Map
turned entries = map (λ e. (reverse e.0, e.1)) entries

-- the entries whose keys end so
abbrev pub entries_ending : Key → Map → Map
entries_ending ending entries = filter (λ e. ends_with nat_eq e.0 ending) entries

-- the entries in front of the first whose key does not begin so
abbrev pub while_beginning : Key → Map → Map
while_beginning beginning [] = []
while_beginning beginning (e ∷ es) = if starts_with nat_eq e.0 beginning then e ∷ while_beginning beginning es else []

-- the two have the same value at each key
pub record HasSame (a b : Map) : Type 0 where
  pub has : (key : Key) → find key_cmp key a ≡ find key_cmp key b

-- What is seen of an index: its tree and its prefix, its subscriber, an event that was taken and has not changed the entries yet, if
-- there is one, whether it learned that it missed some, and the entries
pub record EndingsValue : Type 0 where
  pub tree : Tree
  pub prefix : Key
  pub subscriber : ℕ
  pub late : Option Event
  pub is_lost : Bool
  pub entries : Map

-- the events that have not changed the entries yet, the oldest first
abbrev pub to_come : EndingsValue → State → List Event
to_come i s = option_to_list i.late ++ waiting_in (s.queues i.subscriber)

-- it missed some, and learned that, or will learn it
abbrev pub has_missed : EndingsValue → State → Bool
has_missed i s = i.is_lost || not (nat_eq (backlog_in (s.queues i.subscriber)).missed 0)

-- An index of its tree: its subscriber watches the tree under the prefix; and unless it missed some, once the events to come have changed
-- the entries too, they are those of the tree under the prefix
pub record IsIndex (s : State) (i : EndingsValue) : Type 0 where
  pub named : NamedTree
  pub there : s.trees i.tree.name ≡ Some named
  pub queue : Queue
  pub watches : s.queues i.subscriber ≡ Some queue
  pub of_tree : queue.tree ≡ named.number
  pub under : queue.prefix ≡ i.prefix
  pub is : has_missed i s ≡ false → IsCopy i.prefix (after_events (to_come i s) i.entries) named.map

-- the index follows its tree: it missed none
pub record FollowsTree (s : State) (i : EndingsValue) : Type 0 where
  pub index : IsIndex s i
  pub all : has_missed i s ≡ false

-- the index has the entries of the tree under the prefix now, and no others
pub record IsUpToDate (s : State) (i : EndingsValue) : Type 0 where
  pub named : NamedTree
  pub there : s.trees i.tree.name ≡ Some named
  pub is : IsCopy i.prefix i.entries named.map

-- An index of the tree begins: no event waits for its subscriber, and it has the entries that the tree has
pub record BeginsIndex (s : State) (tree : Tree) (prefix : Key) (i : EndingsValue) : Type 0 where
  pub of_tree : i.tree ≡ tree
  pub under : i.prefix ≡ prefix
  pub none : to_come i s ≡ []
  pub follows : FollowsTree s i
  pub has : IsUpToDate s i

-- Some of the events to come, the oldest, were taken. Nothing else changes: the index is of the same tree, its subscriber watches the same
-- as before, and it missed some if it had before
pub record TakesEvents (old : State) (i : EndingsValue) (events : List Event) (new : State) (j : EndingsValue) : Type 0 where
  pub in_order : to_come i old ≡ events ++ to_come j new
  pub missed : has_missed j new ≡ has_missed i old
  pub index : j ≡ record i { late = j.late; is_lost = j.is_lost; entries = j.entries }
  pub watches : (q : Queue) → old.queues i.subscriber ≡ Some q → (backlog : Backlog) × (new.queues i.subscriber ≡ Some (record q { backlog = backlog }))
  pub others : (n : ℕ) → n ≢ i.subscriber → new.queues n ≡ old.queues n
  pub same : new ≡ record old { queues = new.queues }

-- What was next was taken: the oldest event to come, which has not changed the entries yet, or that some were missed, which has not changed
-- the index yet. If there was nothing, no event is to come, and it missed none of which it did not learn
abbrev pub takes_as : State → EndingsValue → Option Next → State → EndingsValue → Type 0
takes_as old i None new j = TakesEvents old i [] new j × (to_come j new ≡ []) × (has_missed j new ≡ j.is_lost)
takes_as old i (Some (next.Event e)) new j = TakesEvents old i (e ∷ []) new j
takes_as old i (Some (next.Missed n)) new j = TakesEvents old i [] new (record j { is_lost = true })

-- .. and none is late any more
pub record TakesOldest (old : State) (i : EndingsValue) (next : Option Next) (new : State) (j : EndingsValue) : Type 0 where
  pub takes : takes_as old i next new j
  pub same : j ≡ record i { late = None }

-- the oldest of them, so many as are listed here, were taken, and each changed the entries, in order
pub record CatchesUp (old : State) (i : EndingsValue) (new : State) (j : EndingsValue) : Type 0 where
  pub events : List Event
  pub takes : TakesEvents old i events new j
  pub changes : HasSame j.entries (after_events events i.entries)
  pub follows : IsIndex old i → IsIndex new j

-- none is left, and none was missed; or so many were taken; or it learned that it missed some
abbrev pub caught_as : ℕ → List Event → State → EndingsValue → Progress → Type 0
caught_as at_most events new j UpToDate = (to_come j new ≡ []) × (has_missed j new ≡ false)
caught_as at_most events new j Partly = length events ≡ at_most
caught_as at_most events new j Lost = j.is_lost ≡ true

-- All of them were taken, or as many as might be, or those in front of the ones that it missed. If none is left, the index is up to date
pub record CatchesUpBy (at_most : ℕ) (old : State) (i : EndingsValue) (progress : Progress) (new : State) (j : EndingsValue) : Type 0 where
  pub catches : CatchesUp old i new j
  pub within : length catches.events ≤ at_most
  pub done : caught_as at_most catches.events new j progress
  pub has : progress ≡ UpToDate → IsIndex old i → IsUpToDate new j

-- An index begins anew, with another subscriber in place of its own, which ends
pub record BeginsAnew (old : State) (i : EndingsValue) (new : State) (j : EndingsValue) : Type 0 where
  pub same : j ≡ record i { subscriber = j.subscriber; late = None; is_lost = false; entries = j.entries }
  pub begins : IsIndex old i → BeginsIndex new i.tree i.prefix j
  pub gone : new.queues i.subscriber ≡ None
  pub others : (n : ℕ) → n ≢ i.subscriber → n ≢ j.subscriber → new.queues n ≡ old.queues n
  pub trees : new.trees ≡ old.trees

-- An index stays one of its tree, whether it caught up or began anew, which it does only if it missed some
pub record StaysIndex (old : State) (i : EndingsValue) (new : State) (j : EndingsValue) : Type 0 where
  pub tree : j.tree ≡ i.tree
  pub prefix : j.prefix ≡ i.prefix
  pub index : IsIndex old i → IsIndex new j
  pub keeps : has_missed i old ≡ false → j.subscriber ≡ i.subscriber
  pub others : (n : ℕ) → n ≢ i.subscriber → n ≢ j.subscriber → new.queues n ≡ old.queues n

-- the entries of the map whose keys begin and end so, each once, in the order of their keys read from the end
pub record FindsEnding (prefix ending : Key) (m found : Map) : Type 0 where
  pub are : (key : Key) → find key_cmp key found ≡ if starts_with nat_eq key prefix && ends_with nat_eq key ending then find key_cmp key m else None
  pub rise : is_sorted key_cmp (turned found) ≡ true

-- An index of a tree still is one after these turns; and if there was room for all the events that came for it, it missed none of them
pub record StillIsIndex (old : State) (i : EndingsValue) (turns : List Turn) (new : State) : Type 0 where
  pub index : IsIndex new i
  pub all : (q : Queue) → old.queues i.subscriber ≡ Some q → length q.backlog.events + length (brought q turns) ≤ queue_limit → has_missed i new ≡ has_missed i old

-- It is so after any turns that do not end its subscriber or take its events elsewhere, if the events that come to the tree describe what
-- becomes of its map
abbrev pub StillFollowsLaw : Type 0
StillFollowsLaw = (old new : State) (i : EndingsValue) (turns : List Turn) → IsIndex old i
    → new.queues ≡ after_turns turns old.queues → ((t : NamedTree) → old.trees i.tree.name ≡ Some t → IsTreeAfter i.tree.name t turns new)
    → Stays i.subscriber turns → taken_by i.subscriber turns old.queues ≡ [] → StillIsIndex old i turns new

-- After a change of the tree an index of it still is one, with so many events more to come at most; and if so many more may wait, it missed
-- none of them
pub record KeepsFollowing (old : State) (tree : Tree) (n : ℕ) (new : State) : Type 0 where
  pub follows : (i : EndingsValue) → i.tree ≡ tree → IsIndex old i → IsIndex new i
  pub within : (i : EndingsValue) → length (to_come i new) ≤ length (to_come i old) + n
  pub all : (i : EndingsValue) → length (to_come i old) + n ≤ queue_limit → has_missed i new ≡ has_missed i old

-- the entries of the tree now whose keys begin and end so
pub record FindsInTree (s : State) (tree : Tree) (prefix ending : Key) (found : Map) : Type 0 where
  pub named : NamedTree
  pub there : s.trees tree.name ≡ Some named
  pub is : FindsEnding prefix ending named.map found
