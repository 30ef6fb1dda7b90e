-- What a subscriber hears of two inserts and a transaction between them.
use Rattle.std.specs.Prelude.{◌≡◌, ℕ, Bool, true, false, List, [], ◌∷◌, ◌++◌, Option, Some}
use Rattle.std.specs.Option.{option_to_list}
use Rattle.sled_nodes.specs.Order.{Key}
use Rattle.sled_store.specs.Store.{Store}
use Rattle.sled_model.specs.Maps.{Map, Merge}
use Rattle.sled_model.specs.Queues.{backlog_in, waiting_in}
use Rattle.sled_model.specs.State.{NamedTree, Queue}
use Rattle.sled_model.specs.declared.call.Call.TheVariants.{Insert}
use Rattle.sled_model.specs.declared.event.Event.{Event}
use Rattle.sled_model.specs.declared.event.Next.{Next}
use Rattle.sled_model.specs.declared.tree.Tree.{Tree}
use Rattle.sled_queues.specs.Copies.{after_events, events_told, TellsEvents}
use Rattle.sled_queues.specs.Events.{Turn, Takes, brought}
use Rattle.sled_queues.specs.Hears.{CountsAll, Holds, Hears}
use Rattle.sled_queues.specs.Turns.{turns_of_call}
use Rattle.sled.specs.Sound.{IsDb}
use Rattle.sled.specs.Transactions.{TakesIds}
use Rattle.sled.specs.Values.{DbValue, db_state}
use Rattle.sled.specs.Watch.{TakesFromDb}
use Rattle.machine_alone.specs.Hears.{queues_at, IsCopyOfTree}
use Rattle.call_laws.specs.Calls.{alone}
use Rattle.call_laws.specs.Hears.{turns_of_group}
use Rattle.example_owned.specs.Owned.{both_writes, Goes, IsInsert, IsBoth}
use Rattle.example_owned.specs.declared.owned.Wrote.{Wrote}

module _ {P M : Type 0} (store : P → Store) (flush_number : P → ℕ) (meant : M → Merge) where
  -- an insert that succeeded brings what the call does on its tree's map then, and else nothing
  abbrev pub insert_brings : DbValue P M → Tree → Key → Key → Bool → List Turn → Type 0
  insert_brings old tree key value true turns = (named : NamedTree) × ((db_state store meant old).trees tree.name ≡ Some named) × (turns ≡ turns_of_call named (Insert key value))
  insert_brings old tree key value false turns = turns ≡ []

  -- .. and a transaction that writes two keys the events of its group. Before that its closure may have taken ids
  abbrev pub both_brings : DbValue P M → Tree → Key → Key → Key → Bool → List Turn → Type 0
  both_brings old tree one other value true turns = (run : DbValue P M) × TakesIds store meant old run × (turns ≡ turns_of_group store flush_number meant run ((tree, both_writes one other value) ∷ []))
  both_brings old tree one other value false turns = turns ≡ []

  -- An insert, a transaction, another insert of the key, and then the `next` of a subscriber. While its count was never at the greatest,
  -- that, then what it missed since, and then what waits is what waited at first, and what the three brought under its prefix of its tree,
  -- each event once, in order. Each was made on the database that the one before left
  pub record HearsWrites (old : DbValue P M) (tree : Tree) (subscriber : ℕ) (key first second one other : Key) (wrote : Wrote) (next : Option Next) (new : DbValue P M) : Type 0 where
    pub middle : DbValue P M
    pub last : DbValue P M
    pub end : DbValue P M
    pub inserted : Goes store flush_number meant old (IsInsert tree key first wrote.insert) middle
    pub wrote_both : Goes store flush_number meant middle (IsBoth tree one other first wrote.both) last
    pub inserted_again : Goes store flush_number meant last (IsInsert tree key second wrote.later) end
    pub asked : TakesFromDb store meant end subscriber next new
    pub insert : List Turn
    pub both : List Turn
    pub later : List Turn
    pub inserts : insert_brings old tree key first wrote.insert insert
    pub writes_both : both_brings middle tree one other first wrote.both both
    pub inserts_later : insert_brings last tree key second wrote.later later
    pub hears : (q : Queue) → queues_at (alone old) subscriber ≡ Some q
        → CountsAll subscriber (insert ++ (both ++ (later ++ Takes subscriber ∷ []))) (queues_at (alone old)) → (all : List Event) → Holds q.backlog all
        → Hears (option_to_list next) (all ++ brought q (insert ++ (both ++ (later ++ Takes subscriber ∷ [])))) (backlog_in (queues_at (alone new) subscriber))

-- A subscriber that keeps a copy of its part of a tree changes it by what `next` returns. If it missed none and the database is open, that
-- is, once what waits has changed it too, a copy of the tree's map
pub record FollowsTree {P M : Type 0} (store : P → Store) (meant : M → Merge) (old : DbValue P M) (subscriber : ℕ) (next : Option Next) (new : DbValue P M) : Type 0 where
  pub is : IsDb store old → (db_state store meant new).is_open ≡ true → (q : Queue) → queues_at (alone old) subscriber ≡ Some q
      → TellsEvents (option_to_list next) → (backlog_in (queues_at (alone new) subscriber)).missed ≡ 0
      → (name : Key) (copy : Map) → IsCopyOfTree store meant (alone old) name q.tree q.prefix (after_events q.backlog.events copy)
      → IsCopyOfTree store meant (alone new) name q.tree q.prefix (after_events (waiting_in (queues_at (alone new) subscriber)) (after_events (events_told (option_to_list next)) copy))
