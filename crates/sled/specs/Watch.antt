-- Subscribers of trees.
use Rattle.std.specs.Prelude.{◌≡◌, ℕ, Option, None}
use Rattle.sled_nodes.specs.Order.{Key}
use Rattle.sled_store.specs.Store.{Store}
use Rattle.sled_store.specs.Update.{put_at}
use Rattle.sled_nodes.specs.declared.error.Error.{Error}
use Rattle.sled_model.specs.Maps.{Merge}
use Rattle.sled_model.specs.State.{CallInFlight}
use Rattle.sled_model.specs.Refusal.{ToCall, MayRefuse}
use Rattle.sled_model.specs.Whole.{Watches, TakesNext}
use Rattle.sled_model.specs.declared.call.Whole.TheVariants.{Watch}
use Rattle.sled_model.specs.declared.event.Next.{Next}
use Rattle.sled_model.specs.declared.tree.Tree.{Tree}
use Rattle.sled.specs.Values.{DbValue, state_of, db_state}
use Rattle.sled.specs.Sound.{IsDb}

module _ {P M : Type 0} (store : P → Store) (meant : M → Merge) where
  -- The tree has a subscriber more, whatever calls are in flight, and nothing of the database changes but its queues
  pub record WatchesDb (old : DbValue P M) (tree : Tree) (prefix : Key) (number : ℕ) (new : DbValue P M) : Type 0 where
    pub watches : (slots : ℕ → Option CallInFlight) (slots_given : ℕ) → Watches (state_of store meant old slots slots_given) tree prefix number (state_of store meant new slots slots_given)
    pub same : new ≡ record old { queues = new.queues }
    pub sound : IsDb store old → IsDb store new

  -- It was refused, and nothing changes
  pub record RefusesWatch (old : DbValue P M) (tree : Tree) (prefix : Key) (e : Error) (new : DbValue P M) : Type 0 where
    pub may : MayRefuse (db_state store meant old) (store old.pages) (store old.pages) (ToCall (Watch tree prefix)) e
    pub is : new ≡ old

  -- A subscriber got what was next, if something waited for it
  pub record TakesFromDb (old : DbValue P M) (subscriber : ℕ) (next : Option Next) (new : DbValue P M) : Type 0 where
    pub takes : (slots : ℕ → Option CallInFlight) (slots_given : ℕ) → TakesNext (state_of store meant old slots slots_given) subscriber next (state_of store meant new slots slots_given)
    pub same : new ≡ record old { queues = new.queues }
    pub sound : IsDb store old → IsDb store new

  -- The queue of a subscriber was dropped, and the events that waited there are gone
  pub record EndsSubscriber (old : DbValue P M) (subscriber : ℕ) (new : DbValue P M) : Type 0 where
    pub gives_up : (slots : ℕ → Option CallInFlight) (slots_given : ℕ) → state_of store meant new slots slots_given ≡ record (state_of store meant old slots slots_given) { queues = put_at (state_of store meant old slots slots_given).queues subscriber None }
    pub same : new ≡ record old { queues = new.queues }
    pub sound : IsDb store old → IsDb store new
