-- Of Crashes, for proofs. Stores whose every state that a crash may leave is well formed, and what an action adds to those states.
use Rattle.std.specs.Prelude.{◌≡◌, ◌+◌, [], ◌∷◌, ◌++◌}
use Rattle.sled_store.specs.State.{Action}
use Rattle.sled_store.specs.Store.{Store}

-- this action was added; the page numbers and versions given, the faults and the mark may have changed too
pub record AddsAction (act : Action) (a b : Store) : Type 0 where
  pub base : b.base ≡ a.base
  pub recent : b.recent ≡ a.recent ++ act ∷ []
  pub actions : b.actions ≡ a.actions + 1
