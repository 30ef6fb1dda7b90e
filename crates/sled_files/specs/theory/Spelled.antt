-- A changing call of the pages in memory, beside which its change is spelled.
use Rattle.std.specs.Prelude.{◌≡◌, ◌⊎◌, ℕ, true, List, [], ◌∷◌, ◌++◌, Some}
use Rattle.sled_store.specs.State.{Action}
use Rattle.sled_store.specs.Store.{Store, now}
use Rattle.sled_bytes.specs.declared.change.Change.{Change}
use Rattle.sled_bytes.specs.declared.change.Change.TheVariants.{Given, Linked}
use Rattle.sled_bytes.specs.Spelling.{change_bytes, FitsChange}
use Rattle.sled_files.specs.Change.{action_of}

-- the page number and the version of a change were given
abbrev pub WereGiven : Store → Change → Type 0
WereGiven s (Given pid version node) = (s.pids pid ≡ true) × (s.versions version ≡ true)
WereGiven s (Linked pid version link) = (s.pids pid ≡ true) × (s.versions version ≡ true)
WereGiven s _ = Unit {0}

-- no action was made, and nothing was spelled
pub record MakesNone (old new : Store) (before after : List ℕ) : Type 0 where
  pub base : new.base ≡ old.base
  pub recent : new.recent ≡ old.recent
  pub bytes : after ≡ before

-- one was made, and spelled
pub record MakesOne (old new : Store) (before after : List ℕ) : Type 0 where
  pub change : Change
  pub action : Action
  pub fits : FitsChange change
  pub is : action_of change (now old) ≡ Some action
  pub base : new.base ≡ old.base
  pub recent : new.recent ≡ old.recent ++ action ∷ []
  pub bytes : after ≡ before ++ change_bytes change
  pub given : WereGiven new change

-- what is spelled is what was made
pub record IsSpelled (old new : Store) (before after : List ℕ) : Type 0 where
  pub is : MakesNone old new before after ⊎ MakesOne old new before after
