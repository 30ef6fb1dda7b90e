-- Pages between two openings.
use Rattle.std.specs.Prelude.{◌≡◌, Bool, true, is_some}
use Rattle.sled_store.specs.Store.{Store, now}
use Rattle.tree_laws.specs.Crashes.{IsValid, IsCrashConsistent}
use Rattle.sled.specs.declared.TheConstants.{DEFAULT_TREE}

-- the pages are well formed, and if `crashes` says so every state that a crash may leave is. They can be opened if no group is open
pub record IsKept (crashes : Bool) (s : Store) : Type 0 where
  pub well : IsValid (now s)
  pub safe : crashes ≡ true → IsCrashConsistent s

-- there is a default tree
abbrev pub HasDefault : Store → Type 0
HasDefault s = is_some ((now s).roots DEFAULT_TREE.now) ≡ true
