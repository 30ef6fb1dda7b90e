-- What the clients that test the contract of a store say.
use Rattle.std.specs.Prelude.{◌≡◌, ◌≢◌, ℕ, Bool, true, false, ◌∷◌, [], ◌++◌, Option, Some, None}
use Rattle.sled_nodes.specs.Order.{Key}
use Rattle.sled_store.specs.Update.{put_at, put_name}
use Rattle.sled_nodes.specs.declared.node.Node.{Node}
use Rattle.sled_store.specs.State.{PageBecomes}
use Rattle.sled_store.specs.Store.{Store, now, version_now}

-- two entries more, and the page has both changes now
pub record Twice (f g : Node → Node) (pid version : ℕ) (old new : Store) : Type 0 where
  pub node : Node
  pub was : (now old).pages pid ≡ Some (record { version = version; node = node })
  pub middle : ℕ
  pub last : ℕ
  pub recent : new.recent ≡ old.recent ++ PageBecomes pid (Some (record { version = middle; node = f node })) ∷ PageBecomes pid (Some (record { version = last; node = g (f node) })) ∷ []
  pub is : (now new).pages pid ≡ Some (record { version = last; node = g (f node) })

-- two changes, or none if the page had another version
abbrev pub links_as : (Node → Node) → (Node → Node) → ℕ → ℕ → Store → Store → Bool → Type 0
links_as f g pid version old new true = Twice f g pid version old new
links_as f g pid version old new false = (new ≡ old) × (version_now old pid ≢ Some version)

abbrev pub opens_as : Key → Node → Option ℕ → Store → Store → Type 0
opens_as name node (Some pid) old new =
    (version : ℕ) × ((now old).roots name ≡ None) × ((now old).pages pid ≡ None) × ((now new).roots ≡ put_name (now old).roots name (Some pid))
    × ((now new).pages ≡ put_at (now old).pages pid (Some (record { version = version; node = node })))
opens_as name node None old new = (now old).roots name ≢ None

-- a name that had no root has one, which is a new page of this node; or the name had one
pub record Opens (name : Key) (node : Node) (pid : Option ℕ) (old new : Store) : Type 0 where
  pub is : opens_as name node pid old new
