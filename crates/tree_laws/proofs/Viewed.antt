-- A page as a store shows it.
use Rattle.std.proofs.Common.{◌≡◌, ℕ, Option, Some, None, sym, refl, ap}
use Rattle.sled_nodes.proofs.Basics.{none_some, some_is}
use Rattle.sled_store.specs.Store.{view_of}
use Rattle.sled_store.specs.declared.page.Page.{Page}
use Rattle.sled_store.specs.declared.page.View.{View}

pub viewed : (pid : ℕ) (page : Option Page) (v : View) → Some v ≡ view_of pid page → (v.pid ≡ pid) × (page ≡ Some (record { version = v.version; node = v.node }))
viewed pid None v e = none_some (sym e)
viewed pid (Some g) v e = let is = some_is e in (ap (λ (z : View). z.pid) is, ap (λ (z : View). Some (record { version = z.version; node = z.node })) (sym is))

pub gone : (pid : ℕ) (page : Option Page) → None ≡ view_of pid page → page ≡ None
gone pid None e = refl
gone pid (Some g) e = none_some e
