-- A database that is shared.
use Rattle.std.specs.Prelude.{◌≡◌, ◌⊎◌, ℕ, Bool}
use Rattle.sled_store.specs.Store.{Store, now}
use Rattle.sled_nodes.specs.declared.error.Error.{Error}
use Rattle.sled_model.specs.Maps.{Merge}
use Rattle.tree_laws.specs.Contents.{trees_of}
use Rattle.tree_pages.specs.Export.{collections}
use Rattle.sled.specs.Export.{RefusesExport}
use Rattle.sled.specs.Flush.{FlushesDb, RefusesFlush}
use Rattle.sled.specs.Values.{DbValue}
use Rattle.machine_shared.specs.Values.{OpeningValue}

-- what a database has as it is shared, flushed or not
abbrev pub opening_of : {P M : Type 0} → (P → Store) → Bool → DbValue P M → OpeningValue
opening_of store flushed db = record { contents = collections (trees_of (now (store db.pages))) db.trees; flushed = flushed }

-- its store made all durable
abbrev pub WasFlushed : {P M : Type 0} → (P → Store) → (P → ℕ) → (M → Merge) → DbValue P M → Type 0
WasFlushed {P} {M} store flush_number meant db = (number : ℕ) × (after : DbValue P M) × FlushesDb store flush_number meant db number after

-- it is not flushed and shared: it cannot be exported, and is as it was, or its flush is refused
abbrev pub RefusesFlushed : {P M : Type 0} → (P → Store) → (M → Merge) → DbValue P M → DbValue P M → Error → Type 0
RefusesFlushed store meant old new e = ((new ≡ old) × RefusesExport (store old.pages) e) ⊎ RefusesFlush store meant old new e
