-- Of Memory, for proofs. What a store in memory means.
use Rattle.std.specs.Prelude.{◌≡◌, ℕ, ◌+◌, ◌^◌, ◌<◌, vec_len, vec_capacity, Option, Some}
use Rattle.sled_pages.specs.declared.memory.MemPages.{MemPages}
use Rattle.sled_store.specs.Store.{Store, version_now}

-- there is room for one action more
pub record HasRoom (m : MemPages) : Type 0 where
  pub log : vec_len m.log < vec_capacity m.log
  pub actions : m.actions + 1 < 2 ^ 64

-- what a page has in place of a version
pub record IsOther (pid version : ℕ) (s : Store) (present : Option ℕ) : Type 0 where
  pub is : present ≡ version_now s pid
  pub other : (present ≡ Some version) → ⊥
