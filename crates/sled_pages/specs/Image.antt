-- What a store that is made from an image means.
use Rattle.std.specs.Prelude.{◌≡◌, ℕ, true, false, List, []}
use Rattle.std.specs.List.{list_all}
use Rattle.sled_nodes.specs.Order.{Key}
use Rattle.sled_nodes.specs.declared.node.Node.{Node}
use Rattle.sled_store.specs.State.{nodes_of}
use Rattle.sled_store.specs.Store.{Store}
use Rattle.sled_nodes.specs.Image.{node_in, root_in, all_numbers}

-- a recovered store with these pages, roots and mark, of which nothing is recent; of one number or name the last entry counts.
-- The numbers that the image has or names count as given, so that no new page gets one of them
pub record IsImage (image : List (ℕ × Node)) (roots : List (Key × ℕ)) (mark : ℕ) (s : Store) : Type 0 where
  pub pages : (p : ℕ) → nodes_of s.base p ≡ node_in image p
  pub rooted : (name : Key) → s.base.roots name ≡ root_in roots name
  pub in_group : s.base.in_group ≡ false
  pub recent : s.recent ≡ []
  pub actions : s.actions ≡ 0
  pub faults : s.faults ≡ 0
  pub readable : (p : ℕ) → s.is_readable p ≡ true
  pub marked : s.mark ≡ mark
  pub recovered : s.recovered ≡ true
  pub given : all_numbers s.pids image ≡ true
  pub roots_given : list_all (λ r. s.pids r.1) roots ≡ true
