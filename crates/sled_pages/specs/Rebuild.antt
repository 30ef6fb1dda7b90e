-- A store in the making, and the store that comes of it.
use Rattle.std.specs.Prelude.{ℕ, ◌+◌, max, nat_lt, ◌&&◌, true, false, [], Option, Some, None, option_map}
use Rattle.sled_nodes.specs.Order.{Key}
use Rattle.sled_nodes.specs.Node.{after_link}
use Rattle.sled_nodes.specs.declared.link.Link.{Link}
use Rattle.sled_nodes.specs.declared.node.Node.{Node}
use Rattle.sled_store.specs.Update.{put_at, put_name}
use Rattle.sled_store.specs.declared.page.Page.{Page}
use Rattle.sled_store.specs.Store.{Store}
use Rattle.sled_store.specs.Roots.{roots_of}
use Rattle.sled_pages.specs.declared.memory.rebuild.Rebuild.{Rebuild}
use Rattle.sled_pages.specs.Numbered.{numbered}
use Rattle.sled_pages.specs.Blocks.{lies_of}
use Rattle.sled_pages.specs.Table.{pages_of}

-- the pages by number and the roots by name, the greatest page number that a page was put at, and the first version above all
pub record Rebuilt : Type 0 where
  pub pages : ℕ → Option Page
  pub roots : Key → Option ℕ
  pub last : ℕ
  pub next : ℕ

abbrev pub rebuilt_of : Rebuild → Rebuilt
rebuilt_of r = record { pages = pages_of (numbered (lies_of r.pages)); roots = roots_of r.roots.items; last = r.last; next = r.next_version }

abbrev pub nothing_put : Rebuilt
nothing_put = record { pages = λ _. None; roots = λ _. None; last = 0; next = 0 }

-- with a page of this number, in place of the one that was there
abbrev pub with_page : ℕ → ℕ → Node → Rebuilt → Rebuilt
with_page pid version node r = record r { pages = put_at r.pages pid (Some (record { version = version; node = node })); last = max r.last pid; next = max r.next (version + 1) }

-- with one link more on a page, if there is the page
abbrev pub with_link : ℕ → ℕ → Link → Rebuilt → Rebuilt
with_link pid version link r = record r { pages = put_at r.pages pid (option_map (λ (p : Page). record { version = version; node = after_link link p.node }) (r.pages pid)); next = max r.next (version + 1) }

abbrev pub without_page : ℕ → Rebuilt → Rebuilt
without_page pid r = record r { pages = put_at r.pages pid None }

-- with this root of a name, or without one
abbrev pub with_root : Key → Option ℕ → Rebuilt → Rebuilt
with_root name root r = record r { roots = put_name r.roots name root }

-- A recovered store with these pages and roots, of which nothing is recent. The page numbers from 1 to below `pids` count as given,
-- or up to the last one that was put, and the versions below `versions`, or below all that were put
abbrev pub rebuilt_store : Rebuilt → ℕ → ℕ → ℕ → Store
rebuilt_store r pids versions mark = record {
  base = record { pages = r.pages; roots = r.roots; in_group = false };
  recent = [];
  actions = 0;
  faults = 0;
  is_readable = λ _. true;
  mark = mark;
  recovered = true;
  pids = λ p. nat_lt 0 p && nat_lt p (max (r.last + 1) pids);
  versions = λ v. nat_lt v (max r.next versions);
}
