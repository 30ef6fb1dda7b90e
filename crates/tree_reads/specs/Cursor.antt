-- Where the pairs of a range go on from the front.
use Rattle.std.specs.Prelude.{◌≡◌, ℕ, ◌<◌, true, Option, Some, None}
use Rattle.std.specs.declared.ops.Bound.{Bound}
use Rattle.std.specs.declared.ops.Bound.TheVariants.{Excluded}
use Rattle.sled_nodes.specs.Order.{Key}
use Rattle.sled_nodes.specs.Among.{is_up_to}
use Rattle.sled_store.specs.declared.page.View.{View}
use Rattle.tree_reads.specs.declared.cursor.Cursor.{Cursor}
use Rattle.tree_reads.specs.Leaves.{entry_at}

-- behind a pair; if there is none, within the bound
abbrev pub lower_from : Bound Key → Option (Key × Key) → Bound Key
lower_from lo None = lo
lower_from lo (Some e) = Excluded e.0

-- if it is known how many pairs of the leaf may come, all that is still to come is behind the pair at the place
abbrev pub lower_at : Bound Key → Option View → ℕ → Option ℕ → Bound Key
lower_at lo leaf place None = lo
lower_at lo leaf place (Some n) = lower_from lo (entry_at leaf place)

-- the lower bound of what is still to come
abbrev pub lower : Cursor → Bound Key
lower c = lower_at c.lo c.leaf c.place c.end

-- the first so many pairs of the leaf are within the upper bound
abbrev pub are_up_to : Bound Key → Option View → Option ℕ → Type 0
are_up_to hi leaf None = Unit {0}
are_up_to hi leaf (Some n) = (i : ℕ) (e : Key × Key) → i < n → entry_at leaf i ≡ Some e → is_up_to hi e.0 ≡ true

pub record EndsAt (hi : Bound Key) (c : Cursor) : Type 0 where
  pub is : are_up_to hi c.leaf c.end
