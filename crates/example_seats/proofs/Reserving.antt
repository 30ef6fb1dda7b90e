-- What a swap of nothing for a guest makes of the seats.
use Rattle.std.proofs.Common.{◌≡◌, None, Some, Result, Ok, Err, is_ok, sym, ap, subst}
use Rattle.sled_nodes.specs.Order.{Key}
use Rattle.sled_store.specs.Store.{Store}
use Rattle.sled_model.specs.Maps.{Map, Merge}
use Rattle.sled_model.specs.State.{State, maps_of}
use Rattle.sled_model.specs.declared.reply.CompareAndSwapError.{CompareAndSwapError}
use Rattle.sled_model.specs.declared.tree.Tree.{Tree}
use Rattle.sled.specs.Promises.{ChangesMap, Swaps}
use Rattle.sled.specs.Values.{DbValue, db_state}
use Rattle.example_seats.specs.Seats.{pairs_of, plan, Reserves}

-- by how the swap came out
at_seat : (seat guest : Key) (before after : Map) (swapped : Result (Unit {0}) CompareAndSwapError) → Swaps seat None (Some guest) swapped before after → Reserves before seat guest (is_ok swapped) after
at_seat seat guest before after (Ok done) is = is
at_seat seat guest before after (Err why) is = (is.0, is.2)

module _ {P M : Type 0} (store : P → Store) (meant : M → Merge) (old new : DbValue P M) (seats : Tree) (seat guest : Key) where
  pub reserved : (swapped : Result (Unit {0}) CompareAndSwapError) → ChangesMap store meant old seats (Swaps seat None (Some guest) swapped) new → Reserves (plan store meant old seats) seat guest (is_ok swapped) (plan store meant new seats)
  reserved swapped c =
      subst (λ m. Reserves m seat guest (is_ok swapped) (plan store meant new seats)) (sym (ap pairs_of c.was))
      (subst (λ m. Reserves c.before seat guest (is_ok swapped) m) (sym (ap pairs_of c.becomes))
      (at_seat seat guest c.before c.after swapped c.is))

  pub unchanged : db_state store meant new ≡ db_state store meant old → plan store meant new seats ≡ plan store meant old seats
  unchanged same = ap (λ (s : State). pairs_of (maps_of s seats.name)) same
