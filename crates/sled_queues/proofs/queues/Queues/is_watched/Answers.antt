use Rattle.std.proofs.Common.{◌≡◌, ◌∙◌, ℕ, ◌+◌, Bool, false, List, length, sym, ap, subst}
use Rattle.std.specs.Ordering.{nat_cmp}
use Rattle.std.specs.BTreeMap.{get}
use Rattle.sled_nodes.specs.Order.{Key}
use Rattle.sled_queues.specs.Values.{QueuesValue, Waitings, queue_at}
use Rattle.sled_queues.specs.Tells.{is_watched_as}
use Rattle.sled_queues.specs.Lists.{AreListed, in_lengths, lists_of}
use Rattle.sled_queues.specs.theory.Lists.{at_beginnings, has_some}
use Rattle.sled_queues.proofs.Beginning.{found_is, nothing_watched}
use Rattle.sled_queues.proofs.Listed.{watched}
use Rattle.sled_queues.proofs.queues.Queues.is_watched.Goals as goal

told : (tree : ℕ) (key : Key) (queues : Waitings) (lists : ℕ → Key → List ℕ) → AreListed queues lists → (b : Bool) → b ≡ has_some (at_beginnings (lists tree) key (length key + 1)) → is_watched_as tree key queues b
told tree key queues lists l b e = subst (is_watched_as tree key queues) (sym e) (watched tree key (at_beginnings (lists tree) key (length key + 1)) queues (found_is queues lists l tree key))

pub returns-in-Some : goal.returns-in-Some
returns-in-Some c =
    subst (λ (s : QueuesValue). is_watched_as c.args.tree c.args.key.now (queue_at s) c.any_in.result) c.self.view_is
    (told c.args.tree c.args.key.now (get nat_cmp c.self.inside.queues) (lists_of c.self.inside.lists) c.self.invariant.1 c.any_in.result
    (c.any_in.ensures ∙ ap (λ o. has_some (at_beginnings (in_lengths o) c.args.key.now (length c.args.key.now + 1))) c.in-Some.ensures.value))

pub returns-in-None : goal.returns-in-None
returns-in-None c =
    subst (λ (s : QueuesValue). is_watched_as c.args.tree c.args.key.now (queue_at s) false) c.self.view_is
    (told c.args.tree c.args.key.now (get nat_cmp c.self.inside.queues) (lists_of c.self.inside.lists) c.self.invariant.1 false
    (sym (ap has_some (nothing_watched c.self.inside.lists c.args.tree c.args.key.now (length c.args.key.now + 1) c.in-None.ensures.value))))
