use Rattle.std.proofs.Common.{rules, of_calls}
use Rattle.std.proofs.lemmas.Fn.{always_returns_same}
use Rattle.std.specs.Cmp.Lexicographic.{slice_cmp, nat_list_cmp_total}
use Rattle.std.specs.Ordering.{nat_cmp}
use Rattle.sled_nodes.specs.Order.{key_cmp}
use Rattle.sled_nodes.proofs.Rising.{searched}
use Rattle.tree_lists.proofs.tree_list.place_of_name.Goals as goal

pub returns : goal.returns
unfolding key_cmp
returns c =
    let found = c.binary_search_by.ensures.position (λ e. slice_cmp nat_cmp e.0 c.args.name.now) (always_returns_same _ _ _ (λ a r f k. search (rules, of_calls))) in
    let at = searched (slice_cmp nat_cmp) nat_list_cmp_total c.args.name.now c.args.trees.now c.requires c.binary_search_by.result c.binary_search_by.ensures.bound found in
    record { ok = at.ok; err = at.err }
