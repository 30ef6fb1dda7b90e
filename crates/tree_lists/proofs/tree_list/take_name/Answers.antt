use Rattle.std.proofs.Common.{rules}
use Rattle.std.proofs.lemmas.Fn.{filter_same}
use Rattle.sled_nodes.specs.Order.{key_cmp}
use Rattle.tree_lists.proofs.tree_list.take_name.Goals as goal

pub returns : goal.returns
unfolding key_cmp
returns c = filter_same _ _ _ (λ x b f' k. search rules) _ _ c.retain.ensures.filtered
