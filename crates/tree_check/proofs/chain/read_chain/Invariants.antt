use Rattle.std.proofs.Common.{Some}
use Rattle.std.specs.BTreeSet.{contains}
use Rattle.std.specs.Ordering.{nat_cmp}
use Rattle.sled_store.specs.Store.{now}
use Rattle.tree_check.specs.theory.Walk.{ReadsChain, end_of}
use Rattle.tree_check.proofs.chain.read_chain.Given as goal

abbrev pub invariant-loop : goal.invariant-loop
invariant-loop g l = ReadsChain (now (g.P.Pages.store l.pages)) (contains nat_cmp l.children) l.fn.level l.fn.first l.chain.items (Some l.pid) (end_of l.chain.items) l.fn.levels l.levels
