use Rattle.std.specs.List.{All, AllWithin}
use Rattle.sled_nodes.specs.Node.{pointers}
use Rattle.sled_store.specs.Store.{now}
use Rattle.tree_check.specs.theory.Walk.{LeadsTo, FindsReceived}
use Rattle.tree_check.proofs.pointers.check_pointers.Given as goal

abbrev pub invariant-loop-view : goal.invariant-loop-view
invariant-loop-view g l = AllWithin (λ v. All (λ e. LeadsTo (now (g.P.Pages.store l.pages)) v l.fn.level l.levels e.0 e.1) (pointers v.node.content)) l.above 0 l.view-index × FindsReceived (now (g.P.Pages.store l.pages)) l.above l.fn.level l.fn.levels l.levels
