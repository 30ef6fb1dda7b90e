use Rattle.std.proofs.Common.{[], ◌∷◌}
use Rattle.std.specs.List.{AllWithin}
use Rattle.sled_store.specs.Store.{now}
use Rattle.tree_check.specs.theory.Walk.{LeadsTo, FindsReceived}
use Rattle.tree_check.proofs.pointers.check_pointers_of.Given as goal

abbrev pub invariant-loop-pointer : goal.invariant-loop-pointer
invariant-loop-pointer g l = AllWithin (λ e. LeadsTo (now (g.P.Pages.store l.pages)) l.view l.fn.level l.levels e.0 e.1) l.pointer-items 0 l.pointer-index × FindsReceived (now (g.P.Pages.store l.pages)) (l.view ∷ []) l.fn.level l.fn.levels l.levels
