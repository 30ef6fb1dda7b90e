use Rattle.std.proofs.Common.{◌≡◌, rules, of_calls, ap, ◌∙◌}
use Rattle.std.proofs.lemmas.Fn.{always_returns_same}
use Rattle.std.specs.Cmp.Lexicographic.{slice_cmp}
use Rattle.std.specs.List.{insert}
use Rattle.std.specs.Ordering.{nat_cmp}
use Rattle.sled_nodes.specs.Order.{key_cmp}
use Rattle.example_stores.proofs.Logging.{root_at, root_before}
use Rattle.example_stores.proofs.log_pages.put_root.Goals as goal

pub returns-in-Ok-clause-ok : goal.returns-in-Ok-clause-ok
unfolding key_cmp
returns-in-Ok-clause-ok c =
    let found = c.binary_search_by.ensures.position (λ e. slice_cmp nat_cmp e.0 c.args.name.now) (always_returns_same _ _ _ (λ a r f k. search (rules, of_calls))) in
    root_at c.args.name.now c.args.pid c.args.roots.now.items c.deref.result.now c.binary_search_by.result c.deref.ensures.value c.requires c.binary_search_by.ensures.bound found c.in-Ok.i c.index_mut.result.now c.in-Ok.is c.index_mut.ensures.value

pub returns-in_ok-insert-in-Err-clause-ok : goal.returns-in_ok-insert-in-Err-clause-ok
unfolding key_cmp
returns-in_ok-insert-in-Err-clause-ok c =
    let found = c.binary_search_by.ensures.position (λ e. slice_cmp nat_cmp e.0 c.args.name.now) (always_returns_same _ _ _ (λ a r f k. search (rules, of_calls))) in
    let put_in : c.insert.new.self.items ≡ insert c.args.roots.now.items c.in-Err.i (c.args.name.now, c.args.pid) = c.in_ok-insert-in-Err.ensures.items ∙ ap (λ k. insert c.args.roots.now.items c.in-Err.i (k, c.args.pid)) c.in_ok-clone-in-Err.ensures.ok in
    put_in ∙ root_before c.args.name.now c.args.pid c.args.roots.now.items c.deref.result.now c.binary_search_by.result c.deref.ensures.value c.requires c.binary_search_by.ensures.bound found c.in-Err.i c.in-Err.is
