use Rattle.std.proofs.Common.{◌≡◌, ◌∙◌, ap, subst, IfOk}
use Rattle.std.specs.Option.{option_copied}
use Rattle.std.specs.FinMap.Entries.{find}
use Rattle.sled_nodes.specs.Order.{key_cmp}
use Rattle.tree_transactions.proofs.Overlaying.{found}
use Rattle.tree_transactions.proofs.overlay.own_write.Goals as goal

pub returns-clause-ok : goal.returns-clause-ok
unfolding key_cmp
returns-clause-ok c =
    let is : option_copied c.get.result ≡ find key_cmp c.args.key.now c.args.overlay.now =
    c.get.ensures.value
    ∙ found key_cmp c.in_ok-key.key c.writes.result.now.entries
    ∙ ap (find key_cmp c.in_ok-key.key) c.writes.ensures.entries
    ∙ ap (λ q. find key_cmp q c.args.overlay.now) c.in_ok-key.ensures.ok in
    subst (λ o. IfOk c.copy_written-written.result (λ w. w ≡ o)) is c.copy_written-written.ensures.ok
