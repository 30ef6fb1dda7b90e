use Rattle.std.proofs.Common.{ℕ, List, ◌++◌, refl, subst}
use Rattle.sled_nodes.specs.Prefix.{prefix_of}
use Rattle.sled_nodes.specs.Order.{Key}
use Rattle.sled_store.specs.In.{In}
use Rattle.tree_laws.specs.Forest.{later}
use Rattle.tree_check.proofs.Whole.{whole_of, later_behind}
use Rattle.tree_check.proofs.page.leads_later.Goals as goal

pub returns : goal.returns
returns c = λ t.
    let found = c.is_later.ensures t in
    let front = prefix_of c.args.index.now in
    (front ++ found.0, subst (λ (es : List (Key × ℕ)). In (front ++ found.0, c.args.child) (later es)) (whole_of c.args.index.now c.rests.result.now front refl c.rests.ensures) (later_behind front found.0 c.args.child c.rests.result.now found.1))
