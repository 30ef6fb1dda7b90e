use Rattle.std.proofs.Common.{sym, ◌∙◌, arith}
use Rattle.tree_transactions.specs.Ids.{SetsAside}
use Rattle.tree_transactions.specs.Transactions.{Begins, left_of_tree}
use Rattle.tree_transactions.proofs.Attempting.{sets_only, only_both, on_way_first, on_way_more, on_way_ends}
use Rattle.tree_transactions.proofs.attempts.transact.Goals as goal

pub loop-init : goal.loop-init
loop-init g c = on_way_first g.F.Fn g.R.TransactionAnswer.result_of c.args.f SetsAside sets_only (Begins g.P.Pages.store c.args.root) left_of_tree (g.P.Pages.store c.args.pages.now) c.args.greatest_id.now

pub attempt-requires-after_bounds : goal.attempt-requires-after_bounds
attempt-requires-after_bounds g c κs within =
    let store = g.P.Pages.store in
    λ s here only le aside given begins. c.requires s here
    (only_both (store c.args.pages.now) (store c.loop.pages) s c.loop.invariant.only only) (omega (arith, c.loop.invariant.rises, le)) (λ before. aside (c.loop.invariant.aside before)) given begins

pub loop-preserved : goal.loop-preserved
loop-preserved g c =
    let store = g.P.Pages.store in
    on_way_more g.F.Fn g.R.TransactionAnswer.result_of c.args.f SetsAside sets_only (Begins store c.args.root) left_of_tree
    (store c.args.pages.now) (store c.loop.pages) (store c.attempt.new.pages) c.args.greatest_id.now c.loop.counter c.loop.greatest_id c.attempt.new.greatest_id
    c.attempt.result c.loop.invariant c.attempt.ensures (sym c.ended.ensures ∙ c.in_default.is)

pub returns-in-Some : goal.returns-in-Some
returns-in-Some g c =
    let store = g.P.Pages.store in
    on_way_ends g.F.Fn g.R.TransactionAnswer.result_of c.args.f SetsAside sets_only (Begins store c.args.root) left_of_tree
    (store c.args.pages.now) (store c.loop.pages) (store c.attempt.new.pages) c.args.greatest_id.now c.loop.counter c.loop.greatest_id c.attempt.new.greatest_id
    c.attempt.result c.in-Some.ended c.loop.invariant c.loop-test.true c.attempt.ensures (sym c.ended.ensures ∙ c.in-Some.is)
