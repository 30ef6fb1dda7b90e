use Rattle.std.proofs.Common.{not, ap, ◌∙◌}
use Rattle.std.proofs.lemmas.Result.{on_ok_weaker}
use Rattle.std.specs.Ordering.{nat_cmp, eq_by_cmp}
use Rattle.std.specs.Cmp.Lexicographic.{slice_cmp}
use Rattle.sled_nodes.specs.Order.{key_cmp}
use Rattle.sled_store.specs.Roots.{roots_of}
use Rattle.sled_store.proofs.Roots.{root_put, root_out, put_told, out_ascends}
use Rattle.sled_pages.proofs.memory.back.set_root.Goals as goal

pub returns-in-Some-clause-ok : goal.returns-in-Some-clause-ok
returns-in-Some-clause-ok c = rw c.in-Some.is (on_ok_weaker c.put_pair.result (λ e. ap roots_of e ∙ root_put c.args.name c.in-Some.pid c.args.roots.now.items) c.put_pair.ensures.ok)

pub returns-in-None-clause-ok : goal.returns-in-None-clause-ok
unfolding key_cmp
returns-in-None-clause-ok c = rw c.in-None.is (ap roots_of c.remove_key.ensures ∙ root_out _ _)

pub returns-in-Some-clause-ascends : goal.returns-in-Some-clause-ascends
returns-in-Some-clause-ascends c = put_told _ _ _ _ c.put_pair.result c.put_pair.ensures.ok c.put_pair.ensures.err c.requires

pub returns-in-None-clause-ascends : goal.returns-in-None-clause-ascends
unfolding key_cmp
returns-in-None-clause-ascends c = out_ascends (λ n. not (eq_by_cmp (slice_cmp nat_cmp) c.args.name n)) _ _ c.remove_key.ensures c.requires
