use Rattle.std.proofs.Common.{not, ap, ◌∙◌}
use Rattle.std.proofs.lemmas.Result.{on_ok_weaker}
use Rattle.std.specs.Ordering.{nat_cmp, eq_by_cmp}
use Rattle.std.specs.Cmp.Lexicographic.{slice_cmp}
use Rattle.sled_store.specs.Roots.{roots_of}
use Rattle.sled_store.proofs.Roots.{root_put, root_out, out_ascends}
use Rattle.example_stores.proofs.Logging.{put_ascends}
use Rattle.example_stores.proofs.log_pages.set_root.Goals as goal

pub returns-in-Some-clause-ok : goal.returns-in-Some-clause-ok
returns-in-Some-clause-ok c = rw c.in-Some.is (on_ok_weaker c.put_root.result (λ e. ap roots_of e ∙ root_put c.args.name.now c.in-Some.pid c.args.roots.now.items) c.put_root.ensures.ok)

pub returns-in-Some-clause-ascends : goal.returns-in-Some-clause-ascends
returns-in-Some-clause-ascends c = on_ok_weaker c.put_root.result (λ e. put_ascends c.args.name.now c.in-Some.pid c.args.roots.now.items _ e c.requires) c.put_root.ensures.ok

pub returns-in-None-clause-ok : goal.returns-in-None-clause-ok
returns-in-None-clause-ok c = rw c.in-None.is (ap roots_of c.take_root.ensures ∙ root_out _ _)

pub returns-in-None-clause-ascends : goal.returns-in-None-clause-ascends
returns-in-None-clause-ascends c = out_ascends (λ n. not (eq_by_cmp (slice_cmp nat_cmp) c.args.name.now n)) _ _ c.take_root.ensures c.requires
