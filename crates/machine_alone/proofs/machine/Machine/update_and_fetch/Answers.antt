use Rattle.std.proofs.Common.{Option, IfOk, IfErr}
use Rattle.sled_nodes.specs.Order.{Key}
use Rattle.sled_model.specs.Whole.{RefusesPoint}
use Rattle.sled_model.specs.declared.call.Call.TheVariants.{Get}
use Rattle.sled.specs.Values.{db_state}
use Rattle.sled.specs.Fetch.{FetchDecided, FetchRefused}
use Rattle.sled.specs.Promises.{ChangesMap, leaves_as}
use Rattle.sled.specs.Written.{Updates}
use Rattle.machine_alone.proofs.Fetched.{after_point}
use Rattle.machine_alone.proofs.Transacted.{db_over}
use Rattle.machine_alone.proofs.machine.Machine.update_and_fetch.Goals as goal

pub returns-clause-ok : goal.returns-clause-ok
returns-clause-ok g c = db_over _ _ c.self.view_is (λ d. IfOk c.update_and_fetch.result (λ made. (stood : Option Key) × FetchDecided g.P.Pages.store g.M.MergeOperator.meant g.F.FnMut c.args.f d c.args.tree.now c.args.key.now stood made c.update_and_fetch.new.self)) c.update_and_fetch.ensures.ok

pub returns-clause-err : goal.returns-clause-err
returns-clause-err g c = db_over _ _ c.self.view_is (λ d. IfErr c.update_and_fetch.result (λ e. FetchRefused g.P.Pages.store g.M.MergeOperator.meant g.F.FnMut c.args.f d c.args.tree.now c.args.key.now e c.update_and_fetch.new.self)) c.update_and_fetch.ensures.err

pub returns-clause-updates : goal.returns-clause-updates
returns-clause-updates g c = db_over _ _ c.self.view_is (λ d. IfOk c.update_and_fetch.result (λ made. (stood : Option Key) × ChangesMap g.P.Pages.store g.M.MergeOperator.meant d c.args.tree.now (Updates g.F.FnMut c.args.f c.args.key.now stood made) c.update_and_fetch.new.self)) c.update_and_fetch.ensures.updates

pub returns-clause-refuses : goal.returns-clause-refuses
returns-clause-refuses g c =
    let store = g.P.Pages.store in
    let meant = g.M.MergeOperator.meant in
    let new = c.update_and_fetch.new.self in
    db_over _ _ c.self.view_is (λ d. IfErr c.update_and_fetch.result (λ e. RefusesPoint (db_state store meant d) (store d.pages) (store new.pages) c.args.tree.now (Get c.args.key.now) e (db_state store meant new))) c.update_and_fetch.ensures.refuses

pub returns-clause-leaves : goal.returns-clause-leaves
returns-clause-leaves g c = db_over _ _ c.self.view_is (λ d. leaves_as g.P.Pages.store g.M.MergeOperator.meant c.update_and_fetch.result d c.update_and_fetch.new.self) c.update_and_fetch.ensures.leaves

pub invariant_of-self : goal.invariant_of-self
invariant_of-self g c = after_point g.P.Pages.store g.M.MergeOperator.meant (record { db = c.self.inside.db; flights = c.self.inside.flights.entries; slots_given = c.self.inside.slots_given }) c.update_and_fetch.new.self c.self.invariant c.update_and_fetch.result c.update_and_fetch.ensures.leaves
