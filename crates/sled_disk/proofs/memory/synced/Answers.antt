use Rattle.std.proofs.Common.{◌≡◌, get_or, true, rules, ◌-◌}
use Rattle.sled_disk.specs.Chosen.{is_sync}
use Rattle.sled_disk.proofs.Synced.{none_behind, some_behind}
use Rattle.sled_disk.proofs.memory.synced.Goals as goal

pub returns-else-not-is_sync-clause-followed : goal.returns-else-not-is_sync-clause-followed
returns-else-not-is_sync-clause-followed c i lt =
    let here : is_sync (get_or c.args.calls.now (c.loop-count.count - 1) c.index-calls-count.result) ≡ true = search rules in
    some_behind is_sync c.args.calls.now c.loop-count.count i c.index-calls-count.result lt c.loop-count.invariant.within here

pub returns-else-not-is_sync-clause-none : goal.returns-else-not-is_sync-clause-none
returns-else-not-is_sync-clause-none c i le = none_behind is_sync c.args.calls.now c.loop-count.count i le c.loop-count.invariant.none

pub returns-after-loop-count-clause-none : goal.returns-after-loop-count-clause-none
returns-after-loop-count-clause-none c i le = none_behind is_sync c.args.calls.now c.loop-count.count i le c.loop-count.invariant.none
