use Rattle.std.proofs.Common.{[], ◌∷◌}
use Rattle.sled_disk.specs.Disk.{Torn}
use Rattle.sled_log.specs.Log.{closed}
use Rattle.sled_log.specs.Append.{IsBeforeOrAfter}
use Rattle.sled_log.proofs.Moments.{joined_runs}
use Rattle.sled_files.specs.Change.{changed_all, nothing_yet}
use Rattle.sled_files.specs.Standing.{IsBegun}
use Rattle.sled_files.proofs.Beginning.{closed_or_not, block_for_first, begun_or_not, stands_on_ok}
use Rattle.sled_files.proofs.begin.begin_with.Goals as goal

pub returns-clause-any_moment : goal.returns-clause-any_moment
returns-clause-any_moment g c payload generation changes first =
    let file = g.D.Disk.seen c.args.disk.now in
    let mid = g.D.Disk.seen c.write_through.new.disk in
    let d = changed_all changes nothing_yet in
    let block = block_for_first first file mid c.in_ok-write_through.ensures.written in
    joined_runs g.D.Disk.moment g.D.Disk.left_since c.args.disk.now c.write_through.new.disk c.append.new.disk (Torn 0 (closed ∷ []) file) (IsBeforeOrAfter block) (IsBegun file generation d) c.write_through.ensures.any_moment (c.append.ensures.any_moment block)
    (λ left torn. closed_or_not file left generation d torn)
    (λ left either. begun_or_not first file mid c.in_ok-write_through.ensures.written left either)

pub returns-clause-stands : goal.returns-clause-stands
returns-clause-stands g c = stands_on_ok c.append.result (g.D.Disk.seen c.args.disk.now) (g.D.Disk.seen c.write_through.new.disk) (g.D.Disk.seen c.append.new.disk) c.args.block.now c.in_ok-write_through.ensures.written c.append.ensures.next
