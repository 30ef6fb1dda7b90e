use Rattle.std.proofs.Common.{subst, List, ℕ}
use Rattle.sled_log.specs.Digest.{digest}
use Rattle.sled_log.specs.Log.{IsLog}
use Rattle.sled_log.specs.Tear.{log_to_tear, ReadsAs}
use Rattle.sled_log.proofs.Moments.{weaker, joined_runs}
use Rattle.sled_log.proofs.Mended.{same_reads}
use Rattle.sled_log.proofs.mending.mend.Goals as goal

pub returns-in_err-bytes-clause-any_moment : goal.returns-in_err-bytes-clause-any_moment
returns-in_err-bytes-clause-any_moment g c =
    weaker g.D.Disk.moment g.D.Disk.left_since c.args.disk.now c.read_all.new.disk _ (ReadsAs (g.D.Disk.seen c.args.disk.now)) c.read_all.ensures.any_moment (λ f left. same_reads (c.requires.on_disk f left))

pub returns-in_err-end-clause-any_moment : goal.returns-in_err-end-clause-any_moment
returns-in_err-end-clause-any_moment g c =
    weaker g.D.Disk.moment g.D.Disk.left_since c.args.disk.now c.read_all.new.disk _ (ReadsAs (g.D.Disk.seen c.args.disk.now)) c.read_all.ensures.any_moment (λ f left. same_reads (c.requires.on_disk f left))

pub returns-in_err-close_at-clause-any_moment : goal.returns-in_err-close_at-clause-any_moment
returns-in_err-close_at-clause-any_moment g c =
    joined_runs g.D.Disk.moment g.D.Disk.left_since c.args.disk.now c.read_all.new.disk c.close_at.new.disk _ _ (ReadsAs (g.D.Disk.seen c.args.disk.now)) c.read_all.ensures.any_moment c.close_at.ensures.any_moment
    (λ f left. same_reads (c.requires.on_disk f left))
    (λ f reads. subst (λ (l : List ℕ). ReadsAs l f) c.read_all.ensures.seen reads)

pub returns-clause-any_moment : goal.returns-clause-any_moment
returns-clause-any_moment g c =
    joined_runs g.D.Disk.moment g.D.Disk.left_since c.args.disk.now c.read_all.new.disk c.close_at.new.disk _ _ (ReadsAs (g.D.Disk.seen c.args.disk.now)) c.read_all.ensures.any_moment c.close_at.ensures.any_moment
    (λ f left. same_reads (c.requires.on_disk f left))
    (λ f reads. subst (λ (l : List ℕ). ReadsAs l f) c.read_all.ensures.seen reads)

pub returns-clause-log : goal.returns-clause-log
returns-clause-log g c = subst (λ (file : List ℕ). IsLog digest (g.D.Disk.seen c.close_at.new.disk) (log_to_tear digest file) c.in_ok-end.end) c.read_all.ensures.seen c.in_ok-close_at.ensures.log
