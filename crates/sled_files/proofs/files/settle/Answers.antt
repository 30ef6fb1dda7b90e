use Rattle.std.proofs.Common.{◌≡◌, ℕ, subst}
use Rattle.sled_files.specs.Opening.{is_counted}
use Rattle.sled_files.proofs.files.settle.Goals as goal

pub returns-in-Err-clause-cause : goal.returns-in-Err-clause-cause
returns-in-Err-clause-cause g c = c.refusal_of.ensures.counted _ _ (rw c.in-Err.is at c.sync.ensures.cause.is)

pub returns-in-Err-read_all-clause-cause : goal.returns-in-Err-read_all-clause-cause
returns-in-Err-read_all-clause-cause g c =
    let calm : g.D.Disk.faults c.sync.new.self ≡ g.D.Disk.faults c.args.disk.now = rw c.in_default.is at c.sync.ensures.cause.is in
    subst (λ (n : ℕ). is_counted n (g.D.Disk.faults c.read_all.new.disk) c.refusal_of-in-Err-read_all.result) calm (c.refusal_of-in-Err-read_all.ensures.counted _ _ (rw c.in-Err-read_all.is at c.read_all.ensures.cause.is))
