use Rattle.std.proofs.Common.{refl, sym, subst}
use Rattle.sled_files.specs.Stored.{Stored, stored_as}
use Rattle.sled_files.specs.Opening.{LeavesWhileOpened, IsFresh}
use Rattle.sled_files.specs.Lasting.{AreLimits}
use Rattle.sled_files.proofs.Reopening.{limits_opened, stands_opened, within_opened, opens_to, recovers_each, begins_new, refused_openable, lasts_while, lasts_then}
use Rattle.sled_files.proofs.Flawed.{told, flaw_unopened, opened_openable}
use Rattle.sled_files.proofs.file_pages.FilePages.open.Goals as goal

pub new-requires-clause-stands : goal.new-requires-clause-stands
new-requires-clause-stands g c = stands_opened g.D.Disk.seen g.D.Disk.may_leave (g.D.Disk.seen c.args.first) (g.D.Disk.seen c.args.second) c.in-Ok.files c.in-Ok.store c.in-Ok.ensures.ok

pub new-requires-clause-within : goal.new-requires-clause-within
new-requires-clause-within g c = within_opened g.D.Disk.seen g.D.Disk.may_leave (g.D.Disk.seen c.args.first) (g.D.Disk.seen c.args.second) c.in-Ok.files c.in-Ok.store c.in-Ok.ensures.ok

pub returns-in-Ok-clause-opens : goal.returns-in-Ok-clause-opens
returns-in-Ok-clause-opens g c = opens_to g.D.Disk.seen g.D.Disk.may_leave (g.D.Disk.seen c.args.first) (g.D.Disk.seen c.args.second) c.in-Ok.files c.in-Ok.store c.in-Ok.ensures.ok c.new.result c.new.ensures

pub returns-in-Ok-clause-recovers : goal.returns-in-Ok-clause-recovers
returns-in-Ok-clause-recovers g c = recovers_each g.D.Disk.seen g.D.Disk.may_leave (g.D.Disk.seen c.args.first) (g.D.Disk.seen c.args.second) c.new.result.files (stored_as c.new.result) (returns-in-Ok-clause-opens g c)

pub returns-in-Ok-clause-begins : goal.returns-in-Ok-clause-begins
returns-in-Ok-clause-begins g c = begins_new g.D.Disk.seen g.D.Disk.may_leave (g.D.Disk.seen c.args.first) (g.D.Disk.seen c.args.second) c.new.result.files (stored_as c.new.result) (returns-in-Ok-clause-opens g c)

pub returns-in-Ok-clause-limits : goal.returns-in-Ok-clause-limits
returns-in-Ok-clause-limits g c d are = subst (λ (f : Stored g.row.D.Denot). AreLimits f.limits d) (sym c.new.ensures) (limits_opened g.D.Disk.seen g.D.Disk.may_leave (g.D.Disk.seen c.args.first) (g.D.Disk.seen c.args.second) c.in-Ok.files c.in-Ok.store c.in-Ok.ensures.ok d are)

pub returns-in-Ok-clause-fresh : goal.returns-in-Ok-clause-fresh
returns-in-Ok-clause-fresh g c = subst (λ (f : Stored g.row.D.Denot). IsFresh f) (sym c.new.ensures) (record { asked = refl; pending = refl; longest = refl; missed = refl })

pub returns-in-Err-clause-refused : goal.returns-in-Err-clause-refused
returns-in-Err-clause-refused g c = refused_openable (g.D.Disk.seen c.args.first) (g.D.Disk.seen c.args.second) c.in-Err.refused.error c.in-Err.ensures.err

pub returns-in-Err-clause-keeps : goal.returns-in-Err-clause-keeps
returns-in-Err-clause-keeps g c = lasts_then c.args.first c.args.second c.in-Err.refused.first c.in-Err.refused.second c.in-Err.ensures.refused c.law_may_stay.ensures c.law_may_stay-2.ensures

pub returns-in-Ok-clause-any_moment : goal.returns-in-Ok-clause-any_moment
returns-in-Ok-clause-any_moment g c = subst (λ (f : Stored g.row.D.Denot). LeavesWhileOpened g.D.Disk.seen g.D.Disk.moment g.D.Disk.left_since g.D.Disk.may_leave c.args.first c.args.second f.files.first f.files.second) (sym c.new.ensures) c.in-Ok.ensures.any_moment

pub returns-in-Ok-clause-lasts : goal.returns-in-Ok-clause-lasts
returns-in-Ok-clause-lasts g c = lasts_while c.args.first c.args.second c.new.result.files.first c.new.result.files.second (returns-in-Ok-clause-any_moment g c) c.law_may_stay.ensures c.law_may_stay-2.ensures

pub returns-in-Err-clause-told : goal.returns-in-Err-clause-told
returns-in-Err-clause-told g c e is = told (g.D.Disk.seen c.args.first) (g.D.Disk.seen c.args.second) e c.in-Err.refused.error is c.in-Err.ensures.err

pub returns-in-Ok-clause-sound : goal.returns-in-Ok-clause-sound
returns-in-Ok-clause-sound g c e is = flaw_unopened (g.D.Disk.seen c.args.first) (g.D.Disk.seen c.args.second) e is (opened_openable (returns-in-Ok-clause-opens g c))
