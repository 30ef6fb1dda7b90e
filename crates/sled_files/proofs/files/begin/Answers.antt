use Rattle.std.proofs.Common.{[], sym, ap, subst}
use Rattle.sled_disk.specs.Disk.{LeavesOnly}
use Rattle.sled_files.specs.Change.{nothing_yet}
use Rattle.sled_files.specs.Standing.{IsBegun}
use Rattle.sled_files.specs.Files.{Files, GrowsTo}
use Rattle.sled_files.proofs.OfStore.{of_none}
use Rattle.sled_files.proofs.Grows.{spells_none}
use Rattle.sled_files.proofs.Readying.{ready_new}
use Rattle.sled_files.proofs.Meanwhile.{left_now}
use Rattle.sled_files.proofs.files.begin.Goals as goal

pub returns-in-Ok-clause-ready : goal.returns-in-Ok-clause-ready
returns-in-Ok-clause-ready g c =
    let begun = c.in-Ok.ensures.stands [] spells_none of_none in
    ready_new g.D.Disk.seen g.D.Disk.may_leave c.begin_file-begun.new.disk c.args.second c.in-Ok.ensures.durable c.requires.second_only c.in-Ok.gate 1 c.requires.blank begun.at begun.snapshot_is c.new.result c.new.ensures

pub returns-in-Ok-clause-first : goal.returns-in-Ok-clause-first
returns-in-Ok-clause-first g c =
    subst (λ (x : g.row.D.Denot). LeavesOnly g.D.Disk.moment g.D.Disk.left_since c.args.first x (IsBegun (g.D.Disk.seen c.args.first) 1 nothing_yet)) (sym (ap (λ (f : Files g.row.D.Denot). f.first) c.new.ensures)) (c.begin_file-begun.ensures.any_moment [] spells_none of_none)

pub returns-in-Ok-clause-first_now : goal.returns-in-Ok-clause-first_now
returns-in-Ok-clause-first_now g c left may =
    left_now g.D.Disk.may_leave (c.begin_file-begun.ensures.any_moment [] spells_none of_none) c.law_counts_now.ensures left (subst (λ (x : g.row.D.Denot). g.D.Disk.may_leave x left) (ap (λ (f : Files g.row.D.Denot). f.first) c.new.ensures) may)

pub returns-in-Ok-clause-grown : goal.returns-in-Ok-clause-grown
returns-in-Ok-clause-grown g c =
    subst (λ (f : Files g.row.D.Denot). GrowsTo f.gate (g.D.Disk.seen c.args.first) (g.D.Disk.seen f.first)) (sym c.new.ensures) c.in-Ok.ensures.grown

pub returns-in-Err-clause-refused : goal.returns-in-Err-clause-refused
returns-in-Err-clause-refused g c = c.begin_file-begun.ensures.any_moment [] spells_none of_none

pub returns-in-Err-clause-refused_now : goal.returns-in-Err-clause-refused_now
returns-in-Err-clause-refused_now g c = left_now g.D.Disk.may_leave (c.begin_file-begun.ensures.any_moment [] spells_none of_none) c.law_counts_now.ensures

pub returns-in-Err-clause-cause : goal.returns-in-Err-clause-cause
returns-in-Err-clause-cause g c = c.refusal_of.ensures.counted _ _ (rw c.in-Err.is at c.begin_file-begun.ensures.cause.is)
