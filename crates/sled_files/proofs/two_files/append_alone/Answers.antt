use Rattle.std.proofs.Common.{◌+◌, ◌++◌, ◌∷◌, [], length, sym, subst}
use Rattle.sled_disk.specs.Disk.{Only, LeavesOnly}
use Rattle.sled_log.specs.Log.{IsLog}
use Rattle.sled_log.specs.Append.{IsBeforeOrAfter}
use Rattle.sled_files.specs.Files.{picked, KeepsTime, GrowsTo}
use Rattle.sled_files.specs.theory.Begun.{IsEmptied}
use Rattle.sled_log.proofs.Appending.{on_ok}
use Rattle.sled_files.proofs.Pairs.{picked_has}
use Rattle.sled_files.proofs.Emptying.{emptied_not}
use Rattle.sled_files.proofs.two_files.append_alone.Goals as goal

pub empty_other-requires : goal.empty_other-requires
empty_other-requires g c = record { on_disk = subst (λ (x : g.row.D.Denot). Only (g.D.Disk.seen x) (g.D.Disk.may_leave x)) (sym c.append_to_one.ensures.other) c.requires.other_on_disk }

pub returns-in_err-append_to_one-clause-other_any_moment : goal.returns-in_err-append_to_one-clause-other_any_moment
returns-in_err-append_to_one-clause-other_any_moment g c =
    let disk = g.D.Disk in
    let time = picked_has (KeepsTime disk.moment disk.left_since disk.may_leave) c.args.is_second c.args.second.now c.args.first.now c.laws_of.ensures.second c.laws_of.ensures.first in
    emptied_not disk.seen disk.moment disk.left_since disk.may_leave (picked c.args.is_second c.args.second.now c.args.first.now) c.requires.other_on_disk time.only (picked c.args.is_second c.append_to_one.new.second c.append_to_one.new.first) c.append_to_one.ensures.other

pub returns-clause-other_any_moment : goal.returns-clause-other_any_moment
returns-clause-other_any_moment g c =
    let disk = g.D.Disk in
    subst (λ (x : g.row.D.Denot). LeavesOnly disk.moment disk.left_since x (picked c.args.is_second c.empty_other.new.second c.empty_other.new.first) (IsEmptied (disk.seen x))) c.append_to_one.ensures.other c.empty_other.ensures.any_moment

pub returns-clause-any_moment : goal.returns-clause-any_moment
returns-clause-any_moment g c b =
    let disk = g.D.Disk in
    subst (λ (x : g.row.D.Denot). LeavesOnly disk.moment disk.left_since (picked c.args.is_second c.args.first.now c.args.second.now) x (IsBeforeOrAfter b)) (sym c.empty_other.ensures.one) (c.append_to_one.ensures.any_moment b)

pub returns-clause-durable : goal.returns-clause-durable
returns-clause-durable g c = on_ok c.empty_other.result (λ short. subst (λ (x : g.row.D.Denot). Only (g.D.Disk.seen x) (g.D.Disk.may_leave x)) (sym c.empty_other.ensures.one) c.in_ok-append_to_one.ensures.durable) c.empty_other.ensures.short

pub returns-clause-grown : goal.returns-clause-grown
returns-clause-grown g c =
    on_ok c.empty_other.result
    (λ short. subst (λ (x : g.row.D.Denot). GrowsTo (c.args.gate + length c.args.block.now) (g.D.Disk.seen (picked c.args.is_second c.args.first.now c.args.second.now)) (g.D.Disk.seen x)) (sym c.empty_other.ensures.one) c.in_ok-append_to_one.ensures.grown)
    c.empty_other.ensures.short

pub returns-clause-next : goal.returns-clause-next
returns-clause-next g c =
    on_ok c.empty_other.result
    (λ short b. subst (λ (x : g.row.D.Denot). IsLog b.digest (g.D.Disk.seen x) (b.payloads ++ b.payload ∷ []) (c.args.gate + length c.args.block.now)) (sym c.empty_other.ensures.one) (c.in_ok-append_to_one.ensures.next b))
    c.empty_other.ensures.short
