use Rattle.std.proofs.Common.{inr, refl, ◌≡◌, ◌<◌, sym, subst, ap, length, List, ℕ, true, false, arith}
use Rattle.sled_files.specs.Change.{changed_all, nothing_yet}
use Rattle.sled_files.specs.Files.{Files, IsReady, LeavesPairs, AreForEither, picked}
use Rattle.sled_files.specs.Standing.{StandsWith}
use Rattle.sled_files.specs.theory.Begun.{IsFirstBlock}
use Rattle.sled_files.proofs.Pairs.{while_unasked, while_begun, once_begun}
use Rattle.sled_files.proofs.Counted.{stopped}
use Rattle.std.specs.Prelude.{not}
use Rattle.sled_files.proofs.two_files.TwoFiles.rewrite.Goals as goal

pub returns-in_default-clause-any_moment : goal.returns-in_default-clause-any_moment
returns-in_default-clause-any_moment g c d changes ready spells made =
    let disk = g.D.Disk in
    let inside = c.self.inside in
    let old : Files g.row.D.Denot = record { first = inside.first; second = inside.second; is_second = inside.is_second; gate = inside.gate; snapshot = inside.snapshot; generation = inside.generation; failed = inside.failed } in
    let before : IsReady disk.seen disk.may_leave old d = subst (λ (f : Files g.row.D.Denot). IsReady disk.seen disk.may_leave f d) (sym c.self.view_is) ready in
    subst (λ (f : Files g.row.D.Denot). LeavesPairs disk.moment disk.left_since disk.may_leave f f (AreForEither d (changed_all changes nothing_yet))) c.self.view_is (while_unasked disk.seen disk.moment disk.left_since disk.may_leave old d (changed_all changes nothing_yet) c.laws_of.ensures.first c.laws_of.ensures.second before)

pub returns-in_err-block-clause-any_moment : goal.returns-in_err-block-clause-any_moment
returns-in_err-block-clause-any_moment g c d changes ready spells made =
    let disk = g.D.Disk in
    let inside = c.self.inside in
    let old : Files g.row.D.Denot = record { first = inside.first; second = inside.second; is_second = inside.is_second; gate = inside.gate; snapshot = inside.snapshot; generation = inside.generation; failed = inside.failed } in
    let before : IsReady disk.seen disk.may_leave old d = subst (λ (f : Files g.row.D.Denot). IsReady disk.seen disk.may_leave f d) (sym c.self.view_is) ready in
    subst (λ (f : Files g.row.D.Denot). LeavesPairs disk.moment disk.left_since disk.may_leave f f (AreForEither d (changed_all changes nothing_yet))) c.self.view_is (while_unasked disk.seen disk.moment disk.left_since disk.may_leave old d (changed_all changes nothing_yet) c.laws_of.ensures.first c.laws_of.ensures.second before)

pub returns-in-Err-clause-any_moment : goal.returns-in-Err-clause-any_moment
returns-in-Err-clause-any_moment g c d changes ready spells made =
    let disk = g.D.Disk in
    let inside = c.self.inside in
    let old : Files g.row.D.Denot = record { first = inside.first; second = inside.second; is_second = inside.is_second; gate = inside.gate; snapshot = inside.snapshot; generation = inside.generation; failed = inside.failed } in
    let new : Files g.row.D.Denot = record { first = c.begin_other-begun.new.first; second = c.begin_other-begun.new.second; is_second = inside.is_second; gate = inside.gate; snapshot = inside.snapshot; generation = inside.generation; failed = true } in
    let before : IsReady disk.seen disk.may_leave old d = subst (λ (f : Files g.row.D.Denot). IsReady disk.seen disk.may_leave f d) (sym c.self.view_is) ready in
    let below : inside.generation < c.in-Some.generation = omega (arith, c.in-Some.ensures) in
    let first : IsFirstBlock c.deref.result.now c.args.payload.now c.in-Some.generation changes = subst (λ (l : List ℕ). IsFirstBlock l c.args.payload.now c.in-Some.generation changes) (sym c.deref.ensures.value) (c.in_ok-block.ensures.ok changes spells made) in
    subst (λ (f : Files g.row.D.Denot). LeavesPairs disk.moment disk.left_since disk.may_leave f new (AreForEither d (changed_all changes nothing_yet))) c.self.view_is
    (while_begun disk.seen disk.moment disk.left_since disk.may_leave old new d (changed_all changes nothing_yet) c.laws_of.ensures.first c.laws_of.ensures.second c.laws_of-2.ensures.first c.laws_of-2.ensures.second before c.in-Some.generation below (c.begin_other-begun.ensures.any_moment c.args.payload.now c.in-Some.generation changes first) c.begin_other-begun.ensures.one)

pub returns-clause-any_moment : goal.returns-clause-any_moment
returns-clause-any_moment g c d changes ready spells made =
    let disk = g.D.Disk in
    let inside = c.self.inside in
    let old : Files g.row.D.Denot = record { first = inside.first; second = inside.second; is_second = inside.is_second; gate = inside.gate; snapshot = inside.snapshot; generation = inside.generation; failed = inside.failed } in
    let new : Files g.row.D.Denot = record { first = c.begin_other-begun.new.first; second = c.begin_other-begun.new.second; is_second = not inside.is_second; gate = c.len-self-inside.result; snapshot = length c.args.payload.now; generation = c.in-Some.generation; failed = false } in
    let before : IsReady disk.seen disk.may_leave old d = subst (λ (f : Files g.row.D.Denot). IsReady disk.seen disk.may_leave f d) (sym c.self.view_is) ready in
    let below : inside.generation < c.in-Some.generation = omega (arith, c.in-Some.ensures) in
    let first : IsFirstBlock c.deref.result.now c.args.payload.now c.in-Some.generation changes = subst (λ (l : List ℕ). IsFirstBlock l c.args.payload.now c.in-Some.generation changes) (sym c.deref.ensures.value) (c.in_ok-block.ensures.ok changes spells made) in
    subst (λ (f : Files g.row.D.Denot). LeavesPairs disk.moment disk.left_since disk.may_leave f new (AreForEither d (changed_all changes nothing_yet))) c.self.view_is
    (while_begun disk.seen disk.moment disk.left_since disk.may_leave old new d (changed_all changes nothing_yet) c.laws_of.ensures.first c.laws_of.ensures.second c.laws_of-2.ensures.first c.laws_of-2.ensures.second before c.in-Some.generation below (c.begin_other-begun.ensures.any_moment c.args.payload.now c.in-Some.generation changes first) c.begin_other-begun.ensures.one)

pub returns-clause-ready : goal.returns-clause-ready
returns-clause-ready g c d changes ready spells made =
    let disk = g.D.Disk in
    let inside = c.self.inside in
    let old : Files g.row.D.Denot = record { first = inside.first; second = inside.second; is_second = inside.is_second; gate = inside.gate; snapshot = inside.snapshot; generation = inside.generation; failed = inside.failed } in
    let before : IsReady disk.seen disk.may_leave old d = subst (λ (f : Files g.row.D.Denot). IsReady disk.seen disk.may_leave f d) (sym c.self.view_is) ready in
    let below : inside.generation < c.in-Some.generation = omega (arith, c.in-Some.ensures) in
    let first : IsFirstBlock c.deref.result.now c.args.payload.now c.in-Some.generation changes = subst (λ (l : List ℕ). IsFirstBlock l c.args.payload.now c.in-Some.generation changes) (sym c.deref.ensures.value) (c.in_ok-block.ensures.ok changes spells made) in
    let place : length c.deref.result.now ≡ c.len-self-inside.result = omega (arith, c.len-self-inside.ensures, ap length c.deref.ensures.value) in
    let begun : StandsWith (disk.seen (picked inside.is_second c.begin_other-begun.new.second c.begin_other-begun.new.first)) c.len-self-inside.result (length c.args.payload.now) c.in-Some.generation (changed_all changes nothing_yet) =
    subst (λ (n : ℕ). StandsWith (disk.seen (picked inside.is_second c.begin_other-begun.new.second c.begin_other-begun.new.first)) n (length c.args.payload.now) c.in-Some.generation (changed_all changes nothing_yet)) place (c.in_default-begun.ensures.stands c.args.payload.now c.in-Some.generation changes first) in
    once_begun disk.seen disk.moment disk.left_since disk.may_leave old c.begin_other-begun.new.first c.begin_other-begun.new.second c.len-self-inside.result (length c.args.payload.now) c.in-Some.generation d (changed_all changes nothing_yet) before below c.begin_other-begun.ensures.one c.in_default-begun.ensures.durable begun.at begun.snapshot_is

pub returns-clause-bytes : goal.returns-clause-bytes
returns-clause-bytes g c = omega (arith, c.len-self-inside.ensures, ap length c.deref.ensures.value, c.in_ok-block.ensures.len)

pub returns-in-Err-clause-err : goal.returns-in-Err-clause-err
returns-in-Err-clause-err g c = rw (← c.self.view_is) (inr (refl, stopped g.D.Disk.faults c.self.inside.is_second c.self.inside.first c.self.inside.second c.begin_other-begun.new.first c.begin_other-begun.new.second c.in-Err.e c.stop_of.result c.begin_other-begun.ensures.one c.in-Err.ensures.cause.is c.stop_of.ensures))
