use Rattle.std.proofs.Common.{inr, refl, ◌≡◌, ◌<◌, ◌+◌, ◌^◌, ◌∙◌, sym, ap, subst, true, false, [], length, ◌++◌, ◌∷◌, ℕ, arith}
use Rattle.sled_log.specs.Digest.{digest}
use Rattle.sled_log.specs.Log.{IsLog}
use Rattle.sled_log.specs.Append.{behind_gate}
use Rattle.sled_files.specs.Change.{changed_all}
use Rattle.sled_files.specs.Files.{Files, IsReady, LeavesPairs, AreForEither, picked}
use Rattle.sled_files.proofs.Headers.{block_length}
use Rattle.sled_files.proofs.Adding.{payloads, block_for, stands_after}
use Rattle.sled_files.proofs.Pairs.{while_unasked, while_added, once_added}
use Rattle.sled_files.proofs.two_files.TwoFiles.append.Goals as goal

pub returns-in_err-block-clause-any_moment : goal.returns-in_err-block-clause-any_moment
returns-in_err-block-clause-any_moment g c d changes ready spells added =
    let disk = g.D.Disk in
    let inside = c.self.inside in
    let old : Files g.row.D.Denot = record { first = inside.first; second = inside.second; is_second = inside.is_second; gate = inside.gate; snapshot = inside.snapshot; generation = inside.generation; failed = inside.failed } in
    let before : IsReady disk.seen disk.may_leave old d = subst (λ (f : Files g.row.D.Denot). IsReady disk.seen disk.may_leave f d) (sym c.self.view_is) ready in
    subst (λ (f : Files g.row.D.Denot). LeavesPairs disk.moment disk.left_since disk.may_leave f f (AreForEither d (changed_all changes d))) c.self.view_is (while_unasked disk.seen disk.moment disk.left_since disk.may_leave old d (changed_all changes d) c.laws_of.ensures.first c.laws_of.ensures.second before)

pub returns-then-saturating_sub-len-clause-any_moment : goal.returns-then-saturating_sub-len-clause-any_moment
returns-then-saturating_sub-len-clause-any_moment g c d changes ready spells added =
    let disk = g.D.Disk in
    let inside = c.self.inside in
    let old : Files g.row.D.Denot = record { first = inside.first; second = inside.second; is_second = inside.is_second; gate = inside.gate; snapshot = inside.snapshot; generation = inside.generation; failed = inside.failed } in
    let before : IsReady disk.seen disk.may_leave old d = subst (λ (f : Files g.row.D.Denot). IsReady disk.seen disk.may_leave f d) (sym c.self.view_is) ready in
    subst (λ (f : Files g.row.D.Denot). LeavesPairs disk.moment disk.left_since disk.may_leave f f (AreForEither d (changed_all changes d))) c.self.view_is (while_unasked disk.seen disk.moment disk.left_since disk.may_leave old d (changed_all changes d) c.laws_of.ensures.first c.laws_of.ensures.second before)

pub returns-in-Err-clause-any_moment : goal.returns-in-Err-clause-any_moment
returns-in-Err-clause-any_moment g c d changes ready spells added =
    let disk = g.D.Disk in
    let inside = c.self.inside in
    let old : Files g.row.D.Denot = record { first = inside.first; second = inside.second; is_second = inside.is_second; gate = inside.gate; snapshot = inside.snapshot; generation = inside.generation; failed = inside.failed } in
    let new : Files g.row.D.Denot = record { first = c.append_alone-added.new.first; second = c.append_alone-added.new.second; is_second = inside.is_second; gate = inside.gate; snapshot = inside.snapshot; generation = inside.generation; failed = true } in
    let before : IsReady disk.seen disk.may_leave old d = subst (λ (f : Files g.row.D.Denot). IsReady disk.seen disk.may_leave f d) (sym c.self.view_is) ready in
    let few : length c.args.payload.now < 2 ^ 64 = omega arith in
    let block = c.deref.result.now in
    let is : block ≡ behind_gate digest c.args.payload.now = c.deref.ensures.value ∙ c.in_ok-block.ensures.ok in
    subst (λ (f : Files g.row.D.Denot). LeavesPairs disk.moment disk.left_since disk.may_leave f new (AreForEither d (changed_all changes d))) c.self.view_is
    (while_added disk.seen disk.moment disk.left_since disk.may_leave old new d c.laws_of-2.ensures.first c.laws_of-2.ensures.second before spells added few block is (c.append_alone-added.ensures.any_moment (block_for before.stands spells added few block is)) c.append_alone-added.ensures.other_any_moment)

pub returns-clause-any_moment : goal.returns-clause-any_moment
returns-clause-any_moment g c d changes ready spells added =
    let disk = g.D.Disk in
    let inside = c.self.inside in
    let old : Files g.row.D.Denot = record { first = inside.first; second = inside.second; is_second = inside.is_second; gate = inside.gate; snapshot = inside.snapshot; generation = inside.generation; failed = inside.failed } in
    let new : Files g.row.D.Denot = record { first = c.append_alone-added.new.first; second = c.append_alone-added.new.second; is_second = inside.is_second; gate = inside.gate + c.len-2.result; snapshot = inside.snapshot; generation = inside.generation; failed = false } in
    let before : IsReady disk.seen disk.may_leave old d = subst (λ (f : Files g.row.D.Denot). IsReady disk.seen disk.may_leave f d) (sym c.self.view_is) ready in
    let few : length c.args.payload.now < 2 ^ 64 = omega arith in
    let block = c.deref.result.now in
    let is : block ≡ behind_gate digest c.args.payload.now = c.deref.ensures.value ∙ c.in_ok-block.ensures.ok in
    subst (λ (f : Files g.row.D.Denot). LeavesPairs disk.moment disk.left_since disk.may_leave f new (AreForEither d (changed_all changes d))) c.self.view_is
    (while_added disk.seen disk.moment disk.left_since disk.may_leave old new d c.laws_of-2.ensures.first c.laws_of-2.ensures.second before spells added few block is (c.append_alone-added.ensures.any_moment (block_for before.stands spells added few block is)) c.append_alone-added.ensures.other_any_moment)

pub returns-clause-ready : goal.returns-clause-ready
returns-clause-ready g c d changes ready spells added =
    let disk = g.D.Disk in
    let inside = c.self.inside in
    let old : Files g.row.D.Denot = record { first = inside.first; second = inside.second; is_second = inside.is_second; gate = inside.gate; snapshot = inside.snapshot; generation = inside.generation; failed = inside.failed } in
    let before : IsReady disk.seen disk.may_leave old d = subst (λ (f : Files g.row.D.Denot). IsReady disk.seen disk.may_leave f d) (sym c.self.view_is) ready in
    let few : length c.args.payload.now < 2 ^ 64 = omega arith in
    let block = c.deref.result.now in
    let is : block ≡ behind_gate digest c.args.payload.now = c.deref.ensures.value ∙ c.in_ok-block.ensures.ok in
    let longer = disk.seen (picked inside.is_second c.append_alone-added.new.first c.append_alone-added.new.second) in
    let place : inside.gate + length block ≡ inside.gate + c.len-2.result = omega (arith, c.len-2.ensures, ap length c.deref.ensures.value) in
    let log : IsLog digest longer (payloads before.stands.stands ++ c.args.payload.now ∷ []) (inside.gate + c.len-2.result) = subst (λ (n : ℕ). IsLog digest longer (payloads before.stands.stands ++ c.args.payload.now ∷ []) n) place (c.in_default.ensures.next (block_for before.stands spells added few block is)) in
    once_added disk.seen disk.moment disk.left_since disk.may_leave old c.append_alone-added.new.first c.append_alone-added.new.second (inside.gate + c.len-2.result) (changed_all changes d) c.in_default.ensures.other_durable c.in_default.ensures.short c.in_default.ensures.durable (stands_after before.stands spells added few longer (inside.gate + c.len-2.result) log) before.begins

pub returns-clause-bytes : goal.returns-clause-bytes
returns-clause-bytes g c = omega (arith, ap (λ (f : Files g.row.D.Denot). f.gate) c.self.view_is, c.len-2.ensures, ap length c.deref.ensures.value, ap length c.in_ok-block.ensures.ok, block_length c.args.payload.now)

pub returns-in-Err-clause-err : goal.returns-in-Err-clause-err
returns-in-Err-clause-err g c = rw (← c.self.view_is) (inr (refl, c.stop_of.ensures _ _ c.in-Err.ensures.cause.is))
