use Rattle.std.proofs.Common.{◌∙◌, inr, subst, sym, List, ℕ}
use Rattle.files_once.specs.Mended.{BeginsAsStore, IsMended, IsMadeWhole}
use Rattle.files_once.proofs.Alike.{of_equal}
use Rattle.files_once.proofs.Whole.{made_whole, mended_same}
use Rattle.files_once.proofs.Meanwhile.{synced, looked_at, mended_then}
use Rattle.files_once.proofs.mending.mend_store.Goals as goal

pub returns-clause-mended : goal.returns-clause-mended
returns-clause-mended g c =
    let d = g.D.Disk in
    let read = c.deref.ensures.value ∙ c.in_ok-bytes.ensures.bytes in
    inr (subst (λ (l : List ℕ). IsMadeWhole l (d.seen c.mend.new.disk)) (c.read_all.ensures.seen ∙ c.sync.ensures.seen)
    (made_whole (d.seen c.read_all.new.disk) (d.seen c.mend.new.disk) c.in_ok-mend.field-0 (subst (λ (l : List ℕ). BeginsAsStore l) (read ∙ sym c.read_all.ensures.seen) (c.in_ok-is_torn.ensures.yes c.if-not-is_torn.false)) c.in_ok-mend.ensures.log c.in_ok-mend.ensures.last))

pub returns-then-not-is_torn-clause-mended : goal.returns-then-not-is_torn-clause-mended
returns-then-not-is_torn-clause-mended g c =
    let d = g.D.Disk in
    let read = c.deref.ensures.value ∙ c.in_ok-bytes.ensures.bytes in
    of_equal IsMended (read ∙ c.sync.ensures.seen) (read ∙ sym c.read_all.ensures.seen) (mended_same _ (c.in_ok-is_torn.ensures.no c.if-not-is_torn.true))

pub returns-in_err-sync-clause-any_moment : goal.returns-in_err-sync-clause-any_moment
returns-in_err-sync-clause-any_moment g c =
    let d = g.D.Disk in
    synced d.moment d.left_since d.may_leave (d.seen c.args.disk.now) c.args.disk.now c.law_only_now.ensures c.sync.new.self c.sync.ensures.time c.sync.ensures.crash

pub returns-in_err-bytes-clause-any_moment : goal.returns-in_err-bytes-clause-any_moment
returns-in_err-bytes-clause-any_moment g c =
    let d = g.D.Disk in
    let s = synced d.moment d.left_since d.may_leave (d.seen c.args.disk.now) c.args.disk.now c.law_only_now.ensures c.sync.new.self c.sync.ensures.time c.sync.ensures.crash in
    looked_at d.moment d.left_since d.may_leave (d.seen c.args.disk.now) c.args.disk.now c.law_only_now.ensures c.sync.new.self c.read_all.new.disk s c.sync.ensures.crash c.read_all.ensures.any_moment

pub returns-in_err-is_torn-clause-any_moment : goal.returns-in_err-is_torn-clause-any_moment
returns-in_err-is_torn-clause-any_moment g c =
    let d = g.D.Disk in
    let s = synced d.moment d.left_since d.may_leave (d.seen c.args.disk.now) c.args.disk.now c.law_only_now.ensures c.sync.new.self c.sync.ensures.time c.sync.ensures.crash in
    looked_at d.moment d.left_since d.may_leave (d.seen c.args.disk.now) c.args.disk.now c.law_only_now.ensures c.sync.new.self c.read_all.new.disk s c.sync.ensures.crash c.read_all.ensures.any_moment

pub returns-then-not-is_torn-clause-any_moment : goal.returns-then-not-is_torn-clause-any_moment
returns-then-not-is_torn-clause-any_moment g c =
    let d = g.D.Disk in
    let s = synced d.moment d.left_since d.may_leave (d.seen c.args.disk.now) c.args.disk.now c.law_only_now.ensures c.sync.new.self c.sync.ensures.time c.sync.ensures.crash in
    looked_at d.moment d.left_since d.may_leave (d.seen c.args.disk.now) c.args.disk.now c.law_only_now.ensures c.sync.new.self c.read_all.new.disk s c.sync.ensures.crash c.read_all.ensures.any_moment

pub returns-in_err-mend-clause-any_moment : goal.returns-in_err-mend-clause-any_moment
returns-in_err-mend-clause-any_moment g c =
    let d = g.D.Disk in
    let s = synced d.moment d.left_since d.may_leave (d.seen c.args.disk.now) c.args.disk.now c.law_only_now.ensures c.sync.new.self c.sync.ensures.time c.sync.ensures.crash in
    let r = looked_at d.moment d.left_since d.may_leave (d.seen c.args.disk.now) c.args.disk.now c.law_only_now.ensures c.sync.new.self c.read_all.new.disk s c.sync.ensures.crash c.read_all.ensures.any_moment in
    mended_then d.moment d.left_since d.may_leave (d.seen c.args.disk.now) c.args.disk.now c.law_only_now.ensures c.read_all.new.disk c.mend.new.disk (d.seen c.read_all.new.disk) r c.mend.ensures.any_moment (c.read_all.ensures.seen ∙ c.sync.ensures.seen)
    (subst (λ (l : List ℕ). BeginsAsStore l) (c.deref.ensures.value ∙ c.in_ok-bytes.ensures.bytes ∙ c.sync.ensures.seen) (c.in_ok-is_torn.ensures.yes c.if-not-is_torn.false))

pub returns-clause-any_moment : goal.returns-clause-any_moment
returns-clause-any_moment g c =
    let d = g.D.Disk in
    let s = synced d.moment d.left_since d.may_leave (d.seen c.args.disk.now) c.args.disk.now c.law_only_now.ensures c.sync.new.self c.sync.ensures.time c.sync.ensures.crash in
    let r = looked_at d.moment d.left_since d.may_leave (d.seen c.args.disk.now) c.args.disk.now c.law_only_now.ensures c.sync.new.self c.read_all.new.disk s c.sync.ensures.crash c.read_all.ensures.any_moment in
    mended_then d.moment d.left_since d.may_leave (d.seen c.args.disk.now) c.args.disk.now c.law_only_now.ensures c.read_all.new.disk c.mend.new.disk (d.seen c.read_all.new.disk) r c.mend.ensures.any_moment (c.read_all.ensures.seen ∙ c.sync.ensures.seen)
    (subst (λ (l : List ℕ). BeginsAsStore l) (c.deref.ensures.value ∙ c.in_ok-bytes.ensures.bytes ∙ c.sync.ensures.seen) (c.in_ok-is_torn.ensures.yes c.if-not-is_torn.false))
