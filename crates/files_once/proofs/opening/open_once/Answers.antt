use Rattle.std.proofs.Common.{inr, ℕ, List, sym, subst}
use Rattle.sled_disk.specs.Disk.{Only}
use Rattle.sled_files.specs.Stored.{stored_as}
use Rattle.files_once.proofs.Alike.{read_for, read_lasting, read_blank}
use Rattle.files_once.specs.Mended.{IsMended, LeftOrBegun}
use Rattle.files_once.proofs.Left.{no_more, read_on, or_begun, left_meanwhile, mended_one, mended_then_begun}
use Rattle.files_once.proofs.Refusals.{why_unmended}
use Rattle.files_once.proofs.opening.open_once.Goals as goal

pub returns-in-Ok-clause-recovers : goal.returns-in-Ok-clause-recovers
returns-in-Ok-clause-recovers g c d read =
    let seen = g.D.Disk.seen in
    c.in-Ok.ensures.recovers d
    (read_for (seen c.args.first) (seen c.args.second) (seen c.mend_both.new.first) (seen c.mend_both.new.second) c.in_default.ensures.first c.in_default.ensures.second d read)

pub returns-in-Ok-clause-goes_on : goal.returns-in-Ok-clause-goes_on
returns-in-Ok-clause-goes_on g c asked limits s read =
    let seen = g.D.Disk.seen in
    c.law_opened_goes_on.ensures asked limits s (stored_as c.in-Ok.store) (seen c.mend_both.new.first) (seen c.mend_both.new.second)
    (read_lasting (seen c.args.first) (seen c.args.second) (seen c.mend_both.new.first) (seen c.mend_both.new.second) c.in_default.ensures.first c.in_default.ensures.second asked limits s read)
    c.in-Ok.ensures.recovers

pub returns-in-Ok-clause-begins : goal.returns-in-Ok-clause-begins
returns-in-Ok-clause-begins g c blanks =
    let seen = g.D.Disk.seen in
    c.in-Ok.ensures.begins
    (read_blank (seen c.args.first) (seen c.args.second) (seen c.mend_both.new.first) (seen c.mend_both.new.second) c.in_default.ensures.first c.in_default.ensures.second blanks)

pub returns-in-Err-open_mended-clause-err : goal.returns-in-Err-open_mended-clause-err
returns-in-Err-open_mended-clause-err g c =
    let seen = g.D.Disk.seen in
    why_unmended (seen c.args.first) (seen c.args.second) (seen c.mend_both.new.first) (seen c.mend_both.new.second) c.in_default.ensures.first c.in_default.ensures.second c.in-Err-open_mended.refused.error c.in-Err-open_mended.ensures.err

pub returns-in-Err-open_mended-clause-refused : goal.returns-in-Err-open_mended-clause-refused
returns-in-Err-open_mended-clause-refused g c d read =
    let seen = g.D.Disk.seen in
    c.in-Err-open_mended.ensures.refused (inr (
      d,
      read_for (seen c.args.first) (seen c.args.second) (seen c.mend_both.new.first) (seen c.mend_both.new.second) c.in_default.ensures.first c.in_default.ensures.second d read,
    ))

pub returns-in-Err-clause-first_left : goal.returns-in-Err-clause-first_left
returns-in-Err-clause-first_left g c =
    let seen = g.D.Disk.seen in
    let left = g.D.Disk.may_leave c.args.first in
    let now = g.D.Disk.may_leave c.mend_both.new.first in
    let others : List ℕ → Type 0 = LeftOrBegun left (seen c.args.first) (seen c.args.second) in
    read_on now others now (no_more now now (λ l is. is))
    (λ l is. or_begun left (seen c.args.first) (seen c.args.second) l (left_meanwhile left (seen c.args.first) c.law_may_stay.ensures l (c.in-Err.ensures.first_any_moment.each l (c.law_counts_now.ensures (g.D.Disk.moment c.args.first) l c.in-Err.ensures.first_any_moment.later is))))

pub returns-in-Err-clause-second_left : goal.returns-in-Err-clause-second_left
returns-in-Err-clause-second_left g c =
    let left = g.D.Disk.may_leave c.args.second in
    let now = g.D.Disk.may_leave c.mend_both.new.second in
    read_on now left now (no_more now now (λ l is. is))
    (λ l is. left_meanwhile left (g.D.Disk.seen c.args.second) c.law_may_stay-2.ensures l (c.in-Err.ensures.second_any_moment.each l (c.law_counts_now-in-Err.ensures (g.D.Disk.moment c.args.second) l c.in-Err.ensures.second_any_moment.later is)))

pub returns-in-Err-open_mended-clause-first_left : goal.returns-in-Err-open_mended-clause-first_left
returns-in-Err-open_mended-clause-first_left g c =
    let seen = g.D.Disk.seen in
    let left = g.D.Disk.may_leave c.args.first in
    let now = g.D.Disk.may_leave c.mend_both.new.first in
    let mended : List ℕ → Type 0 = LeftOrBegun now (seen c.mend_both.new.first) (seen c.mend_both.new.second) in
    let others : List ℕ → Type 0 = LeftOrBegun left (seen c.args.first) (seen c.args.second) in
    read_on mended others (g.D.Disk.may_leave c.in-Err-open_mended.refused.first) c.in-Err-open_mended.ensures.first_left
    (mended_then_begun left (seen c.args.first) (seen c.args.second) (seen c.mend_both.new.first) (seen c.mend_both.new.second) c.law_may_stay.ensures now c.in_default.ensures.first c.in_default.ensures.second c.in_default.ensures.first_durable)

pub returns-in-Err-open_mended-clause-second_left : goal.returns-in-Err-open_mended-clause-second_left
returns-in-Err-open_mended-clause-second_left g c =
    let seen = g.D.Disk.seen in
    let left = g.D.Disk.may_leave c.args.second in
    let now = g.D.Disk.may_leave c.mend_both.new.second in
    read_on now left (g.D.Disk.may_leave c.in-Err-open_mended.refused.second) c.in-Err-open_mended.ensures.second_left
    (mended_one left (seen c.args.second) (seen c.mend_both.new.second) now c.law_may_stay-2.ensures c.in_default.ensures.second c.in_default.ensures.second_durable)

pub returns-in-Err-open_mended-clause-stay : goal.returns-in-Err-open_mended-clause-stay
returns-in-Err-open_mended-clause-stay g c other =
    let seen = g.D.Disk.seen in
    let left = g.D.Disk.may_leave in
    let x = c.in-Err-open_mended.refused in
    let s = c.in-Err-open_mended.ensures.stay other in
    record {
      first_mended = subst (λ (l : List ℕ). IsMended (seen c.args.first) l) (sym s.first_stays) c.in_default.ensures.first;
      second_mended = subst (λ (l : List ℕ). IsMended (seen c.args.second) l) (sym s.second_stays) c.in_default.ensures.second;
      first_only = subst (λ (l : List ℕ). Only l (left x.first)) (sym s.first_stays) s.first_only;
      second_only = subst (λ (l : List ℕ). Only l (left x.second)) (sym s.second_stays) s.second_only;
    }
