use Rattle.std.proofs.Common.{rules, inl, inr, refl, ℕ, ◌+◌, ◌∙◌, ap, subst}
use Rattle.sled_files.specs.Opening.{is_counted}
use Rattle.sled_files.proofs.Meanwhile.{leaves_read, leaves_begun, counted_first, uncounted}
use Rattle.sled_files.proofs.Refused.{refusal_closed, unopened_closed}
use Rattle.sled_files.proofs.files.open_files.Goals as goal

pub returns-in-Err-clause-err : goal.returns-in-Err-clause-err
returns-in-Err-clause-err g c = refusal_closed c.in-Err.error _ _ c.in-Err.ensures.err

pub returns-in-Err-clause-refused : goal.returns-in-Err-clause-refused
returns-in-Err-clause-refused g c = leaves_read c.args.first c.args.second c.settle_both.new.first c.settle_both.new.second c.settle_both.ensures.first_run c.settle_both.ensures.second_run c.settle_both.ensures.first_crash c.settle_both.ensures.second_crash c.settle_both.new.first c.settle_both.new.second refl refl

pub returns-in-Err-clause-stay : goal.returns-in-Err-clause-stay
returns-in-Err-clause-stay g c = λ no_refusal. absurd (no_refusal c.in-Err.ensures.err)

pub returns-in-Err-clause-cause : goal.returns-in-Err-clause-cause
returns-in-Err-clause-cause g c = c.in-Err.ensures.cause

pub returns-in-Ok-Some-clause-any_moment : goal.returns-in-Ok-Some-clause-any_moment
returns-in-Ok-Some-clause-any_moment g c = leaves_read c.args.first c.args.second c.settle_both.new.first c.settle_both.new.second c.settle_both.ensures.first_run c.settle_both.ensures.second_run c.settle_both.ensures.first_crash c.settle_both.ensures.second_crash c.files_of.result.0.first c.files_of.result.0.second c.files_of.ensures.first c.files_of.ensures.second

pub returns-in-Ok-Some-clause-calm : goal.returns-in-Ok-Some-clause-calm
returns-in-Ok-Some-clause-calm g c = rw (c.files_of.ensures.first, c.files_of.ensures.second) c.in-Ok.ensures.calm

pub returns-in-Ok-begin-clause-any_moment : goal.returns-in-Ok-begin-clause-any_moment
returns-in-Ok-begin-clause-any_moment g c = leaves_begun c.args.first c.args.second c.settle_both.new.first c.settle_both.new.second c.settle_both.ensures.first_run c.settle_both.ensures.second_run c.settle_both.ensures.first_crash c.settle_both.ensures.second_crash c.in-Ok-begin.begun.0.first c.in-Ok-begin.begun.0.second c.in-Ok-begin.ensures.first c.in-Ok-begin.ensures.first_now c.in-Ok.ensures.stay.first_stays c.in-Ok-begin.ensures.second (search rules)

pub returns-in-Ok-begin-clause-calm : goal.returns-in-Ok-begin-clause-calm
returns-in-Ok-begin-clause-calm g c = rw (c.in-Ok-begin.ensures.calm, c.in-Ok-begin.ensures.second) c.in-Ok.ensures.calm

pub returns-in-Err-begin-clause-err : goal.returns-in-Err-begin-clause-err
returns-in-Err-begin-clause-err g c = refusal_closed c.in-Err-begin.refused.error _ _ c.in-Err-begin.ensures.err

pub returns-in-Err-begin-clause-refused : goal.returns-in-Err-begin-clause-refused
returns-in-Err-begin-clause-refused g c = leaves_begun c.args.first c.args.second c.settle_both.new.first c.settle_both.new.second c.settle_both.ensures.first_run c.settle_both.ensures.second_run c.settle_both.ensures.first_crash c.settle_both.ensures.second_crash c.in-Err-begin.refused.first c.in-Err-begin.refused.second c.in-Err-begin.ensures.refused c.in-Err-begin.ensures.refused_now c.in-Ok.ensures.stay.first_stays c.in-Err-begin.ensures.kept (search rules)

pub returns-in-Err-begin-clause-stay : goal.returns-in-Err-begin-clause-stay
returns-in-Err-begin-clause-stay g c = λ no_refusal. absurd (no_refusal c.in-Err-begin.ensures.err)

pub returns-in-Err-begin-clause-cause : goal.returns-in-Err-begin-clause-cause
returns-in-Err-begin-clause-cause g c =
    subst (λ (n : ℕ). is_counted n (g.D.Disk.faults c.in-Err-begin.refused.first + g.D.Disk.faults c.in-Err-begin.refused.second) c.in-Err-begin.refused.error) c.in-Ok.ensures.calm
    (rw c.in-Err-begin.ensures.kept (counted_first c.in-Err-begin.refused.error _ _ _ c.in-Err-begin.ensures.cause))

pub returns-in-Err-opened-clause-refused : goal.returns-in-Err-opened-clause-refused
returns-in-Err-opened-clause-refused g c = leaves_read c.args.first c.args.second c.settle_both.new.first c.settle_both.new.second c.settle_both.ensures.first_run c.settle_both.ensures.second_run c.settle_both.ensures.first_crash c.settle_both.ensures.second_crash c.settle_both.new.first c.settle_both.new.second refl refl

pub returns-in-Err-opened-clause-stay : goal.returns-in-Err-opened-clause-stay
returns-in-Err-opened-clause-stay g c = λ no_refusal. c.in-Ok.ensures.stay

pub returns-in-Err-opened-clause-cause : goal.returns-in-Err-opened-clause-cause
returns-in-Err-opened-clause-cause g c = uncounted c.in-Err-opened.error _ _ _ _ c.in-Ok.ensures.calm c.in-Err-opened.ensures.err

pub returns-in-Err-opened-clause-err : goal.returns-in-Err-opened-clause-err
returns-in-Err-opened-clause-err g c = unopened_closed c.in-Err-opened.error _ _ (search rules)

pub returns-in-Err-clause-seen : goal.returns-in-Err-clause-seen
returns-in-Err-clause-seen g c = (inl c.settle_both.ensures.first_seen, c.settle_both.ensures.second_seen)

pub returns-in-Err-begin-clause-seen : goal.returns-in-Err-begin-clause-seen
returns-in-Err-begin-clause-seen g c = (inr (search rules), ap g.D.Disk.seen c.in-Err-begin.ensures.kept ∙ c.settle_both.ensures.second_seen)

pub returns-in-Err-opened-clause-seen : goal.returns-in-Err-opened-clause-seen
returns-in-Err-opened-clause-seen g c = (inl c.settle_both.ensures.first_seen, c.settle_both.ensures.second_seen)
