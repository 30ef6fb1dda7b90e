use Rattle.std.proofs.Common.{◌≡◌, ◌+◌, length, take, sym, List, ℕ, ◌∙◌, ap, arith, subst}
use Rattle.sled_disk.specs.Disk.{Shortened}
use Rattle.sled_log.specs.Digest.{digest}
use Rattle.sled_log.specs.Log.{IsLog}
use Rattle.sled_log.specs.Tear.{log_to_tear, ReadsAs}
use Rattle.sled_log.proofs.Moments.{weaker, joined_runs}
use Rattle.sled_log.proofs.Appending.{on_ok}
use Rattle.sled_log.proofs.Mended.{closing, cutting, closed_log, closed_last, cut_log, cut_last}
use Rattle.sled_log.proofs.mending.close_at.Goals as goal

pub returns-in_err-write_through-clause-any_moment : goal.returns-in_err-write_through-clause-any_moment
returns-in_err-write_through-clause-any_moment g c =
    weaker g.D.Disk.moment g.D.Disk.left_since c.args.disk.now c.write_through.new.disk _ (ReadsAs (g.D.Disk.seen c.args.disk.now)) c.write_through.ensures.any_moment (closing c.requires.ends)

pub returns-then-end-len-clause-log : goal.returns-then-end-len-clause-log
returns-then-end-len-clause-log g c =
    on_ok c.cut_through.result
    (λ is. subst (λ (file : List ℕ). IsLog digest file (log_to_tear digest (g.D.Disk.seen c.args.disk.now)) c.args.end) (sym (is ∙ ap (λ (l : List ℕ). take (c.args.end + 1) l) c.in_ok-write_through.ensures.written)) (cut_log c.requires.ends))
    c.cut_through.ensures.cut

pub returns-then-end-len-clause-last : goal.returns-then-end-len-clause-last
returns-then-end-len-clause-last g c =
    on_ok c.cut_through.result
    (λ is. subst (λ (file : List ℕ). c.args.end + 1 ≡ length file) (sym (is ∙ ap (λ (l : List ℕ). take (c.args.end + 1) l) c.in_ok-write_through.ensures.written)) (cut_last c.requires.ends))
    c.cut_through.ensures.cut

pub returns-then-end-len-clause-any_moment : goal.returns-then-end-len-clause-any_moment
returns-then-end-len-clause-any_moment g c =
    joined_runs g.D.Disk.moment g.D.Disk.left_since c.args.disk.now c.write_through.new.disk c.cut_through.new.disk _ _ (ReadsAs (g.D.Disk.seen c.args.disk.now)) c.write_through.ensures.any_moment c.cut_through.ensures.any_moment
    (closing c.requires.ends)
    (λ f shorter. cutting c.requires.ends f (subst (λ (l : List ℕ). Shortened (c.args.end + 1) l f) c.in_ok-write_through.ensures.written shorter))

pub returns-clause-log : goal.returns-clause-log
returns-clause-log g c = subst (λ (file : List ℕ). IsLog digest file (log_to_tear digest (g.D.Disk.seen c.args.disk.now)) c.args.end) (sym c.in_ok-write_through.ensures.written) (closed_log c.requires.ends)

pub returns-clause-last : goal.returns-clause-last
returns-clause-last g c = subst (λ (file : List ℕ). c.args.end + 1 ≡ length file) (sym c.in_ok-write_through.ensures.written) (closed_last c.requires.ends (omega arith))

pub returns-clause-any_moment : goal.returns-clause-any_moment
returns-clause-any_moment g c =
    weaker g.D.Disk.moment g.D.Disk.left_since c.args.disk.now c.write_through.new.disk _ (ReadsAs (g.D.Disk.seen c.args.disk.now)) c.write_through.ensures.any_moment (closing c.requires.ends)
