use Rattle.std.proofs.Common.{inl, inr, refl, ℕ, List, sym}
use Rattle.sled_files.specs.Standing.{AreFor}
use Rattle.sled_files.specs.Flaws.{is_flaw}
use Rattle.sled_files.specs.Opening.{AreOpenable}
use Rattle.sled_once.specs.Once.{outcomes_of}
use Rattle.files_once.specs.Mended.{LeftOrBegun}
use Rattle.files_once.proofs.Alike.{of_equal}
use Rattle.files_once.proofs.Left.{opened_or_begun, only_seen, read_on, refused_then, told_then}
use Rattle.files_once.proofs.opening.open_mended.Goals as goal

pub returns-in-Ok-open-clause-recovers : goal.returns-in-Ok-open-clause-recovers
returns-in-Ok-open-clause-recovers g c d stand =
    (c.in-Ok-open.ensures.recovers d (of_equal (λ (a b : List ℕ). AreFor a b d) (sym c.in-Ok.ensures.first) (sym c.in-Ok.ensures.second) stand)).1

pub returns-in-Err-open-clause-refused : goal.returns-in-Err-open-clause-refused
returns-in-Err-open-clause-refused g c openable =
    refused_then c.in-Err-open.refused.error c.handed_back-first.result.1 c.handed_back-second.result.1 c.handed_back-first.ensures.first c.handed_back-second.ensures.first
    (c.in-Err-open.ensures.refused (of_equal AreOpenable (sym c.in-Ok.ensures.first) (sym c.in-Ok.ensures.second) openable))

pub returns-in-Ok-open-clause-limits : goal.returns-in-Ok-open-clause-limits
returns-in-Ok-open-clause-limits g c d stand =
    c.in-Ok-open.ensures.limits d (of_equal (λ (a b : List ℕ). AreFor a b d) (sym c.in-Ok.ensures.first) (sym c.in-Ok.ensures.second) stand)

pub returns-in-Ok-open-clause-sound : goal.returns-in-Ok-open-clause-sound
returns-in-Ok-open-clause-sound g c e flaw =
    c.in-Ok-open.ensures.sound e (of_equal (is_flaw e) (sym c.in-Ok.ensures.first) (sym c.in-Ok.ensures.second) flaw)

pub returns-in-Err-open-clause-told : goal.returns-in-Err-open-clause-told
returns-in-Err-open-clause-told g c e flaw =
    told_then c.in-Err-open.refused.error c.handed_back-first.result.1 c.handed_back-second.result.1 c.handed_back-first.ensures.first c.handed_back-second.ensures.first c.handed_back-first.ensures.told c.handed_back-second.ensures.told e
    (c.in-Err-open.ensures.told e (of_equal (is_flaw e) (sym c.in-Ok.ensures.first) (sym c.in-Ok.ensures.second) flaw))

pub returns-in-Err-clause-told : goal.returns-in-Err-clause-told
returns-in-Err-clause-told g c e flaw = inr c.in-Err.ensures.err

pub returns-in-Err-clause-first_left : goal.returns-in-Err-clause-first_left
returns-in-Err-clause-first_left g c =
    let left = g.D.Disk.may_leave c.args.first in
    let others : List ℕ → Type 0 = LeftOrBegun left (g.D.Disk.seen c.args.first) (g.D.Disk.seen c.args.second) in
    read_on left others (g.D.Disk.may_leave c.in-Err.refused.first) c.in-Err.ensures.first_left (λ l was. (l, inl was, inl refl))

pub returns-in-Err-open-clause-first_left : goal.returns-in-Err-open-clause-first_left
returns-in-Err-open-clause-first_left g c =
    let seen = g.D.Disk.seen in
    let left = g.D.Disk.may_leave c.args.first in
    let others : List ℕ → Type 0 = LeftOrBegun left (seen c.args.first) (seen c.args.second) in
    read_on (outcomes_of c.in-Err-open.refused.first) others (g.D.Disk.may_leave c.handed_back-first.result.0) c.handed_back-first.ensures.read
    (λ l was. opened_or_begun left (seen c.args.first) (seen c.args.second) _ _ c.law_may_stay.ensures (outcomes_of c.in-Ok.both.0) c.in-Ok.ensures.first c.in-Ok.ensures.second c.in-Ok.ensures.first_only l (c.in-Err-open.ensures.left.first_now l was))

pub returns-in-Err-open-clause-second_left : goal.returns-in-Err-open-clause-second_left
returns-in-Err-open-clause-second_left g c =
    let left = g.D.Disk.may_leave c.args.second in
    read_on (outcomes_of c.in-Err-open.refused.second) left (g.D.Disk.may_leave c.handed_back-second.result.0) c.handed_back-second.ensures.read
    (λ l was. only_seen (g.D.Disk.seen c.args.second) left (outcomes_of c.in-Ok.both.1) c.in-Ok.ensures.second_only c.law_may_stay-2.ensures l (c.in-Err-open.ensures.left.second_now l was))
