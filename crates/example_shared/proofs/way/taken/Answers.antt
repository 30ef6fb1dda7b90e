use Rattle.std.proofs.Common.{◌≡◌, ◌∙◌, ℕ, ◌+◌, All, length, List, ap, sym, subst, arith}
use Rattle.sled_pages.specs.Memory.{store_of}
use Rattle.machine_shared.specs.Gathered.{EachOnce, EachOnceBehind, IsOfGiven, times}
use Rattle.machine_shared.specs.Values.{CallerValue}
use Rattle.example_shared.specs.Raising.{HasWritten}
use Rattle.example_shared.proofs.Whole.{stands_higher}
use Rattle.example_shared.proofs.way.taken.Goals as goal

-- the numbers from 1 on
from_first : (before given : ℕ) (callers : List CallerValue) → before ≡ 0 → EachOnceBehind before given callers → EachOnce given callers
from_first before given callers none once n is = ap (times callers) (omega (arith, none)) ∙ once n is

last_is : (before given : ℕ) → before ≡ 0 → before + given ≡ given
last_is before given none = omega (arith, none)

pub returns-then-is_open-clause-raised : goal.returns-then-is_open-clause-raised
returns-then-is_open-clause-raised g c tree key raise =
    stands_higher store_of c.in-Ok.state c.args.shared.given c.args.times c.args.handles.items c.in-Ok.ensures.legal (c.is_open.ensures c.if-is_open.true)
    (ap length (sym c.as_slice.ensures.value) ∙ c.as_slice.ensures.len ∙ c.in-Ok.ensures.count)
    c.in-Ok.ensures.made (from_first c.args.shared.before c.args.shared.given c.args.handles.items c.requires c.in-Ok.ensures.numbers) (subst (λ n. All (IsOfGiven n) c.in-Ok.state.history) (last_is c.args.shared.before c.args.shared.given c.requires) c.in-Ok.ensures.others)
    (subst (λ (hs : List CallerValue). All (HasWritten c.args.times) hs) c.as_slice.ensures.value (c.have_all_written-all.ensures c.if-all.true))
    tree key raise
