use Rattle.std.proofs.Common.{◌≡◌, ◌∙◌, arith, subst, ℕ, length}
use Rattle.sled_store.specs.Store.{now}
use Rattle.sled_pages.specs.Memory.{store_of}
use Rattle.sled_files.specs.theory.Snapshot.{Makes, with_page, pages_below, GivesPages}
use Rattle.sled_files.proofs.Snapping.{makes_nothing, makes_same, page_more, pages_all}
use Rattle.sled_files.proofs.Sizing.{sized_none, sized_more, sized_all}
use Rattle.sled_files.proofs.snapshot.spell_pages.Goals as goal

pub loop-number-init : goal.loop-number-init
loop-number-init c = (makes_nothing (now (store_of c.args.pages.now)) c.new-out.ensures.items, sized_none (now (store_of c.args.pages.now)) c.new-out.ensures.items)

pub loop-number-preserved : goal.loop-number-preserved
loop-number-preserved c =
    let s = now (store_of c.args.pages.now) in
    (makes_same (page_more s c.loop-number.number) (c.in_default.ensures.ok _ c.loop-number.invariant.0), sized_more s c.loop-number.number _ _ c.loop-number.invariant.1 c.in_default.ensures.long)

pub returns-in-Ok-clause-ok : goal.returns-in-Ok-clause-ok
returns-in-Ok-clause-ok c =
    let store = store_of c.args.pages.now in
    let greatest = c.numbers_given-greatest.result.0 in
    let same : c.loop-number.number ≡ greatest = omega (arith, c.loop-number.auto.number-end, c.loop-number-test.false, c.greatest.view_is) in
    makes_same (page_more (now store) greatest ∙ pages_all store greatest c.law_given.ensures c.numbers_given-greatest.ensures.pids)
    (subst (λ (n : ℕ). Makes store c.spell_page-2.new.out.items (with_page greatest ((now store).pages greatest) (pages_below (now store) n))) same (c.in-Ok.ensures.ok _ c.loop-number.invariant.0))

pub returns-in-Ok-clause-long : goal.returns-in-Ok-clause-long
returns-in-Ok-clause-long c =
    let store = store_of c.args.pages.now in
    let greatest = c.numbers_given-greatest.result.0 in
    let same : c.loop-number.number ≡ greatest = omega (arith, c.loop-number.auto.number-end, c.loop-number-test.false, c.greatest.view_is) in
    let below : GivesPages (pages_below (now store) greatest).state (length c.loop-number.out.items) = subst (λ (n : ℕ). GivesPages (pages_below (now store) n).state (length c.loop-number.out.items)) same c.loop-number.invariant.1 in
    sized_all (now store) (pages_all store greatest c.law_given.ensures c.numbers_given-greatest.ensures.pids) (sized_more (now store) greatest _ _ below c.in-Ok.ensures.long)
