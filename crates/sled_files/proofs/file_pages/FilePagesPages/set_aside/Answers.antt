use Rattle.std.proofs.Common.{arith, ◌≤◌, ◌∷◌, [], inl, inr, refl, sym, subst, List, ℕ, rules}
use Rattle.sled_pages.specs.Memory.{store_of}
use Rattle.sled_bytes.specs.declared.change.Change.TheVariants.{Marked}
use Rattle.sled_files.specs.Pending.{Spells}
use Rattle.sled_files.specs.Stored.{Stored, asked_of}
use Rattle.sled_files.proofs.Over.{own_fault}
use Rattle.sled_files.proofs.Moments.{moments_none, asks_more}
use Rattle.sled_files.proofs.Added.{sound_marked, sound_asked, moments_marked, asks_by, asked_new}
use Rattle.sled_files.proofs.Raising.{marked_length}
use Rattle.sled_files.proofs.Sound.{sound_faults}
use Rattle.sled_files.proofs.Coding.{unstored_early, unstored_weaker, unstored_over, goes_on, stops_unstored}
use Rattle.sled_files.proofs.Limits.{grown_by}
use Rattle.sled_files.proofs.file_pages.FilePagesPages.set_aside.Goals as goal

pub returns-in-Err-clause-any_moment : goal.returns-in-Err-clause-any_moment
returns-in-Err-clause-any_moment g c = rw (← c.self.view_is) (moments_none c.law_time.ensures.first c.law_time.ensures.second refl
    (record { each = λ a b x y. asks_more (c.args.upto ∷ asked_of c.self.inside.asked) (λ q i. inr i) (c.self.invariant.lasts.each a b x y) }))

pub invariant_of-self-in-Err-add : goal.invariant_of-self-in-Err-add
invariant_of-self-in-Err-add g c =
    let le : c.self.inside.mark ≤ c.args.upto = subst (λ (v : Stored g.row.D.Denot). v.mark ≤ c.args.upto) (sym c.self.view_is) c.requires in
    let spells = subst (λ (l : List ℕ). Spells l (Marked c.args.upto ∷ [])) (sym c.deref.ensures.value) c.in-Ok.ensures.ok in
    sound_asked _ c.add.new.files c.deref.result.now c.add.ensures.first c.add.ensures.second c.self.invariant c.add.ensures.over c.add.ensures.any_moment c.args.upto c.asked_then-self-inside.result c.add.new.faults le spells (asked_new c.self.inside.files.failed c.add.new.files.failed c.self.inside.asked _ c.args.upto (search rules) (search rules)) c.in-Err-add.ensures.err

pub returns-in-Err-add-clause-err : goal.returns-in-Err-add-clause-err
returns-in-Err-add-clause-err g c = rw (← c.self.view_is) (own_fault (store_of c.self.inside.pages) c.in-Err-add.ensures.fault)

pub returns-in-Err-add-clause-any_moment : goal.returns-in-Err-add-clause-any_moment
returns-in-Err-add-clause-any_moment g c =
    let le : c.self.inside.mark ≤ c.args.upto = subst (λ (v : Stored g.row.D.Denot). v.mark ≤ c.args.upto) (sym c.self.view_is) c.requires in
    let spells = subst (λ (l : List ℕ). Spells l (Marked c.args.upto ∷ [])) (sym c.deref.ensures.value) c.in-Ok.ensures.ok in
    rw (← c.self.view_is)
    (moments_marked _ c.add.new.files c.deref.result.now c.add.ensures.first c.add.ensures.second c.self.invariant c.add.ensures.over c.add.ensures.any_moment c.args.upto (c.args.upto ∷ asked_of c.self.inside.asked) le spells (λ q i. inr i) (inl refl))

pub invariant_of-self-2 : goal.invariant_of-self-2
invariant_of-self-2 g c =
    let le : c.self.inside.mark ≤ c.args.upto = subst (λ (v : Stored g.row.D.Denot). v.mark ≤ c.args.upto) (sym c.self.view_is) c.requires in
    let spells = subst (λ (l : List ℕ). Spells l (Marked c.args.upto ∷ [])) (sym c.deref.ensures.value) c.in-Ok.ensures.ok in
    rw c.in_default.ensures.same (sound_marked _ c.add.new.files c.deref.result.now c.args.upto c.self.invariant c.in_default.ensures.up c.in_default.ensures.ready spells)

pub returns-clause-ok : goal.returns-clause-ok
returns-clause-ok g c = rw (← c.self.view_is, c.in_default.ensures.same) refl

pub returns-clause-any_moment : goal.returns-clause-any_moment
returns-clause-any_moment g c =
    let le : c.self.inside.mark ≤ c.args.upto = subst (λ (v : Stored g.row.D.Denot). v.mark ≤ c.args.upto) (sym c.self.view_is) c.requires in
    let spells = subst (λ (l : List ℕ). Spells l (Marked c.args.upto ∷ [])) (sym c.deref.ensures.value) c.in-Ok.ensures.ok in
    rw (← c.self.view_is)
    (moments_marked _ c.add.new.files c.deref.result.now c.add.ensures.first c.add.ensures.second c.self.invariant c.add.ensures.over c.add.ensures.any_moment c.args.upto (c.args.upto ∷ asked_of c.self.inside.asked) le spells (λ q i. inr i) (inl refl))

pub returns-in-Err-add-clause-asks : goal.returns-in-Err-add-clause-asks
returns-in-Err-add-clause-asks g c = rw (← c.self.view_is) (record { is = asks_by c.self.inside.files.failed c.add.new.files.failed c.self.inside.asked c.asked_then-self-inside.result c.args.upto (asked_new c.self.inside.files.failed c.add.new.files.failed c.self.inside.asked _ c.args.upto (search rules) (search rules)) })

pub returns-in-Err-clause-cause : goal.returns-in-Err-clause-cause
returns-in-Err-clause-cause g c = unstored_early c.args.self.now.files c.args.self.now.faults c.in-Err.e c.in-Err.ensures.err

pub returns-in-Err-add-clause-cause : goal.returns-in-Err-add-clause-cause
returns-in-Err-add-clause-cause g c =
    let spells = subst (λ (l : List ℕ). Spells l (Marked c.args.upto ∷ [])) (sym c.deref.ensures.value) c.in-Ok.ensures.ok in
    rw (← c.self.view_is) (unstored_weaker (λ lacks. omega (arith, lacks, marked_length spells)) c.in-Err-add.ensures.cause)

pub returns-clause-grown : goal.returns-clause-grown
returns-clause-grown g c =
    let spells = subst (λ (l : List ℕ). Spells l (Marked c.args.upto ∷ [])) (sym c.deref.ensures.value) c.in-Ok.ensures.ok in
    rw (← c.self.view_is) (grown_by _ _ (marked_length spells) c.in_default.ensures.grown)

pub returns-then-failed-clause-err : goal.returns-then-failed-clause-err
returns-then-failed-clause-err g c = rw (← c.self.view_is) (own_fault (store_of c.self.inside.pages) c.fault.ensures.counted)

pub returns-then-failed-clause-cause : goal.returns-then-failed-clause-cause
returns-then-failed-clause-cause g c = rw (← c.self.view_is) (unstored_over c.self.inside.files c.self.inside.faults c.fault.result (search rules) c.fault.ensures.is)

pub returns-in-Err-clause-stops : goal.returns-in-Err-clause-stops
returns-in-Err-clause-stops g c = goes_on _ _ c.in-Err.e (search rules)

pub returns-in-Err-add-clause-stops : goal.returns-in-Err-add-clause-stops
returns-in-Err-add-clause-stops g c = rw (← c.self.view_is) (stops_unstored _ _ c.in-Err-add.e c.in-Err-add.ensures.cause)

pub returns-then-failed-clause-any_moment : goal.returns-then-failed-clause-any_moment
returns-then-failed-clause-any_moment g c = rw (← c.self.view_is) (moments_none c.law_time.ensures.first c.law_time.ensures.second refl
    (record { each = λ a b x y. asks_more (c.args.upto ∷ asked_of c.self.inside.asked) (λ q i. inr i) (c.self.invariant.lasts.each a b x y) }))

pub invariant_of-self : goal.invariant_of-self
invariant_of-self g c = sound_faults g.D.Disk.seen g.D.Disk.may_leave _ c.fault.new.faults c.self.invariant
