use Rattle.std.proofs.Common.{◌≡◌, [], sym, subst, refl, length, List, ◌∷◌, ◌∙◌, ◌<◌, ◌+◌, ap, cond, Bool, true, false, ℕ, arith, rules}
use Rattle.std.specs.Prelude.{◌==◌}
use Rattle.std.proofs.lemmas.Bool.Decides.{nat_tests}
use Rattle.sled_bytes.specs.declared.change.Change.{Change}
use Rattle.sled_files.specs.Change.{changed_all}
use Rattle.sled_files.specs.Files.{IsReady, GrowsTo, one_of}
use Rattle.sled_files.proofs.Moments.{none_long, empty_spells, moments_ready}
use Rattle.sled_files.proofs.Coding.{unstored_over}
use Rattle.sled_files.proofs.storing.add.Goals as goal

-- how much longer a log is for nothing, and for a block
no_more : (n gate : ℕ) → n ≡ 0 → gate ≡ gate + cond (n == 0) 0 (17 + n)
no_more n gate is =
    let none : (n == 0) ≡ true = grind (arith, nat_tests) in
    let same : gate ≡ gate + 0 = omega arith in
    same ∙ sym (ap (λ (b : Bool). gate + cond b 0 (17 + n)) none)

more : (n gate : ℕ) → 0 < n → gate + 17 + n ≡ gate + cond (n == 0) 0 (17 + n)
more n gate is =
    let some : (n == 0) ≡ false = grind (arith, nat_tests) in
    let same : gate + 17 + n ≡ gate + (17 + n) = omega arith in
    same ∙ sym (ap (λ (b : Bool). gate + cond b 0 (17 + n)) some)

pub returns-then-is_empty-clause-ready : goal.returns-then-is_empty-clause-ready
returns-then-is_empty-clause-ready g c = λ d changes ready spells added.
    let e : c.args.payload.now ≡ [] = none_long c.args.payload.now (grind (arith, nat_tests)) in
    subst (λ (list : List Change). IsReady {D = g.row.D.Denot} g.D.Disk.seen g.D.Disk.may_leave c.args.files.now (changed_all list d)) (sym (empty_spells e spells)) ready

pub returns-then-is_empty-clause-any_moment : goal.returns-then-is_empty-clause-any_moment
returns-then-is_empty-clause-any_moment g c = λ d changes ready spells added.
    let e : c.args.payload.now ≡ [] = none_long c.args.payload.now (grind (arith, nat_tests)) in
    moments_ready c.law_time.ensures.first c.law_time.ensures.second (empty_spells e spells) ready

pub returns-then-is_empty-clause-grown : goal.returns-then-is_empty-clause-grown
returns-then-is_empty-clause-grown g c = let none : length c.args.payload.now ≡ 0 = grind (arith, nat_tests) in
    record { same = refl; snapshot = refl; generation = refl; bytes = no_more (length c.args.payload.now) c.args.files.now.gate none; nothing = λ is. refl; calm = refl; other = λ some. absurd (omega (arith, some, none)); grown = λ some. absurd {A = GrowsTo c.args.files.now.gate (g.D.Disk.seen (one_of c.args.files.now)) (g.D.Disk.seen (one_of c.args.files.now))} (omega (arith, some, none)) }

pub returns-in-Ok-clause-grown : goal.returns-in-Ok-clause-grown
returns-in-Ok-clause-grown g c = let some : 0 < length c.args.payload.now = grind (arith, nat_tests) in
    record { same = c.append.ensures.same; snapshot = c.append.ensures.snapshot; generation = c.append.ensures.generation; bytes = c.in-Ok.ensures.bytes ∙ more (length c.args.payload.now) c.args.files.now.gate some; nothing = λ is. absurd (omega (arith, is, some)); calm = c.in-Ok.ensures.up.1 ∙ sym c.in-Ok.ensures.up.0; other = λ s. c.in-Ok.ensures.emptied; grown = λ s. c.in-Ok.ensures.grown }

pub returns-then-failed-clause-cause : goal.returns-then-failed-clause-cause
returns-then-failed-clause-cause g c = unstored_over c.args.files.now c.args.faults.now c.fault.result (search rules) c.fault.ensures.is

pub returns-in-Err-clause-cause : goal.returns-in-Err-clause-cause
returns-in-Err-clause-cause g c = record { cause = c.in-Err.e; why = c.in-Err.ensures.err; is = c.refusal.ensures.is }
