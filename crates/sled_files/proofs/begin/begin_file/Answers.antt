use Rattle.std.proofs.Common.{◌≡◌, sym, ap, subst, length, List, ℕ, arith}
use Rattle.sled_files.specs.Change.{changed_all, nothing_yet}
use Rattle.sled_files.specs.Standing.{StandsWith}
use Rattle.sled_files.specs.theory.Begun.{IsFirstBlock}
use Rattle.sled_files.proofs.begin.begin_file.Goals as goal

pub returns-clause-stands : goal.returns-clause-stands
returns-clause-stands g c changes spells made =
    let first : IsFirstBlock c.deref.result.now c.args.payload.now c.args.generation changes = subst (λ (l : List ℕ). IsFirstBlock l c.args.payload.now c.args.generation changes) (sym c.deref.ensures.value) (c.in_ok-block.ensures.ok changes spells made) in
    let place : length c.deref.result.now ≡ c.len.result = omega (arith, c.len.ensures, ap length c.deref.ensures.value) in
    subst (λ (n : ℕ). StandsWith (g.D.Disk.seen c.begin_with.new.disk) n (length c.args.payload.now) c.args.generation (changed_all changes nothing_yet)) place (c.in_ok-begin_with.ensures.stands c.args.payload.now c.args.generation changes first)
