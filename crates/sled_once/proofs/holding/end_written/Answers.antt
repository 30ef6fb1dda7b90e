use Rattle.std.proofs.Common.{◌≡◌, ◌∙◌, ◌+◌, ◌∷◌, [], sym, ap, subst, arith, List, ℕ}
use Rattle.sled_disk.specs.Disk.{written}
use Rattle.sled_log.specs.Log.{opened}
use Rattle.sled_once.specs.Stages.{EndsIn, EndsAs}
use Rattle.sled_once.specs.declared.stage.End.{End}
use Rattle.sled_once.proofs.Ending.{gate_opened}
use Rattle.sled_once.proofs.holding.end_written.Goals as goal

pub returns-in-Some : goal.returns-in-Some
returns-in-Some c file ends =
    let gate = c.in-Staged.gate in
    let next : gate + c.in-Staged.count ≡ c.in-Some.next = omega (arith, c.in-Some.ensures) in
    let place : gate ≡ c.args.at = sym (c.is_opening.ensures.place c.if-is_opening.true) in
    let bytes : opened ∷ [] ≡ c.args.bytes.now = sym (c.is_opening.ensures.is c.if-is_opening.true) in
    let is : written gate (opened ∷ []) file ≡ written c.args.at c.args.bytes.now file = ap (λ (n : ℕ). written n (opened ∷ []) file) place ∙ ap (λ (l : List ℕ). written c.args.at l file) bytes in
    subst (λ (n : ℕ). EndsIn n (written c.args.at c.args.bytes.now file)) next
    (subst (λ (l : List ℕ). EndsIn (gate + c.in-Staged.count) l) is (gate_opened gate c.in-Staged.count file (subst (λ (end : End). EndsAs end file) c.in-Staged.is ends)))
