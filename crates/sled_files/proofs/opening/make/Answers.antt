use Rattle.sled_files.proofs.Making.{made_of, unmade_of}
use Rattle.std.proofs.Common.{ap, ◌∙◌, refl, drop, Bor, List, ℕ}
use Rattle.sled_files.proofs.opening.make.Goals as goal

pub returns-in-Some-clause-ok : goal.returns-in-Some-clause-ok
returns-in-Some-clause-ok c =
    made_of c.args.found.now.first.now c.others_of.result.now c.args.found.now.payloads.items (c.others_of.ensures ∙ ap (λ (l : List (Bor (List ℕ))). drop 1 l) c.as_slice.ensures.value) c.in-Ok.ensures.ok c.in-Some.made c.in-Some.ensures.reopened.0 c.in-Some.ensures.reopened.1 c.in-Some.ensures.limits c.in-Some.ensures.named

pub returns-in-None-clause-err : goal.returns-in-None-clause-err
returns-in-None-clause-err c =
    (refl, unmade_of c.args.found.now.first.now c.others_of.result.now c.args.found.now.payloads.items (c.others_of.ensures ∙ ap (λ (l : List (Bor (List ℕ))). drop 1 l) c.as_slice.ensures.value) c.in-Ok.ensures.ok c.in-None.ensures.reopened)
