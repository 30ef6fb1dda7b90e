use Rattle.std.proofs.Common.{rules, ◌≡◌, false, Some, None, refl, subst}
use Rattle.sled_store.specs.Store.{now}
use Rattle.sled.specs.Sound.{IsDb}
use Rattle.sled.specs.Values.{numbers_of}
use Rattle.sled.proofs.Planting.{opens_closed, opens_used_up, number_known, number_new}
use Rattle.sled.proofs.db.Db.number_ahead.Goals as goal

pub returns-then-in_group-clause-err : goal.returns-then-in_group-clause-err
returns-then-in_group-clause-err g c = opens_closed g.P.Pages.store g.M.MergeOperator.meant c.args.self.now c.args.name.now (search rules)

pub returns-in-Some-clause-ok : goal.returns-in-Some-clause-ok
returns-in-Some-clause-ok g c =
    let no_group : (now (g.P.Pages.store c.args.self.now.pages)).in_group ≡ false = search rules in
    let known : numbers_of c.args.self.now.trees c.args.name.now ≡ Some c.in-Some.number = search rules in
    number_known g.P.Pages.store g.M.MergeOperator.meant c.args.self.now no_group c.args.name.now (subst (λ z. IsDb g.P.Pages.store z) c.self.view_is c.self.invariant) c.in-Some.number known

pub returns-then-self-clause-err : goal.returns-then-self-clause-err
returns-then-self-clause-err g c =
    let no_group : (now (g.P.Pages.store c.args.self.now.pages)).in_group ≡ false = search rules in
    let unknown : numbers_of c.args.self.now.trees c.args.name.now ≡ None = search rules in
    opens_used_up g.P.Pages.store g.M.MergeOperator.meant c.args.self.now no_group c.args.name.now _ refl unknown (search rules)

pub returns-clause-ok : goal.returns-clause-ok
returns-clause-ok g c =
    let no_group : (now (g.P.Pages.store c.args.self.now.pages)).in_group ≡ false = search rules in
    let unknown : numbers_of c.args.self.now.trees c.args.name.now ≡ None = search rules in
    number_new g.P.Pages.store g.M.MergeOperator.meant c.args.self.now no_group c.args.name.now _ c.self.view_is unknown
