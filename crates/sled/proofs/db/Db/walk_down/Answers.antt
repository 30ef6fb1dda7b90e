use Rattle.std.proofs.Common.{◌≡◌, Some, None, ap, subst}
use Rattle.sled_tree.specs.theory.Walking.{WalksDown}
use Rattle.sled_tree.proofs.Descending.{on_key}
use Rattle.sled.specs.Values.{DbValue}
use Rattle.sled.proofs.Walking.{down_stays, down_told, down_on}
use Rattle.sled.proofs.db.Db.walk_down.Goals as goal

pub returns-then-not-is_on_key : goal.returns-then-not-is_on_key
returns-then-not-is_on_key g c = down_stays g.P.Pages.store g.M.MergeOperator.meant _ c.audit.ensures.sound _

pub returns-in_default : goal.returns-in_default
returns-in_default g c =
    down_told g.P.Pages.store g.M.MergeOperator.meant c.args.self.now c.audit.ensures.sound c.args.flight.now c.walk_down.new.flight (on_key _ _ c.is_on_key.ensures c.if-not-is_on_key.false) c.requires.known c.requires.tested
    None (λ e. cc) (subst (λ (d : DbValue g.row.P.Denot g.row.M.Denot). WalksDown (g.P.Pages.store d.pages) c.args.flight.now None c.walk_down.new.flight) c.self.view_is c.in_default.ensures)

pub returns-then-goes_on : goal.returns-then-goes_on
returns-then-goes_on g c =
    down_on g.P.Pages.store g.M.MergeOperator.meant c.args.self.now c.audit.ensures.sound c.args.flight.now c.walk_down.new.flight (on_key _ _ c.is_on_key.ensures c.if-not-is_on_key.false) c.requires.known c.requires.tested
    (Some c.in-Some.went) (ap Some (c.goes_on.ensures.on c.if-goes_on.true)) (subst (λ (d : DbValue g.row.P.Denot g.row.M.Denot). WalksDown (g.P.Pages.store d.pages) c.args.flight.now (Some c.in-Some.went) c.walk_down.new.flight) c.self.view_is c.in-Some.ensures)

pub returns : goal.returns
returns g c =
    down_told g.P.Pages.store g.M.MergeOperator.meant c.args.self.now c.audit.ensures.sound c.args.flight.now c.walk_down.new.flight (on_key _ _ c.is_on_key.ensures c.if-not-is_on_key.false) c.requires.known c.requires.tested
    (Some c.in-Some.went) (λ e. c.goes_on.ensures.ended c.if-goes_on.false (some_is e)) (subst (λ (d : DbValue g.row.P.Denot g.row.M.Denot). WalksDown (g.P.Pages.store d.pages) c.args.flight.now (Some c.in-Some.went) c.walk_down.new.flight) c.self.view_is c.in-Some.ensures)
  where
    some_is : {X : Type 0} {x y : X} → Some x ≡ Some y → x ≡ y
    some_is e = cc
