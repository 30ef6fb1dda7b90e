use Rattle.std.proofs.Common.{length, drop, ap, arith}
use Rattle.std.proofs.lemmas.List.{length-drop, drop_all}
use Rattle.std.proofs.lemmas.Result.{err_from_is_err_and}
use Rattle.sled_bytes.specs.Reading.{changes_of}
use Rattle.sled_bytes.proofs.Several.{changes_begin, changes_go_on, changes_end, changes_done}
use Rattle.sled_bytes.proofs.changes.all_of.Goals as goal

pub changes-init : goal.changes-init
changes-init c =
    record {
      place = omega arith;
      few = omega (arith, ap length c.new-changes.ensures.items);
      read = changes_begin c.new-changes.result.items c.args.bytes.now c.new-changes.ensures.items;
    }

pub returns-in_err-change : goal.returns-in_err-change
returns-in_err-change c =
    let is = err_from_is_err_and c.from_residual.result c.from_residual.ensures.1 in
    let some = length-drop c.changes.at c.args.bytes.now in
    rw (is.1, is.2) (changes_end c.changes.changes.items c.in_err-change.field-0.0 (drop c.changes.at c.args.bytes.now) (length c.args.bytes.now) (changes_of c.args.bytes.now) (omega arith) (omega arith) c.in_err-change.ensures.gives c.changes.invariant.read)

pub changes-preserved : goal.changes-preserved
changes-preserved c =
    let place = c.in_ok-change.ensures.place in
    record {
      place = place.1;
      few = omega (arith, place, c.in_ok-push.ensures.len);
      read = changes_go_on c.changes.changes.items c.push.new.self.items (drop c.changes.at c.args.bytes.now) (drop c.in_ok-change.behind c.args.bytes.now) c.in_ok-change.change (length c.args.bytes.now) (changes_of c.args.bytes.now) (omega arith) c.in_ok-change.ensures.gives c.in_ok-push.ensures.items c.changes.invariant.read;
    }

pub returns : goal.returns
returns c = changes_done c.changes.changes.items (drop c.changes.at c.args.bytes.now) _ (changes_of c.args.bytes.now) (drop_all c.changes.at c.args.bytes.now (omega arith)) c.changes.invariant.read
