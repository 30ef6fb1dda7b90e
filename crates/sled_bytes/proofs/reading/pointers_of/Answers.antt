use Rattle.std.proofs.Common.{drop, arith}
use Rattle.std.proofs.lemmas.Result.{err_from_is_err_and}
use Rattle.sled_bytes.specs.Reading.{pointer_at, each_at}
use Rattle.sled_bytes.proofs.Entries.{goes_on, ends, is_done}
use Rattle.sled_bytes.proofs.reading.pointers_of.Goals as goal

pub returns-in_err-pointer-clause-gives : goal.returns-in_err-pointer-clause-gives
returns-in_err-pointer-clause-gives c =
    let is = err_from_is_err_and c.from_residual-in_err-pointer.result c.from_residual-in_err-pointer.ensures.1 in
    rw (is.1, is.2) (ends pointer_at c.in_err-pointer.field-0.0 c.pointers.pointers.items c.args.count c.pointers.counter (drop c.pointers.at c.args.bytes.now) (each_at pointer_at c.args.count (drop c.args.from c.args.bytes.now)) c.pointers-test.true c.in_err-pointer.ensures.gives c.pointers.invariant.read)

pub pointers-preserved : goal.pointers-preserved
pointers-preserved c =
    record {
      far = omega (arith, c.in_ok-pointer.ensures.place);
      place = c.in_ok-pointer.ensures.place.1;
      read = rw c.in_ok-push.ensures.items (goes_on pointer_at c.pointers.pointers.items c.args.count c.pointers.counter (drop c.pointers.at c.args.bytes.now) (drop c.in_ok-pointer.behind c.args.bytes.now) c.in_ok-pointer.pointer (each_at pointer_at c.args.count (drop c.args.from c.args.bytes.now)) c.pointers-test.true c.in_ok-pointer.ensures.gives c.pointers.invariant.read);
    }

pub returns-clause-gives : goal.returns-clause-gives
returns-clause-gives c = is_done pointer_at c.pointers.pointers.items c.args.count c.pointers.counter (drop c.pointers.at c.args.bytes.now) (each_at pointer_at c.args.count (drop c.args.from c.args.bytes.now)) c.pointers-test.false c.pointers.invariant.read
