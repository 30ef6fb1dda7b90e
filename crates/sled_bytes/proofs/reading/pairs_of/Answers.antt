use Rattle.std.proofs.Common.{drop, arith}
use Rattle.std.proofs.lemmas.Result.{err_from_is_err_and}
use Rattle.sled_bytes.specs.Reading.{pair_at, each_at}
use Rattle.sled_bytes.proofs.Entries.{goes_on, ends, is_done}
use Rattle.sled_bytes.proofs.reading.pairs_of.Goals as goal

pub returns-in_err-pair-clause-gives : goal.returns-in_err-pair-clause-gives
returns-in_err-pair-clause-gives c =
    let is = err_from_is_err_and c.from_residual-in_err-pair.result c.from_residual-in_err-pair.ensures.1 in
    rw (is.1, is.2) (ends pair_at c.in_err-pair.field-0.0 c.pairs.pairs.items c.args.count c.pairs.counter (drop c.pairs.at c.args.bytes.now) (each_at pair_at c.args.count (drop c.args.from c.args.bytes.now)) c.pairs-test.true c.in_err-pair.ensures.gives c.pairs.invariant.read)

pub pairs-preserved : goal.pairs-preserved
pairs-preserved c =
    record {
      far = omega (arith, c.in_ok-pair.ensures.place);
      place = c.in_ok-pair.ensures.place.1;
      read = rw c.in_ok-push.ensures.items (goes_on pair_at c.pairs.pairs.items c.args.count c.pairs.counter (drop c.pairs.at c.args.bytes.now) (drop c.in_ok-pair.behind c.args.bytes.now) c.in_ok-pair.pair (each_at pair_at c.args.count (drop c.args.from c.args.bytes.now)) c.pairs-test.true c.in_ok-pair.ensures.gives c.pairs.invariant.read);
    }

pub returns-clause-gives : goal.returns-clause-gives
returns-clause-gives c = is_done pair_at c.pairs.pairs.items c.args.count c.pairs.counter (drop c.pairs.at c.args.bytes.now) (each_at pair_at c.args.count (drop c.args.from c.args.bytes.now)) c.pairs-test.false c.pairs.invariant.read
