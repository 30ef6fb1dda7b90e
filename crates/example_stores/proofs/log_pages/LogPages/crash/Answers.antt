use Rattle.std.proofs.Common.{subst}
use Rattle.example_stores.specs.Log.{KeepsMost}
use Rattle.example_stores.proofs.Logging.{crashes, crash_keeps}
use Rattle.example_stores.proofs.log_pages.LogPages.crash.Goals as goal

pub invariant_of-left : goal.invariant_of-left
invariant_of-left c = record {
  kept = crash_keeps c.args.self _ c.args.keep c.kept_of-kept.result c.truncate.ensures.items
      (subst (λ log. KeepsMost c.args.keep c.args.self.flushed log c.kept_of-kept.result) c.as_slice.ensures.value c.kept_of-kept.ensures);
}

pub returns : goal.returns
returns c = crashes c.args.self _ c.args.keep c.kept_of-kept.result c.truncate.ensures.items
    (subst (λ log. KeepsMost c.args.keep c.args.self.flushed log c.kept_of-kept.result) c.as_slice.ensures.value c.kept_of-kept.ensures)
