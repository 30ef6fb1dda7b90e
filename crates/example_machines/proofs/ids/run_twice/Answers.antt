use Rattle.std.proofs.Common.{◌≤◌, sym, ap, subst, ◌∙◌}
use Rattle.sled_pages.specs.Memory.{store_of, flush_number_of}
use Rattle.sled_pages.specs.declared.memory.MemPages.{MemPages}
use Rattle.sled.specs.Values.{DbValue}
use Rattle.example_machines.proofs.Rising.{runs_rise, kept_over}
use Rattle.example_machines.proofs.ids.run_twice.Goals as goal

pub returns-in-Ok-more : goal.returns-in-Ok-more
returns-in-Ok-more c = record {
  ok = runs_rise store_of flush_number_of _ _ _ _ _ _ _ _ _ c.in-Ok-run.ensures.each
      (kept_over c.args.keep c.run.new.self.db.greatest_id c.new-machine-2.result.db.greatest_id (store_of c.into_pages-2.result) (store_of c.in_ok-left.left)
      (subst (λ (q : MemPages). c.run.new.self.db.greatest_id ≤ (store_of q).mark) (sym (c.into_pages-2.ensures.pages ∙ ap (λ (d : DbValue MemPages _). d.pages) c.into_db-2.ensures)) c.audit.ensures.sound.ids)
      c.in_ok-left.ensures.ok (ap (λ (d : DbValue MemPages _). d.greatest_id) c.new-machine-2.ensures.db ∙ c.in-Ok-open.ensures.ok.ids))
      c.in-Ok-more.ensures.each;
}
