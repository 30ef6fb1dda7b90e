use Rattle.sled_files.proofs.file_pages.law_lasts.Goals as goal

pub returns-clause-lasts : goal.returns-clause-lasts
returns-clause-lasts g c = rw (← c.store.view_is) c.store.invariant.lasts

pub returns-clause-stands : goal.returns-clause-stands
returns-clause-stands g c = rw (← c.store.view_is) c.store.invariant.stands
