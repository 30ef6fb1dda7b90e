use Rattle.std.proofs.Common.{Some, ap, ◌∙◌}
use Rattle.sled_store.specs.Update.{put_at}
use Rattle.sled_pages.specs.Parts.{Parts}
use Rattle.sled_pages.specs.Slots.{slots_of}
use Rattle.sled_pages.proofs.Back.{below_back}
use Rattle.sled_pages.proofs.Linked.{below_link, below_fold}
use Rattle.sled_pages.proofs.memory.back.take_back.Goals as goal

pub returns-in-UndoSlot-clause-below : goal.returns-in-UndoSlot-clause-below
returns-in-UndoSlot-clause-below c next h k = below_back next (slots_of c.args.slots.now) _ c.args.undo c.in-UndoSlot.pid c.in-UndoSlot.slot c.in-UndoSlot.is c.put-now.ensures.slots h k

pub returns-in-UndoLink-clause-below : goal.returns-in-UndoLink-clause-below
returns-in-UndoLink-clause-below c next h k = below_link next (slots_of c.args.slots.now) _ c.args.undo c.in-UndoLink.pid c.in-UndoLink.version c.in-UndoLink.is c.unlink.ensures.slots h k

pub returns-in_ok-page-in-UndoFold-clause-below : goal.returns-in_ok-page-in-UndoFold-clause-below
returns-in_ok-page-in-UndoFold-clause-below c next h k =
    below_fold next (slots_of c.args.slots.now) _ c.args.undo c.in-UndoFold.pid c.in-UndoFold.version c.in-UndoFold.under c.in-UndoFold.is
    (c.put-now-in-UndoFold.ensures.slots ∙ ap (λ (q : Parts). put_at (slots_of c.args.slots.now) c.in-UndoFold.pid (Some (record { version = c.in-UndoFold.version; page = q }))) c.in_ok-page-in-UndoFold.ensures.ok) h k
