use Rattle.sled_nodes.proofs.entries.Entries.first_place.Goals as goal

pub returns-then-self : goal.returns-then-self
returns-then-self g c = rw (← c.self.view_is, ← c.as_slice.ensures.value) c.first_place.ensures

pub returns-else-self : goal.returns-else-self
returns-else-self g c = rw (← c.self.view_is, ← c.as_slice-else-self.ensures.value) c.first_place-else-self.ensures
