-- A group that a transaction wrote, whether it was made or not, keeps what holds of a state.
use Rattle.std.proofs.Common.{◌≡◌, ◌∙◌, ℕ, List, [], ◌∷◌, ◌++◌, append-nil, length, Result, Ok, Err, OnOk, OnErr, IfErr, sym, refl, ap, subst, inl, inr}
use Rattle.std.specs.Global.{Vec}
use Rattle.sled_nodes.specs.declared.error.Error.{Error}
use Rattle.sled_batch.specs.Batch.{Writes}
use Rattle.sled_store.specs.Store.{Store}
use Rattle.sled_model.specs.Collections.{Content}
use Rattle.sled_model.specs.Maps.{Merge}
use Rattle.sled_model.specs.Refusal.{trees_of_batches}
use Rattle.sled_model.specs.State.{State, maps_of}
use Rattle.sled_model.specs.Transition.{does_of}
use Rattle.sled_model.specs.declared.call.Whole.TheVariants.{Group}
use Rattle.sled_model.specs.declared.outcome.Outcome.{Outcome}
use Rattle.sled_model.specs.declared.outcome.Outcome.TheVariants as outcome
use Rattle.sled_model.specs.declared.outcome.Step.TheVariants as step
use Rattle.sled_model.specs.declared.tree.Tree.{Tree}
use Rattle.sled.specs.Values.{db_state}
use Rattle.sled.proofs.Grouped.{tested_open}
use Rattle.machine_alone.specs.Ids.{RiseBetween}
use Rattle.machine_alone.specs.Step.{MachineStepContract}
use Rattle.machine_alone.specs.Values.{MachineValue, configuration_of}
use Rattle.machine_alone.specs.CrashMaps.{AreCrashMaps}
use Rattle.machine_shared.specs.History.{ids_made, makes_as}
use Rattle.machine_shared.specs.Made.{EntryValue, MadeValue}
use Rattle.machine_shared.specs.Notes.{entries_of}
use Rattle.machine_shared.specs.Sound.{CrashLeaves, IsState}
use Rattle.machine_shared.specs.Transactions.{transaction_made}
use Rattle.machine_shared.specs.WholeNotes.{NotesWhole}
use Rattle.machine_shared.specs.theory.Transacting.{is_decided, is_refused_as, GroupMade, GroupRefused, GroupUnmade}
use Rattle.machine_shared.specs.Values.{OpeningValue}
use Rattle.machine_shared.proofs.Ids.{came_risen, longer_rises, whole_risen}
use Rattle.machine_shared.proofs.Moments.{GoesOn}
use Rattle.machine_shared.proofs.Leading.{GoesTo, adds, led, whole_leaves, legal_of, leads_of}
use Rattle.machine_shared.proofs.Legal.{maps_same}
use Rattle.machine_shared.proofs.WholeMakes.{makes}

-- ---- how a group came out

module _ {P M : Type 0} (store : P → Store) (number : P → ℕ) (meant : M → Merge) (a b : MachineValue P M) (group : Vec (Tree × Writes)) where
  decided_made : (o : Outcome) → MachineStepContract store number meant a (step.Whole (Group group)) o b → is_decided o → GroupMade store number meant a group b
  decided_made (outcome.Decided reply) s d = record { reply = reply; step = s }
  decided_made other s d = absurd d

  pub group_made : (o : Outcome) → MachineStepContract store number meant a (step.Whole (Group group)) o b → (r : Result (Unit {0}) Error) → OnOk r (is_decided o) → OnOk r (GroupMade store number meant a group b)
  group_made o s (Ok x) d = decided_made o s d
  group_made o s (Err e) d = tt

  refused_group : (o : Outcome) (e : Error) → MachineStepContract store number meant a (step.Whole (Group group)) o b → is_refused_as o e → GroupRefused store number meant a group b e
  refused_group (outcome.Decided reply) e s u = absurd u
  refused_group (outcome.Refused x) e s u = record { step = subst (λ y. MachineStepContract store number meant a (step.Whole (Group group)) (outcome.Refused y) b) (sym u) s }
  refused_group other e s u = absurd s.step.step.is

  pub group_refused : (o : Outcome) → MachineStepContract store number meant a (step.Whole (Group group)) o b → (r : Result (Unit {0}) Error) → IfErr r (is_refused_as o) → IfErr r (GroupRefused store number meant a group b)
  group_refused o s (Ok x) u = tt
  group_refused o s (Err e) u = refused_group o e s u

-- ---- states

module _ {P M : Type 0} (store : P → Store) (number : P → ℕ) (meant : M → Merge) (a b : MachineValue P M) (opening : OpeningValue) (history longer : List EntryValue) (before after : ℕ) (h : IsState store a opening history before) (counted : length longer ≡ after) (n : ℕ) (group : Vec (Tree × Writes)) where
  -- where it was made
  made_state : GroupMade store number meant a group b → longer ≡ history ++ entries_of n (transaction_made (maps_of (db_state store meant a.db)) group.items ∷ []) → GoesTo h b longer after
  made_state g e = (record { legal = legal_of crashes.0; leads = leads_of crashes.0; crashes = crashes.0; covers = λ f. crashes.1 ∙ h.covers f; ids = ids; counted = counted }, crashes.2)
    where
      A : State
      A = (configuration_of store number meant a).state

      B : State
      B = (configuration_of store number meant b).state

      v : MadeValue
      v = transaction_made (maps_of A) group.items

      decides : (does_of (Group group)).decides (configuration_of store number meant a) g.reply B g.step.step.maps
      decides = g.step.step.step.is

      made : makes_as h.crashes.last v (maps_of B)
      made = subst (λ m. makes_as m v (maps_of B)) (sym (led store number meant a b opening.contents history h.crashes (tested_open A (trees_of_batches group.items) decides.free)))
          (let m = makes (configuration_of store number meant a) (Group group) g.reply B g.step.step.maps decides in (refl, (refl, m.1, m.2)))

      left : AreCrashMaps (store b.db.pages) (h.crashes.left ++ maps_of B ∷ [])
      left = subst (λ x. AreCrashMaps (store b.db.pages) (h.crashes.left ++ x)) decides.added (g.step.step.keeps h.crashes.left h.crashes.leaves)

      crashes : (c : CrashLeaves store b opening.contents longer) × (c.earlier ≡ h.crashes.earlier) × GoesOn h.crashes.moments c.moments
      crashes = adds store number meant a b opening.contents history h.crashes longer n v (maps_of B) (maps_of B ∷ []) e made refl (λ o. maps_same store meant b number) left

      ids : RiseBetween 0 (ids_made longer) b.db.greatest_id
      ids = longer_rises 0 a.db.greatest_id b.db.greatest_id history (entries_of n (v ∷ [])) longer e h.ids (came_risen store number meant a b n (Group group) (outcome.Decided g.reply) g.step.step.maps 0 decides)

  -- .. and where it was refused
  refused_notes : (x : Error) → MachineStepContract store number meant a (step.Whole (Group group)) (outcome.Refused x) b → longer ≡ history ++ [] → NotesWhole store number meant a history n [] (Group group) (outcome.Refused x) b longer []
  refused_notes x s e = record { noted = []; comes = inl (record { step = s; number = 0; counts = record { is = refl }; notes = refl }); adds = e; adds_there = refl }

  refused_state : (o : Outcome) → NotesWhole store number meant a history n [] (Group group) o b longer [] → GoesTo h b longer after
  refused_state o notes =
      let crashes = whole_leaves store number meant a b opening.contents history h.crashes n longer [] [] (Group group) o notes in
      (record { legal = legal_of crashes.0; leads = leads_of crashes.0; crashes = crashes.0; covers = λ f. crashes.1 ∙ h.covers f; ids = whole_risen store number meant a b n history longer [] [] (Group group) o notes h.ids; counted = counted }, crashes.2)

  unmade_state : (x : Error) → GroupUnmade store number meant a group b x → longer ≡ history ++ [] → GoesTo h b longer after
  unmade_state x (inl (same, why)) e = (record { legal = m.0.legal; leads = m.0.leads; crashes = m.0.crashes; covers = m.0.covers; ids = m.0.ids; counted = counted }, m.1)
    where
      m : GoesTo h b longer before
      m = subst (λ l. GoesTo h b l before) (sym (e ∙ append-nil history)) (subst (λ (x : MachineValue P M). GoesTo h x history before) (sym same) (h, λ i m there. there))
  unmade_state x (inr g) e = refused_state (outcome.Refused x) (refused_notes x g.step e)

  -- a group, whether it was made or not
  pub grouped_state : (r : Result (Unit {0}) Error) (noted : List MadeValue) → OnOk r (GroupMade store number meant a group b) → OnOk r (noted ≡ transaction_made (maps_of (db_state store meant a.db)) group.items ∷ [])
      → IfErr r (GroupUnmade store number meant a group b) → OnErr r (noted ≡ []) → longer ≡ history ++ entries_of n noted → GoesTo h b longer after
  grouped_state (Ok x) noted made notes unmade none e = made_state made (e ∙ ap (λ m. history ++ entries_of n m) notes)
  grouped_state (Err x) noted made notes unmade none e = unmade_state x unmade (e ∙ ap (λ m. history ++ entries_of n m) none)
