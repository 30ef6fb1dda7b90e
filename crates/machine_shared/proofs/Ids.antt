-- The ids in a history rise.
use Rattle.std.proofs.Common.{◌≡◌, ◌∙◌, ℕ, zero, suc, ◌≤◌, List, [], ◌∷◌, ◌++◌, append_assoc, Option, Some, None, sym, refl, ap, subst, inl, inr, arith}
use Rattle.sled_nodes.specs.Ranges.{Range}
use Rattle.sled_nodes.specs.declared.error.Error.{Error}
use Rattle.sled_store.specs.Store.{Store}
use Rattle.sled_model.specs.Maps.{Maps, Merge}
use Rattle.sled_model.specs.State.{CallInFlight, range_of}
use Rattle.sled_model.specs.Transition.{transition_as}
use Rattle.sled_model.specs.declared.call.Call.{Call}
use Rattle.sled_model.specs.declared.call.Whole.{Whole}
use Rattle.sled_model.specs.declared.call.Whole.TheVariants.{Flush, GenerateId}
use Rattle.sled_model.specs.declared.tree.Tree.{Tree}
use Rattle.sled_model.specs.declared.reply.Reply.{Reply}
use Rattle.sled_model.specs.declared.reply.Reply.TheVariants as told
use Rattle.sled_model.specs.declared.outcome.Outcome.{Outcome}
use Rattle.sled_model.specs.declared.outcome.Outcome.TheVariants as outcome
use Rattle.sled_model.specs.declared.outcome.Step.TheVariants as step
use Rattle.machine_alone.specs.Ids.{id_of, RiseBetween}
use Rattle.machine_alone.specs.Values.{MachineValue, configuration_of, slots_of}
use Rattle.machine_alone.proofs.Rising.{rise_on, step_rises, at_most}
use Rattle.machine_shared.specs.Made.{MadeValue, EntryValue, whole_value}
use Rattle.machine_shared.specs.Wholes.{WholeValue}
use Rattle.machine_shared.specs.WholeNotes.{noted_with, noted_whole, ComesToWhole, NotesWhole}
use Rattle.machine_shared.specs.History.{id_made, ids_made}
use Rattle.machine_shared.specs.Notes.{entries_of, noted_as, noted_in}

-- two lists one after the other
ids_on : (xs ys : List EntryValue) → ids_made (xs ++ ys) ≡ ids_made xs ++ ids_made ys
ids_on [] ys = refl
ids_on (x ∷ xs) ys = ap (λ l. id_made x.made ++ l) (ids_on xs ys) ∙ sym (append_assoc (id_made x.made) (ids_made xs) (ids_made ys))

-- what is above all of these is above them after more ids were given
pub later : (low mid high : ℕ) (ids : List ℕ) → RiseBetween low ids mid → mid ≤ high → RiseBetween low ids high
later low mid high [] r l = omega arith
later low mid high (id ∷ ids) r l = (r.0, later id mid high ids r.1 l)

-- .. and where these are noted
pub longer_rises : (low mid high : ℕ) (history more longer : List EntryValue) → longer ≡ history ++ more → RiseBetween low (ids_made history) mid → RiseBetween mid (ids_made more) high → RiseBetween low (ids_made longer) high
longer_rises low mid high history more longer e x y = subst (λ l. RiseBetween low l high) (sym (ap ids_made e ∙ ids_on history more)) (rise_on low mid high (ids_made history) (ids_made more) x y)

-- a step of a slot gives none
none_as : (n : ℕ) (r : Option Range) (tree : Tree) (call : Call) (reply : Reply) → ids_made (entries_of n (noted_as r tree call reply)) ≡ []
none_as n None tree call reply = refl
none_as n (Some range) tree call reply = refl

none_in : (n : ℕ) (o : Outcome) (slot : Option CallInFlight) → ids_made (entries_of n (noted_in o slot)) ≡ []
none_in n (outcome.Decided reply) (Some f) = none_as n (range_of f.call) f.tree f.call reply
none_in n other s = refl

-- a whole call is noted with the id that it gives
decided_ids : (n : ℕ) (w : Whole) (reply : Reply) (k : ℕ) → ids_made (entries_of n (noted_whole w (outcome.Decided reply) k)) ≡ id_of (step.Whole w) (outcome.Decided reply)
decided_ids n GenerateId (told.Number id) k = refl
decided_ids n other reply k = refl

-- .. and one that is refused with none
pub parts_ids : (n : ℕ) (v : WholeValue) (k : ℕ) → ids_made (entries_of n (noted_with v None k)) ≡ []
parts_ids n v zero = refl
parts_ids n v (suc k) = refl

refused_ids : (n : ℕ) (w : Whole) (x : Error) (k : ℕ) → ids_made (entries_of n (noted_whole w (outcome.Refused x) k)) ≡ id_of (step.Whole w) (outcome.Refused x)
refused_ids n Flush x k = parts_ids n (whole_value Flush) k
refused_ids n other x k = parts_ids n (whole_value other) k

module _ {P M : Type 0} (store : P → Store) (number : P → ℕ) (meant : M → Merge) (a b : MachineValue P M) where
  -- a step of a slot, a begin and the end of a call
  pub step_risen : (n slot : ℕ) (o : Outcome) (maps : List Maps) (history longer : List EntryValue)
      → transition_as (configuration_of store number meant a) (step.Step slot) o (configuration_of store number meant b) maps
      → longer ≡ history ++ entries_of n (noted_in o (slots_of a.flights slot))
      → RiseBetween 0 (ids_made history) a.db.greatest_id → RiseBetween 0 (ids_made longer) b.db.greatest_id
  step_risen n slot o maps history longer t e r = longer_rises 0 a.db.greatest_id b.db.greatest_id history (entries_of n (noted_in o (slots_of a.flights slot))) longer e r
      (subst (λ l. RiseBetween a.db.greatest_id l b.db.greatest_id) (sym (none_in n o (slots_of a.flights slot)))
      (step_rises (configuration_of store number meant a) (configuration_of store number meant b) (step.Step slot) o maps t))

  pub begun_risen : (tree : Tree) (call : Call) (o : Outcome) (maps : List Maps) (history : List EntryValue)
      → transition_as (configuration_of store number meant a) (step.Begin tree call) o (configuration_of store number meant b) maps
      → RiseBetween 0 (ids_made history) a.db.greatest_id → RiseBetween 0 (ids_made history) b.db.greatest_id
  begun_risen tree call o maps history t r = later 0 a.db.greatest_id b.db.greatest_id (ids_made history) r
      (step_rises (configuration_of store number meant a) (configuration_of store number meant b) (step.Begin tree call) o maps t)

  pub abandoned_risen : (slot : ℕ) (o : Outcome) (maps : List Maps) (history : List EntryValue)
      → transition_as (configuration_of store number meant a) (step.Abandon slot) o (configuration_of store number meant b) maps
      → RiseBetween 0 (ids_made history) a.db.greatest_id → RiseBetween 0 (ids_made history) b.db.greatest_id
  abandoned_risen slot o maps history t r = later 0 a.db.greatest_id b.db.greatest_id (ids_made history) r
      (step_rises (configuration_of store number meant a) (configuration_of store number meant b) (step.Abandon slot) o maps t)

  -- a whole call
  pub came_risen : (n : ℕ) (w : Whole) (r : Outcome) (maps : List Maps) (k : ℕ)
      → transition_as (configuration_of store number meant a) (step.Whole w) r (configuration_of store number meant b) maps
      → RiseBetween a.db.greatest_id (ids_made (entries_of n (noted_whole w r k))) b.db.greatest_id
  came_risen n w (outcome.Decided reply) maps k t = subst (λ l. RiseBetween a.db.greatest_id l b.db.greatest_id) (sym (decided_ids n w reply k))
      (step_rises (configuration_of store number meant a) (configuration_of store number meant b) (step.Whole w) (outcome.Decided reply) maps t)
  came_risen n w (outcome.Refused x) maps k t = subst (λ l. RiseBetween a.db.greatest_id l b.db.greatest_id) (sym (refused_ids n w x k))
      (step_rises (configuration_of store number meant a) (configuration_of store number meant b) (step.Whole w) (outcome.Refused x) maps t)
  came_risen n w other maps k t = absurd t

  noted_risen : (n : ℕ) (w : Whole) (r : Outcome) (more : List MadeValue) → ComesToWhole store number meant a w r b more → RiseBetween a.db.greatest_id (ids_made (entries_of n more)) b.db.greatest_id
  noted_risen n w r more (inl d) = subst (λ l. RiseBetween a.db.greatest_id (ids_made (entries_of n l)) b.db.greatest_id) (sym d.notes) (came_risen n w r d.step.step.maps d.number d.step.step.step.is)
  noted_risen n w r more (inr c) = subst (λ l. RiseBetween a.db.greatest_id (ids_made (entries_of n l)) b.db.greatest_id) (sym c.none) (at_most _ _ (ap (λ (m : MachineValue P M). m.db.greatest_id) c.same))

  pub whole_risen : (n : ℕ) (history longer : List EntryValue) (made more : List MadeValue) (w : Whole) (r : Outcome) → NotesWhole store number meant a history n made w r b longer more
      → RiseBetween 0 (ids_made history) a.db.greatest_id → RiseBetween 0 (ids_made longer) b.db.greatest_id
  whole_risen n history longer made more w r t h = longer_rises 0 a.db.greatest_id b.db.greatest_id history (entries_of n t.noted) longer t.adds h (noted_risen n w r t.noted t.comes)

-- before anything was made there is none
pub none_risen : (greatest : ℕ) (history : List EntryValue) → history ≡ [] → RiseBetween 0 (ids_made history) greatest
none_risen greatest history none = subst (λ l. RiseBetween 0 (ids_made l) greatest) (sym none) (omega arith)
