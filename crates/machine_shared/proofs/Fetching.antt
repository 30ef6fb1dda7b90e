-- A fetch keeps what holds of a state.
use Rattle.std.proofs.Common.{◌≡◌, ◌∙◌, inl, inr, ℕ, List, [], ◌∷◌, ◌++◌, length, Option, Result, Ok, Err, IfOk, OnErr, sym, refl, ap, subst}
use Rattle.sled_store.specs.Store.{Store}
use Rattle.tree_laws.proofs.Crashing.{extends_same}
use Rattle.sled_model.specs.Answer.{key_of, decision_of, answer_of}
use Rattle.std.specs.FinMap.Entries.{find}
use Rattle.sled_nodes.specs.Order.{Key, key_cmp}
use Rattle.sled_model.specs.Collections.{Content}
use Rattle.sled_model.specs.Maps.{Merge}
use Rattle.sled_model.specs.Refusal.{ToPoint}
use Rattle.sled_model.specs.State.{State, maps_of}
use Rattle.sled_model.specs.Whole.{DecidesPoint}
use Rattle.sled_model.specs.declared.call.Call.{Call}
use Rattle.sled_nodes.specs.declared.error.Error.{Error}
use Rattle.sled_model.specs.declared.call.Call.TheVariants.{CompareAndSwap}
use Rattle.sled_model.specs.declared.reply.Reply.{Reply}
use Rattle.sled_model.specs.declared.reply.Reply.TheVariants.{Swapped}
use Rattle.sled_model.specs.declared.tree.Tree.{Tree}
use Rattle.sled.specs.Direct.{PointDecided}
use Rattle.sled.specs.Fetch.{Closure, FetchRefused}
use Rattle.sled.specs.Values.{DbValue, db_state}
use Rattle.machine_alone.specs.Ids.{RiseBetween}
use Rattle.machine_alone.specs.Values.{MachineValue}
use Rattle.machine_alone.proofs.Runs.{extended}
use Rattle.machine_shared.specs.History.{MakesPoint, ids_made}
use Rattle.machine_shared.specs.Made.{EntryValue, MadeValue, PointMade}
use Rattle.machine_shared.specs.Notes.{entries_of}
use Rattle.machine_shared.specs.Sound.{CrashLeaves, IsState}
use Rattle.machine_shared.specs.Fetches.{ByRead, BySwap, ForMemory, RefusesFetch, SwapsNow, StaysStill, swap_made}
use Rattle.machine_shared.specs.Values.{OpeningValue}
use Rattle.machine_alone.proofs.Rising.{at_most}
use Rattle.machine_shared.proofs.Ids.{longer_rises}
use Rattle.machine_shared.proofs.Moments.{GoesOn}
use Rattle.machine_shared.proofs.Leading.{GoesTo, tested, led, adds, rests, still, none_added, legal_of, leads_of}
use Rattle.machine_shared.proofs.Legal.{comes, maps_same}
use Rattle.machine_shared.proofs.WholeMakes.{after_maps, there_map}

-- where nothing is done no map changes
pub nothing_done : {P M : Type 0} (store : P → Store) (meant : M → Merge) (m : MachineValue P M) → StaysStill store meant m m
nothing_done store meant m = record { state = refl; extends = extends_same (store m.db.pages); ids = refl }

-- a fetch that a machine refuses
pub swap_refused : {P M F : Type 0} (store : P → Store) (meant : M → Merge) (closure : Closure F) (f : F) (old : DbValue P M) (tree : Tree) (key : Key) (e : Error) (new : DbValue P M) → FetchRefused store meant closure f old tree key e new
    → RefusesFetch store meant old tree key e new
swap_refused store meant closure f old tree key e new r = elim r.why [
  | inl unread ↦ ByRead unread.refuses unread.gives_up unread.is
  | inr other ↦ elim other [
    | inl unmade ↦ ForMemory unmade.stands.tested unmade.told unmade.is
    | inr unswapped ↦ BySwap unswapped.makes.stands unswapped.refused
  ]
]

-- a call that is made at once
pub point_made : (old : State) (tree : Tree) (call : Call) (reply : Reply) (new : State) → DecidesPoint old tree call reply new → MakesPoint (maps_of old) tree call reply (maps_of new)
point_made old tree call reply new d = record {
  map = d.named.map;
  there = there_map old tree.name d.named d.there;
  decision = decision_of d.named.merge call (find key_cmp (key_of call) d.named.map);
  comes = comes d.named.merge call (find key_cmp (key_of call) d.named.map);
  replies = d.replies;
  is = ap maps_of d.is ∙ after_maps old tree.name d.named (answer_of d.named.merge call d.named.map);
}

module _ {P M : Type 0} (store : P → Store) (number : P → ℕ) (meant : M → Merge) (a b : MachineValue P M) (opening : OpeningValue) (history longer : List EntryValue) (before after : ℕ) (h : IsState store a opening history before) (counted : length longer ≡ after) where
  -- after a value was swapped for another
  pub swapped_state : (n : ℕ) (tree : Tree) (call : Call) (reply : Reply) → PointDecided store meant a.db tree call reply b.db → longer ≡ history ++ entries_of n (PointMade tree call reply ∷ []) → GoesTo h b longer after
  swapped_state n tree call reply d e = (record { legal = legal_of crashes.0; leads = leads_of crashes.0; crashes = crashes.0; covers = λ f. crashes.1 ∙ h.covers f; ids = ids; counted = counted }, crashes.2)
    where
      crashes : (c : CrashLeaves store b opening.contents longer) × (c.earlier ≡ h.crashes.earlier) × GoesOn h.crashes.moments c.moments
      crashes = adds store number meant a b opening.contents history h.crashes longer n (PointMade tree call reply) (maps_of (db_state store meant b.db)) (maps_of (db_state store meant b.db) ∷ []) e
          (subst (λ m. MakesPoint m tree call reply (maps_of (db_state store meant b.db))) (sym (led store number meant a b opening.contents history h.crashes (tested (db_state store meant a.db) (ToPoint tree call) d.decides.free)))
          (point_made (db_state store meant a.db) tree call reply (db_state store meant b.db) d.decides))
          refl
          (λ o. maps_same store meant b number)
          (extended (maps_of (db_state store meant b.db) ∷ []) (store a.db.pages) (store b.db.pages) d.conducts.leaves.extends h.crashes.left h.crashes.leaves)

      ids : RiseBetween 0 (ids_made longer) b.db.greatest_id
      ids = longer_rises 0 a.db.greatest_id b.db.greatest_id history (entries_of n (PointMade tree call reply ∷ [])) longer e h.ids (at_most _ _ (ap (λ (x : DbValue P M). x.greatest_id) d.conducts.same))

  -- and after nothing was
  pub still_state : StaysStill store meant a b → longer ≡ history ++ [] → GoesTo h b longer after
  still_state s e = (record { legal = legal_of crashes.0; leads = leads_of crashes.0; crashes = crashes.0; covers = λ f. crashes.1 ∙ h.covers f; ids = ids; counted = counted }, crashes.2)
    where
      crashes : (c : CrashLeaves store b opening.contents longer) × (c.earlier ≡ h.crashes.earlier) × GoesOn h.crashes.moments c.moments
      crashes = rests store number meant a b opening.contents history h.crashes longer e (still store number meant a b opening.contents history h.crashes (ap (λ (x : State). x.is_open) s.state) (ap maps_of s.state))
          (none_added store number meant a b opening.contents history h.crashes [] refl (extended [] (store a.db.pages) (store b.db.pages) s.extends h.crashes.left h.crashes.leaves))

      ids : RiseBetween 0 (ids_made longer) b.db.greatest_id
      ids = longer_rises 0 a.db.greatest_id b.db.greatest_id history [] longer e h.ids (at_most _ _ s.ids)

  -- a fetch, whether it was made or not
  pub fetched_state : (n : ℕ) (tree : Tree) (key : Key) (r : Result (Option Key × Option Key) Error) (noted : List MadeValue) → IfOk r (λ both. SwapsNow store meant a tree key both.0 both.1 b) → IfOk r (λ both. noted ≡ swap_made tree key both.0 both.1 ∷ [])
      → OnErr r (StaysStill store meant a b) → OnErr r (noted ≡ []) → longer ≡ history ++ entries_of n noted → GoesTo h b longer after
  fetched_state n tree key (Ok both) noted swaps notes stays none e = swapped_state n tree (CompareAndSwap key both.0 both.1) (Swapped (Ok tt)) swaps.swaps (e ∙ ap (λ m. history ++ entries_of n m) notes)
  fetched_state n tree key (Err x) noted swaps notes stays none e = still_state stays (e ∙ ap (λ m. history ++ entries_of n m) none)
