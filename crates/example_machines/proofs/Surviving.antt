-- What is found after a crash is one of the maps that the run kept.
use Rattle.std.proofs.Common.{◌≡◌, ℕ, List, [], ◌∷◌, map, sym, refl, ap, ◌∙◌, subst, inl}
use Rattle.sled_nodes.specs.Order.{Key}
use Rattle.sled_store.specs.In.{In}
use Rattle.sled_store.specs.State.{State as PageState}
use Rattle.sled_store.specs.Store.{Store, now}
use Rattle.sled_store.specs.Crash.{crash_states, IsCrashState, Crashes}
use Rattle.sled_store.proofs.Lists.{map_in}
use Rattle.sled_pages.specs.Memory.{store_of, flush_number_of}
use Rattle.sled_pages.specs.declared.memory.MemPages.{MemPages}
use Rattle.sled_model.specs.Maps.{Merge}
use Rattle.sled_model.specs.declared.outcome.Step.{Step}
use Rattle.sled_model.specs.declared.outcome.Outcome.{Outcome}
use Rattle.tree_laws.specs.Contents.{trees_of}
use Rattle.tree_laws.specs.Crashes.{StutterEquivalent}
use Rattle.sled.specs.Values.{DbValue}
use Rattle.sled.specs.Opens.{Opens}
use Rattle.machine_alone.specs.CrashMaps.{AreCrashMaps}
use Rattle.machine_alone.specs.Run.{MachineRun, MachineSteps}
use Rattle.machine_alone.specs.Values.{MachineValue}
use Rattle.example_parts.proofs.Added.{matches_has}
use Rattle.example_machines.specs.Survive.{machine_over, SurvivesEach}
use Rattle.example_machines.proofs.Plain.{plain, plain_opens}
use Rattle.example_machines.proofs.Meant.{plain_machine, plain_run, plain_all}

module _ {M : Type 0} (meant : M → Merge) (before : Store) (name : Key) where
  pub survives : (steps : List Step) (outcomes : List Outcome) (keep : ℕ) (start last : MachineValue MemPages M) (first : DbValue MemPages M) (pages left : MemPages) (again : DbValue MemPages M) (end : MemPages)
      → Opens store_of before name first → start.db ≡ first → start.flights ≡ [] → start.slots_given ≡ 0 → MachineRun store_of flush_number_of meant start steps outcomes last → MachineSteps store_of flush_number_of meant start steps outcomes last → pages ≡ last.db.pages
      → IsCrashState (store_of pages) (store_of left).base → Crashes keep (store_of pages) (store_of left) → Opens store_of (store_of left) name again → end ≡ again.pages
      → SurvivesEach before name steps outcomes keep (store_of end)
  survives steps outcomes keep start last first pages left again end o same none unused run each p may crash reopens out =
      let over : start ≡ machine_over first = λ i. record { db = same i; flights = none i; slots_given = unused i } in
      let leaves : AreCrashMaps (store_of first.pages) (trees_of (now (store_of first.pages)) ∷ []) = record { is = subst (λ l. StutterEquivalent (map trees_of l) (trees_of (now (store_of first.pages)) ∷ [])) (sym o.left) (record { once = trees_of (now (store_of first.pages)) ∷ []; left = (refl, inl tt); right = (refl, inl tt) }) } in
      let k = (subst (λ (m : MachineValue MemPages M). MachineRun store_of flush_number_of meant m steps outcomes last) over run).keeps (trees_of (now (store_of first.pages)) ∷ []) leaves in
      let here : In (store_of left).base (crash_states (store_of last.db.pages)) = subst (λ (q : MemPages). In (store_of left).base (crash_states (store_of q))) p may.is in
      let base : now (store_of left) ≡ (store_of left).base = ap now crash.is ∙ sym (ap (λ (s : Store). s.base) crash.is) in
      let one : In (trees_of (store_of left).base) k.last = matches_has (map trees_of (crash_states (store_of last.db.pages))) k.last (trees_of (store_of left).base) k.leaves.is (map_in trees_of (crash_states (store_of last.db.pages)) (store_of left).base here) in
      record {
        survives = record {
          first = plain store_of meant first;
          opens = plain_opens store_of meant before name first o;
          last = plain_machine store_of flush_number_of meant last;
          runs = record { last = k.last; run = plain_run store_of flush_number_of meant (machine_over first) last (trees_of (now (store_of first.pages)) ∷ []) steps outcomes k.last k.run; leaves = k.leaves };
          left = store_of left;
          crashes = subst (λ (q : MemPages). Crashes keep (store_of q) (store_of left)) p crash;
          one = subst (λ (z : PageState). In (trees_of z) k.last) (sym base) one;
          again = plain store_of meant again;
          reopens = plain_opens store_of meant (store_of left) name again reopens;
          is = ap store_of out;
          maps = ap (λ (q : MemPages). trees_of (now (store_of q))) out ∙ reopens.maps;
        };
        each = plain_all store_of flush_number_of meant (machine_over first) last steps outcomes (subst (λ (m : MachineValue MemPages M). MachineSteps store_of flush_number_of meant m steps outcomes last) over each);
      }
