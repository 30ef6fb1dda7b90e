-- What is found in files after a crash, against what was in the store.
use Rattle.std.proofs.Common.{◌≡◌, ℕ, false, List, map, sym, ◌∙◌, ap, subst, arith}
use Rattle.sled_nodes.specs.Order.{Key}
use Rattle.sled_store.specs.In.{In}
use Rattle.sled_store.specs.State.{State as PageState, Action, after_all}
use Rattle.sled_store.specs.Store.{Store, now}
use Rattle.sled_store.specs.Crash.{crash_states}
use Rattle.sled_store.proofs.Lists.{map_in}
use Rattle.sled_model.specs.Maps.{Maps, Merge}
use Rattle.sled_model.specs.declared.outcome.Step.{Step}
use Rattle.sled_model.specs.declared.outcome.Outcome.{Outcome}
use Rattle.tree_laws.specs.Contents.{trees_of}
use Rattle.tree_laws.specs.Crashes.{IsValid, IsCrashConsistent}
use Rattle.sled.specs.Values.{DbValue}
use Rattle.sled.specs.Sound.{IsDb}
use Rattle.sled.specs.Opens.{Opens}
use Rattle.sled.specs.Operators.{without_operators}
use Rattle.sled.proofs.Operating.{bare_opens}
use Rattle.machine_alone.specs.CrashMaps.{AreCrashMaps}
use Rattle.machine_alone.specs.Run.{MachineRun}
use Rattle.machine_alone.specs.Values.{MachineValue}
use Rattle.sled_files.specs.Lasting.{Limits}
use Rattle.sled_files.specs.Stored.{Stored, stored_as, asked_of, flush_number_in}
use Rattle.sled_files.specs.Laws.{GoesOn}
use Rattle.example_parts.proofs.Added.{matches_has}
use Rattle.example_files.specs.Survive.{Reopens, Survives}

module _ {asked : List ℕ} {limits : Limits} {before left : Store} (g : GoesOn asked limits before left) where
  -- nothing was done since, so the state now is the base
  pub now_is : now left ≡ left.base
  now_is = ap (λ (l : List Action). after_all l left.base) g.recent

  -- so its pages are those of a database, and no group is open
  pub is_valid : IsCrashConsistent before → IsValid (now left)
  is_valid safe = subst IsValid (sym now_is) (safe.whole left.base g.base.is)

  pub no_group : left.base.in_group ≡ false → (now left).in_group ≡ false
  no_group sealed = ap (λ (s : PageState). s.in_group) now_is ∙ sealed

  -- its maps are one of those that a crash may leave
  pub one_in : (kept : List Maps) → AreCrashMaps before kept → In (trees_of (now left)) kept
  one_in kept are =
      subst (λ (s : PageState). In (trees_of s) kept) (sym now_is) (matches_has (map trees_of (crash_states before)) kept (trees_of left.base) are.is (map_in trees_of (crash_states before) left.base g.base.is))

pub reopens : {D E M N : Type 0} (name : Key) (old : DbValue (Stored D) M) (left : Stored E) (new : DbValue (Stored E) N) (found : DbValue (Stored E) M) → IsDb stored_as old → GoesOn (asked_of old.pages.asked) old.pages.limits (stored_as old.pages) (stored_as left) → Opens stored_as (stored_as left) name new
    → found ≡ without_operators new → Reopens name old found
reopens {D} {E} {M} name old left new found sound g o is = subst (λ (d : DbValue (Stored E) M). Reopens name old d) (sym is) (record {
  left = stored_as left;
  goes_on = g;
  opens = bare_opens stored_as (stored_as left) name new o;
  maps = λ kept are. record { left = trees_of (now (stored_as left)); one = one_in g kept are; is = o.maps };
  ids = omega (arith, sound.ids, g.no_lower, o.ids);
})

-- a store goes on from the pages of a database, by which name they are looked at
pub goes_on_from : {D M : Type 0} {pages : Stored D} (d : DbValue (Stored D) M) {left : Store} → pages ≡ d.pages → GoesOn (asked_of pages.asked) pages.limits (stored_as pages) left → GoesOn (asked_of d.pages.asked) d.pages.limits (stored_as d.pages) left
goes_on_from {D} {M} {pages} d {left} is g = subst (λ (p : Stored D). GoesOn (asked_of p.asked) p.limits (stored_as p) left) is g

-- what a run leaves is found
pub survives : {D E M : Type 0} {meant : M → Merge} {name : Key} {old new : MachineValue (Stored D) M} {steps : List Step} {outcomes : List Outcome} {found : DbValue (Stored E) M} → MachineRun stored_as flush_number_in meant old steps outcomes new → Reopens name new.db found → Survives meant name old steps outcomes new found
survives run r = record { reopens = r; keeps = run.keeps; maps = λ kept are. r.maps (run.keeps kept are).last (run.keeps kept are).leaves }
