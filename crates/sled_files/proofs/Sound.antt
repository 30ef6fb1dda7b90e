-- That what is kept of a store in two files stays sound.
use Rattle.std.proofs.Common.{◌≡◌, arith, inl, inr, ℕ, List, [], ◌∷◌, ◌++◌, refl, sym, subst, ◌⊎◌}
use Rattle.std.specs.Prelude.{Some}
use Rattle.sled_store.specs.State.{Action}
use Rattle.sled_store.specs.Store.{Store, now}
use Rattle.sled_pages.specs.declared.memory.MemPages.{MemPages}
use Rattle.sled_pages.specs.Memory.{store_of}
use Rattle.sled_bytes.specs.declared.change.Change.{Change}
use Rattle.sled_bytes.specs.Spelling.{change_bytes, FitsChange}
use Rattle.sled_files.specs.Change.{Durable, action_of, IsWithin}
use Rattle.sled_files.specs.Files.{Files}
use Rattle.sled_files.specs.Lasting.{Limits, AreLimits}
use Rattle.sled_files.specs.Pending.{IsPending}
use Rattle.sled_files.specs.Stored.{Stored, over, AreWithin, Stands, IsSound}
use Rattle.sled_files.specs.theory.Spelled.{MakesNone, MakesOne, IsSpelled}
use Rattle.sled_files.proofs.OfStore.{given_within}
use Rattle.sled_files.proofs.Grows.{pends_more, pends_same, lasts_more, lasts_same}

pub within_over : {limits : Limits} {s : Store} (m k : ℕ) → AreWithin limits s → AreWithin limits (over m k s)
within_over m k w = record { numbered = w.numbered; pids = w.pids; versions = w.versions }

module _ {D : Type 0} (seen : D → List ℕ) (may_leave : D → List ℕ → Type 0) where
  pub stands_same : {limits : Limits} {s : Store} {files : Files D} {pending : List ℕ} (later : Store) (bytes : List ℕ) → Stands seen may_leave limits s files pending
      → later.base ≡ s.base → later.recent ≡ s.recent → later.mark ≡ s.mark → bytes ≡ pending → Stands seen may_leave limits later files bytes
  stands_same {limits} later bytes st base recent mark same = record {
    durable = st.durable;
    ready = st.ready;
    pends = subst (λ (l : List ℕ). IsPending limits later st.durable l) (sym same) (pends_same st.pends later base recent mark);
  }

  stands_more : {limits : Limits} {s : Store} {files : Files D} {pending : List ℕ} (later : Store) (bytes : List ℕ) (change : Change) (action : Action) → Stands seen may_leave limits s files pending
      → later.mark ≡ s.mark → FitsChange change → ((d : Durable) → AreLimits limits d → IsWithin d change) → action_of change (now s) ≡ Some action → later.base ≡ s.base → later.recent ≡ s.recent ++ action ∷ [] → bytes ≡ pending ++ change_bytes change
      → Stands seen may_leave limits later files bytes
  stands_more {limits} later bytes change action st mark fits within is base recent same = record {
    durable = st.durable;
    ready = st.ready;
    pends = subst (λ (l : List ℕ). IsPending limits later st.durable l) (sym same) (pends_more st.pends later change action fits (within st.durable st.pends.limited) is base recent mark);
  }

  -- after a call of the pages in memory beside which its change was spelled
  pub sound_spelled : (f : Stored D) (pages : MemPages) (pending : List ℕ) → IsSound seen may_leave f → IsSpelled (store_of f.pages) (store_of pages) f.pending pending → (AreWithin f.limits (store_of f.pages) → AreWithin f.limits (store_of pages))
      → IsSound seen may_leave (record f { pages = pages; pending = pending })
  sound_spelled f pages pending sound spelled keeps = go spelled.is
    where
      within : AreWithin f.limits (store_of pages)
      within = keeps (record { numbered = sound.within.numbered; pids = sound.within.pids; versions = sound.within.versions })

      go : MakesNone (store_of f.pages) (store_of pages) f.pending pending ⊎ MakesOne (store_of f.pages) (store_of pages) f.pending pending → IsSound seen may_leave (record f { pages = pages; pending = pending })
      go (inl none) = record {
        stands = λ up. stands_same _ pending (sound.stands up) none.base none.recent refl none.bytes;
        lasts = record { each = λ a b x y. lasts_same (sound.lasts.each a b x y) _ none.base none.recent refl };
        within = within_over f.mark f.faults within;
      }
      go (inr one) = record {
        stands = λ up. stands_more (over f.mark f.faults (store_of pages)) pending one.change one.action (sound.stands up) refl one.fits (λ d l. given_within d within (omega (arith, l.pids)) (omega (arith, l.versions)) one.change one.given) one.is one.base one.recent one.bytes;
        lasts = record { each = λ a b x y. lasts_more (sound.lasts.each a b x y) _ one.action one.base one.recent refl };
        within = within_over f.mark f.faults within;
      }

  -- while the files stay and only faults are counted
  pub sound_faults : (f : Stored D) (faults : ℕ) → IsSound seen may_leave f → IsSound seen may_leave (record f { faults = faults })
  sound_faults f faults sound = record {
    stands = λ up. stands_same _ f.pending (sound.stands up) refl refl refl refl;
    lasts = record { each = λ a b x y. lasts_same (sound.lasts.each a b x y) _ refl refl refl };
    within = record { numbered = sound.within.numbered; pids = sound.within.pids; versions = sound.within.versions };
  }
