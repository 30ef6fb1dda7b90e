-- Why reads of a machine are refused.
use Rattle.std.proofs.Common.{◌≡◌, ◌∙◌, ℕ, Bool, true, false, cond, not, List, [], ◌∷◌, Option, Some, None, sym, refl, ap, subst}
use Rattle.std.specs.declared.ops.Bound.{Bound}
use Rattle.sled_nodes.proofs.Basics.{false_true}
use Rattle.sled_nodes.specs.Order.{Key}
use Rattle.sled_nodes.specs.declared.error.Error.{Error}
use Rattle.sled_nodes.specs.declared.error.Error.TheVariants.{Closed, NoMemory, ReportableBug}
use Rattle.sled_store.specs.Store.{Store, now}
use Rattle.sled_model.specs.Maps.{Merge}
use Rattle.sled_model.specs.Refusal.{IsClosed, MustRefuse, first_of, must_refuse_of}
use Rattle.sled_model.specs.declared.tree.Tree.{Tree}
use Rattle.tree_reads.specs.Ranges.{Coming}
use Rattle.tree_reads.specs.Walk.{RefusesWalk, once, for_each}
use Rattle.sled.specs.Calls.{RefusesHandle, refuses_handle_as}
use Rattle.sled.specs.Export.{RefusesExport, refuses_export_as}
use Rattle.sled.specs.Reads.{BeginsRange, GivesUpGet, RefusesRange, RefusesReading, gives_up_get_as, refuses_range_as, refuses_reading_as, stops_reading}
use Rattle.sled.specs.Sound.{IsDb}
use Rattle.sled.specs.Values.{db_state}
use Rattle.sled.proofs.Reading.{refuses}
use Rattle.machine_alone.specs.Values.{MachineValue}
use Rattle.machine_shared.specs.Reads.{Asked, OfAll, OfNames, OfTree, pages_asked, pages_walked, refuses_look_as, refuses_names_as, stops_look, trees_asked}
use Rattle.machine_shared.specs.theory.Orders.{StopsWalk}
use Rattle.machine_shared.specs.UnderLock.{ReadsNow, RefusesNow, gives_up_as}
use Rattle.machine_shared.specs.declared.read.Question.{Question}
use Rattle.machine_shared.specs.declared.read.Question.TheVariants.{Get, ContainsKey, First, Last, GetLt, GetGt, Len, IsEmpty, Page}
use Rattle.machine_shared.specs.declared.read.Read.{Read}

lacks : (s : Store) (e : Error) → e ≡ NoMemory → stops_look s e
lacks s e is = subst (λ x. stops_look s x) (sym is) tt

module _ {P M : Type 0} (store : P → Store) (meant : M → Merge) (m : MachineValue P M) where
  module _ (tree : Tree) (e : Error) where
    -- where no test fails want of memory refuses a read of a tree
    reading_lacks : (of : ℕ → ℕ) → must_refuse_of (db_state store meant m.db) (tree ∷ []) ≡ None → e ≡ NoMemory → RefusesReading store meant m.db tree of e
    reading_lacks of tested is = record { is = subst (λ t. refuses_reading_as store meant m.db tree of t e) (sym tested) (subst (λ x. stops_reading store meant m.db tree of x) (sym is) tt) }

    get_lacks : (key : Key) → e ≡ NoMemory → GivesUpGet store meant m.db tree key e
    get_lacks key is = record { is = subst (λ x. gives_up_get_as store meant m.db tree key x) (sym is) tt }

    -- .. which gives up on no path
    memory_gives_up : (question : Question) → e ≡ NoMemory → gives_up_as store meant m tree question e
    memory_gives_up (Get key) is = get_lacks key is
    memory_gives_up (ContainsKey key) is = get_lacks key is
    memory_gives_up First is = tt
    memory_gives_up Last is = tt
    memory_gives_up (GetLt key) is = tt
    memory_gives_up (GetGt key) is = tt
    memory_gives_up Len is = tt
    memory_gives_up IsEmpty is = tt
    memory_gives_up (Page lo hi back most) is = tt

    -- what is asked about a tree, as the read of the database that answers it
    pub as_get : (key : Key) → RefusesReading store meant m.db tree once e → GivesUpGet store meant m.db tree key e → RefusesNow store meant m (OfTree tree (Get key)) e
    as_get key r gives_up = record { is = (r, gives_up) }

    pub as_contains_key : (key : Key) → RefusesReading store meant m.db tree once e → GivesUpGet store meant m.db tree key e → RefusesNow store meant m (OfTree tree (ContainsKey key)) e
    as_contains_key key r gives_up = record { is = (r, gives_up) }

    pub as_first : RefusesReading store meant m.db tree once e → RefusesNow store meant m (OfTree tree First) e
    as_first r = record { is = (r, tt) }

    pub as_last : RefusesReading store meant m.db tree for_each e → RefusesNow store meant m (OfTree tree Last) e
    as_last r = record { is = (r, tt) }

    pub as_get_lt : (key : Key) → RefusesReading store meant m.db tree for_each e → RefusesNow store meant m (OfTree tree (GetLt key)) e
    as_get_lt key r = record { is = (r, tt) }

    pub as_get_gt : (key : Key) → RefusesReading store meant m.db tree once e → RefusesNow store meant m (OfTree tree (GetGt key)) e
    as_get_gt key r = record { is = (r, tt) }

    pub as_len : RefusesReading store meant m.db tree once e → RefusesNow store meant m (OfTree tree Len) e
    as_len r = record { is = (r, tt) }

    pub as_is_empty : RefusesReading store meant m.db tree once e → RefusesNow store meant m (OfTree tree IsEmpty) e
    as_is_empty r = record { is = (r, tt) }

    module _ (lo hi : Bound Key) (back : Bool) (most : ℕ) where
      -- a page of a range, which is not begun
      pub as_range : RefusesRange store meant m.db tree e → RefusesNow store meant m (OfTree tree (Page lo hi back most)) e
      as_range r = record { is = (record { is = go (must_refuse_of (db_state store meant m.db) (tree ∷ [])) r.is }, tt) }
        where
          go : (t : Option MustRefuse) → refuses_range_as store meant m.db tree t e → refuses_reading_as store meant m.db tree (pages_walked back) t e
          go (Some must) s = s
          go None s = subst (λ x. stops_reading store meant m.db tree (pages_walked back) x) (sym s) tt

      -- .. which stops once it has begun
      pub range_stops : IsDb store m.db → (coming : Coming P) → BeginsRange store meant m.db tree lo hi coming → StopsWalk store back coming e → RefusesNow store meant m (OfTree tree (Page lo hi back most)) e
      range_stops db coming b stops = record { is = (refuses store meant m.db tree b.all.tested coming.root b.root db (pages_walked back) e (subst (λ p. RefusesWalk (pages_walked back) (store p) coming.root e) b.over stops), tt) }

      pub range_lacks : (coming : Coming P) → BeginsRange store meant m.db tree lo hi coming → e ≡ NoMemory → RefusesNow store meant m (OfTree tree (Page lo hi back most)) e
      range_lacks coming b is = record { is = (reading_lacks (pages_walked back) b.all.tested is, tt) }

  -- where no test fails want of memory refuses what is asked
  pub as_memory : (asked : Asked) (e : Error) → must_refuse_of (db_state store meant m.db) (trees_asked asked) ≡ None → e ≡ NoMemory → RefusesNow store meant m asked e
  as_memory (OfTree tree question) e tested is = record { is = (reading_lacks tree e (pages_asked question) tested is, memory_gives_up tree e question is) }
  as_memory OfNames e tested is = record { is = subst (λ t. refuses_names_as t e) (sym tested) is }
  as_memory OfAll e tested is = record { is = subst (λ t. refuses_look_as (store m.db.pages) t e) (sym tested) (lacks (store m.db.pages) e is) }

  -- .. once it was read
  pub after_read : (asked : Asked) (it : Read) (e : Error) → ReadsNow store meant m (trees_asked asked) it → e ≡ NoMemory → RefusesNow store meant m asked e
  after_read asked it e r is = as_memory asked e r.tested is

  -- what is asked of no tree is refused if the database is closed
  closed_or : (refused : Option MustRefuse → Type 0) → ((now (store m.db.pages)).in_group ≡ true → refused (Some IsClosed)) → ((now (store m.db.pages)).in_group ≡ false → refused None) → refused (must_refuse_of (db_state store meant m.db) [])
  closed_or refused closed stops = go (now (store m.db.pages)).in_group refl
    where
      go : (b : Bool) → (now (store m.db.pages)).in_group ≡ b → refused (must_refuse_of (db_state store meant m.db) [])
      go true k = subst refused (sym (ap (λ b. first_of (cond (not b) None (Some IsClosed)) None) k)) (closed k)
      go false k = subst refused (sym (ap (λ b. first_of (cond (not b) None (Some IsClosed)) None) k)) (stops k)

  -- the names of all trees
  pub as_names : (e : Error) → RefusesHandle (store m.db.pages) e → RefusesNow store meant m OfNames e
  as_names e r = record { is = closed_or (λ t. refuses_names_as t e) (λ k. closed e r.is k) (λ k. stop e r.is k) }
    where
      closed : (e : Error) → refuses_handle_as (store m.db.pages) e → (now (store m.db.pages)).in_group ≡ true → e ≡ Closed
      closed Closed r k = refl
      closed NoMemory r k = false_true (sym r ∙ k)
      closed other r k = absurd r

      stop : (e : Error) → refuses_handle_as (store m.db.pages) e → (now (store m.db.pages)).in_group ≡ false → e ≡ NoMemory
      stop Closed r k = false_true (sym k ∙ r)
      stop NoMemory r k = refl
      stop other r k = absurd r

  -- an export
  pub as_export : (e : Error) → RefusesExport (store m.db.pages) e → RefusesNow store meant m OfAll e
  as_export e r = record { is = closed_or (λ t. refuses_look_as (store m.db.pages) t e) (λ k. closed e r.is k) (λ k. stop e r.is k) }
    where
      closed : (e : Error) → refuses_export_as (store m.db.pages) e → (now (store m.db.pages)).in_group ≡ true → e ≡ Closed
      closed Closed r k = refl
      closed other r k = false_true (sym r.0 ∙ k)

      stop : (e : Error) → refuses_export_as (store m.db.pages) e → (now (store m.db.pages)).in_group ≡ false → stops_look (store m.db.pages) e
      stop Closed r k = false_true (sym k ∙ r)
      stop (ReportableBug text) r k = absurd r.1
      stop other r k = r.1
