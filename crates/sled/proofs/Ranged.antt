-- The removal of all keys within two bounds.
use Rattle.std.proofs.Common.{◌≡◌, ◌⊎◌, inl, inr, ℕ, Bool, true, false, ◌&&◌, List, [], ◌∷◌, ◌++◌, length, Option, Some, None, option_map, Result, Ok, Err, IfOk, IfErr, Ordering, is_lt, sym, refl, ap, ◌∙◌, subst}
use Rattle.std.specs.FinMap.Entries.{is_sorted, below_all, put, where_key, is_sorted-where_key}
use Rattle.std.specs.declared.ops.Bound.{Bound}
use Rattle.sled_nodes.proofs.Basics.{true_of, of_true}
use Rattle.sled_nodes.specs.Among.{is_from, is_up_to}
use Rattle.sled_nodes.specs.Order.{Key, key_cmp}
use Rattle.sled_nodes.specs.declared.error.Error.{Error}
use Rattle.sled_nodes.specs.declared.error.Error.TheVariants as error
use Rattle.sled_batch.specs.Batch.{Writes}
use Rattle.sled_batch.proofs.Copying.{SoFar, copied_on, copied_all}
use Rattle.sled_store.specs.Store.{Store}
use Rattle.sled_model.specs.Maps.{Map, Merge}
use Rattle.sled_model.specs.State.{NamedTree, maps_of}
use Rattle.sled_model.specs.Refusal.{MustRefuse, must_refuse_of}
use Rattle.sled_model.specs.declared.tree.Tree.{Tree}
use Rattle.tree_reads.specs.Ranges.{Coming, pairs_within, TakesFirst, whole}
use Rattle.tree_reads.specs.Walk.{RefusesWalk, once}
use Rattle.tree_reads.proofs.Ranging.{reversed_none}
use Rattle.sled.specs.Values.{DbValue, db_state}
use Rattle.sled.specs.Sound.{IsDb, MapsAscend}
use Rattle.sled.specs.Calls.{must_be_refused_as}
use Rattle.sled.specs.Reads.{ReadsMap, BeginsRange, RefusesReading, refuses_reading_as, stops_reading, RefusesRange, refuses_range_as}
use Rattle.sled.specs.Groups.{GroupDecided, GroupRefused, IsQuietGroup}
use Rattle.sled.specs.Removals.{removals, removals_within, range_group, RangeRemoved}
use Rattle.sled.specs.theory.Groups.{unread}
use Rattle.sled.proofs.Grouping.{group_untested, group_unread}
use Rattle.sled.proofs.Reading.{refuses}

-- ---- the removals rise as the pairs do

below_same : (R : Key → Key → Ordering) (k : Key) (es : Map) → below_all R k (removals es) ≡ below_all R k es
below_same R k [] = refl
below_same R k (e ∷ es) = ap (λ b. is_lt (R k e.0) && b) (below_same R k es)

sorted_same : (R : Key → Key → Ordering) (es : Map) → is_sorted R (removals es) ≡ is_sorted R es
sorted_same R [] = refl
sorted_same R (e ∷ es) = ap (λ b. b && is_sorted R (removals es)) (below_same R e.0 es) ∙ ap (λ b. below_all R e.0 es && b) (sorted_same R es)

-- ---- the loop over a range

-- The removals of the pairs that came stand in the batch, and the others are still to come
pub record Collects {P : Type 0} (first : Coming P) (batch : Writes) (coming : Coming P) : Type 0 where
  pub so_far : SoFar (removals first.pairs) batch (removals coming.pairs)
  pub going : coming.ended ≡ true → coming.pairs ≡ []
  pub pages : coming.pages ≡ first.pages
  pub root : coming.root ≡ first.root

pub collects_first : {P : Type 0} (coming : Coming P) (batch : Writes) → batch ≡ [] → (coming.ended ≡ true → coming.pairs ≡ []) → Collects coming batch coming
collects_first coming batch e going = record { so_far = record { is = ap (λ b. b ++ removals coming.pairs) e }; going = going; pages = refl; root = refl }

module _ {P : Type 0} (store : P → Store) (first old new : Coming P) (batch : Writes) where
  pub collects_on : (given : Result (Key × Key) Error) (pair : Key × Key) (key : Key) (more : Writes) → is_sorted key_cmp first.pairs ≡ true → Collects first batch old → given ≡ Ok pair → TakesFirst store whole old (Some given) new → key ≡ pair.0 → more ≡ put key_cmp key None batch → Collects first more new
  collects_on given pair key more rises c is came same written =
      let takes : TakesFirst store whole old (Some (Ok pair)) new = subst (λ (r : Result (Key × Key) Error). TakesFirst store whole old (Some r) new) is came in
      let p = takes.is.1 in
      let left : new ≡ record old { pairs = takes.is.3 } = takes.is.5 in record {
        so_far = subst (λ (z : Map). SoFar (removals first.pairs) more (removals z)) (sym (ap (λ (z : Coming P). z.pairs) left))
            (copied_on (removals first.pairs) batch more (removals old.pairs) p.0 None (removals takes.is.3) (sorted_same key_cmp first.pairs ∙ rises) c.so_far (ap removals takes.is.4) (written ∙ ap (λ k. put key_cmp k None batch) (same ∙ ap (λ (e : Key × Key). e.0) takes.is.2)));
        going = λ h. absurd (apart (sym (ap (λ (z : Coming P). z.ended) left ∙ takes.is.0) ∙ h));
        pages = ap (λ (z : Coming P). z.pages) left ∙ c.pages;
        root = ap (λ (z : Coming P). z.root) left ∙ c.root;
      }
    where
      apart : false ≡ true → ⊥
      apart e = cc

  nothing_left : (pairs : Map) (ended : Bool) → (ended ≡ true → pairs ≡ []) → (pairs ≡ []) ⊎ (ended ≡ true) → pairs ≡ []
  nothing_left pairs ended none (inl e) = e
  nothing_left pairs ended none (inr e) = none e

  pub collects_all : Collects first batch old → TakesFirst store whole old None new → batch ≡ removals first.pairs
  collects_all c takes = copied_all (removals first.pairs) batch (removals old.pairs) c.so_far (ap removals (nothing_left old.pairs old.ended c.going takes.is.0))

  pub collects_not : (e : Error) → Collects first batch old → TakesFirst store whole old (Some (Err e)) new → RefusesWalk once (store first.pages) first.root e
  collects_not e c takes = subst (λ r. RefusesWalk once (store first.pages) r e) c.root (subst (λ p. RefusesWalk once (store p) old.root e) c.pages takes.is.2)

pub no_memory_walk : (s : Store) (root : ℕ) (e : Error) → e ≡ error.NoMemory → RefusesWalk once s root e
no_memory_walk s root e short = subst (RefusesWalk once s root) (sym short) (record { is = tt })

-- ---- the removals of a tree's keys within the bounds

-- what passes of an ascending list ascends
rises_where : {X : Type 0} (p : Key → Bool) (es : List (Key × X)) → is_sorted key_cmp es ≡ true → is_sorted key_cmp (where_key key_cmp p es) ≡ true
rises_where p es s = true_of (is_sorted key_cmp (where_key key_cmp p es)) (is_sorted-where_key key_cmp p es (of_true (is_sorted key_cmp es) s))

module _ {P M : Type 0} (store : P → Store) (meant : M → Merge) (d : DbValue P M) (tree : Tree) (lo hi : Bound Key) (pairs : Coming P) (begins : BeginsRange store meant d tree lo hi pairs) where
  pub range_ended : pairs.ended ≡ true → pairs.pairs ≡ []
  range_ended e = begins.all.is ∙ reversed_none lo hi begins.all.named.map (sym begins.ended ∙ e)

  pub range_rises : MapsAscend (maps_of (db_state store meant d)) → is_sorted key_cmp pairs.pairs ≡ true
  range_rises ascend =
      ap (is_sorted key_cmp) begins.all.is
      ∙ rises_where (λ k. is_from lo k && is_up_to hi k) begins.all.named.map (ascend.is tree.name begins.all.named.map (ap (option_map (λ (t : NamedTree). t.map)) begins.all.there))

  pub range_collected : (r : Result Writes Error) → IfOk r (λ batch. batch ≡ removals pairs.pairs) → IfOk r (λ batch. ReadsMap store meant d tree (λ map. batch ≡ removals (pairs_within lo hi map)))
  range_collected (Ok batch) e = record { tested = begins.all.tested; named = begins.all.named; there = begins.all.there; is = e ∙ ap removals begins.all.is }
  range_collected (Err e) k = tt

  pub range_stopped : IsDb store d → (r : Result Writes Error) → IfErr r (RefusesWalk once (store pairs.pages) pairs.root) → IfErr r (RefusesReading store meant d tree once)
  range_stopped db (Ok batch) k = tt
  range_stopped db (Err e) k = refuses store meant d tree begins.all.tested pairs.root begins.root db once e (subst (λ p. RefusesWalk once (store p) pairs.root e) begins.over k)

module _ {P M : Type 0} (store : P → Store) (meant : M → Merge) (d : DbValue P M) (tree : Tree) where
  pub range_untold : (e : Error) → RefusesRange store meant d tree e → RefusesReading store meant d tree once e
  range_untold e r = record { is = go (must_refuse_of (db_state store meant d) (tree ∷ [])) r.is }
    where
      go : (o : Option MustRefuse) → refuses_range_as store meant d tree o e → refuses_reading_as store meant d tree once o e
      go (Some must) k = k
      go None k = subst (stops_reading store meant d tree once) (sym k) tt

  -- ---- and their group

  module _ (lo hi : Bound Key) where
    pub the_batch : (batch : Writes) → ReadsMap store meant d tree (λ map. batch ≡ removals (pairs_within lo hi map)) → batch ≡ removals_within lo hi ((db_state store meant d).trees tree.name)
    the_batch batch r = r.is ∙ ap (removals_within lo hi) (sym r.there)

    the_group : (batch : Writes) → ReadsMap store meant d tree (λ map. batch ≡ removals (pairs_within lo hi map)) → (tree, batch) ∷ [] ≡ range_group store meant d tree lo hi
    the_group batch r = ap (λ (b : Writes). (tree, b) ∷ []) (the_batch batch r)

    pub range_unread : (e : Error) → RefusesReading store meant d tree once e → GroupRefused store meant d (range_group store meant d tree lo hi) e d
    range_unread e r = go (must_refuse_of (db_state store meant d) (tree ∷ [])) refl r.is
      where
        stopped : (e : Error) → stops_reading store meant d tree once e → unread (store d.pages) e
        stopped (error.ReportableBug text) k = k.0
        stopped error.NoMemory k = k
        stopped (error.Io fault) k = (k.0, k.1)
        stopped other k = k

        go : (o : Option MustRefuse) → must_refuse_of (db_state store meant d) (tree ∷ []) ≡ o → refuses_reading_as store meant d tree once o e → GroupRefused store meant d (range_group store meant d tree lo hi) e d
        go (Some must) is k = group_untested store meant d (range_group store meant d tree lo hi) e (record { is = subst (λ o. must_be_refused_as o e) (sym is) k })
        go None is k = group_unread store meant d (range_group store meant d tree lo hi) is e (stopped e k)

    pub range_quiet : IsQuietGroup store meant d (range_group store meant d tree lo hi) d
    range_quiet = record { is = λ none. refl }

    module _ (batch : Writes) (r : ReadsMap store meant d tree (λ map. batch ≡ removals (pairs_within lo hi map))) (new : DbValue P M) where
      pub range_removed : (count n : ℕ) → count ≡ n → n ≡ length batch → GroupDecided store meant d ((tree, batch) ∷ []) new → RangeRemoved store meant d tree lo hi count new
      range_removed count n same is g = record { counts = same ∙ is ∙ ap length (the_batch batch r); group = subst (λ b. GroupDecided store meant d b new) (the_group batch r) g }

      pub range_kept : (e : Error) → GroupRefused store meant d ((tree, batch) ∷ []) e new → GroupRefused store meant d (range_group store meant d tree lo hi) e new
      range_kept e g = subst (λ b. GroupRefused store meant d b e new) (the_group batch r) g

      pub range_quieted : IsQuietGroup store meant d ((tree, batch) ∷ []) new → IsQuietGroup store meant d (range_group store meant d tree lo hi) new
      range_quieted g = subst (λ b. IsQuietGroup store meant d b new) (the_group batch r) g
