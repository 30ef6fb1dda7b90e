-- What a transaction that asks for no flush leaves of the maps of a database, now and after a crash.
use Rattle.std.proofs.Common.{◌≡◌, ◌≢◌, true, false, not, List, [], ◌∷◌, ◌++◌, T, Option, Some, None, option_map, unwrap_or, sym, refl, ap, ◌∙◌, subst, inl, inr}
use Rattle.std.specs.FinMap.Entries.{find, is_sorted}
use Rattle.sled_nodes.specs.Order.{Key, key_cmp}
use Rattle.sled_nodes.specs.declared.error.Error.{Error}
use Rattle.sled_batch.specs.Batch.{Writes}
use Rattle.sled_store.specs.In.{In}
use Rattle.sled_store.specs.Store.{Store, now}
use Rattle.sled_model.specs.Groups.{writes_of, writes_on, after_writes, DecidesGroup}
use Rattle.sled_model.specs.Maps.{Maps, Merge}
use Rattle.sled_model.specs.State.{State, NamedTree, maps_of}
use Rattle.sled_model.specs.declared.reply.Reply.TheVariants.{Done}
use Rattle.sled_model.specs.declared.tree.Tree.{Tree}
use Rattle.tree_laws.specs.Contents.{trees_of}
use Rattle.sled.specs.Direct.{LeavesAll}
use Rattle.sled.specs.Groups.{GroupDecided, GroupRefused}
use Rattle.sled.specs.Sound.{IsDb}
use Rattle.sled.specs.Transactions.{TakesIds}
use Rattle.sled.specs.Values.{DbValue, db_state}
use Rattle.sled.proofs.Written.{after_both, writes_elsewhere}
use Rattle.example_parts.specs.Reads.{found_in, maps_now}
use Rattle.example_parts.proofs.Added.{left_by}
use Rattle.example_parts.proofs.Maps.{maps_are, open_now, open_before, first_there, second_there}
use Rattle.example_parts.proofs.Written.{Holds, batch_there}
use Rattle.example_transactions.specs.Throughout.{HoldsThroughout}

-- what a tree has once these were written, and nothing else
pub record Wrote (old new : Maps) (tree : Key) (writes : Writes) : Type 0 where
  pub has : (q : Key) → found_in (new tree) q ≡ unwrap_or (find key_cmp q writes) (found_in (old tree) q)

-- .. at a key of which it is known what the writes do there
pub found_by : {old new : Maps} {tree : Key} {writes : Writes} {write : Option (Option Key)} → Wrote old new tree writes → (q : Key) → find key_cmp q writes ≡ write → found_in (new tree) q ≡ unwrap_or write (found_in (old tree) q)
found_by {old = old} {tree = tree} wrote q is = wrote.has q ∙ ap (λ o. unwrap_or o (found_in (old tree) q)) is

module _ {P M : Type 0} (store : P → Store) (meant : M → Merge) where
  -- ids were taken, and then a group was made
  pub record MakesGroup (old : DbValue P M) (batches : List (Tree × Writes)) (new : DbValue P M) : Type 0 where
    pub run : DbValue P M
    pub takes : TakesIds store meant old run
    pub group : GroupDecided store meant run batches new

  -- nothing was done; ids were taken; or a group was refused then
  pub data Stopped (old new : DbValue P M) : Type 0 where
    NotBegun : new ≡ old → Stopped old new
    NotWritten : TakesIds store meant old new → Stopped old new
    NotGrouped : (run : DbValue P M) (batches : List (Tree × Writes)) (e : Error) → TakesIds store meant old run → GroupRefused store meant run batches e new → Stopped old new

  -- ---- no map changes while ids are taken

  same_state : (old new : DbValue P M) → TakesIds store meant old new → db_state store meant new ≡ record (db_state store meant old) { greatest_id = new.greatest_id; mark = (store new.pages).mark }
  same_state old new t = t.state (λ n. None) 0

  pub same_maps : (old new : DbValue P M) → TakesIds store meant old new → maps_now store meant new ≡ maps_now store meant old
  same_maps old new t = ap maps_of (same_state old new t)

  still_open : (old new : DbValue P M) → TakesIds store meant old new → (db_state store meant new).is_open ≡ (db_state store meant old).is_open
  still_open old new t = ap (λ (s : State). s.is_open) (same_state old new t)

  -- ---- what is refused

  shut : false ≡ true → ⊥
  shut e = cc

  unless_closed : (old new : DbValue P M) (batches : List (Tree × Writes)) (e : Error) → GroupRefused store meant old batches e new → (now (store new.pages)).in_group ≡ false → db_state store meant new ≡ db_state store meant old
  unless_closed old new batches e r is = elim (r.refuses (λ n. None) 0).is [
    | inl same ↦ same
    | inr closed ↦ absurd (shut (sym (ap (λ (x : State). x.is_open) closed.1.is) ∙ ap not is))
  ]

  pub stopped_stays : (old new : DbValue P M) → Stopped old new → (now (store new.pages)).in_group ≡ false → maps_now store meant new ≡ maps_now store meant old
  stopped_stays old new (NotBegun same) is = ap (maps_now store meant) same
  stopped_stays old new (NotWritten takes) is = same_maps old new takes
  stopped_stays old new (NotGrouped run batches e takes r) is = ap maps_of (unless_closed run new batches e r is) ∙ same_maps old run takes

  -- ---- what is so throughout

  module _ (claim : Maps → Type 0) where
    holds_now : (d : DbValue P M) → IsDb store d → HoldsThroughout (store d.pages) claim → (now (store d.pages)).in_group ≡ false → claim (maps_now store meant d)
    holds_now d sound holds is = subst claim (sym (maps_are store meant d sound)) (holds.as_is is)

    holds_after : (old new : DbValue P M) → IsDb store old → HoldsThroughout (store old.pages) claim → (maps : List Maps) → LeavesAll store maps None old new → ((x : Maps) → In x maps → claim x)
        → ((now (store new.pages)).in_group ≡ false → claim (maps_now store meant new)) → HoldsThroughout (store new.pages) claim
    holds_after old new sound holds maps leaves added after = record {
      as_is = λ is. subst claim (maps_are store meant new (leaves.sound sound)) (after is);
      left = λ state left. elim (left_by maps (store old.pages) (store new.pages) state leaves.extends left) [
        | inl before ↦ subst claim (sym before.2) (holds.left before.0 before.1)
        | inr i ↦ added (trees_of state) i
      ];
    }

    none_added : (maps : List Maps) → maps ≡ [] → (x : Maps) → In x maps → claim x
    none_added maps e x i = absurd (subst (λ l. In x l) e i)

    one_added : (maps : List Maps) (one : Maps) → maps ≡ one ∷ [] → claim one → (x : Maps) → In x maps → claim x
    one_added maps one e is x i = elim (subst (λ l. In x l) e i) [
      | inl same ↦ subst claim (sym same) is
      | inr none ↦ absurd none
    ]

    module _ (old new : DbValue P M) (sound : IsDb store old) (holds : HoldsThroughout (store old.pages) claim) where
      taken_holds : TakesIds store meant old new → HoldsThroughout (store new.pages) claim
      taken_holds t = holds_after old new sound holds [] t.leaves (none_added [] refl) (λ is. subst claim (sym (same_maps old new t)) (holds_now old sound holds (open_before store meant old new sound (still_open old new t) is)))

    module _ (old new : DbValue P M) (sound : IsDb store old) (holds : HoldsThroughout (store old.pages) claim) where
      pub made_holds : (batches : List (Tree × Writes)) → MakesGroup old batches new → (claim (maps_now store meant old) → claim (maps_now store meant new)) → HoldsThroughout (store new.pages) claim
      made_holds batches m step =
          let made : DecidesGroup (db_state store meant m.run) batches Done (db_state store meant new) m.group.maps = m.group.decides (λ n. None) 0 in
          let run-sound : IsDb store m.run = m.takes.leaves.sound sound in
          let run-holds : HoldsThroughout (store m.run.pages) claim = taken_holds old m.run sound holds m.takes in
          let before : claim (maps_now store meant m.run) = holds_now m.run run-sound run-holds (open_now store meant m.run _ made.free) in
          let after : claim (maps_now store meant new) = step (subst claim (same_maps old m.run m.takes) before) in
          holds_after m.run new run-sound run-holds m.group.maps m.group.leaves (one_added m.group.maps (maps_now store meant new) made.added after) (λ is. after)

      pub stopped_holds : Stopped old new → HoldsThroughout (store new.pages) claim
      stopped_holds (NotBegun same) = subst (λ (d : DbValue P M). HoldsThroughout (store d.pages) claim) (sym same) holds
      stopped_holds (NotWritten takes) = taken_holds old new sound holds takes
      stopped_holds (NotGrouped run batches e takes r) =
          let s = r.refuses (λ n. None) 0 in
          let run-sound : IsDb store run = takes.leaves.sound sound in
          let run-holds : HoldsThroughout (store run.pages) claim = taken_holds old run sound holds takes in
          holds_after run new run-sound run-holds r.maps r.leaves (none_added r.maps s.added)
          (λ is. let same = unless_closed run new batches e r is in subst claim (sym (ap maps_of same)) (holds_now run run-sound run-holds (open_before store meant run new run-sound (ap (λ (x : State). x.is_open) same) is)))

  -- ---- what is written

  found_after : (old new : DbValue P M) (name : Key) (writes : Writes) (n : NamedTree) → (db_state store meant old).trees name ≡ Some n
      → Holds (db_state store meant new) name (λ q. unwrap_or (find key_cmp q writes) (find key_cmp q n.map)) → Wrote (maps_now store meant old) (maps_now store meant new) name writes
  found_after old new name writes n there h = record {
    has = λ q. ap (λ o. found_in (option_map (λ (x : NamedTree). x.map) o) q) h.there ∙ h.has q
        ∙ ap (unwrap_or (find key_cmp q writes)) (sym (ap (λ o. found_in (option_map (λ (x : NamedTree). x.map) o) q) there));
  }

  -- a group of no writes changes no map
  pub none_wrote : (old new : DbValue P M) (batches : List (Tree × Writes)) → writes_of batches ≡ [] → MakesGroup old batches new → maps_now store meant new ≡ maps_now store meant old
  none_wrote old new batches none m = ap maps_of ((m.group.decides (λ n. None) 0).is ∙ ap (λ ws. after_writes ws (db_state store meant m.run)) none) ∙ same_maps old m.run m.takes

  module _ (old new : DbValue P M) (t : Tree) (ws : Writes) (rises : T (is_sorted key_cmp ws)) (m : MakesGroup old ((t, ws) ∷ []) new) where
    made_one : DecidesGroup (db_state store meant m.run) ((t, ws) ∷ []) Done (db_state store meant new) m.group.maps
    made_one = m.group.decides (λ n. None) 0

    one_is : db_state store meant new ≡ after_writes (writes_on t ws) (db_state store meant m.run)
    one_is = made_one.is ∙ after_both (writes_on t ws) [] (db_state store meant m.run)

    pub one_wrote : Wrote (maps_now store meant old) (maps_now store meant new) t.name ws
    one_wrote =
        let n = first_there (db_state store meant m.run) t [] made_one.free in
        subst (λ maps. Wrote maps (maps_now store meant new) t.name ws) (same_maps old m.run m.takes)
        (found_after m.run new t.name ws n.0 n.1 (subst (λ s. Holds s t.name (λ q. unwrap_or (find key_cmp q ws) (find key_cmp q n.0.map))) (sym one_is)
        (batch_there t ws (db_state store meant m.run) (λ q. find key_cmp q n.0.map) rises (record { tree = n.0; there = n.1; has = λ q. refl }))))

    pub one_kept : (other : Key) → other ≢ t.name → maps_now store meant new other ≡ maps_now store meant old other
    one_kept other off =
        ap (λ (s : State). maps_of s other) one_is
        ∙ ap (option_map (λ (n : NamedTree). n.map)) (writes_elsewhere t ws (db_state store meant m.run) other off)
        ∙ ap (λ (maps : Maps). maps other) (same_maps old m.run m.takes)

  module _ (old new : DbValue P M) (t u : Tree) (ws vs : Writes) (apart : t.name ≢ u.name) (ws-rise : T (is_sorted key_cmp ws)) (vs-rise : T (is_sorted key_cmp vs)) (m : MakesGroup old ((t, ws) ∷ (u, vs) ∷ []) new) where
    abbrev before : State
    before = db_state store meant m.run

    abbrev middle : State
    middle = after_writes (writes_on t ws) before

    made_two : DecidesGroup before ((t, ws) ∷ (u, vs) ∷ []) Done (db_state store meant new) m.group.maps
    made_two = m.group.decides (λ n. None) 0

    two_is : db_state store meant new ≡ after_writes (writes_on u vs) middle
    two_is = made_two.is ∙ after_both (writes_on t ws) (writes_on u vs ++ []) before ∙ after_both (writes_on u vs) [] middle

    pub first_wrote : Wrote (maps_now store meant old) (maps_now store meant new) t.name ws
    first_wrote =
        let n = first_there before t (u ∷ []) made_two.free in
        let h = batch_there t ws before (λ q. find key_cmp q n.0.map) ws-rise (record { tree = n.0; there = n.1; has = λ q. refl }) in
        subst (λ maps. Wrote maps (maps_now store meant new) t.name ws) (same_maps old m.run m.takes)
        (found_after m.run new t.name ws n.0 n.1 (subst (λ s. Holds s t.name (λ q. unwrap_or (find key_cmp q ws) (find key_cmp q n.0.map))) (sym two_is)
        (record { tree = h.tree; there = writes_elsewhere u vs middle t.name apart ∙ h.there; has = h.has })))

    pub second_wrote : Wrote (maps_now store meant old) (maps_now store meant new) u.name vs
    second_wrote =
        let n = second_there before t u [] made_two.free in
        subst (λ maps. Wrote maps (maps_now store meant new) u.name vs) (same_maps old m.run m.takes)
        (found_after m.run new u.name vs n.0 n.1 (subst (λ s. Holds s u.name (λ q. unwrap_or (find key_cmp q vs) (find key_cmp q n.0.map))) (sym two_is)
        (batch_there u vs middle (λ q. find key_cmp q n.0.map) vs-rise (record { tree = n.0; there = writes_elsewhere t ws before u.name (λ e. apart (sym e)) ∙ n.1; has = λ q. refl }))))

    pub two_kept : (other : Key) → other ≢ t.name → other ≢ u.name → maps_now store meant new other ≡ maps_now store meant old other
    two_kept other off-t off-u =
        ap (λ (s : State). maps_of s other) two_is
        ∙ ap (option_map (λ (n : NamedTree). n.map)) (writes_elsewhere u vs middle other off-u ∙ writes_elsewhere t ws before other off-t)
        ∙ ap (λ (maps : Maps). maps other) (same_maps old m.run m.takes)
