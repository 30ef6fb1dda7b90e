-- What the calls on a stock make of its two trees, now and after a crash.
use Rattle.std.proofs.Common.{◌≡◌, ◌≢◌, ℕ, true, false, not, List, [], ◌∷◌, ◌++◌, Option, Some, None, option_map, unwrap_or, sym, refl, ap, ◌∙◌, subst, inl, inr}
use Rattle.std.specs.Prelude.{is_none}
use Rattle.std.specs.FinMap.Entries.{find}
use Rattle.sled_nodes.proofs.Basics.{none_some}
use Rattle.ordered_keys.specs.Keys.{IsOneToOne}
use Rattle.sled_nodes.specs.Order.{Key, key_cmp}
use Rattle.sled_nodes.specs.declared.error.Error.{Error}
use Rattle.sled_batch.specs.Batch.{Writes}
use Rattle.sled_store.specs.In.{In}
use Rattle.sled_store.specs.State.{State as PageState}
use Rattle.sled_store.specs.Store.{Store, now}
use Rattle.sled_store.specs.Crash.{Crashes}
use Rattle.sled_store.specs.theory.Facts.{may_leave_crashed}
use Rattle.sled_model.specs.Maps.{Maps, Merge}
use Rattle.sled_model.specs.Groups.{writes_on, after_writes, DecidesGroup}
use Rattle.sled_model.specs.Refusal.{MustRefuse, first_of, must_refuse_of}
use Rattle.sled_model.specs.State.{State, NamedTree, default_name, maps_of}
use Rattle.sled_model.specs.Whole.{maps_if}
use Rattle.sled_model.specs.declared.call.Whole.TheVariants.{OpenTree}
use Rattle.sled_model.specs.declared.reply.Reply.TheVariants as told
use Rattle.sled_model.specs.declared.tree.Tree.{Tree}
use Rattle.tree_laws.specs.Contents.{trees_of}
use Rattle.tree_laws.specs.Crashes.{AddsCrashStates}
use Rattle.tree_laws.proofs.Crashing.{extends_same}
use Rattle.sled.specs.Direct.{LeavesAll, WholeDecided, WholeRefused}
use Rattle.sled.specs.Groups.{GroupDecided, GroupRefused}
use Rattle.sled.specs.Opens.{with_tree, with_default, Opens}
use Rattle.sled.specs.Reads.{ReadsMap}
use Rattle.sled.specs.Sound.{IsDb}
use Rattle.sled.specs.Values.{DbValue, db_state}
use Rattle.sled.proofs.Written.{after_both, writes_elsewhere}
use Rattle.example_parts.specs.Reads.{found_in, maps_now}
use Rattle.example_parts.proofs.Maps.{maps_are, with_tree_alike, open_now, open_before, first_there, second_there}
use Rattle.example_parts.proofs.Added.{left_by}
use Rattle.example_parts.proofs.Written.{Holds, batch_there}
use Rattle.example_databases.specs.Stock.{entry_key, AgreeIn, Agrees, Moves, Stays, item_taken, entry_taken, item_put, entry_put}
use Rattle.example_databases.proofs.Entering.{items_rise, entries_rise, lies, others, still_agree}
use Rattle.example_databases.proofs.Leaving.{kept_all}
use Rattle.example_databases.proofs.Opening.{opened_now}

-- ---- two trees in maps

-- they agree in maps that have the same at each key
agree_alike : (a b : Maps) (table index : Key) → ((name key : Key) → found_in (b name) key ≡ found_in (a name) key) → AgreeIn a table index → AgreeIn b table index
agree_alike a b table index alike agree = record {
  has = λ item place e. alike index (entry_key place item) ∙ agree.has item place (sym (alike table item) ∙ e);
  only = λ key item e. let found = agree.only key item (sym (alike index key) ∙ e) in (found.0, alike table item ∙ found.1, found.2);
}

-- .. or where neither has a key
pub none_agree : (maps : Maps) (table index : Key) → ((name : Key) → maps name ≡ None) → AgreeIn maps table index
none_agree maps table index none = record {
  has = λ item place e. none_some (sym (ap (λ o. found_in o item) (none table)) ∙ e);
  only = λ key item e. none_some (sym (ap (λ o. found_in o key) (none index)) ∙ e);
}

-- ---- tests

first_free : (a b : Option MustRefuse) → first_of a b ≡ None → a ≡ None
first_free None b e = refl
first_free (Some m) b e = none_some (sym e)

-- ---- databases

module _ {P M : Type 0} (store : P → Store) (meant : M → Merge) where
  module _ (old new : DbValue P M) (sound : IsDb store old) where
    module _ (table index : Key) (agrees : Agrees (store old.pages) table index) where
      agreed : (now (store old.pages)).in_group ≡ false → AgreeIn (maps_now store meant old) table index
      agreed is = subst (λ m. AgreeIn m table index) (sym (maps_are store meant old sound)) (agrees.as_is is)

      -- the two agree after a call where they do in its maps
      call_agrees : (maps : List Maps) → LeavesAll store maps None old new → ((x : Maps) → In x maps → AgreeIn x table index) → ((now (store new.pages)).in_group ≡ false → AgreeIn (maps_now store meant new) table index) → Agrees (store new.pages) table index
      call_agrees maps leaves added after = record {
        apart = agrees.apart;
        as_is = λ is. subst (λ m. AgreeIn m table index) (maps_are store meant new (leaves.sound sound)) (after is);
        left = λ state left. elim (left_by maps (store old.pages) (store new.pages) state leaves.extends left) [
          | inl before ↦ subst (λ m. AgreeIn m table index) (sym before.2) (agrees.left before.0 before.1)
          | inr i ↦ added (trees_of state) i
        ];
      }

      no_maps : (maps : List Maps) → maps ≡ [] → (x : Maps) → In x maps → AgreeIn x table index
      no_maps maps e x i = absurd (subst (λ l. In x l) e i)

      one_map : (maps : List Maps) → maps ≡ maps_now store meant new ∷ [] → AgreeIn (maps_now store meant new) table index → (x : Maps) → In x maps → AgreeIn x table index
      one_map maps e after x i = elim (subst (λ l. In x l) e i) [
        | inl same ↦ subst (λ m. AgreeIn m table index) (sym same) after
        | inr none ↦ absurd none
      ]

      -- ---- a tree is opened

      module _ (name : Key) where
        opened_added : (o : Option NamedTree) (maps : List Maps) → maps ≡ maps_if (is_none o) (db_state store meant new) → AgreeIn (maps_now store meant new) table index → (x : Maps) → In x maps → AgreeIn x table index
        opened_added (Some t) maps e after = no_maps maps e
        opened_added None maps e after = one_map maps e after

        pub part_opened : (tree : Tree) → WholeDecided store meant old (OpenTree name) (told.Tree tree) new → Agrees (store new.pages) table index
        part_opened tree w =
            let o = w.decides (λ n. None) 0 0 in
            let same : maps_now store meant new ≡ with_tree name (maps_now store meant old) = opened_now store meant old new name tree w in
            let is : (now (store old.pages)).in_group ≡ false = open_now store meant old [] (first_free (must_refuse_of (db_state store meant old) []) _ o.free) in
            let after : AgreeIn (maps_now store meant new) table index =
            subst (λ m. AgreeIn m table index) (sym same) (agree_alike (maps_now store meant old) (with_tree name (maps_now store meant old)) table index (with_tree_alike name (maps_now store meant old)) (agreed is)) in
            call_agrees w.maps w.leaves (opened_added ((db_state store meant old).trees name) w.maps o.added after) (λ still. after)

        pub part_refused : (e : Error) → WholeRefused store meant old (OpenTree name) e new → Agrees (store new.pages) table index
        part_refused e w =
            let r = w.refuses (λ n. None) 0 in
            call_agrees w.maps w.leaves (no_maps w.maps r.2) (λ is. subst (λ m. AgreeIn m table index) (sym (ap maps_of r.1)) (agreed (open_before store meant old new sound (ap (λ (s : State). s.is_open) r.1) is)))

      -- ---- an item goes from one place to another

      -- nothing is done
      pub nothing_moved : new ≡ old → Stays store meant old table index new
      nothing_moved same = record {
        agrees = subst (λ (d : DbValue P M). Agrees (store d.pages) table index) (sym same) agrees;
        same = λ is. ap (maps_now store meant) same;
        back = λ keep left. kept_all keep (store old.pages) (store new.pages) left (subst (λ (d : DbValue P M). AddsCrashStates [] (store old.pages) (store d.pages)) (sym same) (extends_same (store old.pages)));
      }

      -- a group is refused
      pub not_moved : (batches : List (Tree × Writes)) (e : Error) → GroupRefused store meant old batches e new → Stays store meant old table index new
      not_moved batches e r =
          let s = r.refuses (λ n. None) 0 in
          let same : (now (store new.pages)).in_group ≡ false → db_state store meant new ≡ db_state store meant old = (λ is. elim s.is [
            | inl same ↦ same
            | inr closed ↦ absurd (shut (sym (ap (λ (x : State). x.is_open) closed.1.is) ∙ ap not is))
          ]) in
          record {
            agrees = call_agrees r.maps r.leaves (no_maps r.maps s.added) (λ is. subst (λ m. AgreeIn m table index) (sym (ap maps_of (same is))) (agreed (open_before store meant old new sound (ap (λ (x : State). x.is_open) (same is)) is)));
            same = λ is. ap maps_of (same is);
            back = λ keep left. kept_all keep (store old.pages) (store new.pages) left (subst (λ l. AddsCrashStates l (store old.pages) (store new.pages)) s.added r.leaves.extends);
          }
        where
          shut : false ≡ true → ⊥
          shut e = cc

  -- a group is decided
  module _ (law : IsOneToOne) (old new : DbValue P M) (sound : IsDb store old) (t u : Tree) (agrees : Agrees (store old.pages) t.name u.name)
      (item : Key) (from to : Option Key) (r : ReadsMap store meant old t (λ map. from ≡ find key_cmp item map)) where
    abbrev items : Writes
    items = item_put item to (item_taken item from [])

    abbrev entries : Writes
    entries = entry_put item to (entry_taken item from [])

    module _ (d : GroupDecided store meant old ((t, items) ∷ (u, entries) ∷ []) new) where
      abbrev before : State
      before = db_state store meant old

      abbrev middle : State
      middle = after_writes (writes_on t items) before

      abbrev made : DecidesGroup before ((t, items) ∷ (u, entries) ∷ []) told.Done (db_state store meant new) d.maps
      made = d.decides (λ n. None) 0

      is_now : db_state store meant new ≡ after_writes (writes_on u entries) middle
      is_now = made.is ∙ after_both (writes_on t items) (writes_on u entries ++ []) before ∙ after_both (writes_on u entries) [] middle

      -- what the keys of the two have now
      table_holds : (n : NamedTree) → before.trees t.name ≡ Some n → Holds (db_state store meant new) t.name (λ q. unwrap_or (find key_cmp q items) (find key_cmp q n.map))
      table_holds n there =
          let h = batch_there t items before (λ q. find key_cmp q n.map) (items_rise item from to) (record { tree = n; there = there; has = λ q. refl }) in
          subst (λ x. Holds x t.name (λ q. unwrap_or (find key_cmp q items) (find key_cmp q n.map))) (sym is_now)
          (record { tree = h.tree; there = writes_elsewhere u entries middle t.name agrees.apart ∙ h.there; has = h.has })

      index_holds : (n : NamedTree) → before.trees u.name ≡ Some n → Holds (db_state store meant new) u.name (λ q. unwrap_or (find key_cmp q entries) (find key_cmp q n.map))
      index_holds n there =
          subst (λ x. Holds x u.name (λ q. unwrap_or (find key_cmp q entries) (find key_cmp q n.map))) (sym is_now)
          (batch_there u entries middle (λ q. find key_cmp q n.map) (entries_rise item from to) (record { tree = n; there = writes_elsewhere t items before u.name (λ e. agrees.apart (sym e)) ∙ there; has = λ q. refl }))

      found_now : (name : Key) (ws : Writes) (n : NamedTree) → before.trees name ≡ Some n → Holds (db_state store meant new) name (λ q. unwrap_or (find key_cmp q ws) (find key_cmp q n.map))
          → (q : Key) → found_in (maps_now store meant new name) q ≡ unwrap_or (find key_cmp q ws) (found_in (maps_now store meant old name) q)
      found_now name ws n there h q =
          ap (λ o. found_in (option_map (λ (x : NamedTree). x.map) o) q) h.there ∙ h.has q
          ∙ ap (unwrap_or (find key_cmp q ws)) (sym (ap (λ o. found_in (option_map (λ (x : NamedTree). x.map) o) q) there))

      table_now : (q : Key) → found_in (maps_now store meant new t.name) q ≡ unwrap_or (find key_cmp q items) (found_in (maps_now store meant old t.name) q)
      table_now = let n = first_there before t (u ∷ []) made.free in found_now t.name items n.0 n.1 (table_holds n.0 n.1)

      index_now : (q : Key) → found_in (maps_now store meant new u.name) q ≡ unwrap_or (find key_cmp q entries) (found_in (maps_now store meant old u.name) q)
      index_now = let n = second_there before t u [] made.free in found_now u.name entries n.0 n.1 (index_holds n.0 n.1)

      stood : found_in (maps_now store meant old t.name) item ≡ from
      stood = ap (λ o. found_in (option_map (λ (x : NamedTree). x.map) o) item) r.there ∙ sym r.is

      abbrev table_of : DbValue P M → Key → Option Key
      table_of x = found_in (maps_now store meant x t.name)

      abbrev index_of : DbValue P M → Key → Option Key
      index_of x = found_in (maps_now store meant x u.name)

      agree_now : AgreeIn (maps_now store meant new) t.name u.name
      agree_now = still_agree law (table_of old) (index_of old) (table_of new) (index_of new) item from to (agreed old new sound t.name u.name agrees (open_now store meant old (t ∷ u ∷ []) made.free)) stood table_now index_now

      pub moved : Moves store meant old t.name u.name item from to new
      moved = record {
        agrees = call_agrees old new sound t.name u.name agrees d.maps d.leaves (one_map old new sound t.name u.name agrees d.maps made.added agree_now) (λ still. agree_now);
        was = stood;
        is = lies law (table_of old) (index_of old) (table_of new) (index_of new) item from to (agreed old new sound t.name u.name agrees (open_now store meant old (t ∷ u ∷ []) made.free)) stood table_now index_now;
        others = others law (table_of old) (index_of old) (table_of new) (index_of new) item from to (agreed old new sound t.name u.name agrees (open_now store meant old (t ∷ u ∷ []) made.free)) stood table_now index_now;
      }

-- ---- pages are opened, after a crash or not

pub opened_agrees : {P M : Type 0} (store : P → Store) (before : Store) (called : Key) (d : DbValue P M) → Opens store before called d → (table index : Key) → table ≢ index → AgreeIn (trees_of (now before)) table index → Agrees (store d.pages) table index
opened_agrees store before called d o table index apart agree = record {
  apart = apart;
  as_is = λ is. here;
  left = λ state left. elim (subst (λ l. In state l) o.left left.is) [
    | inl same ↦ subst (λ (x : PageState). AgreeIn (trees_of x) table index) (sym same) here
    | inr none ↦ absurd none
  ];
}
  where
    here : AgreeIn (trees_of (now (store d.pages))) table index
    here = subst (λ m. AgreeIn m table index) (sym o.maps) (agree_alike (trees_of (now before)) (with_default (trees_of (now before))) table index (with_tree_alike default_name (trees_of (now before))) agree)

-- what a crash leaves agrees
pub left_agrees : (keep : ℕ) (old left : Store) (table index : Key) → Crashes keep old left → Agrees old table index → AgreeIn (trees_of (now left)) table index
left_agrees keep old left table index c agrees =
    let base : now left ≡ left.base = ap now c.is ∙ sym (ap (λ (s : Store). s.base) c.is) in
    subst (λ (x : PageState). AgreeIn (trees_of x) table index) (sym base) (agrees.left left.base (may_leave_crashed keep old left c))
