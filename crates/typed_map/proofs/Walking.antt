-- What typed calls find in a tree, and what they make of it.
use Rattle.std.proofs.Common.{◌≡◌, ◌≢◌, ◌&&◌, ℕ, zero, suc, ◌+◌, ◌<◌, true, T, map, filter, take, length, get_or, List, [], ◌∷◌, ◌++◌, Option, Some, None, option_map, inl, inr, sym, refl, ap, ◌∙◌, subst, add-one, arith}
use Rattle.std.proofs.Math.Seq.{take-suc}
use Rattle.std.proofs.lemmas.List.{map-append}
use Rattle.std.specs.FinMap.Entries.{find, put, is_sorted, is_sorted-where_key}
use Rattle.std.specs.List.{AllByRecursion}
use Rattle.std.specs.declared.ops.Bound.{Bound}
use Rattle.sled_nodes.proofs.Basics.{true_of, of_true}
use Rattle.sled_nodes.specs.Among.{is_up_to, is_from}
use Rattle.sled_nodes.specs.Order.{Key, key_cmp}
use Rattle.sled_store.specs.In.{In}
use Rattle.sled_store.specs.Store.{Store}
use Rattle.tree_reads.specs.Ranges.{Coming, pairs_within}
use Rattle.tree_reads.proofs.Ranging.{reversed_none}
use Rattle.sled_model.specs.Maps.{Map, Merge}
use Rattle.sled_model.specs.State.{NamedTree, maps_of}
use Rattle.sled_model.specs.declared.call.Call.TheVariants.{Insert}
use Rattle.sled_model.specs.declared.reply.Reply.TheVariants.{Value}
use Rattle.sled_model.specs.declared.tree.Tree.{Tree}
use Rattle.sled.specs.Values.{DbValue, db_state}
use Rattle.sled.specs.Sound.{MapsAscend}
use Rattle.sled.specs.Direct.{PointDecided}
use Rattle.sled.specs.Promises.{ChangesMap}
use Rattle.sled.specs.Reads.{ReadsMap, BeginsRange}
use Rattle.typed_map.specs.Typed.{Spelling, pairs_in, is_above, is_below, bound_bytes, pair_bytes, IsTyped, OneIsForeign, Puts, LooksUp, Walks, IsForeign, IsPut, HasBytes, SpellsNone, HasPairs, HasForeign}
use Rattle.typed_map.specs.theory.Typed.{bounds_value}
use Rattle.typed_map.proofs.Typing.{KeepsOrder, IsOneToOne, put_bytes, put_values, find_bytes, find_value, within_bytes, within_values, sorted_bytes, same_entries_of}

none_of : {A B : Type 0} (f : A → B) (o : Option A) → None ≡ option_map f o → None ≡ o
none_of f None e = refl
none_of f (Some x) e = absurd cc

some_of : {A B : Type 0} (f : A → B) (o : Option A) (b : B) → Some b ≡ option_map f o → (x : A) × (o ≡ Some x) × (b ≡ f x)
some_of f None b e = absurd cc
some_of f (Some x) b e = (x, refl, cc)

stands_in : {X : Type 0} (xs : List X) (at : ℕ) (x d : X) → at < length xs → x ≡ get_or xs at d → In x xs
stands_in [] at x d lt is = absurd (omega (arith, lt))
stands_in (y ∷ xs) zero x d lt is = inl is
stands_in (y ∷ xs) (suc at) x d lt is = inr (stands_in xs at x d (omega (arith, lt)) is)

-- the pairs of entries, none of which is foreign
module _ {K V : Type 0} (keys : Spelling K) (values : Spelling V) where
  entry_of : (p : Key × Key) (entries : List (K × V)) → AllByRecursion (λ e. keys.is_value e.0 × values.is_value e.1) entries → In p (map (pair_bytes keys values) entries)
      → (e : K × V) × (keys.is_value e.0 × values.is_value e.1) × (p ≡ pair_bytes keys values e)
  entry_of p [] each i = absurd i
  entry_of p (e ∷ entries) each (inl here) = (e, each.0, here)
  entry_of p (e ∷ entries) each (inr more) = entry_of p entries each.1 more

  not_typed : (pairs : Map) → OneIsForeign keys values pairs → (entries : List (K × V)) → IsTyped keys values pairs entries → ⊥
  not_typed pairs one entries typed =
      let e = entry_of one.pair entries typed.are_values (subst (In one.pair) typed.is one.there) in
      one.none e.0 e.1.0 e.1.1 e.2

module _ {P M : Type 0} (store : P → Store) (meant : M → Merge) (d : DbValue P M) (tree : Tree) {K V : Type 0} (keys : Spelling K) (values : Spelling V) (order : KeepsOrder keys) where
  -- the tree's pairs are its map
  pairs_are : (named : NamedTree) → (db_state store meant d).trees tree.name ≡ Some named → pairs_in (maps_of (db_state store meant d) tree.name) ≡ named.map
  pairs_are named there = ap (λ o. pairs_in (option_map (λ (t : NamedTree). t.map) o)) there

  -- its keys rise
  sorted : MapsAscend (maps_of (db_state store meant d)) → (named : NamedTree) → (db_state store meant d).trees tree.name ≡ Some named → T (is_sorted key_cmp named.map)
  sorted ascend named there = of_true (is_sorted key_cmp named.map) (ascend.is tree.name named.map (ap (option_map (λ (t : NamedTree). t.map)) there))

  pub puts : (key : K) (value : V) → keys.is_value key → values.is_value value → (new : DbValue P M) (k v : Key) (stood : Option Key) → k ≡ keys.bytes key → v ≡ values.bytes value
      → ChangesMap store meant d tree (λ before after. (stood ≡ find key_cmp k before) × (after ≡ put key_cmp k v before)) new → Puts keys values (maps_of (db_state store meant d)) (maps_of (db_state store meant new)) tree.name key value
  puts key value i j new k v stood k-is v-is c = record {
    here = λ entries typed. record {
      is =
          ap pairs_in c.becomes
          ∙ c.is.1
          ∙ ap (put key_cmp k v) (sym (ap pairs_in c.was) ∙ typed.is)
          ∙ ap (λ z. put key_cmp z v (map (pair_bytes keys values) entries)) k-is
          ∙ ap (λ z. put key_cmp (keys.bytes key) z (map (pair_bytes keys values) entries)) v-is
          ∙ put_bytes keys values order key value entries i typed.are_values;
      are_values = put_values keys values order key value entries i j typed.are_values;
    };
    trees = c.others;
  }

  -- what stands at the key
  stands : (key : K) (k : Key) (value : Option Key) → keys.is_value key → k ≡ keys.bytes key → ReadsMap store meant d tree (λ map. value ≡ find key_cmp k map)
      → (entries : List (K × V)) → IsTyped keys values (pairs_in (maps_of (db_state store meant d) tree.name)) entries → value ≡ option_map values.bytes (find keys.order key entries)
  stands key k value i k-is r entries typed =
      r.is
      ∙ ap (find key_cmp k) (sym (pairs_are r.named r.there) ∙ typed.is)
      ∙ ap (λ z. find key_cmp z (map (pair_bytes keys values) entries)) k-is
      ∙ find_bytes keys values order key entries i typed.are_values

  pub looks_up_none : (key : K) (k : Key) (value : Option Key) → keys.is_value key → k ≡ keys.bytes key → ReadsMap store meant d tree (λ map. value ≡ find key_cmp k map) → value ≡ None
      → LooksUp keys values (maps_of (db_state store meant d)) tree.name key None
  looks_up_none key k value i k-is r none = record { is = λ entries typed. none_of values.bytes (find keys.order key entries) (sym none ∙ stands key k value i k-is r entries typed) }

  pub looks_up_some : IsOneToOne values → (key : K) (k : Key) (value : Option Key) (b : Key) (x : V) → keys.is_value key → k ≡ keys.bytes key → ReadsMap store meant d tree (λ map. value ≡ find key_cmp k map) → value ≡ Some b
      → values.is_value x × (b ≡ values.bytes x) → LooksUp keys values (maps_of (db_state store meant d)) tree.name key (Some x)
  looks_up_some apart key k value b x i k-is r some is = record {
    is = λ entries typed.
        let w = some_of values.bytes (find keys.order key entries) b (sym some ∙ stands key k value i k-is r entries typed) in
        let same : x ≡ w.0 = apart x w.0 is.0 (find_value keys values order key entries w.0 typed.are_values w.1) (sym is.1 ∙ w.2) in
        ap Some same ∙ sym w.1;
  }

  pub looks_up_foreign : (key : K) (k : Key) (value : Option Key) (b : Key) → keys.is_value key → k ≡ keys.bytes key → ReadsMap store meant d tree (λ map. value ≡ find key_cmp k map) → value ≡ Some b
      → ((x : V) → values.is_value x → b ≢ values.bytes x) → IsForeign keys values (maps_of (db_state store meant d)) tree.name
  looks_up_foreign key k value b i k-is r some none = record {
    is = λ entries typed.
        let w = some_of values.bytes (find keys.order key entries) b (sym some ∙ stands key k value i k-is r entries typed) in
        none w.0 (find_value keys values order key entries w.0 typed.are_values w.1) w.2;
  }

  -- ---- a walk

  pub ends_empty : (lo hi : Bound Key) (entries : Coming P) → BeginsRange store meant d tree lo hi entries → entries.ended ≡ true → entries.pairs ≡ []
  ends_empty lo hi entries b e = b.all.is ∙ reversed_none lo hi b.all.named.map (sym b.ended ∙ e)

  -- the same of the bytes alone
  pub is_put : (key : K) (value : V) (k v : Key) (stood : Option Key) (new : DbValue P M) → k ≡ keys.bytes key → v ≡ values.bytes value → PointDecided store meant d tree (Insert k v) (Value stood) new
      → IsPut store meant keys values d tree key value new
  is_put key value k v stood new k-is v-is e = record {
    stood = stood;
    decided = subst (λ x. PointDecided store meant d tree (Insert x (values.bytes value)) (Value stood) new) k-is (subst (λ y. PointDecided store meant d tree (Insert k y) (Value stood) new) v-is e);
  }

  bytes_at : (key : K) (k : Key) (value bytes : Option Key) → k ≡ keys.bytes key → value ≡ bytes → ReadsMap store meant d tree (λ map. value ≡ find key_cmp k map) → ReadsMap store meant d tree (λ map. bytes ≡ find key_cmp (keys.bytes key) map)
  bytes_at key k value bytes k-is same r = record { tested = r.tested; named = r.named; there = r.there; is = sym same ∙ (r.is ∙ ap (λ z. find key_cmp z r.named.map) k-is) }

  pub has_none : (key : K) (k : Key) (value : Option Key) → k ≡ keys.bytes key → ReadsMap store meant d tree (λ map. value ≡ find key_cmp k map) → value ≡ None → HasBytes store meant keys values d tree key None
  has_none key k value k-is r none = bytes_at key k value None k-is none r

  pub has_some : (key : K) (k : Key) (value : Option Key) (b : Key) (x : V) → k ≡ keys.bytes key → ReadsMap store meant d tree (λ map. value ≡ find key_cmp k map) → value ≡ Some b → b ≡ values.bytes x → HasBytes store meant keys values d tree key (Some x)
  has_some key k value b x k-is r some same = bytes_at key k value (Some (values.bytes x)) k-is (some ∙ ap Some same) r

  pub spells_none : (key : K) (k : Key) (value : Option Key) (b : Key) → k ≡ keys.bytes key → ReadsMap store meant d tree (λ map. value ≡ find key_cmp k map) → value ≡ Some b → ((x : V) → values.is_value x → b ≢ values.bytes x)
      → SpellsNone store meant keys values d tree key
  spells_none key k value b k-is r some none = record { bytes = b; there = bytes_at key k value (Some b) k-is some r; none = none }

  module _ (lo hi : Bound K) (lo-bytes hi-bytes : Bound Key) (i : bounds_value keys lo) (j : bounds_value keys hi) (lo-is : lo-bytes ≡ bound_bytes keys lo) (hi-is : hi-bytes ≡ bound_bytes keys hi) (coming : Coming P) (b : BeginsRange store meant d tree lo-bytes hi-bytes coming) (pairs : Map) (all : pairs ≡ coming.pairs) where
    abbrev within : List (K × V) → List (K × V)
    within entries = filter (λ e. is_above keys.order lo e.0 && is_below keys.order hi e.0) entries

    pairs_walked : pairs ≡ pairs_within (bound_bytes keys lo) (bound_bytes keys hi) b.all.named.map
    pairs_walked = all ∙ b.all.is ∙ ap (λ z. pairs_within z hi-bytes b.all.named.map) lo-is ∙ ap (λ z. pairs_within (bound_bytes keys lo) z b.all.named.map) hi-is

    -- of a tree of entries, the pairs are those of the entries within the bounds
    typed_within : (entries : List (K × V)) → IsTyped keys values (pairs_in (maps_of (db_state store meant d) tree.name)) entries → IsTyped keys values pairs (within entries)
    typed_within entries typed = record {
      is =
          pairs_walked
          ∙ ap (pairs_within (bound_bytes keys lo) (bound_bytes keys hi)) (sym (pairs_are b.all.named b.all.there) ∙ typed.is)
          ∙ within_bytes keys values order lo hi entries i j typed.are_values;
      are_values = within_values keys values order lo hi entries typed.are_values;
    }

    pub walks : IsOneToOne keys → IsOneToOne values → MapsAscend (maps_of (db_state store meant d)) → (found : List (K × V)) → IsTyped keys values pairs found → Walks keys values (maps_of (db_state store meant d)) tree.name lo hi found
    walks k-apart v-apart db found is = record {
      are = λ entries typed. let w = typed_within entries typed in same_entries_of keys values order k-apart v-apart found (within entries) is.are_values w.are_values (sym is.is ∙ w.is);
      rises =
          sym (sorted_bytes keys values order found is.are_values)
          ∙ ap (is_sorted key_cmp) (sym is.is ∙ pairs_walked)
          ∙ true_of _ (is_sorted-where_key key_cmp (λ k. is_from (bound_bytes keys lo) k && is_up_to (bound_bytes keys hi) k) b.all.named.map (sorted db b.all.named b.all.there));
    }

    pub walks_foreign : OneIsForeign keys values pairs → IsForeign keys values (maps_of (db_state store meant d)) tree.name
    walks_foreign one = record { is = λ entries typed. not_typed keys values pairs one (within entries) (typed_within entries typed) }

    -- the same of the bytes alone
    pub has_pairs : (found : List (K × V)) → IsTyped keys values pairs found → HasPairs store meant keys values d tree lo hi found
    has_pairs found is = record { tested = b.all.tested; named = b.all.named; there = b.all.there; is = subst (λ m. IsTyped keys values m found) pairs_walked is }

    pub has_foreign : OneIsForeign keys values pairs → HasForeign store meant keys values d tree lo hi
    has_foreign one = record { tested = b.all.tested; named = b.all.named; there = b.all.there; is = subst (OneIsForeign keys values) pairs_walked one }

-- ---- pairs that are read one after the other

module _ {K V : Type 0} (keys : Spelling K) (values : Spelling V) where
  typed_more : (pairs : Map) (entries : List (K × V)) (p : Key × Key) (key : K) (value : V) → IsTyped keys values pairs entries → keys.is_value key × (p.0 ≡ keys.bytes key) → values.is_value value × (p.1 ≡ values.bytes value)
      → IsTyped keys values (pairs ++ p ∷ []) (entries ++ (key, value) ∷ [])
  typed_more pairs entries p key value typed i j = record {
    is =
        ap (λ m. m ++ p ∷ []) typed.is
        ∙ ap (λ (e : Key × Key). map (pair_bytes keys values) entries ++ e ∷ []) (ap (λ k. (k, p.1)) i.1 ∙ ap (λ v. (keys.bytes key, v)) j.1)
        ∙ sym (map-append (pair_bytes keys values) entries ((key, value) ∷ []));
    are_values = all_and entries typed.are_values;
  }
    where
      all_and : (es : List (K × V)) → AllByRecursion (λ e. keys.is_value e.0 × values.is_value e.1) es → AllByRecursion (λ e. keys.is_value e.0 × values.is_value e.1) (es ++ (key, value) ∷ [])
      all_and [] each = ((i.0, j.0), tt)
      all_and (e ∷ es) each = (each.0, all_and es each.1)

  pub typed_next : (pairs : Map) (at : ℕ) (old new : List (K × V)) (p : Key × Key) (key : K) (value : V) → at < length pairs → p ≡ get_or pairs at p → IsTyped keys values (take at pairs) old
      → keys.is_value key × (p.0 ≡ keys.bytes key) → values.is_value value × (p.1 ≡ values.bytes value) → new ≡ old ++ (key, value) ∷ [] → IsTyped keys values (take (at + 1) pairs) new
  typed_next pairs at old new p key value lt is typed i j pushed =
      let more : take (at + 1) pairs ≡ take at pairs ++ p ∷ [] = rw add-one (take-suc pairs at p lt ∙ ap (λ q. take at pairs ++ q ∷ []) (sym is)) in
      subst (λ es. IsTyped keys values (take (at + 1) pairs) es) (sym pushed) (subst (λ m. IsTyped keys values m (old ++ (key, value) ∷ [])) (sym more) (typed_more (take at pairs) old p key value typed i j))

  -- a pair whose key or value is that of no entry
  pub foreign_key : (pairs : Map) (at : ℕ) (p : Key × Key) (k : Key) → at < length pairs → p ≡ get_or pairs at p → k ≡ p.0 → ((x : K) → keys.is_value x → k ≢ keys.bytes x) → OneIsForeign keys values pairs
  foreign_key pairs at p k lt is same none = record { pair = p; there = stands_in pairs at p p lt is; none = λ e i j spelled. none e.0 i (same ∙ ap (λ (q : Key × Key). q.0) spelled) }

  pub foreign_value : (pairs : Map) (at : ℕ) (p : Key × Key) (v : Key) → at < length pairs → p ≡ get_or pairs at p → v ≡ p.1 → ((x : V) → values.is_value x → v ≢ values.bytes x) → OneIsForeign keys values pairs
  foreign_value pairs at p v lt is same none = record { pair = p; there = stands_in pairs at p p lt is; none = λ e i j spelled. none e.1 j (same ∙ ap (λ (q : Key × Key). q.1) spelled) }
