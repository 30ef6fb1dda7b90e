-- Entries of types, and the pairs of bytes that spell them.
use Rattle.std.proofs.Common.{◌≡◌, Bool, true, false, not, cond, ◌&&◌, map, filter, List, [], ◌∷◌, Some, option_map, Less, Equal, Greater, is_eq, refl, ap, ◌∙◌, subst}
use Rattle.std.specs.FinMap.Entries.{find, put, by_order, is_sorted, below_all}
use Rattle.std.specs.List.{AllByRecursion}
use Rattle.std.specs.Ordering.{is_lt, is_gt}
use Rattle.std.specs.declared.cmp.Ordering.{Ordering}
use Rattle.std.specs.declared.ops.Bound.{Bound}
use Rattle.std.specs.declared.ops.Bound.TheVariants.{Included, Excluded, Unbounded}
use Rattle.sled_nodes.specs.Among.{is_up_to, is_from}
use Rattle.sled_nodes.specs.Order.{Key, key_cmp}
use Rattle.tree_reads.specs.Ranges.{pairs_within}
use Rattle.sled_model.specs.Maps.{Map}
use Rattle.typed_map.specs.Typed.{Spelling, is_above, is_below, bound_bytes, pair_bytes}
use Rattle.typed_map.specs.theory.Typed.{bounds_value}

-- ---- entries and their bytes

-- the order of the bytes is that of the values
abbrev pub KeepsOrder : {A : Type 0} → Spelling A → Type 0
KeepsOrder {A} s = (a b : A) → s.is_value a → s.is_value b → key_cmp (s.bytes a) (s.bytes b) ≡ s.order a b

-- no two values are spelled alike
abbrev pub IsOneToOne : {A : Type 0} → Spelling A → Type 0
IsOneToOne {A} s = (a b : A) → s.is_value a → s.is_value b → s.bytes a ≡ s.bytes b → a ≡ b

module _ {K V : Type 0} (keys : Spelling K) (values : Spelling V) (order : KeepsOrder keys) where
  abbrev AreValues : List (K × V) → Type 0
  AreValues entries = AllByRecursion (λ e. keys.is_value e.0 × values.is_value e.1) entries

  abbrev bytes : List (K × V) → Map
  bytes entries = map (pair_bytes keys values) entries

  pub put_bytes : (key : K) (value : V) (entries : List (K × V)) → keys.is_value key → AreValues entries → put key_cmp (keys.bytes key) (values.bytes value) (bytes entries) ≡ bytes (put keys.order key value entries)
  put_bytes key value [] is each = refl
  put_bytes key value (e ∷ es) is each =
      ap (λ o. by_order o ((keys.bytes key, values.bytes value) ∷ bytes (e ∷ es)) ((keys.bytes e.0, values.bytes value) ∷ bytes es) (pair_bytes keys values e ∷ put key_cmp (keys.bytes key) (values.bytes value) (bytes es))) (order key e.0 is each.0.0)
      ∙ go (keys.order key e.0) (put_bytes key value es is each.1)
    where
      go : (o : Ordering) → put key_cmp (keys.bytes key) (values.bytes value) (bytes es) ≡ bytes (put keys.order key value es)
          → by_order o ((keys.bytes key, values.bytes value) ∷ bytes (e ∷ es)) ((keys.bytes e.0, values.bytes value) ∷ bytes es) (pair_bytes keys values e ∷ put key_cmp (keys.bytes key) (values.bytes value) (bytes es))
          ≡ bytes (by_order o ((key, value) ∷ e ∷ es) ((e.0, value) ∷ es) (e ∷ put keys.order key value es))
      go Less more = refl
      go Equal more = refl
      go Greater more = ap (λ m. pair_bytes keys values e ∷ m) more

  pub put_values : (key : K) (value : V) (entries : List (K × V)) → keys.is_value key → values.is_value value → AreValues entries → AreValues (put keys.order key value entries)
  put_values key value [] k v each = ((k, v), tt)
  put_values key value (e ∷ es) k v each = go (keys.order key e.0) (put_values key value es k v each.1)
    where
      go : (o : Ordering) → AreValues (put keys.order key value es) → AreValues (by_order o ((key, value) ∷ e ∷ es) ((e.0, value) ∷ es) (e ∷ put keys.order key value es))
      go Less more = ((k, v), each)
      go Equal more = ((each.0.0, v), each.1)
      go Greater more = (each.0, more)

  pub find_bytes : (key : K) (entries : List (K × V)) → keys.is_value key → AreValues entries → find key_cmp (keys.bytes key) (bytes entries) ≡ option_map values.bytes (find keys.order key entries)
  find_bytes key [] is each = refl
  find_bytes key (e ∷ es) is each =
      ap (λ o. cond (is_eq o) (Some (values.bytes e.1)) (find key_cmp (keys.bytes key) (bytes es))) (order key e.0 is each.0.0)
      ∙ go (is_eq (keys.order key e.0)) (find_bytes key es is each.1)
    where
      go : (b : Bool) → find key_cmp (keys.bytes key) (bytes es) ≡ option_map values.bytes (find keys.order key es)
          → cond b (Some (values.bytes e.1)) (find key_cmp (keys.bytes key) (bytes es)) ≡ option_map values.bytes (cond b (Some e.1) (find keys.order key es))
      go true more = refl
      go false more = more

  -- the value that is found is a value
  pub find_value : (key : K) (entries : List (K × V)) (value : V) → AreValues entries → find keys.order key entries ≡ Some value → values.is_value value
  find_value key [] value each e = absurd cc
  find_value key (f ∷ es) value each e = go (is_eq (keys.order key f.0)) (find_value key es value each.1) e
    where
      go : (b : Bool) → (find keys.order key es ≡ Some value → values.is_value value) → cond b (Some f.1) (find keys.order key es) ≡ Some value → values.is_value value
      go true more same = let is : f.1 ≡ value = cc in subst values.is_value is each.0.1
      go false more same = more same

  above_bytes : (lo : Bound K) (k : K) → bounds_value keys lo → keys.is_value k → is_from (bound_bytes keys lo) (keys.bytes k) ≡ is_above keys.order lo k
  above_bytes (Included b) k i j = ap (λ o. not (is_lt o)) (order k b j i)
  above_bytes (Excluded b) k i j = ap is_gt (order k b j i)
  above_bytes Unbounded k i j = refl

  below_bytes : (hi : Bound K) (k : K) → bounds_value keys hi → keys.is_value k → is_up_to (bound_bytes keys hi) (keys.bytes k) ≡ is_below keys.order hi k
  below_bytes (Included b) k i j = ap (λ o. not (is_gt o)) (order k b j i)
  below_bytes (Excluded b) k i j = ap is_lt (order k b j i)
  below_bytes Unbounded k i j = refl

  abbrev within : Bound K → Bound K → List (K × V) → List (K × V)
  within lo hi entries = filter (λ e. is_above keys.order lo e.0 && is_below keys.order hi e.0) entries

  pub within_bytes : (lo hi : Bound K) (entries : List (K × V)) → bounds_value keys lo → bounds_value keys hi → AreValues entries → pairs_within (bound_bytes keys lo) (bound_bytes keys hi) (bytes entries) ≡ bytes (within lo hi entries)
  within_bytes lo hi [] i j each = refl
  within_bytes lo hi (e ∷ es) i j each =
      ap (λ b. cond b (pair_bytes keys values e ∷ pairs_within (bound_bytes keys lo) (bound_bytes keys hi) (bytes es)) (pairs_within (bound_bytes keys lo) (bound_bytes keys hi) (bytes es))) tests
      ∙ go (is_above keys.order lo e.0 && is_below keys.order hi e.0) (within_bytes lo hi es i j each.1)
    where
      tests : (is_from (bound_bytes keys lo) (keys.bytes e.0) && is_up_to (bound_bytes keys hi) (keys.bytes e.0)) ≡ (is_above keys.order lo e.0 && is_below keys.order hi e.0)
      tests = ap (λ b. b && is_up_to (bound_bytes keys hi) (keys.bytes e.0)) (above_bytes lo e.0 i each.0.0) ∙ ap (λ b. is_above keys.order lo e.0 && b) (below_bytes hi e.0 j each.0.0)

      go : (b : Bool) → pairs_within (bound_bytes keys lo) (bound_bytes keys hi) (bytes es) ≡ bytes (within lo hi es)
          → cond b (pair_bytes keys values e ∷ pairs_within (bound_bytes keys lo) (bound_bytes keys hi) (bytes es)) (pairs_within (bound_bytes keys lo) (bound_bytes keys hi) (bytes es)) ≡ bytes (cond b (e ∷ within lo hi es) (within lo hi es))
      go true more = ap (λ m. pair_bytes keys values e ∷ m) more
      go false more = more

  pub within_values : (lo hi : Bound K) (entries : List (K × V)) → AreValues entries → AreValues (within lo hi entries)
  within_values lo hi [] each = tt
  within_values lo hi (e ∷ es) each = go (is_above keys.order lo e.0 && is_below keys.order hi e.0) (within_values lo hi es each.1)
    where
      go : (b : Bool) → AreValues (within lo hi es) → AreValues (cond b (e ∷ within lo hi es) (within lo hi es))
      go true more = (each.0, more)
      go false more = more

  -- where the keys of the bytes rise, those of the entries do
  lowest : (key : K) (entries : List (K × V)) → keys.is_value key → AreValues entries → below_all key_cmp (keys.bytes key) (bytes entries) ≡ below_all keys.order key entries
  lowest key [] is each = refl
  lowest key (e ∷ es) is each =
      ap (λ o. is_lt o && below_all key_cmp (keys.bytes key) (bytes es)) (order key e.0 is each.0.0) ∙ ap (λ b. is_lt (keys.order key e.0) && b) (lowest key es is each.1)

  pub sorted_bytes : (entries : List (K × V)) → AreValues entries → is_sorted key_cmp (bytes entries) ≡ is_sorted keys.order entries
  sorted_bytes [] each = refl
  sorted_bytes (e ∷ es) each =
      ap (λ b. b && is_sorted key_cmp (bytes es)) (lowest e.0 es each.0.0 each.1) ∙ ap (λ b. below_all keys.order e.0 es && b) (sorted_bytes es each.1)

  module _ (k-apart : IsOneToOne keys) (v-apart : IsOneToOne values) where
    -- the same bytes spell the same entries
    pub same_entries_of : (a b : List (K × V)) → AreValues a → AreValues b → bytes a ≡ bytes b → a ≡ b
    same_entries_of [] [] i j e = refl
    same_entries_of [] (y ∷ b) i j e = absurd cc
    same_entries_of (x ∷ a) [] i j e = absurd cc
    same_entries_of (x ∷ a) (y ∷ b) i j e =
        let first : pair_bytes keys values x ≡ pair_bytes keys values y = cc in
        let more : bytes a ≡ bytes b = cc in
        let key : x.0 ≡ y.0 = k-apart x.0 y.0 i.0.0 j.0.0 (ap (λ (p : Key × Key). p.0) first) in
        let value : x.1 ≡ y.1 = v-apart x.1 y.1 i.0.1 j.0.1 (ap (λ (p : Key × Key). p.1) first) in
        let rest : a ≡ b = same_entries_of a b i.1 j.1 more in
        ap (λ k. (k, x.1) ∷ a) key ∙ ap (λ v. (y.0, v) ∷ a) value ∙ ap (λ m. y ∷ m) rest
