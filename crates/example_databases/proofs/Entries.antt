-- The entries of an index that have a first part.
use Rattle.std.proofs.Common.{◌≡◌, ℕ, ◌<◌, ◌^◌, Bool, true, false, cond, nat_eq, filter, drop, length, List, [], ◌∷◌, ◌++◌, refl, sym, ap, ◌∙◌, subst, inl, inr, Ok, Err, Result, IfOk, append-nil}
use Rattle.std.specs.List.{starts_with, AllByRecursion}
use Rattle.std.proofs.lemmas.Bool.Decides.{Decides-eqb}
use Rattle.std.proofs.lemmas.Slice.Eq.{starts_is}
use Rattle.sled_store.specs.In.{In}
use Rattle.sled_nodes.specs.Order.{Key}
use Rattle.sled_store.specs.Store.{Store}
use Rattle.sled_model.specs.Maps.{Map, Merge}
use Rattle.sled_model.specs.declared.tree.Tree.{Tree}
use Rattle.tree_reads.specs.Prefixes.{IsBytes, pairs_beginning}
use Rattle.tree_reads.specs.Ranges.{Coming}
use Rattle.sled.specs.Reads
use Rattle.sled.specs.Reads.{ReadsMap}
use Rattle.sled.specs.Values.{DbValue}
use Rattle.ordered_keys.specs.Keys.{spelled, spelled_number, BeginsWith, KeepsPrefixes}
use Rattle.ordered_keys.specs.declared.part.Kind.{Kind}
use Rattle.ordered_keys.specs.declared.part.Kind.TheVariants as kinds
use Rattle.ordered_keys.specs.declared.part.Part.{Part}
use Rattle.ordered_keys.specs.declared.part.Part.TheVariants.{Number, Text}
use Rattle.typed_map.specs.Typed.{still_given}
use Rattle.typed_map.proofs.Listing.{given_open}
use Rattle.example_databases.specs.Index.{IsUnder, IsIndex, FindsUnder}

-- what stands in a filtered list
in_filter : {X : Type 0} (test : X → Bool) (x : X) (xs : List X) → In x (filter test xs) → In x xs × (test x ≡ true)
in_filter test x [] i = absurd i
in_filter test x (y ∷ xs) i = go (in_filter test x xs) (test y) refl i
  where
    go : (In x (filter test xs) → In x xs × (test x ≡ true)) → (b : Bool) → test y ≡ b → In x (cond b (y ∷ filter test xs) (filter test xs)) → In x (y ∷ xs) × (test x ≡ true)
    go behind true e (inl here) = (inl here, ap test here ∙ e)
    go behind true e (inr more) = let k = behind more in (inr k.0, k.1)
    go behind false e more = let k = behind more in (inr k.0, k.1)

into_filter : {X : Type 0} (test : X → Bool) (x : X) (xs : List X) → In x xs → test x ≡ true → In x (filter test xs)
into_filter test x [] i e = absurd i
into_filter test x (y ∷ xs) (inl here) e = subst (λ b. In x (cond b (y ∷ filter test xs) (filter test xs))) (sym (ap test (sym here) ∙ e)) (inl here)
into_filter test x (y ∷ xs) (inr more) e = go (test y) (into_filter test x xs more e)
  where
    go : (b : Bool) → In x (filter test xs) → In x (cond b (y ∷ filter test xs) (filter test xs))
    go true i = inr i
    go false i = i

abbrev begins : Key → Key → Bool
begins key prefix = starts_with nat_eq key prefix

begins_with : (key prefix : Key) → begins key prefix ≡ true → BeginsWith key prefix
begins_with key prefix e = (drop (length prefix) key, (starts_is Decides-eqb key prefix (begins key prefix) refl).0 e)

begins_so : (key prefix : Key) → BeginsWith key prefix → begins key prefix ≡ true
begins_so key prefix b = (starts_is Decides-eqb key prefix (begins key prefix) refl).1 b.0 b.1

-- keys of the index, and their first part
abbrev shape : List Kind
shape = kinds.Number ∷ kinds.Text ∷ []

abbrev parts : ℕ → Key → List Part
parts number text = Number number ∷ Text text ∷ []

abbrev first : ℕ → List Part
first number = Number number ∷ []

part_is : (m n : ℕ) (text : Key) → BeginsWith (parts m text) (first n) → m ≡ n
part_is m n text b = let e : parts m text ≡ Number n ∷ b.0 = b.1 in cc

pub spelled_first : (number : ℕ) (key : Key) → key ≡ [] ++ spelled_number number → key ≡ spelled (first number)
spelled_first number key e = e ∙ sym (append-nil (spelled_number number))

module _ (law : KeepsPrefixes) (number : ℕ) (fits : number < 2 ^ 64) (map : Map) where
  -- a pair of the index whose key begins with the number's bytes is under the number
  is_under : IsIndex map → (entry : Key × Key) → In entry map → begins entry.0 (spelled (first number)) ≡ true → IsUnder number entry
  is_under index entry i e =
      let k = index entry i in
      let same = part_is k.0 number k.2.text ((law shape (parts k.0 k.2.text) (first number) ([], (k.1, (tt, tt))) (Text [] ∷ [], (fits, (tt, tt)))).0
      (begins_with _ _ (subst (λ key. begins key (spelled (first number)) ≡ true) k.2.is e))) in
      record { text = k.2.text; is = k.2.is ∙ ap (λ n. spelled (parts n k.2.text)) same }

  -- and a pair under the number begins with its bytes
  begins_under : (entry : Key × Key) → IsUnder number entry → begins entry.0 (spelled (first number)) ≡ true
  begins_under entry u = begins_so _ _ (subst (λ key. BeginsWith key (spelled (first number))) (sym u.is)
      ((law shape (parts number u.text) (first number) ([], (fits, (tt, tt))) (Text [] ∷ [], (fits, (tt, tt)))).1 (Text u.text ∷ [], refl)))

  pub finds_under : (prefix : Key) (found : Map) → prefix ≡ spelled (first number) → found ≡ pairs_beginning prefix map → FindsUnder number map found
  finds_under prefix found same is = record {
    are = are;
    entries = λ index entry. (
      λ i. let k = in_filter (λ e. begins e.0 (spelled (first number))) entry map (subst (In entry) are i) in (k.0, is_under index entry k.0 k.1),
      λ k. subst (In entry) (sym are) (into_filter (λ e. begins e.0 (spelled (first number))) entry map k.0 (begins_under entry k.1)),
    );
  }
    where
      are : found ≡ pairs_beginning (spelled (first number)) map
      are = is ∙ ap (λ key. pairs_beginning key map) same

module _ {P M : Type 0} (store : P → Store) (meant : M → Merge) (d : DbValue P M) (tree : Tree) (law : KeepsPrefixes) (number : ℕ) (fits : number < 2 ^ 64) (prefix : Key) (entries : Coming P) where
  found_all : (found : Map) → prefix ≡ spelled (Number number ∷ []) → Reads.BeginsWith store meant d tree prefix entries → found ≡ entries.pairs → AllByRecursion (λ e. IsBytes e.0) found → ReadsMap store meant d tree (λ map. FindsUnder number map found)
  found_all found same b is bytes =
      let r = b.beginning (subst (λ m. AllByRecursion (λ e. IsBytes e.0) m) is bytes) in
      record { tested = r.tested; named = r.named; there = r.there; is = finds_under law number fits r.named.map prefix found same (is ∙ r.is) }

  -- all of a scan of the number's bytes
  pub found_all_as : {V E : Type 0} (items : V → Map) (result : Result V E) → prefix ≡ spelled (Number number ∷ []) → Reads.BeginsWith store meant d tree prefix entries → IfOk result (λ found. items found ≡ still_given entries)
      → IfOk result (λ found. AllByRecursion (λ e. IsBytes e.0) (items found)) → IfOk result (λ found. ReadsMap store meant d tree (λ map. FindsUnder number map (items found)))
  found_all_as items (Ok found) same b is bytes = found_all (items found) same b (is ∙ given_open entries b.ended) bytes
  found_all_as items (Err e) same b is bytes = tt
