-- Callers raise a number of a database that was flushed when it was shared.
use Rattle.std.proofs.Common.{◌≡◌, ◌⊎◌, ◌∙◌, ℕ, suc, ◌+◌, ◌*◌, true, length, List, [], ◌∷◌, ◌++◌, append-nil, map, All, sum_by, sym, ap, subst, inl, inr, arith}
use Rattle.std.specs.List.{AllByRecursion}
use Rattle.std.proofs.lemmas.List.Sums.{sum_by-cons}
use Rattle.sled_nodes.specs.Order.{Key}
use Rattle.sled_store.specs.In.{In}
use Rattle.sled_store.specs.Store.{Store}
use Rattle.sled_store.specs.Crash.{crash_states}
use Rattle.sled_store.proofs.Lists.{map_in}
use Rattle.sled_model.specs.Maps.{Maps}
use Rattle.sled_model.specs.declared.tree.Tree.{Tree}
use Rattle.tree_laws.specs.Contents.{trees_of}
use Rattle.tree_laws.proofs.Pairs.{each_append}
use Rattle.machine_shared.specs.Gathered.{EachOnce, EachOnceBehind, IsMadeIn, IsOfGiven}
use Rattle.machine_shared.specs.Gathered as gathered_as
use Rattle.machine_shared.specs.Crashes.{LeadsThrough}
use Rattle.machine_shared.specs.History.{maps_from}
use Rattle.machine_shared.specs.Made.{MadeValue, WholeMade, EntryValue}
use Rattle.machine_shared.specs.Sound.{HasCrashMaps, HasLegalHistory, IsOpen, maps_now}
use Rattle.machine_shared.specs.Values.{CallerValue, StateValue}
use Rattle.machine_shared.specs.Wholes.{Flush}
use Rattle.example_parts.proofs.Added.{matches_has}
use Rattle.example_shared.specs.Places.{made_in, Leaves}
use Rattle.example_shared.specs.Raising.{IsPartOrFlush, IsRaise, IsSwapAt, StandsBetween, is_part, swapped, swapped_by, swaps_of}
use Rattle.example_shared.proofs.Crashed.{from_start}
use Rattle.example_shared.proofs.Leaving.{leaves}
use Rattle.example_shared.proofs.Sharing.{first_of_all, rest_of_all, shares_law}
use Rattle.example_shared.proofs.Swapping.{raises_law}
use Rattle.example_shared.proofs.Together.{all_made, made_by_one, part_swaps, parts_raise}
use Rattle.example_crashes.specs.Crashing.{number_under}
use Rattle.example_crashes.specs.theory.Raised.{HasRaised, IsRaised}

-- ---- what all callers made

pub last_of_all : {X : Type 0} (P : X → Type 0) (xs : List X) (x : X) → All P (xs ++ x ∷ []) → P x
last_of_all P [] x h = first_of_all P x [] h
last_of_all P (y ∷ xs) x h = last_of_all P xs x (rest_of_all P y (xs ++ x ∷ []) h)

module _ (P : MadeValue → Type 0) where
  -- what holds of all that the callers made holds of the history
  pub history_all : (given : ℕ) (history : List EntryValue) (callers : List CallerValue) → All (IsMadeIn history) callers → EachOnce given callers → All (IsOfGiven given) history
      → All (λ (c : CallerValue). AllByRecursion P c.made) callers → AllByRecursion P (made_in history)
  history_all given history callers made once others each = all_made P given history others (λ n g. made_by_one P history callers n (once n g) (λ k d l. (made k d l, each k d l)))

-- ---- parts of raises, and flushes

none_times : (times : ℕ) → 0 * times ≡ 0
none_times times = omega arith

once_more : (n times : ℕ) → suc n * times ≡ times + n * times
once_more n times = omega arith

all_there : (P : Maps → Type 0) (x : Maps) (xs : List Maps) → AllByRecursion P xs → In x xs → P x
all_there P x [] all i = absurd i
all_there P x (y ∷ xs) all (inl e) = subst P (sym e) all.0
all_there P x (y ∷ xs) all (inr i) = all_there P x xs all.1 i

module _ (tree : Tree) (key : Key) where
  swaps_or_leaves : (m : MadeValue) → IsPartOrFlush tree key m → IsSwapAt tree.name key m ⊎ Leaves tree.name key m
  swaps_or_leaves m (inl part) = part_swaps tree key m part
  swaps_or_leaves (WholeMade Flush reply) (inr f) = inr (leaves tree.name key (WholeMade Flush reply) tt)
  swaps_or_leaves m (inr f) = absurd f

  raises_one : (m : MadeValue) → IsPartOrFlush tree key m → AllByRecursion IsRaise (swapped_by tree.name key m)
  raises_one m (inl part) = subst (AllByRecursion IsRaise) (append-nil (swapped_by tree.name key m)) (parts_raise tree key (m ∷ []) (part, tt))
  raises_one (WholeMade Flush reply) (inr f) = tt
  raises_one m (inr f) = absurd f

  all_swap : (made : List MadeValue) → AllByRecursion (IsPartOrFlush tree key) made → AllByRecursion (λ m. IsSwapAt tree.name key m ⊎ Leaves tree.name key m) made
  all_swap [] all = tt
  all_swap (m ∷ made) all = (swaps_or_leaves m all.0, all_swap made all.1)

  all_raise : (made : List MadeValue) → AllByRecursion (IsPartOrFlush tree key) made → AllByRecursion IsRaise (swapped tree.name key made)
  all_raise [] all = tt
  all_raise (m ∷ made) all = each_append IsRaise (swapped_by tree.name key m) (swapped tree.name key made) (raises_one m all.0) (all_raise made all.1)

  parts_are : (made : List MadeValue) → AllByRecursion (is_part tree key) made → AllByRecursion (IsPartOrFlush tree key) made
  parts_are [] all = tt
  parts_are (m ∷ made) all = (inl all.0, parts_are made all.1)

  all_raised : (times : ℕ) (callers : List CallerValue) → All (HasRaised tree key times) callers → sum_by (swaps_of tree.name key) callers ≡ length callers * times
  all_raised times [] raise = sym (none_times times)
  all_raised times (c ∷ callers) raise =
      sum_by-cons (swaps_of tree.name key) c callers
      ∙ ap (λ n. n + sum_by (swaps_of tree.name key) callers) (first_of_all (HasRaised tree key times) c callers raise).count
      ∙ ap (λ n. times + n) (all_raised times callers (rest_of_all (HasRaised tree key times) c callers raise))
      ∙ sym (once_more (length callers) times)

  module _ {P M : Type 0} (store : P → Store) (s : StateValue P M) (callers times given : ℕ) (handles : List CallerValue) where
    abbrev opening : Maps
    opening = maps_from s.opening.contents

    abbrev first : ℕ
    first = number_under opening tree.name key

    parts_all : All (IsMadeIn s.history) handles → EachOnce given handles → All (IsOfGiven given) s.history → All (HasRaised tree key times) handles → AllByRecursion (IsPartOrFlush tree key) (made_in s.history)
    parts_all made once others raise = history_all (IsPartOrFlush tree key) given s.history handles made once others (λ k d l. parts_are _ (raise k d l).only)

    pub is_raised : HasLegalHistory store s → HasCrashMaps store s → s.opening.flushed ≡ true → IsOpen store s.machine → length handles ≡ callers → All (IsMadeIn s.history) handles → EachOnce given handles → All (IsOfGiven given) s.history
        → All (HasRaised tree key times) handles → IsRaised store tree key (callers * times) s
    is_raised legal crashes flushed opens many made once others raise =
        let parts = parts_all made once others raise in
        let left = crashes.follow.left in
        let leads : LeadsThrough opening (opening ∷ []) s.history crashes.follow.last left = subst (λ e. LeadsThrough opening (e ++ opening ∷ []) s.history crashes.follow.last left) (crashes.covers flushed) crashes.follow.leads in
        let between : AllByRecursion (StandsBetween tree key first (number_under (maps_now store s.machine) tree.name key)) left = subst (λ (m : Maps). AllByRecursion (StandsBetween tree key first (number_under m tree.name key)) left) (crashes.follow.now opens) (from_start tree key leads parts) in
        record {
          opens = opens;
          stands =
              raises_law opening (maps_now store s.machine) tree.name key s.history (legal opens) (all_swap (made_in s.history) parts) (all_raise (made_in s.history) parts)
              ∙ ap (λ n. first + n) (shares_law tree.name key s.history given handles made once others ∙ all_raised times handles raise ∙ ap (λ n. n * times) many);
          safe = λ state may.
              all_there (StandsBetween tree key first (number_under (maps_now store s.machine) tree.name key)) (trees_of state) left between
              (matches_has (map trees_of (crash_states (store s.machine.db.pages))) left (trees_of state) crashes.follow.leaves.is (map_in trees_of (crash_states (store s.machine.db.pages)) state may.is));
        }

    from_first : (before : ℕ) → before ≡ 0 → EachOnceBehind before given handles → EachOnce given handles
    from_first before none once n is = ap (gathered_as.times handles) (omega (arith, none)) ∙ once n is

    last_is : (before : ℕ) → before ≡ 0 → before + given ≡ given
    last_is before none = omega (arith, none)

    -- as they are gathered
    pub is_taken : (before : ℕ) → before ≡ 0 → length handles ≡ given → given ≡ callers → HasLegalHistory store s → HasCrashMaps store s → s.opening.flushed ≡ true → IsOpen store s.machine → All (IsMadeIn s.history) handles → EachOnceBehind before given handles
        → All (IsOfGiven (before + given)) s.history → All (HasRaised tree key times) handles → IsRaised store tree key (callers * times) s
    is_taken before none count few legal crashes flushed opens made once others raise =
        is_raised legal crashes flushed opens (count ∙ few) made (from_first before none once) (subst (λ n. All (IsOfGiven n) s.history) (last_is before none) others) raise
