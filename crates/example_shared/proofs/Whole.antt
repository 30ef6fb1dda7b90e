-- From the sharing of a database to the number that stands at the end.
use Rattle.std.proofs.Common.{◌≡◌, ◌∙◌, ℕ, suc, ◌+◌, ◌*◌, cond, length, length-append, List, [], ◌∷◌, ◌++◌, append-nil, append_assoc, All, count_by, sum_by, Option, Some, None, Ok, sym, refl, ap, subst, arith}
use Rattle.std.specs.List.{AllByRecursion}
use Rattle.std.proofs.lemmas.List.Sums.{sum_by-cons}
use Rattle.sled_nodes.specs.Order.{Key}
use Rattle.sled_store.specs.Store.{Store}
use Rattle.sled_model.specs.declared.call.Call.TheVariants.{Get, CompareAndSwap}
use Rattle.sled_model.specs.declared.reply.Reply.TheVariants.{Swapped}
use Rattle.sled_model.specs.declared.tree.Tree.{Tree}
use Rattle.tree_laws.proofs.Pairs.{each_append}
use Rattle.machine_shared.specs.Gathered.{EachOnce, IsMadeIn, IsOfGiven}
use Rattle.machine_shared.specs.History.{maps_from}
use Rattle.machine_shared.specs.Made.{MadeValue, PointMade, TransactionMade}
use Rattle.machine_shared.specs.Sound.{HasLegalHistory, IsOpen, maps_now}
use Rattle.machine_shared.specs.Values.{CallerValue, StateValue}
use Rattle.example_parts.specs.Counters.{number_in}
use Rattle.example_shared.specs.Places.{value_at}
use Rattle.example_shared.specs.Raising.{is_sole_raise, sole_swap, swapped, swapped_alone, swapped_by, is_part, swaps_of, OnlyRaises, Raises, RaisesOn, has_written, HasWritten, StandsHigher}
use Rattle.example_shared.proofs.Keys.{at_itself}
use Rattle.example_shared.proofs.Sharing.{first_of_all, rest_of_all}
use Rattle.example_shared.proofs.Together.{raised_law}

-- ---- lists of one caller

pub raises_nothing : (tree : Tree) (key : Key) (made : List MadeValue) → RaisesOn tree key made made
raises_nothing tree key made = record { added = []; adds = sym (append-nil made); parts = tt }

pub raises_more : (tree : Tree) (key : Key) (n : Option ℕ) (a b c : List MadeValue) → RaisesOn tree key a b → Raises tree key n b c → RaisesOn tree key a c
raises_more tree key n a b c r s = record {
  added = r.added ++ s.added;
  adds = s.adds ∙ ap (λ l. l ++ s.added) r.adds ∙ append_assoc a r.added s.added;
  parts = each_append (is_part tree key) r.added s.added r.parts s.parts;
}

-- the list of a caller that had none before
pub only_raises : (tree : Tree) (key : Key) (old new : CallerValue) → old.made ≡ [] → RaisesOn tree key old.made new.made → OnlyRaises tree key new
only_raises tree key old new none r = subst (AllByRecursion (is_part tree key)) (sym (r.adds ∙ ap (λ l. l ++ r.added) none)) r.parts

-- ---- swaps that succeeded

none_of : (times : ℕ) → 0 ≡ 0 * times
none_of times = omega arith

one_more : (n times : ℕ) → times + n * times ≡ suc n * times
one_more n times = omega arith

module _ (tree : Tree) (key : Key) where
  sole_counts : (o : Option (Tree × Key × Option Key × Key)) → is_sole_raise tree key o → 1 ≡ length (swapped_alone tree.name key o)
  sole_counts None p = absurd p
  sole_counts (Some s) p = sym (ap (λ b. length {A = Option Key × Option Key} (cond b ((s.2, Some s.3) ∷ []) [])) (at_itself tree.name key s.0 s.1 (ap (λ (t : Tree). t.name) p.0) p.1))

  counts : (m : MadeValue) → is_part tree key m → cond (has_written m) 1 0 ≡ length (swapped_by tree.name key m)
  counts (PointMade t (Get k) reply) p = refl
  counts (PointMade t (CompareAndSwap k old new) (Swapped (Ok done))) p = sym (ap (λ b. length {A = Option Key × Option Key} (cond b ((old, new) ∷ []) [])) (at_itself tree.name key t k (ap (λ (t : Tree). t.name) p.0) p.1))
  counts (PointMade t (CompareAndSwap k old new) reply) p = refl
  counts (TransactionMade batches stood) p = sole_counts (sole_swap batches stood) p
  counts m p = absurd p

  counted : (made : List MadeValue) → AllByRecursion (is_part tree key) made → count_by has_written made ≡ length (swapped tree.name key made)
  counted [] all = refl
  counted (m ∷ made) all =
      sum_by-cons (λ m. cond (has_written m) 1 0) m made
      ∙ ap (λ n. n + count_by has_written made) (counts m all.0)
      ∙ ap (λ n. length (swapped_by tree.name key m) + n) (counted made all.1)
      ∙ sym (length-append (swapped_by tree.name key m) (swapped tree.name key made))

  -- .. of all callers
  all_counted : (times : ℕ) (callers : List CallerValue) → All (OnlyRaises tree key) callers → All (HasWritten times) callers → sum_by (swaps_of tree.name key) callers ≡ length callers * times
  all_counted times [] raise count = none_of times
  all_counted times (c ∷ callers) raise count =
      sum_by-cons (swaps_of tree.name key) c callers
      ∙ ap (λ n. n + sum_by (swaps_of tree.name key) callers) (sym (counted c.made (first_of_all (OnlyRaises tree key) c callers raise)) ∙ (first_of_all (HasWritten times) c callers count).is)
      ∙ ap (λ n. times + n) (all_counted times callers (rest_of_all (OnlyRaises tree key) c callers raise) (rest_of_all (HasWritten times) c callers count))
      ∙ one_more (length callers) times

-- ---- the number

pub stands_higher : {P M : Type 0} (store : P → Store) (s : StateValue P M) (given times : ℕ) (callers : List CallerValue) → HasLegalHistory store s → IsOpen store s.machine → length callers ≡ given
    → All (IsMadeIn s.history) callers → EachOnce given callers → All (IsOfGiven given) s.history → All (HasWritten times) callers
    → (tree : Tree) (key : Key) → All (OnlyRaises tree key) callers → StandsHigher store tree key (given * times) s
stands_higher store s given times callers legal opens many made once all count tree key raise =
    raised_law (maps_from s.opening.contents) (maps_now store s.machine) tree key s.history given callers (legal opens) made once all raise
    ∙ ap (λ n. number_in (value_at (maps_from s.opening.contents) tree.name key) + n) (all_counted tree key times callers raise count ∙ ap (λ n. n * times) many)
