-- Callers that make nothing but raises.
use Rattle.std.proofs.Common.{◌≡◌, ◌⊎◌, ◌∙◌, ℕ, ◌+◌, Bool, true, false, cond, nat_eq, List, [], ◌∷◌, map, filter, All, count_by, Option, Some, None, Ok, sym, refl, ap, subst, inl, inr, arith}
use Rattle.std.specs.List.{AllByRecursion}
use Rattle.std.proofs.lemmas.Bool.{eqb-true, eq-eqb}
use Rattle.std.proofs.lemmas.List.Sums.{sum_by-cons}
use Rattle.sled_nodes.proofs.Basics.{false_true}
use Rattle.sled_nodes.specs.Order.{Key}
use Rattle.sled_model.specs.declared.call.Call.TheVariants.{Get, CompareAndSwap}
use Rattle.sled_model.specs.declared.reply.Reply.{Reply}
use Rattle.sled_model.specs.declared.reply.Reply.TheVariants.{Swapped}
use Rattle.sled_model.specs.declared.tree.Tree.{Tree}
use Rattle.tree_laws.proofs.Pairs.{each_append}
use Rattle.machine_shared.specs.Gathered.{IsGiven, IsMadeIn, IsOfGiven}
use Rattle.machine_shared.specs.History.{made_by}
use Rattle.machine_shared.specs.Made.{MadeValue, PointMade, TransactionMade, EntryValue}
use Rattle.machine_shared.specs.Values.{CallerValue}
use Rattle.example_parts.specs.Counters.{number_in}
use Rattle.example_shared.specs.Places.{value_at, made_in, is_at, Leaves}
use Rattle.example_shared.specs.Raising.{IsSwapAt, is_sole_at, is_sole_raise, sole_swap, swapped_alone, swapped_by, swapped, IsRaise, is_part, RaisedLaw}
use Rattle.example_shared.proofs.Leaving.{leaves}
use Rattle.example_shared.proofs.Sharing.{first_of_all, rest_of_all, shares_law}
use Rattle.example_shared.proofs.Swapping.{raises_law}

-- ---- what all callers made

-- the one that passes a test
one_of : {X : Type 0} (p : X → Bool) (Q : X → Type 0) (xs : List X) → count_by p xs ≡ 1 → All Q xs → (x : X) × (p x ≡ true) × Q x
one_of {X = X} p Q [] e all = absurd (none e)
  where
    none : ◌≡◌ {A = ℕ} 0 1 → ⊥
    none e = omega arith
one_of {X = X} p Q (x ∷ xs) e all = go (λ once. one_of p Q xs once (rest_of_all Q x xs all)) (p x) refl (sym (sum_by-cons (λ x. cond (p x) 1 0) x xs) ∙ e)
  where
    left_one : (count : ℕ) → 0 + count ≡ 1 → count ≡ 1
    left_one count e = omega arith

    go : (count_by p xs ≡ 1 → (x : X) × (p x ≡ true) × Q x) → (b : Bool) → p x ≡ b → cond b 1 0 + count_by p xs ≡ 1 → (x : X) × (p x ≡ true) × Q x
    go later true h f = (x, h, first_of_all Q x xs all)
    go later false h f = later (left_one (count_by p xs) f)

module _ (P : MadeValue → Type 0) where
  -- .. holds of each entry, where it holds of what each caller made
  pub all_made : (given : ℕ) (es : List EntryValue) → All (IsOfGiven given) es → ((n : ℕ) → IsGiven given n → AllByRecursion P (made_by n es)) → AllByRecursion P (made_in es)
  all_made given [] all by = tt
  all_made given (e ∷ es) all by = (here (nat_eq e.by e.by) (eq-eqb e.by e.by refl) (by e.by (first_of_all (IsOfGiven given) e es all)), all_made given es (rest_of_all (IsOfGiven given) e es all) (λ n g. later n (nat_eq e.by n) (by n g)))
    where
      here : (b : Bool) → b ≡ true → AllByRecursion P (map (λ e. e.made) (cond b (e ∷ filter (λ x. nat_eq x.by e.by) es) (filter (λ x. nat_eq x.by e.by) es))) → P e.made
      here true q x = x.0
      here false q x = false_true q

      later : (n : ℕ) (b : Bool) → AllByRecursion P (map (λ e. e.made) (cond b (e ∷ filter (λ x. nat_eq x.by n) es) (filter (λ x. nat_eq x.by n) es))) → AllByRecursion P (made_by n es)
      later n true x = x.1
      later n false x = x

  pub made_by_one : (history : List EntryValue) (callers : List CallerValue) (n : ℕ) → count_by (λ (c : CallerValue). nat_eq n c.number) callers ≡ 1
      → All (λ (c : CallerValue). IsMadeIn history c × AllByRecursion P c.made) callers → AllByRecursion P (made_by n history)
  made_by_one history callers n once all =
      let c = one_of (λ (c : CallerValue). nat_eq n c.number) (λ (c : CallerValue). IsMadeIn history c × AllByRecursion P c.made) callers once all in
      subst (λ m. AllByRecursion P (made_by m history)) (sym (eqb-true n c.0.number c.1)) (subst (AllByRecursion P) c.2.0 c.2.1)

-- ---- parts of raises

module _ (tree : Tree) (key : Key) where
  sole_at : (o : Option (Tree × Key × Option Key × Key)) → is_sole_raise tree key o → is_sole_at tree.name key o
  sole_at None p = absurd p
  sole_at (Some s) p = (ap (λ (t : Tree). t.name) p.0, p.1)

  pub part_swaps : (m : MadeValue) → is_part tree key m → IsSwapAt tree.name key m ⊎ Leaves tree.name key m
  part_swaps (PointMade t (Get k) reply) p = inr (leaves tree.name key (PointMade t (Get k) reply) tt)
  part_swaps (PointMade t (CompareAndSwap k old new) reply) p = inl (ap (λ (t : Tree). t.name) p.0, p.1)
  part_swaps (TransactionMade batches stood) p = inl (sole_at (sole_swap batches stood) p)
  part_swaps m p = absurd p

  raised_at : (t : Tree) (k : Key) (old new : Option Key) → IsRaise (old, new) → (b : Bool) → AllByRecursion IsRaise (cond b ((old, new) ∷ []) [])
  raised_at t k old new r true = (r, tt)
  raised_at t k old new r false = tt

  swap_raises : (t : Tree) (k : Key) (old new : Option Key) (reply : Reply) → IsRaise (old, new) → AllByRecursion IsRaise (swapped_by tree.name key (PointMade t (CompareAndSwap k old new) reply))
  swap_raises t k old new (Swapped (Ok done)) r = raised_at t k old new r (is_at tree.name key t k)
  swap_raises t k old new reply r = tt

  sole_raises : (o : Option (Tree × Key × Option Key × Key)) → is_sole_raise tree key o → AllByRecursion IsRaise (swapped_alone tree.name key o)
  sole_raises None p = tt
  sole_raises (Some s) p = raised_at s.0 s.1 s.2 (Some s.3) p.2 (is_at tree.name key s.0 s.1)

  part_raises : (m : MadeValue) → is_part tree key m → AllByRecursion IsRaise (swapped_by tree.name key m)
  part_raises (PointMade t (Get k) reply) p = tt
  part_raises (PointMade t (CompareAndSwap k old new) reply) p = swap_raises t k old new reply p.2
  part_raises (TransactionMade batches stood) p = sole_raises (sole_swap batches stood) p
  part_raises m p = absurd p

  parts_swap : (made : List MadeValue) → AllByRecursion (is_part tree key) made → AllByRecursion (λ m. IsSwapAt tree.name key m ⊎ Leaves tree.name key m) made
  parts_swap [] all = tt
  parts_swap (m ∷ made) all = (part_swaps m all.0, parts_swap made all.1)

  pub parts_raise : (made : List MadeValue) → AllByRecursion (is_part tree key) made → AllByRecursion IsRaise (swapped tree.name key made)
  parts_raise [] all = tt
  parts_raise (m ∷ made) all = each_append IsRaise (swapped_by tree.name key m) (swapped tree.name key made) (part_raises m all.0) (parts_raise made all.1)

pub raised_law : RaisedLaw
raised_law old new tree key history given callers legal made once all raises =
    let parts = all_made (is_part tree key) given history all (λ n g. made_by_one (is_part tree key) history callers n (once n g) (λ k d l. (made k d l, raises k d l))) in
    raises_law old new tree.name key history legal (parts_swap tree key (made_in history) parts) (parts_raise tree key (made_in history) parts)
    ∙ ap (λ n. number_in (value_at old tree.name key) + n) (shares_law tree.name key history given callers made once all)
