-- Swaps at a key follow one another.
use Rattle.std.proofs.Common.{◌≡◌, ◌⊎◌, ◌∙◌, ℕ, ◌+◌, suc, Bool, true, false, cond, if◌then◌else◌, length, List, [], ◌∷◌, ◌++◌, Option, Some, None, is_some, Ok, Err, sym, refl, ap, subst, inl, inr, arith}
use Rattle.std.proofs.lemmas.List.Elements.{All-head}
use Rattle.std.specs.FinMap.Entries.{find}
use Rattle.std.specs.List.{AllByRecursion}
use Rattle.sled_nodes.proofs.Basics.{false_true}
use Rattle.sled_nodes.specs.Order.{Key, key_cmp}
use Rattle.sled_model.specs.Answer.{effect_of_write}
use Rattle.sled_batch.specs.Batch.{Writes}
use Rattle.sled_store.specs.Update.{put_name}
use Rattle.sled_store.specs.theory.Facts.{put_name_here}
use Rattle.sled_model.specs.Groups.{Write, call_with}
use Rattle.sled_model.specs.Maps.{Map, Maps}
use Rattle.sled_model.specs.declared.call.Call.TheVariants.{CompareAndSwap, Insert}
use Rattle.sled_model.specs.declared.decision.Decision.{Decision}
use Rattle.sled_model.specs.declared.decision.Effect.TheVariants as effect
use Rattle.sled_model.specs.declared.reply.CompareAndSwapError.{CompareAndSwapError}
use Rattle.sled_model.specs.declared.reply.Reply.{Reply}
use Rattle.sled_model.specs.declared.reply.Reply.TheVariants.{Swapped}
use Rattle.sled_model.specs.declared.tree.Tree.{Tree}
use Rattle.sled_model.proofs.Shapes.{call_of_write, same_value}
use Rattle.machine_shared.specs.History.{MakesPoint, makes_as}
use Rattle.machine_shared.specs.Made.{MadeValue, PointMade, TransactionMade}
use Rattle.machine_shared.specs.WholeMade.{HasMap, map_with, maps_with_write}
use Rattle.example_parts.specs.Counters.{number_in}
use Rattle.example_shared.specs.Places.{found_in, value_at, made_in, is_at, Leaves}
use Rattle.example_shared.specs.Raising.{IsSwapAt, is_sole_at, sole_swap, swapped_alone, swapped_by, swapped, Follow, SwapsLaw, IsRaise, RaisesLaw}
use Rattle.example_shared.proofs.Keys.{after_effect, effect_here, write_leaves, values_same, at_same, at_itself}
use Rattle.example_shared.proofs.Standing.{stood, point_here, point_none, Makes, legal_makes, only_leaves}

abbrev first_or : Option Key → List (Option Key) → Option Key
first_or o [] = o
first_or o (x ∷ xs) = x

-- ---- one swap

-- it succeeded: it found its old value, and wrote the new one
record Succeeds (a c : Maps) (t : Tree) (k : Key) (o n : Option Key) (reply : Reply) : Type 0 where
  pub told : reply ≡ Swapped (Ok tt)
  pub found : o ≡ value_at a t.name k
  pub wrote : value_at c t.name k ≡ n

-- it failed: all stands as before
record Fails (a c : Maps) (reply : Reply) : Type 0 where
  pub why : CompareAndSwapError
  pub told : reply ≡ Swapped (Err why)
  pub same : (tree key : Key) → value_at c tree key ≡ value_at a tree key

swap_as : (a c : Maps) (t : Tree) (k : Key) (o n : Option Key) (reply : Reply) → MakesPoint a t (CompareAndSwap k o n) reply c → Succeeds a c t k o n reply ⊎ Fails a c reply
swap_as a c t k o n reply p = go (same_value (find key_cmp k p.map) o) refl p.comes
  where
    go : (b : Bool) → same_value (find key_cmp k p.map) o ≡ b
        → p.decision ≡ cond b (record { effect = effect_of_write n; reply = Swapped (Ok tt) }) (record { effect = effect.Nothing; reply = Swapped (Err (record { current = find key_cmp k p.map; proposed = n })) })
        → Succeeds a c t k o n reply ⊎ Fails a c reply
    go true same d = inl (record {
      told = p.replies ∙ ap (λ (d : Decision). d.reply) d;
      found = sym (stood a t (CompareAndSwap k o n) reply c p ∙ values_same (find key_cmp k p.map) o same);
      wrote =
          point_here a t (CompareAndSwap k o n) reply c p
          ∙ ap (λ (d : Decision). after_effect d.effect (find key_cmp k p.map)) d
          ∙ write_leaves n (find key_cmp k p.map);
    })
    go false same d = inr (record {
      why = record { current = find key_cmp k p.map; proposed = n };
      told = p.replies ∙ ap (λ (d : Decision). d.reply) d;
      same = point_none a t (CompareAndSwap k o n) reply c p (ap (λ (d : Decision). d.effect) d);
    })

-- an insert leaves its value, written or there before
inserted_here : (k v : Key) (map : Map) → find key_cmp k (map_with (Insert k v) map) ≡ Some v
inserted_here k v map = effect_here (if same_value (find key_cmp k map) (Some v) then effect.Nothing else (effect.Set v)) k map ∙ go (same_value (find key_cmp k map) (Some v)) refl
  where
    go : (b : Bool) → same_value (find key_cmp k map) (Some v) ≡ b → after_effect (if b then effect.Nothing else (effect.Set v)) (find key_cmp k map) ≡ Some v
    go true same = values_same (find key_cmp k map) (Some v) same
    go false same = refl

-- a transaction that sets one key finds what stood there, and writes its value
set_in : (o : Option Map) (name key : Key) (w : Write) (maps : Maps) → w.tree.name ≡ name → w.key ≡ key → (v : Key) → w.value ≡ Some v → is_some o ≡ true → value_at (maps_with_write o w maps) name key ≡ Some v
set_in None name key w maps n k v e s = false_true s
set_in (Some map) name key w maps n k v e s =
    ap (λ x. value_at (put_name maps w.tree.name (Some (map_with (call_of_write w) map))) x key) (sym n)
    ∙ ap (λ o. found_in o key) (put_name_here maps w.tree.name (Some (map_with (call_of_write w) map)))
    ∙ ap (λ q. find key_cmp q (map_with (call_of_write w) map)) (sym k)
    ∙ ap (λ o. find key_cmp w.key (map_with (call_with w.key o) map)) e
    ∙ inserted_here w.key v map

sole_swaps : (a c : Maps) (t : Tree) (k v : Key) (o : Option Key) → makes_as a (TransactionMade ((t, (k, Some v) ∷ []) ∷ []) (o ∷ [])) c → (o ≡ value_at a t.name k) × (value_at c t.name k ≡ Some v)
sole_swaps a c t k v o p = (
  ap (first_or None) p.0,
  ap (λ (m : Maps). value_at m t.name k) p.1.2 ∙ set_in (a t.name) t.name k (record { tree = t; key = k; value = Some v }) a refl refl v refl (All-head (HasMap a) (t, (k, Some v) ∷ []) [] p.1.1),
)

-- ---- a history

follow_on : (first : Option Key) (swaps more : List (Option Key × Option Key)) (mid last : Option Key) → Follow first swaps mid → Follow mid more last → Follow first (swaps ++ more) last
follow_on first [] more mid last f g = subst (λ v. Follow v more last) f g
follow_on first (s ∷ swaps) more mid last f g = (f.0, follow_on s.1 swaps more mid last f.1 g)

module _ (tree key : Key) where
  succeeded : (a c : Maps) (t : Tree) (k : Key) (o n : Option Key) (reply : Reply) → Succeeds a c t k o n reply → makes_as a (PointMade t (CompareAndSwap k o n) reply) c
      → ((t.name ≡ tree) × (k ≡ key)) ⊎ Leaves tree key (PointMade t (CompareAndSwap k o n) reply)
      → (b : Bool) → is_at tree key t k ≡ b → Follow (value_at a tree key) (cond b ((o, n) ∷ []) []) (value_at c tree key)
  succeeded a c t k o n reply s p h true e =
      let same = at_same tree key t k e in
      let found : o ≡ value_at a tree key = subst (λ x. o ≡ value_at a x key) same.0 (subst (λ q. o ≡ value_at a t.name q) same.1 s.found) in
      let wrote : value_at c tree key ≡ n = subst (λ x. value_at c x key ≡ n) same.0 (subst (λ q. value_at c t.name q ≡ n) same.1 s.wrote) in
      (found, wrote)
  succeeded a c t k o n reply s p (inl same) false e = false_true (sym e ∙ at_itself tree key t k same.0 same.1)
  succeeded a c t k o n reply s p (inr leaves) false e = leaves a c p

  swap_step : (a c : Maps) (t : Tree) (k : Key) (o n : Option Key) (reply : Reply) → makes_as a (PointMade t (CompareAndSwap k o n) reply) c
      → ((t.name ≡ tree) × (k ≡ key)) ⊎ Leaves tree key (PointMade t (CompareAndSwap k o n) reply)
      → Succeeds a c t k o n reply ⊎ Fails a c reply → Follow (value_at a tree key) (swapped_by tree key (PointMade t (CompareAndSwap k o n) reply)) (value_at c tree key)
  swap_step a c t k o n reply p h (inl s) =
      subst (λ r. Follow (value_at a tree key) (swapped_by tree key (PointMade t (CompareAndSwap k o n) r)) (value_at c tree key)) (sym s.told)
      (succeeded a c t k o n reply s p h (is_at tree key t k) refl)
  swap_step a c t k o n reply p h (inr f) =
      subst (λ r. Follow (value_at a tree key) (swapped_by tree key (PointMade t (CompareAndSwap k o n) r)) (value_at c tree key)) (sym f.told) (f.same tree key)

  -- .. by a transaction that sets the key alone
  sole_here : (a c : Maps) (t : Tree) (k v : Key) (o : Option Key) → makes_as a (TransactionMade ((t, (k, Some v) ∷ []) ∷ []) (o ∷ [])) c
      → ((t.name ≡ tree) × (k ≡ key)) ⊎ Leaves tree key (TransactionMade ((t, (k, Some v) ∷ []) ∷ []) (o ∷ []))
      → (b : Bool) → is_at tree key t k ≡ b → Follow (value_at a tree key) (cond b ((o, Some v) ∷ []) []) (value_at c tree key)
  sole_here a c t k v o p h true e =
      let same = at_same tree key t k e in
      let s = sole_swaps a c t k v o p in
      let found : o ≡ value_at a tree key = subst (λ x. o ≡ value_at a x key) same.0 (subst (λ q. o ≡ value_at a t.name q) same.1 s.0) in
      let wrote : value_at c tree key ≡ Some v = subst (λ x. value_at c x key ≡ Some v) same.0 (subst (λ q. value_at c t.name q ≡ Some v) same.1 s.1) in
      (found, wrote)
  sole_here a c t k v o p (inl same) false e = false_true (sym e ∙ at_itself tree key t k same.0 same.1)
  sole_here a c t k v o p (inr leaves) false e = leaves a c p

  sole_step : (batches : List (Tree × Writes)) (stood : List (Option Key)) (a c : Maps) → makes_as a (TransactionMade batches stood) c → is_sole_at tree key (sole_swap batches stood) ⊎ Leaves tree key (TransactionMade batches stood)
      → Follow (value_at a tree key) (swapped_alone tree key (sole_swap batches stood)) (value_at c tree key)
  sole_step ((t, (k, Some v) ∷ []) ∷ []) (o ∷ []) a c p h = sole_here a c t k v o p h (is_at tree key t k) refl
  sole_step batches stood a c p h = only_leaves tree key (TransactionMade batches stood) a c p h

  swaps_step : (m : MadeValue) (a c : Maps) → makes_as a m c → IsSwapAt tree key m ⊎ Leaves tree key m → Follow (value_at a tree key) (swapped_by tree key m) (value_at c tree key)
  swaps_step (PointMade t (CompareAndSwap k o n) reply) a c p h = swap_step a c t k o n reply p h (swap_as a c t k o n reply p)
  swaps_step (TransactionMade batches stood) a c p h = sole_step batches stood a c p h
  swaps_step m a c p h = only_leaves tree key m a c p h

  swaps : (made : List MadeValue) (a b : Maps) → Makes a made b → AllByRecursion (λ m. IsSwapAt tree key m ⊎ Leaves tree key m) made → Follow (value_at a tree key) (swapped tree key made) (value_at b tree key)
  swaps [] a b h all = ap (λ (m : Maps). value_at m tree key) h
  swaps (m ∷ made) a b h all =
      follow_on (value_at a tree key) (swapped_by tree key m) (swapped tree key made) (value_at h.0 tree key) (value_at b tree key) (swaps_step m a h.0 h.1 all.0) (swaps made h.0 b h.2 all.1)

pub swaps_law : SwapsLaw
swaps_law old new tree key history legal all = swaps tree key (made_in history) old new (legal_makes legal) all

-- ---- swaps that raise a number

pub raised_none : (m n : ℕ) → m ≡ n → m ≡ n + 0
raised_none m n e = omega arith

raised_one : (last mid found first count : ℕ) → last ≡ mid + count → mid ≡ found + 1 → found ≡ first → last ≡ first + suc count
raised_one last mid found first count e f g = omega arith

raises : (first last : Option Key) (swaps : List (Option Key × Option Key)) → Follow first swaps last → AllByRecursion IsRaise swaps → number_in last ≡ number_in first + length swaps
raises first last [] f all = raised_none (number_in last) (number_in first) (ap number_in f)
raises first last (s ∷ swaps) f all =
    raised_one (number_in last) (number_in s.1) (number_in s.0) (number_in first) (length swaps) (raises s.1 last swaps f.1 all.1) all.0 (ap number_in f.0)

pub raises_law : RaisesLaw
raises_law old new tree key history legal all each = raises (value_at old tree key) (value_at new tree key) (swapped tree key (made_in history)) (swaps_law old new tree key history legal all) each
