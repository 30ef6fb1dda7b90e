-- What stands at a key of a tree after a call.
use Rattle.std.proofs.Common.{◌≡◌, ◌≢◌, ◌⊎◌, ◌∙◌, Bool, true, false, cond, List, [], ◌∷◌, ◌++◌, Option, Some, sym, refl, ap, inl, inr}
use Rattle.std.specs.FinMap.Entries.{find}
use Rattle.std.specs.List.{AllByRecursion}
use Rattle.std.specs.Str.{bytes_eq}
use Rattle.sled_nodes.specs.Order.{Key, key_cmp}
use Rattle.sled_store.specs.Update.{put_name}
use Rattle.sled_store.specs.theory.Facts.{same_name, put_name_here, put_name_elsewhere}
use Rattle.sled_model.specs.Maps.{Map, Maps}
use Rattle.sled_model.specs.Answer.{key_of, map_after}
use Rattle.sled_model.specs.declared.call.Call.{Call}
use Rattle.sled_model.specs.declared.decision.Effect.TheVariants as effect
use Rattle.sled_model.specs.declared.reply.Reply.{Reply}
use Rattle.sled_model.specs.declared.tree.Tree.{Tree}
use Rattle.machine_shared.specs.History.{MakesPoint, makes_as, IsLegal, NoEntries, OneEntry}
use Rattle.machine_shared.specs.Made.{MadeValue, EntryValue}
use Rattle.example_shared.specs.Places.{found_in, value_at, made_in, Leaves}
use Rattle.example_shared.proofs.Keys.{after_effect, effect_here, effect_there}

-- ---- a map at a name

pub put_other : (maps : Maps) (name tree key : Key) (o : Option Map) → tree ≢ name → value_at (put_name maps name o) tree key ≡ value_at maps tree key
put_other maps name tree key o off = ap (λ m. found_in m key) (put_name_elsewhere maps name tree o off)

-- where it has the same at the key
pub put_keeps : (maps : Maps) (name tree key : Key) (old new : Map) → maps name ≡ Some old → find key_cmp key new ≡ find key_cmp key old → value_at (put_name maps name (Some new)) tree key ≡ value_at maps tree key
put_keeps maps name tree key old new there same = go (bytes_eq tree name) refl
  where
    go : (b : Bool) → bytes_eq tree name ≡ b → found_in (cond b (Some new) (maps tree)) key ≡ found_in (maps tree) key
    go true e = same ∙ sym (ap (λ o. found_in o key) (ap maps (same_name tree name e) ∙ there))
    go false e = refl

-- .. and where it has what was there
pub put_left : (maps : Maps) (name tree key : Key) (old new : Map) (w : Key) → maps name ≡ Some old → (find key_cmp key new ≡ Some w → find key_cmp key old ≡ Some w)
    → value_at (put_name maps name (Some new)) tree key ≡ Some w → value_at maps tree key ≡ Some w
put_left maps name tree key old new w there left h = go (bytes_eq tree name) refl h
  where
    go : (b : Bool) → bytes_eq tree name ≡ b → found_in (cond b (Some new) (maps tree)) key ≡ Some w → found_in (maps tree) key ≡ Some w
    go true e h = ap (λ o. found_in o key) (ap maps (same_name tree name e) ∙ there) ∙ left h
    go false e h = h

-- ---- a call on a key

module _ (old : Maps) (t : Tree) (call : Call) (reply : Reply) (new : Maps) (p : MakesPoint old t call reply new) where
  -- what stood at its key
  pub stood : value_at old t.name (key_of call) ≡ find key_cmp (key_of call) p.map
  stood = ap (λ o. found_in o (key_of call)) p.there

  pub point_here : value_at new t.name (key_of call) ≡ after_effect p.decision.effect (find key_cmp (key_of call) p.map)
  point_here =
      ap (λ (m : Maps). value_at m t.name (key_of call)) p.is
      ∙ ap (λ o. found_in o (key_of call)) (put_name_here old t.name (Some (map_after p.decision.effect (key_of call) p.map)))
      ∙ effect_here p.decision.effect (key_of call) p.map

  -- all others stand as before
  point_key : (tree key : Key) → key ≢ key_of call → value_at new tree key ≡ value_at old tree key
  point_key tree key off =
      ap (λ (m : Maps). value_at m tree key) p.is
      ∙ put_keeps old t.name tree key p.map (map_after p.decision.effect (key_of call) p.map) p.there (effect_there p.decision.effect key (key_of call) p.map off)

  point_tree : (tree key : Key) → tree ≢ t.name → value_at new tree key ≡ value_at old tree key
  point_tree tree key off = ap (λ (m : Maps). value_at m tree key) p.is ∙ put_other old t.name tree key (Some (map_after p.decision.effect (key_of call) p.map)) off

  pub point_elsewhere : (tree key : Key) → (t.name ≢ tree) ⊎ (key_of call ≢ key) → value_at new tree key ≡ value_at old tree key
  point_elsewhere tree key (inl off) = point_tree tree key (λ e. off (sym e))
  point_elsewhere tree key (inr off) = point_key tree key (λ e. off (sym e))

  -- .. and all, where it has no effect
  pub point_none : p.decision.effect ≡ effect.Nothing → (tree key : Key) → value_at new tree key ≡ value_at old tree key
  point_none none tree key =
      ap (λ (m : Maps). value_at m tree key) p.is
      ∙ put_keeps old t.name tree key p.map (map_after p.decision.effect (key_of call) p.map) p.there (ap (λ e. find key_cmp key (map_after e (key_of call) p.map)) none)

-- ---- a history

-- what was made, one after the other
abbrev pub Makes : Maps → List MadeValue → Maps → Type 0
Makes a [] b = b ≡ a
Makes a (m ∷ ms) b = (c : Maps) × makes_as a m c × Makes c ms b

pub legal_makes : {a b : Maps} {es : List EntryValue} → IsLegal a es b → Makes a (made_in es) b
legal_makes NoEntries = refl
legal_makes (OneEntry {m = m} x rest) = (m, x, legal_makes rest)

-- cut in two
pub cut : (xs ys : List MadeValue) (a b : Maps) → Makes a (xs ++ ys) b → (c : Maps) × Makes a xs c × Makes c ys b
cut [] ys a b h = (a, refl, h)
cut (x ∷ xs) ys a b h = let r = cut xs ys h.0 b h.2 in (r.0, (h.0, h.1, r.1), r.2)

pub all_first : {X : Type 0} (P : X → Type 0) (xs ys : List X) → AllByRecursion P (xs ++ ys) → AllByRecursion P xs
all_first P [] ys h = tt
all_first P (x ∷ xs) ys h = (h.0, all_first P xs ys h.1)

pub all_last : {X : Type 0} (P : X → Type 0) (xs ys : List X) → AllByRecursion P (xs ++ ys) → AllByRecursion P ys
all_last P [] ys h = h
all_last P (x ∷ xs) ys h = all_last P xs ys h.1

-- where an entry is only said to leave the key
pub only_leaves : (tree key : Key) (m : MadeValue) (a c : Maps) → makes_as a m c → ⊥ ⊎ Leaves tree key m → value_at c tree key ≡ value_at a tree key
only_leaves tree key m a c p (inl none) = absurd none
only_leaves tree key m a c p (inr leaves) = leaves a c p
