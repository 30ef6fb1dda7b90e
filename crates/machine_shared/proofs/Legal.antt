-- What a call on a key makes of the maps.
use Rattle.std.proofs.Common.{◌≡◌, ◌∙◌, ℕ, Bool, true, false, cond, Option, Some, None, option_map, sym, refl, ap}
use Rattle.std.proofs.Math.Path.{fun_ext}
use Rattle.std.specs.FinMap.Entries.{find}
use Rattle.std.specs.Str.{bytes_eq}
use Rattle.sled_nodes.proofs.Basics.{none_some}
use Rattle.sled_nodes.specs.Order.{Key, key_cmp}
use Rattle.sled_nodes.specs.Ranges.{Range}
use Rattle.sled_store.specs.Store.{Store, now}
use Rattle.sled_store.specs.Update.{put_name}
use Rattle.sled_store.specs.theory.Facts.{same_name}
use Rattle.sled_model.specs.Maps.{Map, Maps, Merge}
use Rattle.sled_model.specs.Answer.{key_of, decision_of, map_after}
use Rattle.sled_model.specs.State.{State, NamedTree, maps_of, range_of}
use Rattle.sled_model.specs.Transition.{Decide}
use Rattle.sled_model.specs.declared.call.Call.{Call}
use Rattle.sled_model.specs.declared.call.Call.TheVariants.{Merge as Merges, Scan}
use Rattle.sled_model.specs.declared.decision.Decision.{Decision}
use Rattle.sled_model.specs.declared.reply.Reply.{Reply}
use Rattle.sled.specs.Values.{named, numbers_of}
use Rattle.tree_laws.specs.Contents.{trees_of}
use Rattle.machine_alone.specs.Values.{MachineValue, configuration_of}
use Rattle.machine_shared.specs.History.{comes_to, MakesPoint}
use Rattle.machine_shared.specs.Sound.{maps_now}

-- a call comes to one of those things that it may come to
pub comes : (merge : Option Merge) (c : Call) (value : Option Key) → comes_to c value (decision_of merge c value)
comes None (Merges k bytes) value = (None, refl)
comes (Some merge) (Merges k bytes) value = (merge k value bytes, refl)
comes merge other value = refl

-- a scan changes no map
pub scan_keeps : (call : Call) (r : Range) → range_of call ≡ Some r → (value : Option Key) (d : Decision) → comes_to call value d → (k : Key) (m : Map) → map_after d.effect k m ≡ m
scan_keeps (Scan lo hi back) r e value d c k m = ap (λ (x : Decision). map_after x.effect k m) c
scan_keeps other r e value d c k m = none_some e

-- to put a map where it stands changes nothing
pub put_same : (maps : Maps) (name : Key) (m : Map) → maps name ≡ Some m → put_name maps name (Some m) ≡ maps
put_same maps name m there = fun_ext (λ q. go q (bytes_eq q name) refl)
  where
    go : (q : Key) (b : Bool) → bytes_eq q name ≡ b → cond b (Some m) (maps q) ≡ maps q
    go q true e = sym there ∙ ap maps (sym (same_name q name e))
    go q false e = refl

pub point : (old : State) (slot : ℕ) (reply : Reply) (new : State) (d : Decide old slot reply new) → MakesPoint (maps_of old) d.flying.tree d.flying.call reply (maps_of new)
point old slot reply new d = record {
  map = d.tree.map;
  there = ap (λ o. option_map (λ (t : NamedTree). t.map) o) d.there;
  decision = decision_of d.tree.merge d.flying.call (find key_cmp (key_of d.flying.call) d.tree.map);
  comes = comes d.tree.merge d.flying.call (find key_cmp (key_of d.flying.call) d.tree.map);
  replies = d.replies;
  is = ap maps_of d.is ∙ fun_ext (λ q. go (bytes_eq q d.flying.tree.name) _ (old.trees q));
}
  where
    go : (b : Bool) (t : NamedTree) (o : Option NamedTree) → option_map (λ (t : NamedTree). t.map) (cond b (Some t) o) ≡ cond b (Some t.map) (option_map (λ (t : NamedTree). t.map) o)
    go true t o = refl
    go false t o = refl

-- the maps are the same by whatever operators
pub maps_same : {P M : Type 0} (store : P → Store) (meant : M → Merge) (m : MachineValue P M) (number : P → ℕ) → maps_of (configuration_of store number meant m).state ≡ maps_now store m
maps_same store meant m number = fun_ext (λ name. go (numbers_of m.db.trees name) (trees_of (now (store m.db.pages)) name) _ _)
  where
    go : (o : Option ℕ) (t : Option Map) (f g : ℕ → Option Merge) → option_map (λ (t : NamedTree). t.map) (named o t f) ≡ option_map (λ (t : NamedTree). t.map) (named o t g)
    go None t f g = refl
    go (Some n) None f g = refl
    go (Some n) (Some x) f g = refl
