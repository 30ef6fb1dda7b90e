-- The maps of a database and of its pages.
use Rattle.std.proofs.Common.{◌≡◌, Bool, true, false, cond, Some, option_map, Result, IfOk, sym, refl, ap, ◌∙◌, subst, inl, inr}
use Rattle.std.proofs.Math.Path.{fun_ext}
use Rattle.std.specs.Str.{bytes_eq}
use Rattle.sled_nodes.specs.Order.{Key}
use Rattle.sled_store.specs.theory.Facts.{same_name}
use Rattle.sled_store.specs.State.{nodes_of}
use Rattle.sled_store.specs.Store.{Store, now}
use Rattle.sled_nodes.specs.declared.error.Error.{Error}
use Rattle.sled_model.specs.Maps.{Map, Maps, Merge}
use Rattle.sled_model.specs.State.{default_name}
use Rattle.tree_laws.specs.Contents.{trees_of, pairs_under}
use Rattle.sled.specs.Opens.{or_empty, with_default, RefusesOpen, Opens}
use Rattle.sled.specs.Sound.{IsDb}
use Rattle.sled.specs.Values.{DbValue, numbers_of}
use Rattle.sled_model.specs.declared.outcome.Outcome.{Outcome}
use Rattle.example_parts.specs.Reads.{found_in, maps_now}
use Rattle.example_parts.proofs.Maps.{map_of_named, numbered}
use Rattle.example_machines.specs.Callers.{ReadsAs}

-- the two databases have the same maps, whatever their merge operators mean
pub record HasMapsOf {P M N : Type 0} (store : P → Store) (old : DbValue P M) (new : DbValue P N) : Type 0 where
  pub same : (meant : M → Merge) (other : N → Merge) → maps_now store other new ≡ maps_now store meant old

-- where there is a default tree no other comes
with_present : (maps : Maps) (m : Map) → maps default_name ≡ Some m → with_default maps ≡ maps
with_present maps m e = fun_ext (λ t. go t (bytes_eq t default_name) refl)
  where
    go : (t : Key) (b : Bool) → bytes_eq t default_name ≡ b → cond b (or_empty (maps t)) (maps t) ≡ maps t
    go t true q = let f : maps t ≡ Some m = ap maps (same_name t default_name q) ∙ e in ap or_empty f ∙ sym f
    go t false q = refl

-- a database has a default tree
present : {P M : Type 0} (store : P → Store) (d : DbValue P M) → IsDb store d → with_default (trees_of (now (store d.pages))) ≡ trees_of (now (store d.pages))
present store d is =
    let s = store d.pages in
    let root = is.is.rooted default_name is.default.0 is.default.1 in
    with_present (trees_of (now s)) (pairs_under (nodes_of (now s)) root.0) (ap (option_map (pairs_under (nodes_of (now s)))) root.1)

-- pages that were given up are opened with the same maps
pub opened_again : {P M N : Type 0} (store : P → Store) (old : DbValue P M) (before : Store) (called : Key) (new : DbValue P N) → before ≡ store old.pages → IsDb store old → Opens store before called new → HasMapsOf store old new
opened_again store old before called new same is o = record {
  same = λ meant other. fun_ext (λ t.
      map_of_named (numbers_of new.trees t) (trees_of (now (store new.pages)) t) _ (o.each t)
      ∙ (ap (λ (ms : Maps). ms t) (o.maps ∙ (ap (λ s. with_default (trees_of (now s))) same ∙ present store old is))
      ∙ sym (map_of_named (numbers_of old.trees t) (trees_of (now (store old.pages)) t) _ (numbered store old is t))));
}

-- .. and pages that are given back have them too
pub refused_again : {P M : Type 0} (store : P → Store) (old : DbValue P M) (before after : Store) (e : Error) → before ≡ store old.pages → IsDb store old → RefusesOpen before e after → trees_of (now after) ≡ trees_of (now (store old.pages))
refused_again store old before after e same is r =
    elim r.again.grows [ inl g ↦ g.1 ∙ ap (λ s. trees_of (now s)) same | inr g ↦ g.1 ∙ (ap (λ s. with_default (trees_of (now s))) same ∙ present store old is) ]

-- the maps of the pages that a second database was opened on
pub opened_maps : {P M N : Type 0} (store : P → Store) (old : DbValue P M) (before : Store) (called : Key) (new : DbValue P N) → before ≡ store old.pages → IsDb store old → Opens store before called new → trees_of (now (store new.pages)) ≡ trees_of (now (store old.pages))
opened_maps store old before called new same is o = o.maps ∙ (ap (λ s. with_default (trees_of (now s))) same ∙ present store old is)

-- a get on the second database reads what the first had
pub read_again : {P M N : Type 0} (store : P → Store) (meant : M → Merge) (other : N → Merge) (old : DbValue P M) (new newer : DbValue P N) (key : Key) (r : Result Outcome Error) → HasMapsOf store old new → newer ≡ new
    → IfOk r (ReadsAs (found_in (maps_now store other newer default_name) key)) → IfOk r (ReadsAs (found_in (maps_now store meant old default_name) key))
read_again store meant other old new newer key r has is reads =
    subst (λ m. IfOk r (ReadsAs (found_in m key))) (ap (λ d. maps_now store other d default_name) is ∙ ap (λ (ms : Maps). ms default_name) (has.same meant other)) reads
